use Rattle.std.proofs.Common.{refl}
use Rattle.std.specs.Fmt.{digits}
use Rattle.ibis_build.specs.Builds.{built_line}
use Rattle.statuses.specs.Lines.{limit_word, line_of}
use Rattle.ibis_build.proofs.TaskLemmas.{ends_done, ends_refused}
use Rattle.ibis_build.proofs.laws.the_end_of_a_request.Goals as goal

pub returns-clause-done : goal.returns-clause-done
returns-clause-done c = ends_done

pub returns-clause-refused : goal.returns-clause-refused
returns-clause-refused c = ends_refused

pub returns-clause-status : goal.returns-clause-status
unfolding line_of limit_word digits
returns-clause-status c number col = refl

pub returns-clause-line : goal.returns-clause-line
unfolding built_line digits
returns-clause-line c = refl
