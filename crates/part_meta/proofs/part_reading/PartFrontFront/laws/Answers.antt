use Rattle.part_meta.proofs.BeginLemmas.{begins_front, front_is_short}
use Rattle.part_meta.proofs.PartLemmas.{part_lines-injective, part_lines_are}
use Rattle.part_meta.proofs.part_reading.PartFrontFront.laws.Goals as goal

pub returns-clause-begins : goal.returns-clause-begins
returns-clause-begins c = begins_front

pub returns-clause-short : goal.returns-clause-short
returns-clause-short c = front_is_short

pub returns-clause-each_line : goal.returns-clause-each_line
returns-clause-each_line c = part_lines_are

pub returns-clause-one : goal.returns-clause-one
returns-clause-one c = part_lines-injective
