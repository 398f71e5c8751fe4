use Rattle.text_column.proofs.OpenedLemmas.{starts_found}
use Rattle.text_column.proofs.TextLemmas.{parted_all}
use Rattle.text_column.proofs.laws.starts_and_texts.Goals as goal

pub returns-clause-parted : goal.returns-clause-parted
returns-clause-parted c = parted_all

pub returns-clause-spelled : goal.returns-clause-spelled
returns-clause-spelled c = λ rows text bytes starts are h. starts_found rows text bytes starts are h
