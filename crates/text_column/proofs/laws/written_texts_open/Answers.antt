use Rattle.text_column.proofs.OpenedLemmas.{opened_again}
use Rattle.text_column.proofs.laws.written_texts_open.Goals as goal

pub returns : goal.returns
returns c = λ texts bits rows limit small. opened_again texts bits rows limit small
