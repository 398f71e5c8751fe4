use Rattle.select_group.proofs.PrintedLemmas.{text_joins}
use Rattle.select_group.proofs.laws.the_text_of_blocks.Goals as goal

pub returns : goal.returns
returns c = text_joins
