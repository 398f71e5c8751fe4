use Rattle.text_column.proofs.DictionaryLemmas.{opens_spelled}
use Rattle.text_column.proofs.FaultLemmas.{found_result}
use Rattle.text_column.proofs.dictionary.Dictionary.from_bytes.Goals as goal

pub returns-clause-only : goal.returns-clause-only
returns-clause-only c = λ words valid is. opens_spelled c.counted_words.result c.args.bytes.now words c.counted_words.ensures.exact valid is

pub returns-clause-found : goal.returns-clause-found
returns-clause-found c = found_result c.args.bytes.now c.counted_words.result (λ i. (c.type_inv.bytes i).fits) c.counted_words.ensures.exact
