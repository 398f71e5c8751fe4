use Rattle.std.proofs.Common.{sym}
use Rattle.wah_words.proofs.PlacesLemmas.{length-places}
use Rattle.wah_iter.proofs.counts.len_of.Goals as goal

pub returns-in-Literal : goal.returns-in-Literal
returns-in-Literal c = rw c.in-Literal.is (sym (length-places 31 c.in-Literal.field-0))

pub returns-in-Tail : goal.returns-in-Tail
returns-in-Tail c = rw c.in-Tail.is (sym (length-places c.in-Tail.count c.in-Tail.bits))
