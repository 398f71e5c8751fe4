use Rattle.std.proofs.Common.{sym, arith, ◌<◌}
use Rattle.wah_words.proofs.PlacesLemmas.{length-places}
use Rattle.wah_iter.proofs.PlacesLaws.{get_or-places}
use Rattle.wah_iter.proofs.counts.value_in.Goals as goal

pub overflow_sub-result : goal.overflow_sub-result
overflow_sub-result c =
    let h = rw c.in-Literal.is at c.requires.below in
    omega (arith, h, length-places 31 c.in-Literal.word)

pub overflow_sub-result-in-Tail : goal.overflow_sub-result-in-Tail
overflow_sub-result-in-Tail c =
    let h = rw c.in-Tail.is at c.requires.below in
    omega (arith, h, length-places c.in-Tail.count c.in-Tail.bits)

pub overflow_sub-result-in-Tail-2 : goal.overflow_sub-result-in-Tail-2
overflow_sub-result-in-Tail-2 c =
    let h = rw c.in-Tail.is at c.requires.below in
    omega (arith, h, length-places c.in-Tail.count c.in-Tail.bits)

pub returns-in-Literal : goal.returns-in-Literal
returns-in-Literal c =
    let h = rw c.in-Literal.is at c.requires.below in
    let low : c.args.place < 31 = omega (arith, h, length-places 31 c.in-Literal.word) in
    rw c.in-Literal.is (sym (get_or-places 31 c.in-Literal.word c.args.place low))

pub returns-in-Tail : goal.returns-in-Tail
returns-in-Tail c =
    let h = rw c.in-Tail.is at c.requires.below in
    let low : c.args.place < c.in-Tail.count = omega (arith, h, length-places c.in-Tail.count c.in-Tail.bits) in
    rw c.in-Tail.is (sym (get_or-places c.in-Tail.count c.in-Tail.bits c.args.place low))
