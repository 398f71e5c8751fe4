use Rattle.std.proofs.Common.{◌+◌, ◌*◌, ◌≤◌, ◌++◌, sym, ap, ◌∙◌, arith}
use Rattle.std.proofs.lemmas.List.{length-replicate}
use Rattle.wah_words.proofs.PlacesLemmas.{length-places}
use Rattle.wah_iter.proofs.AppendLaws.{part-replicate}
use Rattle.wah_iter.proofs.making.append_part.Goals as goal

pub part_of-requires-clause-within : goal.part_of-requires-clause-within
part_of-requires-clause-within c =
    let h = rw c.in-Literal.is at c.requires.within in
    omega (arith, h, length-places 31 c.in-Literal.word)

pub append_bits-requires-clause-few : goal.append_bits-requires-clause-few
append_bits-requires-clause-few c =
    let h = rw c.in-Literal.is at c.requires.within in
    omega (arith, h, length-places 31 c.in-Literal.word)

pub append_bits-requires-clause-room : goal.append_bits-requires-clause-room
append_bits-requires-clause-room c =
    let h = rw c.in-Literal.is at c.requires.within in
    let few : c.args.count ≤ 31 = omega (arith, h, length-places 31 c.in-Literal.word) in
    omega (arith, few, c.requires.room)

pub part_of-requires-in-Tail-clause-within : goal.part_of-requires-in-Tail-clause-within
part_of-requires-in-Tail-clause-within c =
    let h = rw c.in-Tail.is at c.requires.within in
    omega (arith, h, length-places c.in-Tail.total c.in-Tail.bits)

pub append_bits-requires-in-Tail-clause-few : goal.append_bits-requires-in-Tail-clause-few
append_bits-requires-in-Tail-clause-few c =
    let h = rw c.in-Tail.is at c.requires.within in
    let f = rw c.in-Tail.is at c.requires.fits in
    omega (arith, h, f.0, length-places c.in-Tail.total c.in-Tail.bits)

pub append_bits-requires-in-Tail-clause-room : goal.append_bits-requires-in-Tail-clause-room
append_bits-requires-in-Tail-clause-room c =
    let h = rw c.in-Tail.is at c.requires.within in
    let f = rw c.in-Tail.is at c.requires.fits in
    let few : c.args.count ≤ 31 = omega (arith, h, f.0, length-places c.in-Tail.total c.in-Tail.bits) in
    omega (arith, few, c.requires.room)

pub returns-in-Fill-clause-values : goal.returns-in-Fill-clause-values
returns-in-Fill-clause-values c =
    let h = rw c.in-Fill.is at c.requires.within in
    let n = 31 * c.in-Fill.groups in
    let within : c.args.first + c.args.count ≤ 31 * c.in-Fill.groups = omega (arith, h, length-replicate (31 * c.in-Fill.groups) c.in-Fill.bit) in
    rw c.in-Fill.is (c.append_fill.ensures.values ∙ ap (λ l. c.args.out.now.values ++ l) (sym (part-replicate (31 * c.in-Fill.groups) c.args.first c.args.count c.in-Fill.bit within)))

pub returns-in-Literal-clause-spare : goal.returns-in-Literal-clause-spare
returns-in-Literal-clause-spare c =
    let h = rw c.in-Literal.is at c.requires.within in
    let few : c.args.count ≤ 31 = omega (arith, h, length-places 31 c.in-Literal.word) in
    omega (arith, few, c.append_bits.ensures.spare)

pub returns-in-Tail-clause-spare : goal.returns-in-Tail-clause-spare
returns-in-Tail-clause-spare c =
    let h = rw c.in-Tail.is at c.requires.within in
    let f = rw c.in-Tail.is at c.requires.fits in
    let few : c.args.count ≤ 31 = omega (arith, h, f.0, length-places c.in-Tail.total c.in-Tail.bits) in
    omega (arith, few, c.append_bits-in-Tail.ensures.spare)
