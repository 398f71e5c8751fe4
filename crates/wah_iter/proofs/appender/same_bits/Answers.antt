use Rattle.std.proofs.Common.{◌≡◌, ◌+◌, ◌-◌, ◌*◌, ◌%◌, ◌^◌, sym, ap, ◌∙◌, arith, replicate}
use Rattle.std.proofs.lemmas.Nat.{one_shl, pow_pos}
use Rattle.wah_words.proofs.PlacesLemmas.{places-zeros, places-ones}
use Rattle.wah_iter.proofs.appender.same_bits.Goals as goal

pub returns-then-bit-clause-values : goal.returns-then-bit-clause-values
returns-then-bit-clause-values c =
    let n = c.args.count in
    let shl : 1 * 2 ^ n % 4294967296 ≡ 2 ^ n = one_shl n 32 (omega (arith, c.requires)) in
    let more : 1 * 2 ^ n % 4294967296 - 1 + 1 ≡ 2 ^ n = omega (arith, shl, pow_pos n) in
    places-ones n (1 * 2 ^ n % 4294967296 - 1) more ∙ ap (λ b. replicate n b) (sym c.if-bit.true)

pub returns-else-bit-clause-values : goal.returns-else-bit-clause-values
returns-else-bit-clause-values c = places-zeros c.args.count ∙ ap (λ b. replicate c.args.count b) (sym c.if-bit.false)
