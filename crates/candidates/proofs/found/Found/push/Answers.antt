use Rattle.std.proofs.Common.{◌≡◌, ◌+◌, length, ap, ◌∙◌, arith, length-append}
use Rattle.wah_words.specs.Places.{places}
use Rattle.wah_words.proofs.PlacesLemmas.{length-places}
use Rattle.candidates.proofs.found.Found.push.Goals as goal

pub invariant_of-self : goal.invariant_of-self
invariant_of-self c =
    let s = c.self.inside in
    let long : length c.append_bits.new.self.values ≡ length s.out.values + c.args.count =
    ap length c.append_bits.ensures.values ∙ length-append s.out.values (places c.args.count c.args.marks)
    ∙ ap (λ n. length s.out.values + n) (length-places c.args.count c.args.marks) in
    let bits = ap (λ f. length f.bits) c.self.view_is in
    let rows = ap (λ f. f.rows) c.self.view_is in
    (omega (arith, long, c.self.invariant.0), omega (arith, bits, rows, c.requires.within, c.self.invariant.0), c.self.invariant.2, omega (arith, long, c.append_bits.ensures.spare, c.self.invariant.3))
