use Rattle.std.proofs.Common.{◌≡◌, ◌<◌, ◌≤◌, ◌+◌, ◌++◌, ◌∷◌, [], length, take, get_or, refl, sym, ap, ◌∙◌, arith}
use Rattle.std.specs.Int.{div_ceil}
use Rattle.wah_logic.specs.Logic.{union}
use Rattle.wah_logic.proofs.UnionLemmas.{length-union}
use Rattle.binning.specs.Encodings.{vectors}
use Rattle.enc_interval.proofs.SlidingLemmas.{front_long, first_sliding, more_sliding}
use Rattle.enc_interval.proofs.sliding.sliding_unions.Goals as goal

pub or_many-requires-clause-same : goal.or_many-requires-clause-same
or_many-requires-clause-same g c = front_long c.args.rows c.div_ceil-half.result c.args.bins.now (take c.div_ceil-half.result c.args.bins.now) refl c.requires.long

pub loop-k-init : goal.loop-k-init
loop-k-init g c =
    let rows = c.args.rows in
    let bins = c.args.bins.now in
    let w = div_ceil (length bins) 2 in
    let v = c.in_ok-or_many.field-0 in
    let same : c.div_ceil-half.result ≡ w = omega arith in
    let is : v ≡ union rows (vectors (take w bins)) = c.in_ok-or_many.ensures.values ∙ ap (λ n. union rows (vectors (take n bins))) same in
    let long : length v ≡ rows = ap length is ∙ length-union rows (vectors (take w bins)) (front_long rows w bins (take w bins) refl c.requires.long) in
    rw (c.in_ok-push.ensures.items, c.in_ok-unions.ensures.items) (first_sliding rows w bins v long is)

pub loop-k-preserved : goal.loop-k-preserved
loop-k-preserved g c =
    let rows = c.args.rows in
    let bins = c.args.bins.now in
    let w = div_ceil (length bins) 2 in
    let k = c.loop-k.k in
    let some : 0 < length bins = c.requires.some in
    let below : k + w < length bins = omega arith in
    let same : c.div_ceil-half.result ≡ w = omega arith in
    let there : k < length c.loop-k.unions.items = omega (arith, c.loop-k.invariant.number) in
    let long : length c.in_ok-next.next ≡ rows = c.in_ok-next.ensures.length ∙ ap length c.index.ensures ∙ c.loop-k.invariant.long k c.index.result.now there in
    rw c.in_ok-push-2.ensures.items (more_sliding rows w k bins c.loop-k.unions.items c.index.result.now c.in_ok-next.next c.index-bins-k.result c.index-bins-k-in-loop-k.result c.loop-k.invariant (omega arith) below c.index.ensures c.index-bins-k.is (c.index-bins-k-in-loop-k.is ∙ ap (λ n. get_or bins (k + n) c.index-bins-k-in-loop-k.result) same) long c.in_ok-next.ensures.values)
