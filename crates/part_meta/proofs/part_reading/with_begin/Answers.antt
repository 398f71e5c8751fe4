use Rattle.std.proofs.Common.{◌≡◌, ◌∷◌, [], true, ap, sym}
use Rattle.part_meta.specs.PartText.{header_begin_line}
use Rattle.part_meta.specs.Lines.{line}
use Rattle.part_meta.proofs.PartLemmas.{is_header_begin}
use Rattle.part_meta.proofs.part_reading.with_begin.Goals as goal

pub returns-then-is : goal.returns-then-is
unfolding header_begin_line
returns-then-is c = (tt, ap (λ t. line t ∷ []) (sym (c.is.ensures.0 c.if-is.true)))

pub returns-else-is : goal.returns-else-is
returns-else-is c = λ b.
    let same : c.is.result ≡ true = c.is.ensures.1 (is_header_begin c.args.text.now b) in
    absurd (cc (same, c.if-is.false))
