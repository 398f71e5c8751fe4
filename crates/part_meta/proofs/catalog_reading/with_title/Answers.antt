use Rattle.std.proofs.Common.{◌≡◌, ◌∷◌, [], true, ap, sym}
use Rattle.part_meta.specs.CatalogText.{title_line}
use Rattle.part_meta.specs.Lines.{line}
use Rattle.part_meta.proofs.CatalogLemmas.{is_title}
use Rattle.part_meta.proofs.catalog_reading.with_title.Goals as goal

pub returns-then-is : goal.returns-then-is
unfolding title_line
returns-then-is c = (tt, ap (λ t. line t ∷ []) (sym (c.is.ensures.0 c.if-is.true)))

pub returns-else-is : goal.returns-else-is
returns-else-is c = λ b.
    let same : c.is.result ≡ true = c.is.ensures.1 (is_title c.args.text.now b) in
    absurd (cc (same, c.if-is.false))
