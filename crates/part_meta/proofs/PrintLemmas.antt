-- A part's text, put together.
use Rattle.std.proofs.Common.{◌≡◌, ℕ, List, [], ◌∷◌, ◌++◌, length, refl, ap, ◌∙◌, append_assoc, append-nil}
use Rattle.std.specs.List.{flat_map}
use Rattle.std.proofs.lemmas.List.Concat.{flat_map-append}
use Rattle.fb_types.specs.declared.schemas.Column.{Column}
use Rattle.part_meta.specs.Lines.{joined}
use Rattle.part_meta.specs.PartText.{column_lines, header_lines, part_text}
use Rattle.part_meta.specs.declared.part.PartMeta.{PartMeta}

-- b and e are whole lines; p, q and s stand before what follows in their lines
pub header-joined : (b n p r q c e : List ℕ) → (b ++ n) ++ (p ++ (r ++ (10 ∷ (q ++ (c ++ (10 ∷ e))))))
    ≡ b ++ (n ++ (((p ++ r) ++ 10 ∷ []) ++ (((q ++ c) ++ 10 ∷ []) ++ (e ++ []))))
header-joined b n p r q c e = rw (append-nil e) (simp append_assoc)

pub column-joined : (o b p n q t e : List ℕ) → ((((o ++ (b ++ p)) ++ n) ++ (10 ∷ q)) ++ t) ++ (10 ∷ e)
    ≡ o ++ (b ++ (((p ++ n) ++ 10 ∷ []) ++ (((q ++ t) ++ 10 ∷ []) ++ (e ++ []))))
column-joined o b p n q t e = rw (append-nil e) (simp append_assoc)

columns-joined : (columns : List Column) → joined (flat_map column_lines columns) ≡ flat_map (λ column. joined (column_lines column)) columns
columns-joined [] = refl
columns-joined (c ∷ cs) = flat_map-append (λ l. l) (column_lines c) (flat_map column_lines cs) ∙ ap (λ t. joined (column_lines c) ++ t) (columns-joined cs)

pub part-joined : (part : PartMeta) → part_text part ≡ joined (header_lines part.number part.rows (length part.schema)) ++ flat_map (λ column. joined (column_lines column)) part.schema
unfolding part_text
part-joined part =
    flat_map-append (λ l. l) (header_lines part.number part.rows (length part.schema)) (flat_map column_lines part.schema)
    ∙ ap (λ t. joined (header_lines part.number part.rows (length part.schema)) ++ t) (columns-joined part.schema)
