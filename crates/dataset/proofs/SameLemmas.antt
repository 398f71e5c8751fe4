-- Files at a path open as one dataset alone.
use Rattle.std.proofs.Common.{◌≡◌, ℕ, List, [], ◌∷◌, map, Some, refl, sym, ap, ◌∙◌}
use Rattle.std.specs.List.{All}
use Rattle.std.proofs.lemmas.List.Elements.{All-head, All-tail}
use Rattle.fb_outside.specs.Files.{Files, file_at}
use Rattle.fb_types.specs.declared.schemas.Column.{Column}
use Rattle.part_meta.specs.declared.catalog.Catalog.{Catalog}
use Rattle.part_meta.specs.declared.part.PartMeta.{PartMeta}
use Rattle.part_meta.specs.FileNames.{part_name}
use Rattle.part_meta.proofs.CatalogLemmas.{catalog_text-injective}
use Rattle.part_meta.proofs.PartLemmas.{part_text-injective}
use Rattle.dataset.specs.declared.content.Dataset.{Dataset}
use Rattle.dataset.specs.Opened.{HasCatalog, HasPart, OpensAs, catalog_in}

some_same : {x y : List ℕ} → Some x ≡ Some y → x ≡ y
some_same e = cc

pub same_catalog : (files : Files) (dir : List ℕ) (a b : Catalog) → HasCatalog files dir a → HasCatalog files dir b → a ≡ b
same_catalog files dir a b h k = catalog_text-injective a b h.valid k.valid (some_same (sym h.there ∙ k.there))

pub same_part : (files : Files) (dir : List ℕ) (a b : PartMeta) → HasPart files dir a → HasPart files dir b → a.number ≡ b.number → a ≡ b
same_part files dir a b h k e =
    part_text-injective a b h.valid k.valid
    (some_same (sym h.there ∙ ap (λ n. file_at files (part_name dir n)) e ∙ k.there))

abbrev numbers : List PartMeta → List ℕ
numbers parts = map (λ part. part.number) parts

pub same_parts : (files : Files) (dir : List ℕ) (xs ys : List PartMeta) → All (HasPart files dir) xs → All (HasPart files dir) ys
    → numbers xs ≡ numbers ys → xs ≡ ys
same_parts files dir [] [] h k e = refl
same_parts files dir [] (b ∷ ys) h k e = absurd (cc)
same_parts files dir (a ∷ xs) [] h k e = absurd (cc)
same_parts files dir (a ∷ xs) (b ∷ ys) h k e =
    let number : a.number ≡ b.number = cc in
    let rest : numbers xs ≡ numbers ys = cc in
    let first : a ≡ b =
    same_part files dir a b (All-head (HasPart files dir) a xs h) (All-head (HasPart files dir) b ys k) number in
    let others : xs ≡ ys =
    same_parts files dir xs ys (All-tail (HasPart files dir) a xs h) (All-tail (HasPart files dir) b ys k) rest in
    cc

abbrev made_of : List ℕ → List Column → ℕ → List PartMeta → Dataset
made_of dir schema next parts = record { dir = dir; schema = schema; next = next; parts = parts }

-- two datasets that say the same
by_fields : (a b : Dataset) → a.dir ≡ b.dir → a.schema ≡ b.schema → a.next ≡ b.next → a.parts ≡ b.parts → a ≡ b
by_fields a b d s n p =
    ap (λ x. made_of x a.schema a.next a.parts) d ∙ ap (λ x. made_of b.dir x a.next a.parts) s
    ∙ ap (λ x. made_of b.dir b.schema x a.parts) n ∙ ap (λ x. made_of b.dir b.schema b.next x) p

pub same_dataset : (files : Files) (dir : List ℕ) (a b : Dataset) → OpensAs files dir a → OpensAs files dir b → a ≡ b
same_dataset files dir a b h k =
    let catalogs : catalog_in a ≡ catalog_in b = same_catalog files dir (catalog_in a) (catalog_in b) h.catalog k.catalog in
    by_fields a b (h.path ∙ sym k.path) (ap (λ (c : Catalog). c.schema) catalogs) (ap (λ (c : Catalog). c.next) catalogs)
    (same_parts files dir a.parts b.parts (λ i d less. (h.parts i d less).0) (λ i d less. (k.parts i d less).0)
    (ap (λ (c : Catalog). c.parts) catalogs))
