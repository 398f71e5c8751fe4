-- A dataset of which a part has one index more, or another.
use Rattle.std.proofs.Common.{◌≡◌, ◌≢◌, ◌<◌, ◌+◌, ℕ, Bool, true, false, if◌then◌else◌, ◌==◌, List, [], ◌∷◌, ◌++◌, All, length, map, Option, Some, None, option_map, refl, sym, ap, ◌∙◌, subst, arith, get_or}
use Rattle.std.specs.Cmp.Lexicographic.{slice_cmp}
use Rattle.std.specs.FinMap.{FinMap, get, insert}
use Rattle.std.specs.Ordering.{nat_cmp}
use Rattle.std.specs.List.{AllPairs, flat_map, slice_get}
use Rattle.std.proofs.lemmas.Bool.Decides.{Decides-eqb}
use Rattle.std.proofs.lemmas.List.Elements.{All-head, All-map, All-tail}
use Rattle.std.proofs.lemmas.Option.{slice_get-get_or, slice_get-map}
use Rattle.fb_outside.specs.Puts.{File}
use Rattle.fb_types.specs.declared.cells.Cell.{Cell}
use Rattle.fb_types.specs.declared.schemas.Column.{Column}
use Rattle.index_spec.specs.declared.spec.Spec.{Spec}
use Rattle.part_meta.specs.declared.catalog.Catalog.{Catalog}
use Rattle.part_meta.specs.CatalogText.{IsCatalog}
use Rattle.part_meta.specs.FileNames.{part_name}
use Rattle.part_meta.specs.PartText.{part_text}
use Rattle.world.specs.World.{CanIndex, Content, IsContent, IsPartition, Partition, World, catalog_data, content_at, records_of, with_content}
use Rattle.world.specs.Cells.{column_cells}
use Rattle.world.specs.PartFiles.{column_files, columns_files, part_data, part_files}
use Rattle.world.specs.Effects.{Builds, after_build, after_one, built, indexed, with_index}
use Rattle.world.proofs.MapLemmas.{at-insert_other, at-insert_same, insert-there}
use Rattle.world.proofs.PlaceLemmas.{AllPairs-at, same_place}

-- ---- which part it is

pub indexed-there : (number col : ℕ) (spec : Spec) (part : Partition) → part.number ≡ number → indexed number col spec part ≡ with_index col spec part
indexed-there number col spec part e =
    ap (λ (b : Bool). if b then with_index col spec part else part) ((Decides-eqb part.number number).1 e)

pub indexed-other : (number col : ℕ) (spec : Spec) (part : Partition) → part.number ≢ number → indexed number col spec part ≡ part
indexed-other number col spec part n = by (part.number == number) refl
  where
    by : (b : Bool) → (part.number == number) ≡ b → (if b then with_index col spec part else part) ≡ part
    by true h = absurd (n ((Decides-eqb part.number number).0 h))
    by false h = refl

-- of parts with rising numbers, one alone has a number
pub same_part : (parts : List Partition) (i j : ℕ) (a b : Partition) → AllPairs (λ m n. m < n) (map (λ part. part.number) parts)
    → slice_get parts i ≡ Some a → slice_get parts j ≡ Some b → a.number ≡ b.number → a ≡ b
same_part parts i j a b rising first second e =
    let number = λ (part : Partition). part.number in
    let low : slice_get (map number parts) i ≡ Some a.number = slice_get-map number parts i ∙ ap (option_map number) first in
    let high : slice_get (map number parts) j ≡ Some b.number = slice_get-map number parts j ∙ ap (option_map number) second in
    let same : i ≡ j
    = same_place i j
    (λ before.
    let less : a.number < b.number = AllPairs-at (λ (m n : ℕ). m < n) (map number parts) i j a.number b.number low high before rising in
    omega (arith, less, e))
    (λ before.
    let less : b.number < a.number = AllPairs-at (λ (m n : ℕ). m < n) (map number parts) j i b.number a.number high low before rising in
    omega (arith, less, e)) in
    let both : Some a ≡ Some b = sym first ∙ ap (slice_get parts) same ∙ second in
    cc

-- the parts of that number can be indexed, where the one at a place can
pub can-each : (content : Content) (place : ℕ) (part : Partition) (col : ℕ) (spec : Spec) → IsContent content → slice_get content.parts place ≡ Some part
    → CanIndex content.schema part.records col spec
    → All (λ p. p.number ≡ part.number → CanIndex content.schema p.records col spec) content.parts
can-each content place part col spec valid listed can k d within e =
    let same = same_part content.parts k place (get_or content.parts k d) part valid.catalog.rising (slice_get-get_or content.parts k d within) listed e in
    subst (λ (p : Partition). CanIndex content.schema p.records col spec) (sym same) can

-- ---- what stays

same_number : (b : Bool) (col : ℕ) (spec : Spec) (part : Partition) → (if b then with_index col spec part else part).number ≡ part.number
same_number true col spec part = refl
same_number false col spec part = refl

same_records : (b : Bool) (col : ℕ) (spec : Spec) (part : Partition) → (if b then with_index col spec part else part).records ≡ part.records
same_records true col spec part = refl
same_records false col spec part = refl

numbers-indexed : (number col : ℕ) (spec : Spec) (parts : List Partition)
    → map (λ part. part.number) (map (indexed number col spec) parts) ≡ map (λ (part : Partition). part.number) parts
numbers-indexed number col spec [] = refl
numbers-indexed number col spec (part ∷ parts) =
    ap (λ (ns : List ℕ). (indexed number col spec part).number ∷ ns) (numbers-indexed number col spec parts)
    ∙ ap (λ (n : ℕ). n ∷ map (λ (p : Partition). p.number) parts) (same_number (part.number == number) col spec part)

records-indexed : (number col : ℕ) (spec : Spec) (parts : List Partition)
    → flat_map (λ part. part.records) (map (indexed number col spec) parts) ≡ flat_map (λ (part : Partition). part.records) parts
records-indexed number col spec [] = refl
records-indexed number col spec (part ∷ parts) =
    ap (λ (xs : List (List Cell)). (indexed number col spec part).records ++ xs) (records-indexed number col spec parts)
    ∙ ap (λ (xs : List (List Cell)). xs ++ flat_map (λ (p : Partition). p.records) parts) (same_records (part.number == number) col spec part)

pub records-built : (content : Content) (number col : ℕ) (spec : Spec) → records_of (built content number col spec) ≡ records_of content
records-built content number col spec = records-indexed number col spec content.parts

abbrev catalog_with : Content → List ℕ → Catalog
catalog_with content numbers = record { schema = content.schema; next = content.next; parts = numbers }

pub catalog-built : (content : Content) (number col : ℕ) (spec : Spec) → catalog_data (built content number col spec) ≡ catalog_data content
catalog-built content number col spec = ap (catalog_with content) (numbers-indexed number col spec content.parts)

-- without such a part
none-indexed : (number col : ℕ) (spec : Spec) (parts : List Partition) → All (λ part. part.number ≢ number) parts → map (indexed number col spec) parts ≡ parts
none-indexed number col spec [] none = refl
none-indexed number col spec (part ∷ parts) none =
    ap (λ (ps : List Partition). indexed number col spec part ∷ ps)
    (none-indexed number col spec parts (All-tail (λ (p : Partition). p.number ≢ number) part parts none))
    ∙ ap (λ (p : Partition). p ∷ parts) (indexed-other number col spec part (All-head (λ (p : Partition). p.number ≢ number) part parts none))

abbrev content_with : Content → List Partition → Content
content_with content parts = record content { parts = parts }

abbrev world_with : World → FinMap (slice_cmp nat_cmp) Content → World
world_with world datasets = record world { datasets = datasets }

pub nothing-built : (world : World) (path : List ℕ) (number col : ℕ) (spec : Spec) (content : Content) → content_at world path ≡ Some content
    → All (λ part. part.number ≢ number) content.parts → after_one world (Builds path number col spec) ≡ world
nothing-built world path number col spec content there none =
    ap (after_build world path number col spec) there
    ∙ ap (λ (parts : List Partition). with_content world path (content_with content parts)) (none-indexed number col spec content.parts none)
    ∙ ap (world_with world) (insert-there world.datasets path content there)

-- ---- it is a dataset still

IsPartition-with : (schema : List Column) (col : ℕ) (spec : Spec) (part : Partition) → IsPartition schema part → CanIndex schema part.records col spec
    → IsPartition schema (with_index col spec part)
IsPartition-with schema col spec part valid can =
    record { some = valid.some; few = valid.few; fit = valid.fit; indexed = λ other found there. by other found there (other == col) refl }
  where
    by : (other : ℕ) (found : Spec) → get (insert part.specs col spec) other ≡ Some found → (b : Bool) → (other == col) ≡ b
        → CanIndex schema part.records other found
    by other found there true h =
        let at : other ≡ col = (Decides-eqb other col).0 h in
        let both : Some spec ≡ Some found = sym (at-insert_same part.specs col spec) ∙ sym (ap (get (insert part.specs col spec)) at) ∙ there in
        let same : spec ≡ found = cc in
        subst (λ (c : ℕ). CanIndex schema part.records c found) (sym at) (subst (CanIndex schema part.records col) same can)
    by other found there false h =
        let apart : other ≢ col = λ e. let t : (other == col) ≡ true = (Decides-eqb other col).1 e in cc in
        valid.indexed other found (sym (at-insert_other part.specs col spec other apart) ∙ there)

IsPartition-indexed : (schema : List Column) (number col : ℕ) (spec : Spec) (part : Partition) → IsPartition schema part
    → (part.number ≡ number → CanIndex schema part.records col spec) → IsPartition schema (indexed number col spec part)
IsPartition-indexed schema number col spec part valid can = by (part.number == number) refl
  where
    by : (b : Bool) → (part.number == number) ≡ b → IsPartition schema (if b then with_index col spec part else part)
    by true h = IsPartition-with schema col spec part valid (can ((Decides-eqb part.number number).0 h))
    by false h = valid

pub IsContent-built : (content : Content) (place : ℕ) (part : Partition) (col : ℕ) (spec : Spec) → IsContent content
    → slice_get content.parts place ≡ Some part → CanIndex content.schema part.records col spec → IsContent (built content part.number col spec)
IsContent-built content place part col spec valid listed can =
    record {
      catalog = subst IsCatalog (sym (catalog-built content part.number col spec)) valid.catalog;
      parts = All-map (IsPartition content.schema) (indexed part.number col spec) content.parts
          (λ k d within.
          IsPartition-indexed content.schema part.number col spec (get_or content.parts k d) (valid.parts k d within)
          (can-each content place part col spec valid listed can k d within));
    }

-- ---- its files

columns_files-with : (dir : List ℕ) (part : Partition) (col : ℕ) (spec : Spec) (k : ℕ) (columns : List Column)
    → columns_files dir (with_index col spec part) k columns ≡ columns_files dir part k columns
columns_files-with dir part col spec k [] = refl
columns_files-with dir part col spec k (column ∷ columns) =
    ap (λ (rest : List File). column_files dir part.number column (column_cells k part.records) ++ rest)
    (columns_files-with dir part col spec (k + 1) columns)

abbrev text_file : List ℕ → List Column → Partition → File
text_file dir schema part = record { name = part_name dir part.number; bytes = part_text (part_data schema part) }

pub part_files-with : (dir : List ℕ) (schema : List Column) (part : Partition) (col : ℕ) (spec : Spec)
    → part_files dir schema (with_index col spec part) ≡ part_files dir schema part
unfolding part_files
part_files-with dir schema part col spec =
    ap (λ (front : List File). front ++ text_file dir schema part ∷ []) (columns_files-with dir part col spec 0 schema)
