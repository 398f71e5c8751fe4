-- A dataset that grew by a load is one, and its files are those of the load.
use Rattle.std.proofs.Common.{◌≡◌, ◌<◌, ◌≤◌, ◌+◌, ℕ, List, [], ◌∷◌, ◌++◌, Option, Result, Ok, Err, OnOk, is_err, false, length, map, refl, sym, ap, subst, ◌∙◌, arith, length-append}
use Rattle.std.specs.List.{flat_map, range_with_len}
use Rattle.std.proofs.lemmas.List.{length-map}
use Rattle.std.proofs.lemmas.List.Elements.{All-append, All-map}
use Rattle.std.proofs.lemmas.List.FromFn.{length-range_with_len}
use Rattle.fb_outside.specs.Files.{Files}
use Rattle.fb_outside.specs.Puts.{File, PutsAll, PutsFront, PutsInOrder}
use Rattle.fb_types.specs.declared.cells.Cell.{Cell}
use Rattle.fb_types.specs.declared.schemas.Column.{Column}
use Rattle.part_meta.specs.declared.catalog.Catalog.{Catalog}
use Rattle.part_meta.specs.declared.part.PartMeta.{PartMeta}
use Rattle.part_meta.specs.CatalogText.{IsCatalog, catalog_text}
use Rattle.part_meta.specs.FileNames.{catalog_name}
use Rattle.world.specs.Effects.{new_part, new_parts, part_count}
use Rattle.world.specs.PartFiles.{part_data, part_files}
use Rattle.world.proofs.PieceLemmas.{All-new_parts, piece-size}
use Rattle.dataset.specs.Appended.{append_files, appended, grown_catalog}
use Rattle.dataset.specs.Opened.{IsDataset, IsPartOf, catalog_in}
use Rattle.dataset.specs.declared.content.Dataset.{Dataset}
use Rattle.dataset.proofs.GrowingLemmas.{below_behind, grown, length-added, rising_behind, taken_back}
use Rattle.dataset.specs.Growing.{without_parts}

-- ---- the dataset

module _ (dataset : Dataset) (per_part : ℕ) (records : List (List Cell)) (valid : IsDataset dataset)
    (some : 1 ≤ per_part) (most : per_part ≤ 4194304)
    (few : length dataset.parts + part_count per_part (length records) ≤ 1024)
    (low : dataset.next + part_count per_part (length records) ≤ 4096) where
  grown_is : IsCatalog (grown_catalog (catalog_in dataset) (part_count per_part (length records)))
  grown_is =
      let n = part_count per_part (length records) in
      let old = map (λ (part : PartMeta). part.number) dataset.parts in
      let many : length (old ++ range_with_len dataset.next n) ≡ length dataset.parts + n =
      length-append old (range_with_len dataset.next n)
      ∙ (ap (λ k. k + length (range_with_len dataset.next n)) (length-map dataset.parts (λ (part : PartMeta). part.number))
      ∙ ap (λ k. length dataset.parts + k) (length-range_with_len dataset.next n)) in
      record {
        schema = valid.catalog.schema;
        next = low;
        few = omega (arith, many, few);
        rising = rising_behind old dataset.next n valid.catalog.rising valid.catalog.below;
        below = below_behind old dataset.next n valid.catalog.below;
      }

  new_is : (place : ℕ) → place < part_count per_part (length records) → IsPartOf dataset (part_data dataset.schema (new_part dataset.next per_part records place))
  new_is place within =
      let size = piece-size per_part records place some within in (
        record {
          number = omega (arith, low, within);
          some = size.0;
          few = omega (arith, most, size.1);
          schema = valid.catalog.schema;
        },
        refl,
      )

  pub IsDataset-appended : IsDataset (appended dataset per_part records)
  IsDataset-appended =
      record {
        path = valid.path;
        catalog = subst IsCatalog (sym (grown dataset per_part records)) grown_is;
        parts = All-append (IsPartOf dataset) dataset.parts (map (part_data dataset.schema) (new_parts dataset.next per_part records)) valid.parts
            (All-map (IsPartOf dataset) (part_data dataset.schema) (new_parts dataset.next per_part records)
            (All-new_parts (λ part. IsPartOf dataset (part_data dataset.schema part)) dataset.next per_part records new_is));
      }

-- ---- the files

pub files_are : (dataset : Dataset) (schema : List Column) (per_part : ℕ) (records : List (List Cell)) → dataset.schema ≡ schema
    → flat_map (part_files dataset.dir schema) (new_parts dataset.next per_part records)
    ++ record { name = catalog_name dataset.dir; bytes = catalog_text (catalog_in (appended dataset per_part records)) } ∷ []
    ≡ append_files dataset.dir (catalog_in dataset) per_part records
unfolding append_files
files_are dataset schema per_part records same =
    ap (λ (s : List Column). flat_map (part_files dataset.dir s) (new_parts dataset.next per_part records)
    ++ record { name = catalog_name dataset.dir; bytes = catalog_text (catalog_in (appended dataset per_part records)) } ∷ []) (sym same)
    ∙ ap (λ (c : Catalog). flat_map (part_files dataset.dir dataset.schema) (new_parts dataset.next per_part records)
    ++ record { name = catalog_name dataset.dir; bytes = catalog_text c } ∷ []) (grown dataset per_part records)

pub written_are : (dataset other : Dataset) (schema : List Column) (per_part : ℕ) (records : List (List Cell)) → dataset.schema ≡ schema
    → other ≡ appended dataset per_part records
    → flat_map (part_files other.dir schema) (new_parts dataset.next per_part records)
    ++ record { name = catalog_name other.dir; bytes = catalog_text (catalog_in other) } ∷ []
    ≡ append_files dataset.dir (catalog_in dataset) per_part records
written_are dataset other schema per_part records same is =
    ap (λ (d : Dataset). flat_map (part_files d.dir schema) (new_parts dataset.next per_part records)
    ++ record { name = catalog_name d.dir; bytes = catalog_text (catalog_in d) } ∷ []) is
    ∙ files_are dataset schema per_part records same

-- a call that succeeded
pub ok_then : {A E : Type 0} (P : Type 0) (r : Result A E) → is_err r ≡ false → OnOk r P → P
ok_then P (Ok a) h k = k
ok_then P (Err e) h k = absurd (cc)

pub puts_all : {A E : Type 0} (fs gs : List File) (r : Result A E) (a : A) (old new : Option Files) → r ≡ Ok a → fs ≡ gs
    → PutsInOrder fs r old new → PutsAll gs old new
puts_all fs gs r a old new is same h = subst (λ (xs : List File). PutsAll xs old new) same (subst (λ x. PutsInOrder fs x old new) is h)

pub puts_front : {A E : Type 0} (fs gs : List File) (r : Result A E) (e : E) (old new : Option Files) → r ≡ Err e → fs ≡ gs
    → PutsInOrder fs r old new → PutsFront gs old new
puts_front fs gs r e old new is same h = subst (λ (xs : List File). PutsFront xs old new) same (subst (λ x. PutsInOrder fs x old new) is h)

-- the new parts taken away again
pub taken_away : (dataset : Dataset) (per_part : ℕ) (records : List (List Cell)) (count : ℕ) → count ≡ part_count per_part (length records)
    → without_parts (appended dataset per_part records) dataset.next count ≡ dataset
taken_away dataset per_part records count is =
    let back = taken_back dataset.parts (map (part_data dataset.schema) (new_parts dataset.next per_part records)) count
    (length-added dataset.schema dataset.next per_part records (part_count per_part (length records)) ∙ sym is) in
    λ i. record { dir = dataset.dir; schema = dataset.schema; next = dataset.next; parts = back i }
