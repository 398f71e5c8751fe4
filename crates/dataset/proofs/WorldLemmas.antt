-- The datasets of a world, opened.
use Rattle.std.proofs.Common.{◌≡◌, ◌≢◌, ◌<◌, ◌≤◌, ℕ, List, [], ◌∷◌, map, Option, Some, None, refl, sym, ap, subst, ◌∙◌, arith}
use Rattle.std.specs.List.{All, slice_get}
use Rattle.std.proofs.lemmas.List.Elements.{All-cons, All-head, All-nil, All-tail}
use Rattle.fb_outside.specs.Files.{Files, file_at}
use Rattle.fb_outside.specs.Names.{IsPath}
use Rattle.fb_outside.specs.Puts.{File, IsThere}
use Rattle.fb_types.specs.declared.schemas.Column.{Column}
use Rattle.fb_types.specs.Schemas.{IsSchema}
use Rattle.part_meta.specs.declared.catalog.Catalog.{Catalog}
use Rattle.part_meta.specs.declared.part.PartMeta.{PartMeta}
use Rattle.part_meta.specs.CatalogText.{catalog_text}
use Rattle.part_meta.specs.FileNames.{catalog_name, part_name}
use Rattle.part_meta.specs.PartText.{IsPart, part_text}
use Rattle.world.specs.World.{Content, IsContent, IsPartition, Partition, World, catalog_data, content_at}
use Rattle.world.specs.PartFiles.{columns_files, part_data, part_files}
use Rattle.world.specs.Stands.{PartRests, Rests, Stands}
use Rattle.dataset.specs.declared.content.Dataset.{Dataset}
use Rattle.dataset.specs.Damage.{Damage, IsFirstDamaged, IsGood, part_with}
use Rattle.dataset.specs.Damage.IsFirstDamaged.{NoCatalogText, NoPart, NoPartText}
use Rattle.dataset.specs.Found.{Found, IsFound, dataset_in, found_by, found_in}
use Rattle.dataset.specs.Found.Found.{Absent, Broken, There}
use Rattle.dataset.specs.InWorld.{IsDatasetOf}
use Rattle.dataset.specs.Opened.{HasCatalog, HasPart, OpensAs, catalog_in}
use Rattle.world.proofs.PlaceLemmas.{All-at}
use Rattle.dataset.proofs.ListLemmas.{All-right, map-at}
use Rattle.dataset.proofs.SameLemmas.{same_catalog, same_dataset}

-- ---- the texts of a dataset that rests

-- the last file of a part is its text
text_there : (files : Files) (dir : List ℕ) (schema : List Column) (part : Partition) → PartRests files dir schema part
    → file_at files (part_name dir part.number) ≡ Some (part_text (part_data schema part))
unfolding part_files
text_there files dir schema part rests =
    let text : File = record { name = part_name dir part.number; bytes = part_text (part_data schema part) } in
    All-head (IsThere files) text [] (All-right (IsThere files) (columns_files dir part 0 schema) (text ∷ []) rests.listed)

-- a part of a dataset is what a text may say
part_valid : (schema : List Column) (next : ℕ) (part : Partition) → IsSchema schema → next ≤ 4096 → part.number < next → IsPartition schema part
    → IsPart (part_data schema part)
part_valid schema next part valid few below h = record { number = omega arith; some = h.some; few = h.few; schema = valid }

module _ (files : Files) (dir : List ℕ) (schema : List Column) (next : ℕ) (valid : IsSchema schema) (few : next ≤ 4096) where
  -- its text says it
  has_part : (part : Partition) → part.number < next → IsPartition schema part → PartRests files dir schema part → HasPart files dir (part_data schema part)
  has_part part below h rests =
      record { valid = part_valid schema next part valid few below h; there = text_there files dir schema part rests }

  pub has_parts : (parts : List Partition) → All (λ n. n < next) (map (λ part. part.number) parts) → All (IsPartition schema) parts
      → All (PartRests files dir schema) parts → All (λ part. HasPart files dir part × (part.schema ≡ schema)) (map (part_data schema) parts)
  has_parts [] below h rests = All-nil (λ (part : PartMeta). HasPart files dir part × (part.schema ≡ schema))
  has_parts (part ∷ parts) below h rests =
      All-cons (λ (part : PartMeta). HasPart files dir part × (part.schema ≡ schema)) (part_data schema part) (map (part_data schema) parts) (
        has_part part (All-head (λ n. n < next) part.number (map (λ p. p.number) parts) below) (All-head (IsPartition schema) part parts h)
            (All-head (PartRests files dir schema) part parts rests),
        refl,
      )
      (has_parts parts (All-tail (λ n. n < next) part.number (map (λ p. p.number) parts) below) (All-tail (IsPartition schema) part parts h)
      (All-tail (PartRests files dir schema) part parts rests))

numbers_kept : (schema : List Column) (parts : List Partition) → map (λ part. part.number) (map (part_data schema) parts) ≡ map (λ part. part.number) parts
numbers_kept schema [] = refl
numbers_kept schema (part ∷ parts) = ap (λ ns. part.number ∷ ns) (numbers_kept schema parts)

-- what a dataset's catalog says is what its content's does
same_data : (dir : List ℕ) (content : Content) → catalog_data content ≡ catalog_in (dataset_in dir content)
same_data dir content =
    ap (λ (ns : List ℕ). let c : Catalog = record { schema = content.schema; next = content.next; parts = ns } in c)
    (sym (numbers_kept content.schema content.parts))

-- ---- a dataset of a world opens

has_catalog : (files : Files) (dir : List ℕ) (content : Content) → IsContent content → Rests files dir content → HasCatalog files dir (catalog_data content)
has_catalog files dir content valid rests = record { valid = valid.catalog; there = rests.catalog }

opens_content : (files : Files) (dir : List ℕ) (content : Content) → IsContent content → Rests files dir content → OpensAs files dir (dataset_in dir content)
opens_content files dir content valid rests =
    record {
      path = refl;
      catalog = subst (HasCatalog files dir) (same_data dir content) (has_catalog files dir content valid rests);
      parts = has_parts files dir content.schema content.next valid.catalog.schema valid.catalog.next content.parts valid.catalog.below valid.parts rests.parts;
    }

pub opens : (files : Files) (world : World) (dir : List ℕ) (content : Content) → Stands files world → content_at world dir ≡ Some content
    → OpensAs files dir (dataset_in dir content)
opens files world dir content stands at = opens_content files dir content (stands.valid dir content at) (stands.rests dir content at)

-- ---- and nothing else does

opened_by : (files : Files) (world : World) (dir : List ℕ) (dataset : Dataset) → Stands files world → IsPath dir → OpensAs files dir dataset
    → (found : Option Content) → content_at world dir ≡ found → IsDatasetOf world dir dataset
opened_by files world dir dataset stands path h None at =
    let bad : None ≡ Some (catalog_text (catalog_in dataset)) = sym (stands.free dir path at).catalog ∙ h.catalog.there in absurd (cc)
opened_by files world dir dataset stands path h (Some content) at =
    record { content = content; there = at; is = same_dataset files dir dataset (dataset_in dir content) h (opens files world dir content stands at) }

pub opened : (files : Files) (world : World) (dir : List ℕ) (dataset : Dataset) → Stands files world → IsPath dir → OpensAs files dir dataset
    → IsDatasetOf world dir dataset
opened files world dir dataset stands path h = opened_by files world dir dataset stands path h (content_at world dir) refl

absent_by : (files : Files) (world : World) (dir : List ℕ) → Stands files world → file_at files (catalog_name dir) ≡ None
    → (found : Option Content) → content_at world dir ≡ found → content_at world dir ≡ None
absent_by files world dir stands none None at = at
absent_by files world dir stands none (Some content) at =
    let bad : None ≡ Some (catalog_text (catalog_data content)) = sym none ∙ (stands.rests dir content at).catalog in absurd (cc)

pub absent : (files : Files) (world : World) (dir : List ℕ) → Stands files world → file_at files (catalog_name dir) ≡ None → content_at world dir ≡ None
absent files world dir stands none = absent_by files world dir stands none (content_at world dir) refl

pub free : (files : Files) (world : World) (dir : List ℕ) → Stands files world → IsPath dir → content_at world dir ≡ None → file_at files (catalog_name dir) ≡ None
free files world dir stands path at = (stands.free dir path at).catalog

-- ---- no text is damaged

-- a dataset's listed part is a good one
listed_good : (files : Files) (dir : List ℕ) (dataset : Dataset) → OpensAs files dir dataset → (place number : ℕ)
    → slice_get (catalog_in dataset).parts place ≡ Some number → IsGood files dir (catalog_in dataset) number
listed_good files dir dataset h place number listed =
    let from = map-at (λ (part : PartMeta). part.number) dataset.parts place number listed in
    let both = All-at (λ part. HasPart files dir part × (part.schema ≡ dataset.schema)) dataset.parts place from.from from.at h.parts in
    let same : from.from ≡ part_with (catalog_in dataset) from.from.number from.from.rows =
    ap (λ (s : List Column). let p : PartMeta = record { number = from.from.number; rows = from.from.rows; schema = s } in p) both.1 in
    subst (IsGood files dir (catalog_in dataset)) from.is (from.from.rows, subst (HasPart files dir) same both.0)

-- what opens is right in all its texts
pub undamaged : (files : Files) (dir : List ℕ) (dataset : Dataset) (found : Damage) → OpensAs files dir dataset → IsFirstDamaged files dir found → ⊥
undamaged files dir dataset found h (NoCatalogText bytes there other is) =
    let same : Some (catalog_text (catalog_in dataset)) ≡ Some bytes = sym h.catalog.there ∙ there in
    other (catalog_in dataset) h.catalog.valid (let e : catalog_text (catalog_in dataset) ≡ bytes = cc in e)
undamaged files dir dataset found h (NoPart catalog number has next none is) =
    let same : catalog ≡ catalog_in dataset = same_catalog files dir catalog (catalog_in dataset) has h.catalog in
    let good = listed_good files dir dataset h next.place number (subst (λ (c : Catalog). slice_get c.parts next.place ≡ Some number) same next.listed) in
    let bad : None ≡ Some (part_text (part_with (catalog_in dataset) number good.0)) = sym none ∙ good.1.there in cc
undamaged files dir dataset found h (NoPartText catalog number bytes has next there other is) =
    let same : catalog ≡ catalog_in dataset = same_catalog files dir catalog (catalog_in dataset) has h.catalog in
    let good = listed_good files dir dataset h next.place number (subst (λ (c : Catalog). slice_get c.parts next.place ≡ Some number) same next.listed) in
    let other' : IsPart (part_with (catalog_in dataset) number good.0) → part_text (part_with (catalog_in dataset) number good.0) ≢ bytes =
    subst (λ (c : Catalog). IsPart (part_with c number good.0) → part_text (part_with c number good.0) ≢ bytes) same (other good.0) in
    let both : Some (part_text (part_with (catalog_in dataset) number good.0)) ≡ Some bytes = sym good.1.there ∙ there in
    other' good.1.valid (let e : part_text (part_with (catalog_in dataset) number good.0) ≡ bytes = cc in e)

-- a damaged text is of a dataset whose catalog is there
catalog_there : (files : Files) (dir : List ℕ) (found : Damage) → IsFirstDamaged files dir found → file_at files (catalog_name dir) ≢ None
catalog_there files dir found (NoCatalogText bytes there other is) none = let bad : None ≡ Some bytes = sym none ∙ there in cc
catalog_there files dir found (NoPart catalog number has next gone is) none = let bad : None ≡ Some (catalog_text catalog) = sym none ∙ has.there in cc
catalog_there files dir found (NoPartText catalog number bytes has next there other is) none =
    let bad : None ≡ Some (catalog_text catalog) = sym none ∙ has.there in cc

sound_by : (files : Files) (world : World) (dir : List ℕ) (found : Damage) → Stands files world → IsPath dir → IsFirstDamaged files dir found
    → (content : Option Content) → content_at world dir ≡ content → ⊥
sound_by files world dir found stands path h None at = catalog_there files dir found h (stands.free dir path at).catalog
sound_by files world dir found stands path h (Some content) at =
    undamaged files dir (dataset_in dir content) found (opens files world dir content stands at) h

pub sound : (files : Files) (world : World) (dir : List ℕ) (found : Damage) → Stands files world → IsPath dir → IsFirstDamaged files dir found → ⊥
sound files world dir found stands path h = sound_by files world dir found stands path h (content_at world dir) refl

-- ---- what is found at a path is what the world has there

found_by_content : (files : Files) (world : World) (dir : List ℕ) (found : Found) → Stands files world → IsPath dir → IsFound files dir found
    → (content : Option Content) → content_at world dir ≡ content → found ≡ found_by dir content
found_by_content files world dir Absent stands path h None at = refl
found_by_content files world dir Absent stands path h (Some content) at =
    let bad : None ≡ Some (catalog_text (catalog_data content)) = sym h ∙ (stands.rests dir content at).catalog in absurd (cc)
found_by_content files world dir (There dataset) stands path h None at =
    let bad : None ≡ Some (catalog_text (catalog_in dataset)) = sym (stands.free dir path at).catalog ∙ h.catalog.there in absurd (cc)
found_by_content files world dir (There dataset) stands path h (Some content) at =
    ap There (same_dataset files dir dataset (dataset_in dir content) h (opens files world dir content stands at))
found_by_content files world dir (Broken damage) stands path h content at = absurd (sound files world dir damage stands path h)

pub found_is : (files : Files) (world : World) (dir : List ℕ) (found : Found) → Stands files world → IsPath dir → IsFound files dir found → found ≡ found_in world dir
found_is files world dir found stands path h = found_by_content files world dir found stands path h (content_at world dir) refl

is_found_by : (files : Files) (world : World) (dir : List ℕ) → Stands files world → IsPath dir → (content : Option Content) → content_at world dir ≡ content
    → IsFound files dir (found_by dir content)
is_found_by files world dir stands path None at = (stands.free dir path at).catalog
is_found_by files world dir stands path (Some content) at = opens files world dir content stands at

pub is_found : (files : Files) (world : World) (dir : List ℕ) → Stands files world → IsPath dir → IsFound files dir (found_in world dir)
is_found files world dir stands path = is_found_by files world dir stands path (content_at world dir) refl
