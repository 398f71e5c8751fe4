-- The files of a load that isn't refused make the files stand for the world after it.
use Rattle.std.proofs.Common.{◌≡◌, ◌≢◌, ◌⊎◌, ◌↔◌, ◌+◌, ◌<◌, ◌≤◌, nat_lt, ℕ, suc, Bool, true, false, if◌then◌else◌, List, [], ◌∷◌, ◌++◌, All, length, map, take, Option, Some, None, option_map, refl, sym, ap, ◌∙◌, subst, inl, inr, arith, bytes_eq, length-append, get_or}
use Rattle.std.specs.FinMap.{get-empty, insert}
use Rattle.std.specs.Ordering.{nat_cmp}
use Rattle.std.specs.List.{AllPairs, flat_map}
use Rattle.std.proofs.lemmas.Bool.{and_from, and_parts}
use Rattle.std.proofs.lemmas.Bool.Decides.{nat_tests}
use Rattle.std.proofs.lemmas.List.{length-map, take-append-le, take_all}
use Rattle.std.proofs.lemmas.List.Elements.{All-append, All-cons, All-head, All-nil, All-tail, All-take, All-weaker}
use Rattle.std.proofs.lemmas.List.FromFn.{get_or-map-range_with_len, length-map-range_with_len}
use Rattle.std.proofs.lemmas.Slice.Eq.{bytes_eq-Decides}
use Rattle.fb_outside.specs.Files.{ChangesAmong, Files}
use Rattle.fb_outside.specs.Puts.{File, IsThere, PutsAll, PutsFront, with_files}
use Rattle.fb_outside.proofs.PutLemmas.{ChangesAmong-front, with_files-append, with_files-there}
use Rattle.fb_types.specs.declared.cells.Cell.{Cell}
use Rattle.fb_types.specs.declared.schemas.Column.{Column}
use Rattle.fb_types.specs.declared.types.ColType.{ColType}
use Rattle.fb_types.specs.Schemas.{IsSchema}
use Rattle.fb_types.specs.SchemaText.{type_named}
use Rattle.fb_types.specs.Types.{type_name}
use Rattle.fb_types.proofs.ItemFacts.{type_named-type_name}
use Rattle.index_spec.specs.declared.spec.Spec.{Spec}
use Rattle.part_meta.specs.declared.catalog.Catalog.{Catalog}
use Rattle.part_meta.specs.declared.part.PartMeta.{PartMeta}
use Rattle.part_meta.specs.CatalogText.{catalog_text}
use Rattle.part_meta.specs.FileNames.{IsFileOf, catalog_name}
use Rattle.world.specs.World.{Content, IsContent, Partition, World, catalog_data, content_at}
use Rattle.world.specs.Cells.{column_cells}
use Rattle.world.specs.IndexFiles.{column_index}
use Rattle.world.specs.PartFiles.{index_in, part_data, part_files}
use Rattle.world.specs.Stands.{IsUnindexed, PartRests, Stands, StandsFor}
use Rattle.world.specs.Effects.{Loads, after_one, extended, found_or_empty, new_part, new_parts, part_count, piece}
use Rattle.world.proofs.PieceLemmas.{All-new_parts}
use Rattle.world.proofs.ContentLemmas.{IsContent-extended, numbers-extended}
use Rattle.world.proofs.FileLemmas.{parts-apart, parts-written}
use Rattle.world.proofs.KeptLemmas.{IsNewName, IsNewNumber, IsReady, KeepsParts, Stands-new, Stands-put, keeps-others, parts-kept, unindexed-kept}
use Rattle.world.proofs.PlaceLemmas.{All-at}
use Rattle.dataset.specs.Appended.{SchemaDiffers, append_files, first_difference, grown_catalog, is_same_column, refusal, refusal_by, too_many}
use Rattle.dataset.specs.Found.{dataset_in}
use Rattle.dataset.specs.Opened.{catalog_in}
use Rattle.dataset.specs.Loads.{DifferFirst, IsLoad, catalog_before, load_files}

-- ---- what isn't refused

same_type : (a b : ColType) → type_name a ≡ type_name b → a ≡ b
same_type a b e =
    let named : Some a ≡ Some b = sym (type_named-type_name a) ∙ ap type_named e ∙ type_named-type_name b in
    cc

abbrev column_of : List ℕ → ColType → Column
column_of name ty = record { name = name; ty = ty }

same_column : (a b : Column) → is_same_column a b ≡ true → a ≡ b
same_column a b same =
    let parts = and_parts (bytes_eq a.name b.name) (bytes_eq (type_name a.ty) (type_name b.ty)) same in
    let names : a.name ≡ b.name = (bytes_eq-Decides a.name b.name).0 parts.0 in
    let types : a.ty ≡ b.ty = same_type a.ty b.ty ((bytes_eq-Decides (type_name a.ty) (type_name b.ty)).0 parts.1) in
    ap (λ (name : List ℕ). column_of name a.ty) names ∙ ap (column_of b.name) types

one_column : (a b : Column) → a ≡ b → is_same_column a b ≡ true
one_column a b e =
    and_from (bytes_eq a.name b.name) (bytes_eq (type_name a.ty) (type_name b.ty))
    ((bytes_eq-Decides a.name b.name).1 (ap (λ (c : Column). c.name) e))
    ((bytes_eq-Decides (type_name a.ty) (type_name b.ty)).1 (ap (λ (c : Column). type_name c.ty) e))

pub same_schema : (a b : List Column) → first_difference a b ≡ None → a ≡ b
same_schema [] [] e = refl
same_schema [] (other ∷ others) e = absurd (cc)
same_schema (column ∷ columns) [] e = absurd (cc)
same_schema (column ∷ columns) (other ∷ others) e =
    by (is_same_column column other) refl e (λ none. same_schema columns others none)
  where
    rest : (d : Option ℕ) → option_map suc d ≡ None → d ≡ None
    rest None h = refl
    rest (Some k) h = absurd (cc)

    by : (test : Bool) → is_same_column column other ≡ test
        → (if test then option_map suc (first_difference columns others) else Some 1) ≡ None
        → (first_difference columns others ≡ None → columns ≡ others) → column ∷ columns ≡ other ∷ others
    by true same h later =
        let first : column ≡ other = same_column column other same in
        let tails : columns ≡ others = later (rest (first_difference columns others) h) in
        cc
    by false same h later = absurd (cc)

few_enough : (parts next : ℕ) → too_many parts next ≡ None → (parts ≤ 1024) × (next ≤ 4096)
few_enough parts next e = by (nat_lt 1024 parts) (nat_lt 4096 next) refl refl e
  where
    by : (more later : Bool) → nat_lt 1024 parts ≡ more → nat_lt 4096 next ≡ later → too_many parts next ≡ None → (parts ≤ 1024) × (next ≤ 4096)
    by more later first second h = (grind (arith, nat_tests), grind (arith, nat_tests))

-- what a refusal would have told apart
pub record IsAccepted (catalog : Catalog) (schema : List Column) (count : ℕ) : Type 0 where
  pub same : catalog.schema ≡ schema
  pub parts : length catalog.parts + count ≤ 1024
  pub numbers : catalog.next + count ≤ 4096

pub accepted : (catalog : Catalog) (schema : List Column) (per_part rows : ℕ) → refusal catalog schema per_part rows ≡ None
    → IsAccepted catalog schema (part_count per_part rows)
unfolding refusal
accepted catalog schema per_part rows e = by (first_difference catalog.schema schema) refl e
  where
    by : (d : Option ℕ) → first_difference catalog.schema schema ≡ d
        → refusal_by d (too_many (length catalog.parts + part_count per_part rows) (catalog.next + part_count per_part rows)) ≡ None
        → IsAccepted catalog schema (part_count per_part rows)
    by None same h =
        let few = few_enough (length catalog.parts + part_count per_part rows) (catalog.next + part_count per_part rows) h in
        record { same = same_schema catalog.schema schema same; parts = few.0; numbers = few.1 }
    by (Some column) differs h = absurd (cc)

-- ---- what is

pub no_difference : (columns : List Column) → first_difference columns columns ≡ None
no_difference [] = refl
no_difference (column ∷ columns) = by (is_same_column column column) refl (no_difference columns)
  where
    by : (test : Bool) → is_same_column column column ≡ test → first_difference columns columns ≡ None
        → (if test then option_map suc (first_difference columns columns) else Some 1) ≡ None
    by true same later = ap (option_map suc) later
    by false differs later =
        let same : is_same_column column column ≡ true = one_column column column refl in
        absurd (cc)

pub differ_first : (a b : List Column) (number : ℕ) → first_difference a b ≡ Some number → DifferFirst a b number
differ_first [] [] number e = absurd (cc)
differ_first [] (other ∷ others) number e =
    record { place = 0; is = let one : 1 ≡ number = cc in sym one; before = refl; there = λ same. absurd (cc) }
differ_first (column ∷ columns) [] number e =
    record { place = 0; is = let one : 1 ≡ number = cc in sym one; before = refl; there = λ same. absurd (cc) }
differ_first (column ∷ columns) (other ∷ others) number e =
    by (is_same_column column other) refl e (λ less found. differ_first columns others less found)
  where
    later : (d : Option ℕ) → first_difference columns others ≡ d → is_same_column column other ≡ true → option_map suc d ≡ Some number
        → ((less : ℕ) → first_difference columns others ≡ Some less → DifferFirst columns others less)
        → DifferFirst (column ∷ columns) (other ∷ others) number
    later None found same h rest = absurd (cc)
    later (Some less) found same h rest =
        let further = rest less found in
        let first : column ≡ other = same_column column other same in
        let next : suc less ≡ number = cc in
        let is : less ≡ further.place + 1 = further.is in
        let before : take further.place columns ≡ take further.place others = further.before in
        record {
          place = suc further.place;
          is = omega (arith, next, is);
          before = ap (λ (c : Column). c ∷ take further.place columns) first ∙ ap (λ (cs : List Column). other ∷ cs) before;
          there = further.there;
        }

    by : (test : Bool) → is_same_column column other ≡ test
        → (if test then option_map suc (first_difference columns others) else Some 1) ≡ Some number
        → ((less : ℕ) → first_difference columns others ≡ Some less → DifferFirst columns others less)
        → DifferFirst (column ∷ columns) (other ∷ others) number
    by true same h rest = later (first_difference columns others) refl same h rest
    by false differs h rest =
        record {
          place = 0;
          is = let one : 1 ≡ number = cc in sym one;
          before = refl;
          there = λ same.
              let equal : column ≡ other = cc in
              let alike : is_same_column column other ≡ true = one_column column other equal in
              absurd (cc);
        }

pub refused-by_columns : (catalog : Catalog) (schema : List Column) (per_part rows number : ℕ) → first_difference catalog.schema schema ≡ Some number
    → refusal catalog schema per_part rows ≡ Some (SchemaDiffers number)
unfolding refusal
refused-by_columns catalog schema per_part rows number e =
    ap (λ (d : Option ℕ). refusal_by d
    (too_many (length catalog.parts + part_count per_part rows) (catalog.next + part_count per_part rows))) e

pub refused-by_counts : (catalog : Catalog) (per_part rows : ℕ)
    → refusal catalog catalog.schema per_part rows
    ≡ too_many (length catalog.parts + part_count per_part rows) (catalog.next + part_count per_part rows)
unfolding refusal
refused-by_counts catalog per_part rows =
    ap (λ (d : Option ℕ). refusal_by d
    (too_many (length catalog.parts + part_count per_part rows) (catalog.next + part_count per_part rows))) (no_difference catalog.schema)

none_too_many : (parts next : ℕ) → parts ≤ 1024 → next ≤ 4096 → too_many parts next ≡ None
none_too_many parts next few low =
    let first : nat_lt 1024 parts ≡ false = grind (arith, nat_tests) in
    let second : nat_lt 4096 next ≡ false = grind (arith, nat_tests) in
    rw (first, second)

pub refusal-none : (catalog : Catalog) (schema : List Column) (per_part rows : ℕ) → refusal catalog schema per_part rows ≡ None
    ↔ (catalog.schema ≡ schema) × (length catalog.parts + part_count per_part rows ≤ 1024) × (catalog.next + part_count per_part rows ≤ 4096)
refusal-none catalog schema per_part rows = (
  λ none. let taken = accepted catalog schema per_part rows none in (taken.same, taken.parts, taken.numbers),
  λ h.
      subst (λ (columns : List Column). refusal catalog columns per_part rows ≡ None) h.0
      (refused-by_counts catalog per_part rows
      ∙ none_too_many (length catalog.parts + part_count per_part rows) (catalog.next + part_count per_part rows) h.1 h.2),
)

-- ---- the files of the new parts

abbrev news : List ℕ → List Column → (next per_part : ℕ) → List (List Cell) → List File
news path schema next per_part records = flat_map (part_files path schema) (new_parts next per_part records)

abbrev catalog_file : List ℕ → Catalog → ℕ → File
catalog_file path catalog count = record { name = catalog_name path; bytes = catalog_text (grown_catalog catalog count) }

append_files-are : (path : List ℕ) (catalog : Catalog) (per_part : ℕ) (records : List (List Cell))
    → append_files path catalog per_part records
    ≡ news path catalog.schema catalog.next per_part records ++ catalog_file path catalog (part_count per_part (length records)) ∷ []
unfolding append_files
append_files-are path catalog per_part records = refl

new_numbers : (next per_part : ℕ) (records : List (List Cell)) → next + part_count per_part (length records) ≤ 4096
    → All (λ part. IsNewNumber next part.number) (new_parts next per_part records)
new_numbers next per_part records few =
    All-new_parts (λ part. IsNewNumber next part.number) next per_part records (λ place there. (omega arith, omega arith))

news-fresh : (path : List ℕ) (schema : List Column) (next per_part : ℕ) (records : List (List Cell)) → IsSchema schema
    → next + part_count per_part (length records) ≤ 4096
    → All (λ f. IsNewName path next f.name) (news path schema next per_part records)
news-fresh path schema next per_part records valid few =
    parts-written (IsNewNumber next) path schema (new_parts next per_part records) valid (new_numbers next per_part records few)

numbers-differ : (next per_part : ℕ) (records : List (List Cell))
    → AllPairs (λ a b. a.number ≢ b.number) (new_parts next per_part records)
numbers-differ next per_part records i j d before within e =
    let count = part_count per_part (length records) in
    let make = new_part next per_part records in
    let inside : j < count = omega (arith, length-map-range_with_len make 0 count) in
    let first : (get_or (new_parts next per_part records) i d).number ≡ next + i
    = ap (λ (p : Partition). p.number) (get_or-map-range_with_len make 0 count i i d (omega arith) (omega arith)) in
    let second : (get_or (new_parts next per_part records) j d).number ≡ next + j
    = ap (λ (p : Partition). p.number) (get_or-map-range_with_len make 0 count j j d inside (omega arith)) in
    omega (arith, first, second, e)

All-split : {X : Type 0} (P : X → Type 0) (xs ys : List X) → All P (xs ++ ys) → All P xs × All P ys
All-split P [] ys h = (All-nil P, h)
All-split P (x ∷ xs) ys h =
    let rest = All-split P xs ys (All-tail P x (xs ++ ys) h) in
    (All-cons P x xs (All-head P x (xs ++ ys) h) rest.0, rest.1)

All-pieces : {X Y : Type 0} (P : Y → Type 0) (f : X → List Y) (xs : List X) → All P (flat_map f xs) → All (λ x. All P (f x)) xs
All-pieces P f [] h = All-nil (λ x. All P (f x))
All-pieces P f (x ∷ xs) h =
    let parts = All-split P (f x) (flat_map f xs) h in
    All-cons (λ y. All P (f y)) x xs parts.0 (All-pieces P f xs parts.1)

news-there : (files : Files) (path : List ℕ) (schema : List Column) (next per_part : ℕ) (records : List (List Cell)) → IsSchema schema
    → next + part_count per_part (length records) ≤ 4096
    → All (λ part. All (IsThere (with_files (news path schema next per_part records) files)) (part_files path schema part)) (new_parts next per_part records)
news-there files path schema next per_part records valid few =
    All-pieces (IsThere (with_files (news path schema next per_part records) files)) (part_files path schema) (new_parts next per_part records)
    (with_files-there (news path schema next per_part records) files
    (parts-apart path schema (new_parts next per_part records) valid
    (All-weaker (λ (part : Partition). IsNewNumber next part.number) (λ part. part.number < 4096) (λ part h. h.1)
    (new_parts next per_part records) (new_numbers next per_part records few))
    (numbers-differ next per_part records)))

-- and they have no index
news-unindexed : (next per_part : ℕ) (records : List (List Cell))
    → All (λ part. (col : ℕ) (column : Column) → index_in part col column ≡ None) (new_parts next per_part records)
news-unindexed next per_part records =
    All-new_parts (λ part. (col : ℕ) (column : Column) → index_in part col column ≡ None) next per_part records
    (λ place there col column.
    ap (option_map (λ (spec : Spec). column_index spec column.ty (column_cells col (piece per_part records place)))) (get-empty nat_cmp col))

-- ---- the dataset before

numbers-of_parts : (schema : List Column) (parts : List Partition)
    → map (λ part. part.number) parts ≡ map (λ (part : PartMeta). part.number) (map (part_data schema) parts)
numbers-of_parts schema [] = refl
numbers-of_parts schema (part ∷ parts) = ap (λ (numbers : List ℕ). part.number ∷ numbers) (numbers-of_parts schema parts)

abbrev pub catalog_of : List Column → ℕ → List ℕ → Catalog
catalog_of schema next parts = record { schema = schema; next = next; parts = parts }

pub catalog_in-dataset_in : (path : List ℕ) (content : Content) → catalog_data content ≡ catalog_in (dataset_in path content)
catalog_in-dataset_in path content = ap (catalog_of content.schema content.next) (numbers-of_parts content.schema content.parts)

pub catalog_before-there : (world : World) (path : List ℕ) (schema : List Column) (content : Content) → content_at world path ≡ Some content
    → catalog_before world path schema ≡ catalog_in (dataset_in path content)
catalog_before-there world path schema content there =
    ap (λ (o : Option Content). catalog_data (found_or_empty schema o)) there ∙ catalog_in-dataset_in path content

pub catalog_before-absent : (world : World) (path : List ℕ) (schema : List Column) → content_at world path ≡ None
    → catalog_before world path schema ≡ catalog_of schema 0 []
catalog_before-absent world path schema absent = ap (λ (o : Option Content). catalog_data (found_or_empty schema o)) absent

-- what is known of a path's dataset, or of the path without one
pub record IsBefore (files : Files) (world : World) (path : List ℕ) (content : Content) : Type 0 where
  pub valid : IsContent content
  pub parts : All (PartRests files path content.schema) content.parts
  pub unindexed : (number : ℕ) → content.next ≤ number → number < 4096 → All (λ column. IsUnindexed files path number column.name) content.schema
  pub known : (other : Content) → content_at world path ≡ Some other → other.next ≤ content.next

IsContent-empty : (schema : List Column) → IsSchema schema → IsContent (found_or_empty schema None)
IsContent-empty schema valid =
    record {
      catalog = record {
        schema = valid;
        next = omega arith;
        few = omega arith;
        rising = λ i j d before within. absurd (omega arith);
        below = All-nil (λ (number : ℕ). number < 0);
      };
      parts = All-nil _;
    }

before : (files : Files) (world : World) (path : List ℕ) (schema : List Column) (per_part : ℕ) (records : List (List Cell))
    → IsLoad world path schema per_part records → Stands files world → (o : Option Content) → content_at world path ≡ o
    → IsBefore files world path (found_or_empty schema o)
before files world path schema per_part records load h None absent =
    let free = h.free path load.proper absent in
    record {
      valid = IsContent-empty schema load.valid;
      parts = All-nil (PartRests files path schema);
      unindexed = λ number later low k d within. free.unindexed number (get_or schema k d).name low (load.valid.named k d within);
      known = λ other there. let none : Some other ≡ None = sym there ∙ absent in absurd (cc);
    }
before files world path schema per_part records load h (Some content) there =
    let rests = h.rests path content there in
    record {
      valid = h.valid path content there;
      parts = rests.parts;
      unindexed = rests.unindexed;
      known = λ other again.
          let both : Some other ≡ Some content = sym again ∙ there in
          let same : other ≡ content = cc in
          let next : other.next ≡ content.next = ap (λ (c : Content). c.next) same in
          omega (arith, next);
    }

-- ---- the law

module _ (files : Files) (world : World) (path : List ℕ) (schema : List Column) (per_part : ℕ) (records : List (List Cell))
    (load : IsLoad world path schema per_part records) (h : Stands files world) where
  abbrev found : Content
  found = found_or_empty schema (content_at world path)

  abbrev count : ℕ
  count = part_count per_part (length records)

  abbrev parts : List File
  parts = news path found.schema found.next per_part records

  abbrev filled : Files
  filled = with_files parts files

  was : IsBefore files world path found
  was = before files world path schema per_part records load h (content_at world path) refl

  taken : IsAccepted (catalog_data found) schema count
  taken = accepted (catalog_data found) schema per_part (length records) load.accepted

  numbered : found.next + count ≤ 4096
  numbered = taken.numbers

  room : length found.parts + count ≤ 1024
  room = let few : length (map (λ (part : Partition). part.number) found.parts) + count ≤ 1024 = taken.parts in
      omega (arith, few, length-map found.parts (λ (part : Partition). part.number))

  fresh : All (λ f. IsNewName path found.next f.name) parts
  fresh = news-fresh path found.schema found.next per_part records was.valid.catalog.schema numbered

  kept : KeepsParts files filled path found.next
  kept = keeps-others files world path found.next parts fresh path found.next was.valid.catalog.next (λ e. omega arith)

  new_rest : All (PartRests filled path found.schema) (new_parts found.next per_part records)
  new_rest k d within =
      let number = new_numbers found.next per_part records numbered k d within in
      record {
        listed = news-there files path found.schema found.next per_part records was.valid.catalog.schema numbered k d within;
        indexes = λ col column at.
            let part = get_or (new_parts found.next per_part records) k d in
            let none : IsUnindexed filled path part.number column.name
            = All-at (λ (c : Column). IsUnindexed filled path part.number c.name) found.schema col column at
            (unindexed-kept files filled path found.next part.number found.schema kept was.valid.catalog.schema.named number.1
            (was.unindexed part.number number.0 number.1)) in
            none ∙ sym (news-unindexed found.next per_part records k d within col column);
      }

  ready : IsReady filled world path (extended found per_part records)
  ready =
      record {
        parts = All-append (PartRests filled path found.schema) found.parts (new_parts found.next per_part records)
            (parts-kept files filled path found.next found.schema found.parts was.valid.catalog.schema was.valid.catalog.below kept was.parts)
            new_rest;
        unindexed = λ number later low.
            unindexed-kept files filled path found.next number found.schema kept was.valid.catalog.schema.named low
            (was.unindexed number (omega arith) low);
      }

  grown : IsContent (extended found per_part records)
  grown =
      let fit = subst (λ (columns : List Column). All (λ cells. Rattle.fb_types.specs.Cells.RecordFits cells columns) records) (sym taken.same) load.fit in
      IsContent-extended found per_part records was.valid load.some load.few fit numbered room

  abbrev catalog_with : List ℕ → Catalog
  catalog_with numbers = record { schema = found.schema; next = found.next + count; parts = numbers }

  text : catalog_text (grown_catalog (catalog_data found) count) ≡ catalog_text (catalog_data (extended found per_part records))
  text = ap (λ (numbers : List ℕ). catalog_text (catalog_with numbers)) (sym (numbers-extended found per_part records))

  written : with_files (load_files world path schema per_part records) files
      ≡ insert filled (catalog_name path) (catalog_text (catalog_data (extended found per_part records)))
  written =
      ap (λ (list : List File). with_files list files) (append_files-are path (catalog_data found) per_part records)
      ∙ with_files-append parts (catalog_file path (catalog_data found) count ∷ []) files
      ∙ ap (insert filled (catalog_name path)) text

  pub Stands-loaded : Stands (with_files (load_files world path schema per_part records) files) (after_one world (Loads path schema per_part records))
  Stands-loaded =
      subst (λ (m : Files). Stands m (after_one world (Loads path schema per_part records))) (sym written)
      (Stands-put filled world path (extended found per_part records) load.proper grown ready
      (Stands-new files world path found.next parts fresh was.known h))

  pub Stands-front : (some : ℕ) → some < length (load_files world path schema per_part records)
      → Stands (with_files (take some (load_files world path schema per_part records)) files) world
  Stands-front some few =
      let is = append_files-are path (catalog_data found) per_part records in
      let within : some ≤ length parts
      = omega (arith, ap length is, length-append parts (catalog_file path (catalog_data found) count ∷ []), few) in
      let front : take some (load_files world path schema per_part records) ≡ take some parts
      = ap (take some) is ∙ take-append-le some parts (catalog_file path (catalog_data found) count ∷ []) within in
      subst (λ (list : List File). Stands (with_files list files) world) (sym front)
      (Stands-new files world path found.next (take some parts) (All-take (λ (f : File). IsNewName path found.next f.name) some parts fresh)
      was.known h)

-- ---- of a store

pub StandsFor-loaded : (old new : Option Files) (world : World) (path : List ℕ) (schema : List Column) (per_part : ℕ) (records : List (List Cell))
    → IsLoad world path schema per_part records → StandsFor old world → PutsAll (load_files world path schema per_part records) old new
    → StandsFor new (after_one world (Loads path schema per_part records))
StandsFor-loaded None new world path schema per_part records load h put = absurd h
StandsFor-loaded (Some files) new world path schema per_part records load h put =
    subst (λ (told : Option Files). StandsFor told (after_one world (Loads path schema per_part records))) (sym put)
    (Stands-loaded files world path schema per_part records load h)

-- a front of a list is all of it, or less
all_or_less : (count size : ℕ) → count ≤ size → (count < size) ⊎ (size ≤ count)
all_or_less count size few = by (nat_lt count size) refl
  where
    by : (less : Bool) → nat_lt count size ≡ less → (count < size) ⊎ (size ≤ count)
    by true h = inl (grind (arith, nat_tests))
    by false h = inr (grind (arith, nat_tests))

pub StandsFor-stopped : (old new : Option Files) (world : World) (path : List ℕ) (schema : List Column) (per_part : ℕ) (records : List (List Cell))
    → IsLoad world path schema per_part records → StandsFor old world → PutsFront (load_files world path schema per_part records) old new
    → StandsFor new world ⊎ StandsFor new (after_one world (Loads path schema per_part records))
StandsFor-stopped None new world path schema per_part records load h put = absurd h
StandsFor-stopped (Some files) new world path schema per_part records load h put =
    by (all_or_less put.count (length (load_files world path schema per_part records)) put.within)
  where
    by : (put.count < length (load_files world path schema per_part records)) ⊎ (length (load_files world path schema per_part records) ≤ put.count)
        → StandsFor new world ⊎ StandsFor new (after_one world (Loads path schema per_part records))
    by (inl less) =
        inl (subst (λ (told : Option Files). StandsFor told world) (sym put.front)
        (Stands-front files world path schema per_part records load h put.count less))
    by (inr all) =
        inr (StandsFor-loaded (Some files) new world path schema per_part records load h
        (subst (λ (list : List File). PutsAll list (Some files) new)
        (take_all put.count (load_files world path schema per_part records) all) put.front))

-- ---- the names

new_is_file : (path : List ℕ) (next : ℕ) (name : List ℕ) → IsNewName path next name → IsFileOf path name
new_is_file path next name h =
    inr (record {
      part = h.number;
      name = h.written.column;
      kind = h.written.kind;
      below = h.holds.1;
      called = h.written.called;
      is = h.written.is;
    })

pub names-of_load : (path : List ℕ) (catalog : Catalog) (per_part : ℕ) (records : List (List Cell)) → IsSchema catalog.schema
    → catalog.next + part_count per_part (length records) ≤ 4096
    → All (λ f. IsFileOf path f.name) (append_files path catalog per_part records)
names-of_load path catalog per_part records valid few =
    let first : List File = news path catalog.schema catalog.next per_part records in
    let last : File = catalog_file path catalog (part_count per_part (length records)) in
    subst (λ (list : List File). All (λ f. IsFileOf path f.name) list) (sym (append_files-are path catalog per_part records))
    (All-append (λ (f : File). IsFileOf path f.name) first (last ∷ [])
    (All-weaker (λ (f : File). IsNewName path catalog.next f.name) (λ f. IsFileOf path f.name) (λ f h. new_is_file path catalog.next f.name h)
    first (news-fresh path catalog.schema catalog.next per_part records valid few))
    (All-cons (λ (f : File). IsFileOf path f.name) last [] (inl refl) (All-nil (λ (f : File). IsFileOf path f.name))))

pub others-stay : (old new : Option Files) (path : List ℕ) (catalog : Catalog) (per_part : ℕ) (records : List (List Cell)) → IsSchema catalog.schema
    → catalog.next + part_count per_part (length records) ≤ 4096 → PutsFront (append_files path catalog per_part records) old new
    → ChangesAmong (IsFileOf path) old new
others-stay old new path catalog per_part records valid few put =
    ChangesAmong-front (IsFileOf path) (append_files path catalog per_part records) old new (names-of_load path catalog per_part records valid few) put
