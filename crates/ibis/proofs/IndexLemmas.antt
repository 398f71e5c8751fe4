-- The index of a column in a world opens, and says its specification.
use Rattle.std.proofs.Common.{◌≡◌, ◌+◌, ◌-◌, ◌^◌, ◌<◌, ◌≤◌, ℕ, ℤ, pos, negsuc, neg_ℤ, ◌≤ℤ◌, Bool, true, false, List, [], ◌∷◌, filter, length, map, Option, Some, None, IsSome, is_some, Result, Ok, Err, FitsSigned, refl, sym, ap, subst, ◌∙◌, arith}
use Rattle.std.specs.FinMap.{get}
use Rattle.std.specs.Int.{w128}
use Rattle.std.specs.List.{All, AllByRecursion, slice_get}
use Rattle.std.specs.Ordering.{int_eq}
use Rattle.std.proofs.lemmas.Int.{ints}
use Rattle.std.proofs.lemmas.List.{length-map}
use Rattle.std.proofs.lemmas.List.Elements.{recursion_from_All}
use Rattle.fb_outside.specs.Files.{Files, file_at}
use Rattle.fb_outside.specs.Names.{IsPath}
use Rattle.fb_types.specs.declared.cells.Cell.{Cell}
use Rattle.fb_types.specs.declared.schemas.Column.{Column}
use Rattle.fb_types.specs.declared.types.ColType.{ColType}
use Rattle.fb_types.specs.declared.types.ColType.TheVariants.{Byte, UByte, Short, UShort, Int, UInt, Long, ULong, Category, Text}
use Rattle.fb_types.specs.Types.{width_of}
use Rattle.column_file.specs.Values.{ValueFits}
use Rattle.index_spec.specs.Language.{IsGiven}
use Rattle.index_spec.specs.declared.spec.Spec.{Spec}
use Rattle.index_file.specs.IndexFile.{EdgeFits, IsIndex, places_of}
use Rattle.index_file.specs.Opening.{Head, head_in, index_in}
use Rattle.index_file.specs.declared.edge.Edge.{Edge}
use Rattle.index_file.specs.declared.fault.IndexFault.{IndexFault}
use Rattle.index_file.proofs.WrittenLemmas.{index_again}
use Rattle.binning.specs.Bins.{bin_of, bins_of, cells, present, values_with}
use Rattle.binning.specs.Encodings.{vectors}
use Rattle.binning.specs.Gathered.{is_in}
use Rattle.binning.specs.Keys.{key, rising}
use Rattle.binning.specs.Members.{bitmaps_of}
use Rattle.binning.specs.declared.rules.Keying.{Keying}
use Rattle.binning.proofs.BinOrderLemmas.{ends_there}
use Rattle.binning.proofs.ColumnLemmas.{length-cells}
use Rattle.binning.proofs.KeyLemmas.{eq_from, eq_self, is_in-rising, kept_of, or_left, or_right}
use Rattle.binning.proofs.TestLemmas.{either}
use Rattle.part_meta.specs.declared.part.PartMeta.{PartMeta}
use Rattle.part_meta.specs.FileNames.{index_name}
use Rattle.world.specs.Cells.{column_cells, is_present, stored_numbers}
use Rattle.world.specs.IndexFiles.{bins_by, bitmaps_by, column_index, edge_of, index_of, keys_by}
use Rattle.world.specs.PartFiles.{part_data}
use Rattle.world.specs.PartFiles as world_
use Rattle.world.specs.Stands.{PartRests, Stands}
use Rattle.world.specs.World.{CanIndex, Content, Partition, World, content_at}
use Rattle.world.proofs.PlaceLemmas.{All-at}
use Rattle.dataset.specs.Found.{dataset_in}
use Rattle.dataset.specs.PartIndexes.{index_at}
use Rattle.dataset.proofs.ColumnLemmas.{has_numbers}
use Rattle.index_build.specs.Index.{AreOfColumn}
use Rattle.index_build.proofs.IndexLemmas.{of_column_index}
use Rattle.ibis.specs.Indexes.{spec_at, spec_said}
use Rattle.ibis.proofs.ListLemmas.{asked_of_width, not_asked}

-- ---- the ends of a bin fit 128 bits

wide : (v : ℤ) → neg_ℤ (pos (2 ^ 63)) ≤ℤ v → v ≤ℤ pos (2 ^ 64 - 1) → FitsSigned w128 v
wide (pos n) low high = record { sfits = omega (arith, ints, high) }
wide (negsuc n) low high = record { sfits = omega (arith, ints, low) }

value_128 : (ty : ColType) (v : ℤ) → ValueFits v ty → FitsSigned w128 v
value_128 Byte v h = wide v (omega (arith, ints, h.0)) (omega (arith, ints, h.1))
value_128 UByte v h = wide v (omega (arith, ints, h.0)) (omega (arith, ints, h.1))
value_128 Short v h = wide v (omega (arith, ints, h.0)) (omega (arith, ints, h.1))
value_128 UShort v h = wide v (omega (arith, ints, h.0)) (omega (arith, ints, h.1))
value_128 Int v h = wide v (omega (arith, ints, h.0)) (omega (arith, ints, h.1))
value_128 UInt v h = wide v (omega (arith, ints, h.0)) (omega (arith, ints, h.1))
value_128 Long v h = wide v (omega (arith, ints, h.0)) (omega (arith, ints, h.1))
value_128 ULong v h = wide v (omega (arith, ints, h.0)) (omega (arith, ints, h.1))
value_128 Category v h = wide v (omega (arith, ints, h.0)) (omega (arith, ints, h.1))
value_128 Text v h = wide v (omega (arith, ints, h.0)) (omega (arith, ints, h.1))

values_128 : (ty : ColType) (vs : List ℤ) → AllByRecursion (λ v. ValueFits v ty) vs → AllByRecursion (FitsSigned w128) vs
values_128 ty [] h = tt
values_128 ty (v ∷ vs) h = (value_128 ty v h.0, values_128 ty vs h.1)

-- of numbers of which something is true it is true of those that are there, and of each that is among them
present_all : (P : ℤ → Type 0) (mask : List Bool) (vs : List ℤ) → AllByRecursion P vs → AllByRecursion P (present (cells mask vs))
present_all P [] vs h = tt
present_all P (true ∷ mask) [] h = tt
present_all P (false ∷ mask) [] h = tt
present_all P (true ∷ mask) (v ∷ vs) h = (h.0, present_all P mask vs h.1)
present_all P (false ∷ mask) (v ∷ vs) h = present_all P mask vs h.1

is_of : (P : ℤ → Type 0) (xs : List ℤ) (v : ℤ) → AllByRecursion P xs → is_in v xs ≡ true → P v
is_of P [] v h among = let bad : false ≡ true = among in absurd (cc)
is_of P (x ∷ xs) v h among =
    either (int_eq v x)
    (λ t. subst P (sym (eq_from v x t)) h.0)
    (λ f. is_of P xs v h.1 (sym (or_right (int_eq v x) (is_in v xs) f) ∙ among))

kept_all : (P : ℤ → Type 0) (test : ℤ → Bool) (xs : List ℤ) → AllByRecursion P xs → AllByRecursion P (filter test xs)
kept_all P test [] h = tt
kept_all P test (x ∷ xs) h = either (test x) (λ t. rw t (h.0, kept_all P test xs h.1)) (λ f. rw f (kept_all P test xs h.1))

in_later : (q k : ℤ) (ks : List ℤ) → is_in q ks ≡ true → is_in q (k ∷ ks) ≡ true
in_later q k ks h = either (int_eq q k) (λ t. or_left (int_eq q k) (is_in q ks) t) (λ f. or_right (int_eq q k) (is_in q ks) f ∙ h)

edges_of : (keys : Keying) (column : List (Option ℤ)) (ks : List ℤ) → AllByRecursion (FitsSigned w128) (present column)
    → ((k : ℤ) → is_in k ks ≡ true → is_in k (map (key keys) (present column)) ≡ true)
    → AllByRecursion EdgeFits (map edge_of (map (bin_of keys column) ks))
edges_of keys column [] fit among = tt
edges_of keys column (k ∷ ks) fit among =
    let ends = ends_there keys column k (among k (or_left (int_eq k k) (is_in k ks) (eq_self k))) in
    let all : AllByRecursion (FitsSigned w128) (values_with keys k column) = kept_all (FitsSigned w128) (λ v. int_eq (key keys v) k) (present column) fit in (
      (
        is_of (FitsSigned w128) (values_with keys k column) (bin_of keys column k).least all ends.0,
        is_of (FitsSigned w128) (values_with keys k column) (bin_of keys column k).greatest all ends.1,
      ),
      edges_of keys column ks fit (λ q h. among q (in_later q k ks h)),
    )

edges_fit : (keys : Keying) (column : List (Option ℤ)) → AllByRecursion (FitsSigned w128) (present column)
    → AllByRecursion EdgeFits (map edge_of (bins_of keys column))
edges_fit keys column fit =
    let found = map (key keys) (present column) in
    edges_of keys column (rising found) fit (λ k h. sym (is_in-rising k found) ∙ h)

-- ---- what is written of rows opens

module _ (spec : Spec) (mask : List Bool) (numbers : List ℤ) where
  are_bins : IsGiven spec → length mask ≡ length numbers → AreOfColumn (length mask) (bins_by spec mask numbers)
  are_bins given same = record {
    keys = keys_by spec mask numbers;
    column = cells mask numbers;
    kept = kept_of spec.binning (present (cells mask numbers)) given.0;
    long = length-cells mask numbers same;
    are = refl;
  }

  pub rows_open : IsGiven spec → length mask ≡ length numbers → length mask ≤ 4194304
      → IsSome (Rattle.index_spec.specs.Counts.bitmap_count spec.encoding (length (bins_by spec mask numbers)))
      → AllByRecursion (FitsSigned w128) numbers
      → head_in (length mask) (index_of spec mask numbers) ≡ Ok (record {
        spec = spec;
        bins = map edge_of (bins_by spec mask numbers);
        places = places_of spec (map edge_of (bins_by spec mask numbers)) (bitmaps_by spec mask numbers);
      })
  unfolding index_of
  rows_open given same few some fit =
      let is : IsIndex (length mask) spec (map edge_of (bins_by spec mask numbers)) (bitmaps_by spec mask numbers) =
      of_column_index (length mask) (bins_by spec mask numbers) (are_bins given same) spec (map edge_of (bins_by spec mask numbers)) (bitmaps_by spec mask numbers)
      given few some refl refl in
      index_again (length mask) spec (map edge_of (bins_by spec mask numbers)) (bitmaps_by spec mask numbers) is few
      (edges_fit (keys_by spec mask numbers) (cells mask numbers) (present_all (FitsSigned w128) mask numbers fit))

-- ---- in a world

module _ (m : Files) (world : World) (dir : List ℕ) (stands : Stands m world) (content : Content) (at : content_at world dir ≡ Some content)
    (place : ℕ) (p : Partition) (listed : slice_get content.parts place ≡ Some p) (col : ℕ) (column : Column) (in_schema : slice_get content.schema col ≡ Some column) where
  file_is : file_at m (index_name dir p.number column.name) ≡ world_.index_in p col column
  file_is = (All-at (PartRests m dir content.schema) content.parts place p listed (stands.rests dir content at).parts).indexes col column in_schema

  abbrev numbers : List ℤ
  numbers = stored_numbers column.ty (column_cells col p.records)

  abbrev mask : List Bool
  mask = map is_present (column_cells col p.records)

  rows_are : length mask ≡ length p.records
  rows_are = length-map (column_cells col p.records) is_present ∙ length-map p.records _

  can : (spec : Spec) → get p.specs col ≡ Some spec → CanIndex content.schema p.records col spec
  can spec is = (All-at (Rattle.world.specs.World.IsPartition content.schema) content.parts place p listed (stands.valid dir content at).parts).indexed col spec is

  same_column : (spec : Spec) (is : get p.specs col ≡ Some spec) → (can spec is).column ≡ column
  same_column spec is = let both : Some (can spec is).column ≡ Some column = sym (can spec is).in_schema ∙ in_schema in cc

  opens_with : (spec : Spec) → get p.specs col ≡ Some spec
      → spec_said (index_in (length p.records) (Some (column_index spec column.ty (column_cells col p.records)))) ≡ Ok (Some spec)
  opens_with spec is =
      let h = can spec is in
      let wide : IsSome (width_of column.ty) = subst (λ (c : Column). IsSome (width_of c.ty)) (same_column spec is) h.width in
      let some : Rattle.world.specs.IndexFiles.HasBitmaps spec column.ty (column_cells col p.records) =
      subst (λ (c : Column). Rattle.world.specs.IndexFiles.HasBitmaps spec c.ty (column_cells col p.records)) (same_column spec is) h.bitmaps in
      let has = has_numbers m world dir p col column stands (record { content = content; there = at; place = place; listed = listed; in_schema = in_schema }) wide in
      let few = (All-at (Rattle.world.specs.World.IsPartition content.schema) content.parts place p listed (stands.valid dir content at).parts).few in
      let long : length mask ≡ length numbers = length-map (column_cells col p.records) is_present ∙ sym has.each_row in
      let limit : length mask ≤ 4194304 = omega (arith, rows_are, few) in
      let opened = rows_open spec mask numbers h.given long limit some (values_128 column.ty numbers (recursion_from_All (λ v. ValueFits v column.ty) numbers has.fit)) in
      ap (λ n. spec_said (index_in n (Some (column_index spec column.ty (column_cells col p.records))))) (sym rows_are)
      ∙ ap (λ r. spec_said (Rattle.index_file.specs.Opening.some_head r)) opened

  said_by : (o : Option Spec) → get p.specs col ≡ o
      → spec_said (index_at m (dataset_in dir content) (part_data content.schema p) column) ≡ Ok o
  said_by None is =
      let none : file_at m (index_name dir p.number column.name) ≡ None =
      file_is ∙ ap (Rattle.std.specs.Prelude.option_map (λ spec. column_index spec column.ty (column_cells col p.records))) is in
      ap (λ (f : Option (List ℕ)). spec_said (index_in (length p.records) f)) none
  said_by (Some spec) is =
      let there : file_at m (index_name dir p.number column.name) ≡ Some (column_index spec column.ty (column_cells col p.records)) =
      file_is ∙ ap (Rattle.std.specs.Prelude.option_map (λ spec. column_index spec column.ty (column_cells col p.records))) is in
      ap (λ (f : Option (List ℕ)). spec_said (index_in (length p.records) f)) there ∙ opens_with spec is

  none_of_text : (o : Option Spec) → get p.specs col ≡ o → is_some (width_of column.ty) ≡ false → o ≡ None
  none_of_text None is w = refl
  none_of_text (Some spec) is w =
      let wide : IsSome (width_of column.ty) = subst (λ (c : Column). IsSome (width_of c.ty)) (same_column spec is) (can spec is).width in
      let bad : true ≡ false = sym wide ∙ w in absurd (cc)

  spec_by : (b : Bool) → is_some (width_of column.ty) ≡ b → spec_at m (dataset_in dir content) (part_data content.schema p) column ≡ Ok (get p.specs col)
  spec_by true w =
      asked_of_width (Some m) (dataset_in dir content) (part_data content.schema p) column m w ∙ said_by (get p.specs col) refl
  spec_by false w =
      not_asked (Some m) (dataset_in dir content) (part_data content.schema p) column m w ∙ ap Ok (sym (none_of_text (get p.specs col) refl w))

  -- a column is indexed by its files as it is in the world
  pub spec_in_world : spec_at m (dataset_in dir content) (part_data content.schema p) column ≡ Ok (get p.specs col)
  spec_in_world = spec_by (is_some (width_of column.ty)) refl
