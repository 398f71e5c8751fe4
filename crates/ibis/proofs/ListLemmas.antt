-- The lines of a listing, one after another, and what stops it.
use Rattle.std.proofs.Common.{inl, inr, ◌≡◌, ◌+◌, ◌<◌, ◌≤◌, ℕ, zero, suc, Bool, true, false, List, [], ◌∷◌, ◌++◌, length, get_or, take, map, Option, Some, None, IfSome, IsSome, is_some, Result, Ok, Err, refl, sym, ap, subst, ◌∙◌, arith, append_assoc, append-nil}
use Rattle.std.specs.List.{AllByRecursion, flat_map, slice_get}
use Rattle.std.specs.Prelude.{OnOk}
use Rattle.std.proofs.lemmas.List.{map-append, take_all}
use Rattle.std.proofs.lemmas.Grind.{flat_map-append}
use Rattle.std.proofs.lemmas.Option.{slice_get_read}
use Rattle.fb_outside.specs.Files.{Files}
use Rattle.fb_outside.specs.Names.{IsPath}
use Rattle.fb_outside.specs.Reads.{AddsOnly, Look}
use Rattle.fb_outside.proofs.ReadLemmas.{AddsOnly-trans, AddsOnly-weaken}
use Rattle.fb_types.specs.declared.schemas.Column.{Column}
use Rattle.fb_types.specs.Types.{width_of}
use Rattle.index_spec.specs.declared.spec.Spec.{Spec}
use Rattle.index_file.specs.Opening.{Head, IsHeadLook, opened_index}
use Rattle.index_file.specs.declared.fault.IndexFault.{IndexFault}
use Rattle.index_file.specs.declared.head.IndexHead.{IndexHead}
use Rattle.part_meta.specs.declared.part.PartMeta.{PartMeta}
use Rattle.dataset.specs.Damage.{Damage}
use Rattle.dataset.specs.Found.{IsFound, There}
use Rattle.dataset.specs.Opened.{IsTextLook}
use Rattle.dataset.specs.PartColumns.{IfDamaged}
use Rattle.dataset.specs.PartIndexes.{IsOfIndex, OpensIndex, index_at, index_file}
use Rattle.dataset.specs.declared.content.Dataset.{Dataset}
use Rattle.dataset.specs.declared.fault.PartFault.{PartFault}
use Rattle.dataset.specs.declared.fault.PartFault.TheVariants as part_
use Rattle.statuses.specs.declared.stop.Unanswered.{Unanswered}
use Rattle.statuses.specs.declared.stop.Unanswered.TheVariants.{Refused, StoreFault, OutOfMemory}
use Rattle.ibis.specs.Indexes.{AreIndexes, AreSound, Indexed, IsDamaged, IsFirstDamaged, IsFirstOfPart, spec_at, spec_said}
use Rattle.ibis.specs.Listing.{AreListed, IsListed, ListedPart, column_line, index_line, line_by, listing, part_line, part_lines, schema_line}
use Rattle.ibis.specs.ListSteps.{DatasetGives, IndexGives, PartGives, Refuses, stop_of_part}
use Rattle.ibis.specs.Looks.{IsIndexLook, IsListLook, IsPartIndexLook}

all_joined : {X : Type 0} (P : X → Type 0) (xs ys : List X) → AllByRecursion P xs → AllByRecursion P ys → AllByRecursion P (xs ++ ys)
all_joined P [] ys h k = k
all_joined P (x ∷ xs) ys h k = (h.0, all_joined P xs ys h.1 k)

some_same : {X : Type 0} {x y : X} → Some x ≡ Some y → x ≡ y
some_same e = cc

take_more : {X : Type 0} (xs : List X) (k : ℕ) (x : X) → slice_get xs k ≡ Some x → take (suc k) xs ≡ take k xs ++ x ∷ []
take_more [] k x e = absurd (cc)
take_more (y ∷ xs) zero x e = let same : y ≡ x = some_same e in ap (λ z. z ∷ []) same
take_more (y ∷ xs) (suc k) x e = ap (λ rest. y ∷ rest) (take_more xs k x e)

-- an item of a slice, where the slice is of that list
pub item_at : {X : Type 0} (xs items : List X) (k : ℕ) (x : X) → items ≡ xs → k < length items → x ≡ get_or items k x → slice_get xs k ≡ Some x
item_at {X} xs items k x same less is = subst (λ (ys : List X). slice_get ys k ≡ Some x) same (slice_get_read items (length items) k x refl less is)

pub take_next : {X : Type 0} (xs : List X) (k : ℕ) (x : X) → slice_get xs k ≡ Some x → take (k + 1) xs ≡ take k xs ++ x ∷ []
take_next xs k x e = let one : k + 1 ≡ suc k = omega arith in ap (λ n. take n xs) one ∙ take_more xs k x e

-- ---- one column

module _ (files : Option Files) (dataset : Dataset) (part : PartMeta) (column : Column) where
  -- what is asked of a column that can have an index
  asked_by : (m : Files) (b : Bool) → is_some (width_of column.ty) ≡ b → b ≡ true → spec_at m dataset part column ≡ spec_said (index_at m dataset part column)
  asked_by m true e h = rw e refl
  asked_by m false e h = absurd (cc)

  said_by : (m : Files) (b : Bool) → is_some (width_of column.ty) ≡ b → b ≡ false → spec_at m dataset part column ≡ Ok None
  said_by m true e h = absurd (cc)
  said_by m false e h = rw e refl

  pub asked_of_width : (m : Files) → is_some (width_of column.ty) ≡ true → spec_at m dataset part column ≡ spec_said (index_at m dataset part column)
  asked_of_width m w = asked_by m (is_some (width_of column.ty)) refl w

  pub not_asked : (m : Files) → is_some (width_of column.ty) ≡ false → spec_at m dataset part column ≡ Ok None
  not_asked m w = said_by m (is_some (width_of column.ty)) refl w

  when_told : (P Q : Files → Type 0) → ((m : Files) → P m → Q m) → (f : Option Files) → IfSome f P → IfSome f Q
  when_told P Q more None h = tt
  when_told P Q more (Some m) h = more m h

  always_told : (Q : Files → Type 0) → ((m : Files) → Q m) → (f : Option Files) → IfSome f Q
  always_told Q all None = tt
  always_told Q all (Some m) = all m

  pub text_gives : (text : List ℕ) → is_some (width_of column.ty) ≡ false → IndexGives files dataset part column text text (Ok tt)
  text_gives text w =
      (None, always_told (λ m. spec_at m dataset part column ≡ Ok None) (λ m. not_asked m w) files, sym (append-nil text))

  pub line_gives : (head : IndexHead) (old new : List ℕ) → is_some (width_of column.ty) ≡ true
      → IfSome files (λ m. OpensIndex m dataset part column (Ok (Some head))) → new ≡ old ++ index_line column.name head.spec
      → IndexGives files dataset part column old new (Ok tt)
  line_gives head old new w opens e = (
    Some head.spec,
    when_told (λ m. OpensIndex m dataset part column (Ok (Some head))) (λ m. spec_at m dataset part column ≡ Ok (Some head.spec))
        (λ m h. asked_of_width m w ∙ ap spec_said h) files opens,
    e,
  )

  pub none_gives : (text : List ℕ) → is_some (width_of column.ty) ≡ true
      → IfSome files (λ m. OpensIndex m dataset part column (Ok None)) → IndexGives files dataset part column text text (Ok tt)
  none_gives text w opens = (
    None,
    when_told (λ m. OpensIndex m dataset part column (Ok None)) (λ m. spec_at m dataset part column ≡ Ok None)
        (λ m h. asked_of_width m w ∙ ap spec_said h) files opens,
    sym (append-nil text),
  )

  pub index_stops : (old new : List ℕ) (fault : PartFault) → is_some (width_of column.ty) ≡ true
      → IfSome files (λ m. OpensIndex m dataset part column (Err fault)) → IfDamaged fault (IsOfIndex dataset part column)
      → IndexGives files dataset part column old new (Err (stop_of_part fault))
  index_stops old new (part_.Damaged file kind want have) w opens of =
      (record { file = file; kind = kind; want = want; have = have }, refl, record { width = w; of = of; is = opens })
  index_stops old new part_.Store w opens of = tt
  index_stops old new part_.OutOfMemory w opens of = tt

-- ---- the columns of a part

-- so many of the part's columns were listed behind a text
pub record PartSoFar (files : Option Files) (dataset : Dataset) (part : PartMeta) (k : ℕ) (old new : List ℕ) : Type 0 where
  pub indexed : List Indexed
  pub are : AreIndexes files dataset part (take k dataset.schema) indexed
  pub text : new ≡ old ++ (part_line part ++ flat_map column_line indexed)

module _ (files : Option Files) (dataset : Dataset) (part : PartMeta) where
  pub part_begins : (old new : List ℕ) → new ≡ old ++ part_line part → PartSoFar files dataset part 0 old new
  part_begins old new e = record {
    indexed = [];
    are = record { are = refl; said = none_said files };
    text = e ∙ ap (λ t. old ++ t) (sym (append-nil (part_line part)));
  }
    where
      none_said : (f : Option Files) → IfSome f (λ m. AllByRecursion (λ (i : Indexed). spec_at m dataset part i.column ≡ Ok i.spec) [])
      none_said None = tt
      none_said (Some m) = tt

  more_said : (f : Option Files) (xs : List Indexed) (i : Indexed) → IfSome f (λ m. AllByRecursion (λ (j : Indexed). spec_at m dataset part j.column ≡ Ok j.spec) xs)
      → IfSome f (λ m. spec_at m dataset part i.column ≡ Ok i.spec)
      → IfSome f (λ m. AllByRecursion (λ (j : Indexed). spec_at m dataset part j.column ≡ Ok j.spec) (xs ++ i ∷ []))
  more_said None xs i h k = tt
  more_said (Some m) xs i h k = all_joined (λ (j : Indexed). spec_at m dataset part j.column ≡ Ok j.spec) xs (i ∷ []) h (k, tt)

  one_more : (k : ℕ) (column : Column) (old mid new : List ℕ) → slice_get dataset.schema k ≡ Some column → PartSoFar files dataset part k old mid
      → IndexGives files dataset part column mid new (Ok tt) → PartSoFar files dataset part (k + 1) old new
  one_more k column old mid new there h gives =
      let next : Indexed = record { column = column; spec = gives.0 } in
      let lines : flat_map column_line (h.indexed ++ next ∷ []) ≡ flat_map column_line h.indexed ++ line_by column.name gives.0 =
      flat_map-append column_line h.indexed (next ∷ []) ∙ ap (λ t. flat_map column_line h.indexed ++ t) (append-nil (line_by column.name gives.0)) in
      record {
        indexed = h.indexed ++ next ∷ [];
        are = record {
          are = map-append (λ (i : Indexed). i.column) h.indexed (next ∷ []) ∙ ap (λ cs. cs ++ column ∷ []) h.are.are ∙ sym (take_next dataset.schema k column there);
          said = more_said files h.indexed next h.are.said gives.1;
        };
        text = gives.2 ∙ ap (λ t. t ++ line_by column.name gives.0) h.text
            ∙ append_assoc old (part_line part ++ flat_map column_line h.indexed) (line_by column.name gives.0)
            ∙ ap (λ t. old ++ t) (append_assoc (part_line part) (flat_map column_line h.indexed) (line_by column.name gives.0) ∙ ap (λ t. part_line part ++ t) (sym lines));
      }

  -- the same over files that stayed
  pub column_more : (now : Option Files) (k : ℕ) (column : Column) (old mid new : List ℕ) (result : Result (Unit {0}) Unanswered) → now ≡ files → result ≡ Ok tt
      → slice_get dataset.schema k ≡ Some column → PartSoFar files dataset part k old mid
      → IndexGives now dataset part column mid new result → PartSoFar files dataset part (k + 1) old new
  column_more now k column old mid new result kept done there h gives =
      one_more k column old mid new there h
      (subst (λ (r : Result (Unit {0}) Unanswered). IndexGives files dataset part column mid new r) done
      (subst (λ (f : Option Files). IndexGives f dataset part column mid new result) kept gives))

  pub part_done : (k : ℕ) (old new : List ℕ) → length dataset.schema ≤ k → PartSoFar files dataset part k old new → PartGives files dataset part old new (Ok tt)
  part_done k old new all h =
      (h.indexed, subst (λ (cs : List Column). AreIndexes files dataset part cs h.indexed) (take_all k dataset.schema all) h.are, h.text)

  first_by : (k : ℕ) (column : Column) (old mid : List ℕ) (stop : Unanswered) → slice_get dataset.schema k ≡ Some column → PartSoFar files dataset part k old mid
      → Refuses (IsDamaged files dataset part column) stop → Refuses (IsFirstOfPart files dataset part) stop
  first_by k column old mid (Refused status) there h r =
      (r.0, r.1, record { column = column; col = k; in_schema = there; before = (h.indexed, h.are); damaged = r.2 })
  first_by k column old mid StoreFault there h r = tt
  first_by k column old mid OutOfMemory there h r = tt

  pub column_stops : (now : Option Files) (k : ℕ) (column : Column) (old mid new : List ℕ) (result : Result (Unit {0}) Unanswered) (stop : Unanswered) → now ≡ files
      → result ≡ Err stop → slice_get dataset.schema k ≡ Some column → PartSoFar files dataset part k old mid
      → IndexGives now dataset part column mid new result → PartGives files dataset part old new (Err stop)
  column_stops now k column old mid new result stop kept is there h gives =
      first_by k column old mid stop there h
      (subst (λ (r : Result (Unit {0}) Unanswered). IndexGives files dataset part column mid new r) is
      (subst (λ (f : Option Files). IndexGives f dataset part column mid new result) kept gives))

  -- the reads of one column more
  pub column_looks : (now : Option Files) (k : ℕ) (column : Column) (old mid new : Option (List Look)) → now ≡ files → slice_get dataset.schema k ≡ Some column
      → AddsOnly (IsPartIndexLook files dataset part) old mid → AddsOnly (IsHeadLook now (index_file dataset part column)) mid new
      → AddsOnly (IsPartIndexLook files dataset part) old new
  column_looks now k column old mid new kept there h g =
      AddsOnly-trans (IsPartIndexLook files dataset part) old mid new h
      (AddsOnly-weaken (IsHeadLook now (index_file dataset part column)) (IsPartIndexLook files dataset part) mid new
      (λ look w. record {
        column = column;
        col = k;
        in_schema = there;
        head = subst (λ (f : Option Files). IsHeadLook f (index_file dataset part column) look) kept w;
      }) g)

-- ---- the parts of a dataset

pub record DatasetSoFar (files : Option Files) (dataset : Dataset) (k : ℕ) (text : List ℕ) : Type 0 where
  pub parts : List ListedPart
  pub are : AreListed files dataset (take k dataset.parts) parts
  pub lines : text ≡ schema_line dataset.schema ++ flat_map part_lines parts

module _ (files : Option Files) (dataset : Dataset) where
  pub dataset_begins : (text : List ℕ) → text ≡ schema_line dataset.schema → DatasetSoFar files dataset 0 text
  dataset_begins text e = record {
    parts = [];
    are = record { are = refl; each = tt };
    lines = e ∙ sym (append-nil (schema_line dataset.schema));
  }

  part_next : (k : ℕ) (part : PartMeta) (mid new : List ℕ) → slice_get dataset.parts k ≡ Some part → DatasetSoFar files dataset k mid
      → PartGives files dataset part mid new (Ok tt) → DatasetSoFar files dataset (k + 1) new
  part_next k part mid new there h gives =
      let next : ListedPart = record { part = part; columns = gives.0 } in
      let lines : flat_map part_lines (h.parts ++ next ∷ []) ≡ flat_map part_lines h.parts ++ part_lines next =
      flat_map-append part_lines h.parts (next ∷ []) ∙ ap (λ t. flat_map part_lines h.parts ++ t) (append-nil (part_lines next)) in
      record {
        parts = h.parts ++ next ∷ [];
        are = record {
          are = map-append (λ (l : ListedPart). l.part) h.parts (next ∷ []) ∙ ap (λ ps. ps ++ part ∷ []) h.are.are ∙ sym (take_next dataset.parts k part there);
          each = all_joined (IsListed files dataset) h.parts (next ∷ []) h.are.each (gives.1, tt);
        };
        lines = gives.2 ∙ ap (λ t. t ++ part_lines next) h.lines
            ∙ append_assoc (schema_line dataset.schema) (flat_map part_lines h.parts) (part_lines next) ∙ ap (λ t. schema_line dataset.schema ++ t) (sym lines);
      }

  pub part_more : (now : Option Files) (k : ℕ) (part : PartMeta) (mid new : List ℕ) (result : Result (Unit {0}) Unanswered) → now ≡ files → result ≡ Ok tt
      → slice_get dataset.parts k ≡ Some part → DatasetSoFar files dataset k mid
      → PartGives now dataset part mid new result → DatasetSoFar files dataset (k + 1) new
  part_more now k part mid new result kept done there h gives =
      part_next k part mid new there h
      (subst (λ (r : Result (Unit {0}) Unanswered). PartGives files dataset part mid new r) done
      (subst (λ (f : Option Files). PartGives f dataset part mid new result) kept gives))

  pub dataset_done : (k : ℕ) (text : List ℕ) → length dataset.parts ≤ k → DatasetSoFar files dataset k text → DatasetGives files dataset (Ok text)
  unfolding listing
  dataset_done k text all h =
      (h.parts, subst (λ (ps : List PartMeta). AreListed files dataset ps h.parts) (take_all k dataset.parts all) h.are, h.lines)

  -- none of the parts that are listed has a damaged index
  all_sound : (parts : List PartMeta) (listed : List ListedPart) → map (λ (l : ListedPart). l.part) listed ≡ parts → AllByRecursion (IsListed files dataset) listed
      → AllByRecursion (AreSound files dataset dataset.schema) parts
  all_sound [] listed e h = tt
  all_sound (part ∷ parts) [] e h = absurd (cc)
  all_sound (part ∷ parts) (l ∷ listed) e h =
      let first : l.part ≡ part = cc in
      let rest : map (λ (x : ListedPart). x.part) listed ≡ parts = cc in
      (subst (AreSound files dataset dataset.schema) first (l.columns, h.0), all_sound parts listed rest h.1)

  first_in_parts : (k : ℕ) (part : PartMeta) (mid : List ℕ) (stop : Unanswered) → slice_get dataset.parts k ≡ Some part → DatasetSoFar files dataset k mid
      → Refuses (IsFirstOfPart files dataset part) stop → Refuses (IsFirstDamaged files dataset) stop
  first_in_parts k part mid (Refused status) there h r = (
    r.0,
    r.1,
    record { part = part; place = k; listed = there; before = all_sound (take k dataset.parts) h.parts h.are.are h.are.each; first = r.2 },
  )
  first_in_parts k part mid StoreFault there h r = tt
  first_in_parts k part mid OutOfMemory there h r = tt

  pub part_stops : (now : Option Files) (k : ℕ) (part : PartMeta) (mid new : List ℕ) (result : Result (Unit {0}) Unanswered) (stop : Unanswered) → now ≡ files
      → result ≡ Err stop → slice_get dataset.parts k ≡ Some part → DatasetSoFar files dataset k mid
      → PartGives now dataset part mid new result → DatasetGives files dataset (Err stop)
  part_stops now k part mid new result stop kept is there h gives =
      first_in_parts k part mid stop there h
      (subst (λ (r : Result (Unit {0}) Unanswered). PartGives files dataset part mid new r) is
      (subst (λ (f : Option Files). PartGives f dataset part mid new result) kept gives))

  pub part_looks : (now : Option Files) (k : ℕ) (part : PartMeta) (old mid new : Option (List Look)) → now ≡ files → slice_get dataset.parts k ≡ Some part
      → AddsOnly (IsIndexLook files dataset) old mid → AddsOnly (IsPartIndexLook now dataset part) mid new → AddsOnly (IsIndexLook files dataset) old new
  part_looks now k part old mid new kept there h g =
      AddsOnly-trans (IsIndexLook files dataset) old mid new h
      (AddsOnly-weaken (IsPartIndexLook now dataset part) (IsIndexLook files dataset) mid new
      (λ look w. record {
        part = part;
        place = k;
        listed = there;
        index = subst (λ (f : Option Files). IsPartIndexLook f dataset part look) kept w;
      }) g)
