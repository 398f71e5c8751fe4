-- The indexes of columns that were built are there, and stay when others are built.
use Rattle.std.proofs.Common.{◌≡◌, ◌≢◌, ◌⊎◌, inl, inr, ◌+◌, ◌<◌, nat_lt, ℕ, ℤ, zero, suc, Bool, true, false, List, [], ◌∷◌, ◌++◌, length, map, take, Option, Some, None, IfSome, option_map, is_some, refl, sym, ap, subst, ◌∙◌, arith}
use Rattle.std.specs.FinMap.{insert}
use Rattle.std.specs.List.{AllPairs, slice_get}
use Rattle.std.specs.Prelude.{Result, Ok, Err}
use Rattle.std.proofs.lemmas.Bool.Decides.{nat_tests}
use Rattle.std.proofs.lemmas.Option.{slice_get-map}
use Rattle.fb_outside.specs.Files.{ChangesAmong, Files, file_at, told_at}
use Rattle.fb_outside.proofs.FileLemmas.{ChangesAmong-weaken, file_at-insert_same}
use Rattle.fb_types.specs.declared.schemas.Column.{Column}
use Rattle.fb_types.specs.Names.{IsColumnName}
use Rattle.part_meta.specs.declared.names.FileKind.TheVariants as file
use Rattle.part_meta.specs.declared.part.PartMeta.{PartMeta}
use Rattle.part_meta.specs.FileNames.{index_name}
use Rattle.part_meta.proofs.FileNameLemmas.{same_file}
use Rattle.world.specs.IndexFiles.{index_of}
use Rattle.world.proofs.MapLemmas.{same_or_apart}
use Rattle.world.proofs.PlaceLemmas.{AllPairs-at, same_place}
use Rattle.dataset.specs.Damage.{Damage, IsDamagedAt}
use Rattle.dataset.specs.Opened.{IsDataset}
use Rattle.dataset.specs.declared.content.Dataset.{Dataset}
use Rattle.index_build.specs.Build.{AnswersOver, HasRows, LeavesIndex, StopsIn as BuildStops, TellsDamage, bin_count}
use Rattle.index_build.specs.declared.fault.BuildFault.{BuildFault}
use Rattle.index_build.specs.declared.fault.BuildFault.TheVariants as build
use Rattle.index_build.specs.declared.writing.Built.{Built}
use Rattle.statuses.specs.declared.LimitKind.TheVariants.{Bins}
use Rattle.statuses.specs.declared.Status.TheVariants.{Limit}
use Rattle.index_spec.specs.declared.spec.Spec.{Spec}
use Rattle.ibis_build.specs.Causes.{AreSound, Damages, HasPartIndexes, HasTooMany, IsAmong, IsIndexName, IsPartIndex, IsSound, Passes, StopsIn, stop_of_build}
use Rattle.ibis_build.proofs.BuildLemmas.{take-at}
use Rattle.ibis_build.proofs.FileLemmas.{column-called, damage-stays, name-listed, part-low, rows-stay}

-- a put leaves its bytes
pub put-there : (old new : Option Files) (m : Files) (name bytes : List ℕ) → old ≡ Some m → new ≡ option_map (λ files. insert files name bytes) old
    → told_at new name ≡ Some bytes
put-there old new m name bytes told put =
    ap (λ (o : Option Files). told_at o name) (put ∙ ap (option_map (λ (files : Files). insert files name bytes)) told) ∙ file_at-insert_same m name bytes

pub told-files : (old new : Option Files) (m : Files) → is_some new ≡ is_some old → old ≡ Some m → (m' : Files) × (new ≡ Some m')
told-files old None m same told = let bad : false ≡ true = same ∙ ap is_some told in absurd (cc)
told-files old (Some m') m same told = (m', refl)

-- ---- one column more

pushed-at : (xs : List ℕ) (x : ℕ) (place y : ℕ) → slice_get (xs ++ x ∷ []) place ≡ Some y → (slice_get xs place ≡ Some y) ⊎ (y ≡ x)
pushed-at [] x zero y e = let same : x ≡ y = cc in inr (sym same)
pushed-at [] x (suc place) y e = absurd (cc)
pushed-at (z ∷ xs) x zero y e = inl e
pushed-at (z ∷ xs) x (suc place) y e = pushed-at xs x place y e

single : (x n y : ℕ) → slice_get (x ∷ []) n ≡ Some y → x ≡ y
single x zero y e = cc
single x (suc n) y e = absurd (cc)

-- columns of one name are one
same-column : (dataset : Dataset) → IsDataset dataset → (i j : ℕ) (a b : Column) → slice_get dataset.schema i ≡ Some a → slice_get dataset.schema j ≡ Some b
    → a.name ≡ b.name → a ≡ b
same-column dataset valid i j a b first second e =
    let same : i ≡ j =
    same_place i j
    (λ before. AllPairs-at (λ (x y : Column). x.name ≢ y.name) dataset.schema i j a b first second before valid.catalog.schema.distinct e)
    (λ before. AllPairs-at (λ (x y : Column). x.name ≢ y.name) dataset.schema j i b a second first before valid.catalog.schema.distinct (sym e)) in
    let both : Some a ≡ Some b = sym first ∙ ap (slice_get dataset.schema) same ∙ second in
    cc

module _ (dataset : Dataset) (valid : IsDataset dataset) (at : ℕ) (part : PartMeta) (listed : slice_get dataset.parts at ≡ Some part) where
  -- an index of a column of another name isn't touched
  index-apart : (cols : List ℕ) (column : Column) (i : ℕ) → slice_get dataset.schema i ≡ Some column
      → ((other : Column) → IsAmong dataset.schema cols other → column.name ≢ other.name)
      → IsPartIndex dataset part cols (index_name dataset.dir part.number column.name) → ⊥
  index-apart cols column i there apart h =
      let named : Some column.name ≡ Some h.column.name =
      (same_file dataset.dir dataset.dir part.number part.number (Some column.name) (Some h.column.name) file.Index file.Index
      (part-low dataset valid cols at part listed) (part-low dataset valid cols at part listed) (column-called dataset valid cols i column there)
      (column-called dataset valid cols h.among.col h.column h.among.in_schema) h.is).2 in
      apart h.column h.among cc

  module _ (spec : Spec) (cols : List ℕ) (k col : ℕ) (old mid new : Option Files) (there : slice_get cols k ≡ Some col)
      (first : ChangesAmong (IsPartIndex dataset part cols) old mid) (second : ChangesAmong (IsPartIndex dataset part (col ∷ [])) mid new)
      (before : HasPartIndexes old dataset part (record { spec = spec; cols = take k cols }) mid)
      (one : HasPartIndexes mid dataset part (record { spec = spec; cols = col ∷ [] }) new) where
    built : (m m' : Files) (column : Column) (mask : List Bool) (numbers : List ℤ) → old ≡ Some m → mid ≡ Some m' → IsAmong dataset.schema (col ∷ []) column
        → HasRows m dataset.dir part column mask numbers
        → told_at new (index_name dataset.dir part.number column.name) ≡ Some (index_of spec mask numbers)
    built m m' column mask numbers told told' among has =
        one m' column mask numbers told' among
        (rows-stay dataset valid cols m m'
        (subst (λ (o : Option Files). ChangesAmong (IsIndexName dataset cols) (Some m) o) told'
        (subst (λ (o : Option Files). ChangesAmong (IsIndexName dataset cols) o mid) told
        (ChangesAmong-weaken old mid (λ q h. name-listed dataset cols at part q listed h) first)))
        part column mask numbers (part-low dataset valid cols at part listed)
        (column-called dataset valid cols among.col column among.in_schema) has)

    pub indexes-more : HasPartIndexes old dataset part (record { spec = spec; cols = take (k + 1) cols }) new
    indexes-more m column mask numbers told among has =
        by (pushed-at (take k cols) col among.place among.col
        (ap (λ (cs : List ℕ). slice_get cs among.place) (sym (take-at cols k col there)) ∙ among.asked))
      where
        m' : (n : Files) × (mid ≡ Some n)
        m' = told-files old mid m first.told told

        only : (other : Column) → IsAmong dataset.schema (col ∷ []) other → slice_get dataset.schema col ≡ Some other
        only other h = ap (slice_get dataset.schema) (single col h.place h.col h.asked) ∙ h.in_schema

        last : slice_get dataset.schema col ≡ Some column
            → told_at new (index_name dataset.dir part.number column.name) ≡ Some (index_of spec mask numbers)
        last here = built m m'.0 column mask numbers told m'.1 (record { place = 0; col = col; asked = refl; in_schema = here }) has

        by : (slice_get (take k cols) among.place ≡ Some among.col) ⊎ (among.col ≡ col)
            → told_at new (index_name dataset.dir part.number column.name) ≡ Some (index_of spec mask numbers)
        by (inr same) = last (ap (slice_get dataset.schema) (sym same) ∙ among.in_schema)
        by (inl earlier) = choose (slice_get dataset.schema col) refl
          where
            stay : ((other : Column) → IsAmong dataset.schema (col ∷ []) other → column.name ≢ other.name)
                → told_at new (index_name dataset.dir part.number column.name) ≡ Some (index_of spec mask numbers)
            stay apart =
                second.others (index_name dataset.dir part.number column.name) (index-apart (col ∷ []) column among.col among.in_schema apart)
                ∙ before m column mask numbers told (record { place = among.place; col = among.col; asked = earlier; in_schema = among.in_schema }) has

            pick : (other : Column) → slice_get dataset.schema col ≡ Some other → (column.name ≡ other.name) ⊎ (column.name ≢ other.name)
                → told_at new (index_name dataset.dir part.number column.name) ≡ Some (index_of spec mask numbers)
            pick other e (inl same) =
                let is : other ≡ column = same-column dataset valid col among.col other column e among.in_schema (sym same) in
                last (e ∙ ap Some is)
            pick other e (inr apart) =
                stay (λ x h. let both : Some other ≡ Some x = sym e ∙ only x h in let is : other ≡ x = cc in
                λ same. apart (same ∙ ap (λ (c : Column). c.name) (sym is)))

            choose : (o : Option Column) → slice_get dataset.schema col ≡ o
                → told_at new (index_name dataset.dir part.number column.name) ≡ Some (index_of spec mask numbers)
            choose None e = stay (λ x h. let bad : None ≡ Some x = sym e ∙ only x h in absurd (cc))
            choose (Some other) e = pick other e (same_or_apart column.name other.name)

-- ---- one part more

-- parts of one number are at one place
part-place : (dataset : Dataset) → IsDataset dataset → (i j : ℕ) (a b : PartMeta) → slice_get dataset.parts i ≡ Some a → slice_get dataset.parts j ≡ Some b
    → a.number ≡ b.number → i ≡ j
part-place dataset valid i j a b first second e =
    let number = λ (p : PartMeta). p.number in
    let low : slice_get (map number dataset.parts) i ≡ Some a.number = slice_get-map number dataset.parts i ∙ ap (option_map number) first in
    let high : slice_get (map number dataset.parts) j ≡ Some b.number = slice_get-map number dataset.parts j ∙ ap (option_map number) second in
    same_place i j
    (λ before.
    let less : a.number < b.number = AllPairs-at (λ (m n : ℕ). m < n) (map number dataset.parts) i j a.number b.number low high before valid.catalog.rising in
    omega (arith, less, e))
    (λ before.
    let less : b.number < a.number = AllPairs-at (λ (m n : ℕ). m < n) (map number dataset.parts) j i b.number a.number high low before valid.catalog.rising in
    omega (arith, less, e))

module _ (dataset : Dataset) (valid : IsDataset dataset) (spec : Spec) (cols : List ℕ) (k : ℕ) (part : PartMeta) (old mid new : Option Files)
    (listed : slice_get dataset.parts k ≡ Some part) (first : ChangesAmong (IsIndexName dataset cols) old mid)
    (second : ChangesAmong (IsPartIndex dataset part cols) mid new)
    (before : (place : ℕ) (p : PartMeta) → place < k → slice_get dataset.parts place ≡ Some p
    → HasPartIndexes old dataset p (record { spec = spec; cols = cols }) mid)
    (one : HasPartIndexes mid dataset part (record { spec = spec; cols = cols }) new) where
  -- the part that was built last
  here : HasPartIndexes old dataset part (record { spec = spec; cols = cols }) new
  here m column mask numbers told among has =
      let m' = told-files old mid m first.told told in
      one m'.0 column mask numbers m'.1 among
      (rows-stay dataset valid cols m m'.0
      (subst (λ (o : Option Files). ChangesAmong (IsIndexName dataset cols) (Some m) o) m'.1
      (subst (λ (o : Option Files). ChangesAmong (IsIndexName dataset cols) o mid) told first))
      part column mask numbers (part-low dataset valid cols k part listed) (column-called dataset valid cols among.col column among.in_schema) has)

  earlier : (place : ℕ) (p : PartMeta) → place < k → slice_get dataset.parts place ≡ Some p
      → HasPartIndexes old dataset p (record { spec = spec; cols = cols }) new
  earlier place p less at m column mask numbers told among has =
      second.others (index_name dataset.dir p.number column.name)
      (λ h.
      let number : p.number ≡ part.number =
      (same_file dataset.dir dataset.dir p.number part.number (Some column.name) (Some h.column.name) file.Index file.Index
      (part-low dataset valid cols place p at) (part-low dataset valid cols k part listed)
      (column-called dataset valid cols among.col column among.in_schema) (column-called dataset valid cols h.among.col h.column h.among.in_schema) h.is).1 in
      let same = part-place dataset valid place k p part at listed number in
      omega (arith, same, less))
      ∙ before place p less at m column mask numbers told among has

  pub parts-more : (place : ℕ) (p : PartMeta) → place < k + 1 → slice_get dataset.parts place ≡ Some p
      → HasPartIndexes old dataset p (record { spec = spec; cols = cols }) new
  parts-more place p less at = by (nat_lt place k) refl
    where
      by : (b : Bool) → nat_lt place k ≡ b → HasPartIndexes old dataset p (record { spec = spec; cols = cols }) new
      by true e = earlier place p (grind (arith, nat_tests)) at
      by false e =
          let same : place ≡ k = grind (arith, nat_tests) in
          let both : Some part ≡ Some p = sym listed ∙ ap (slice_get dataset.parts) (sym same) ∙ at in
          let is : part ≡ p = cc in
          subst (λ (q : PartMeta). HasPartIndexes old dataset q (record { spec = spec; cols = cols }) new) is here

-- ---- files that aren't damaged

module _ (dataset : Dataset) (valid : IsDataset dataset) (at : ℕ) (part : PartMeta) (listed : slice_get dataset.parts at ≡ Some part) (cols : List ℕ) where
  -- what isn't damaged once some indexes are built wasn't before
  sound-was : (old mid : Option Files) (asked : List ℕ) → ChangesAmong (IsIndexName dataset cols) old mid → AreSound mid dataset part asked
      → AreSound old dataset part asked
  sound-was old mid asked first one m column told among damage d =
      let m' = told-files old mid m first.told told in
      one m'.0 column m'.1 among damage
      (damage-stays dataset valid cols m m'.0
      (subst (λ (o : Option Files). ChangesAmong (IsIndexName dataset cols) (Some m) o) m'.1
      (subst (λ (o : Option Files). ChangesAmong (IsIndexName dataset cols) o mid) told first))
      part column damage (part-low dataset valid cols at part listed) (column-called dataset valid cols among.col column among.in_schema) d)

  -- one column more
  pub sound-more : (k col : ℕ) (old mid : Option Files) → slice_get cols k ≡ Some col → ChangesAmong (IsPartIndex dataset part cols) old mid
      → AreSound old dataset part (take k cols) → AreSound mid dataset part (col ∷ []) → AreSound old dataset part (take (k + 1) cols)
  sound-more k col old mid there first before one m column told among =
      by (pushed-at (take k cols) col among.place among.col
      (ap (λ (cs : List ℕ). slice_get cs among.place) (sym (take-at cols k col there)) ∙ among.asked))
    where
      by : (slice_get (take k cols) among.place ≡ Some among.col) ⊎ (among.col ≡ col) → IsSound m dataset part column
      by (inl earlier) = before m column told (record { place = among.place; col = among.col; asked = earlier; in_schema = among.in_schema })
      by (inr same) =
          sound-was old mid (col ∷ []) (ChangesAmong-weaken old mid (λ q h. name-listed dataset cols at part q listed h) first) one m column told
          (record { place = 0; col = col; asked = refl; in_schema = ap (slice_get dataset.schema) (sym same) ∙ among.in_schema })

-- one part more
pub sound-parts : (dataset : Dataset) (valid : IsDataset dataset) (cols : List ℕ) (k : ℕ) (part : PartMeta) (old mid : Option Files)
    → slice_get dataset.parts k ≡ Some part → ChangesAmong (IsIndexName dataset cols) old mid
    → ((place : ℕ) (p : PartMeta) → place < k → slice_get dataset.parts place ≡ Some p → AreSound old dataset p cols)
    → AreSound mid dataset part cols
    → (place : ℕ) (p : PartMeta) → place < k + 1 → slice_get dataset.parts place ≡ Some p → AreSound old dataset p cols
sound-parts dataset valid cols k part old mid listed first before one place p less at = by (nat_lt place k) refl
  where
    by : (b : Bool) → nat_lt place k ≡ b → AreSound old dataset p cols
    by true e = before place p (grind (arith, nat_tests)) at
    by false e =
        let same : place ≡ k = grind (arith, nat_tests) in
        let both : Some part ≡ Some p = sym listed ∙ ap (slice_get dataset.parts) (sym same) ∙ at in
        let is : part ≡ p = cc in
        subst (λ (q : PartMeta). AreSound old dataset q cols) is (sound-was dataset valid k part listed cols old mid cols first one)

-- ---- one build

module _ (dataset : Dataset) (at : ℕ) (part : PartMeta) (listed : slice_get dataset.parts at ≡ Some part) (col : ℕ) (column : Column)
    (there : slice_get dataset.schema col ≡ Some column) (old : Option Files) where
  pub among-it : IsAmong dataset.schema (col ∷ []) column
  among-it = record { place = 0; col = col; asked = refl; in_schema = there }

  pub put-one : (spec : Spec) (made : Built) (new : Option Files)
      → ((m : Files) (mask : List Bool) (numbers : List ℤ) → old ≡ Some m → HasRows m dataset.dir part column mask numbers
      → LeavesIndex spec.encoding (bin_count spec mask numbers) (index_name dataset.dir part.number column.name) (index_of spec mask numbers) (Ok made) old new)
      → HasPartIndexes old dataset part (record { spec = spec; cols = col ∷ [] }) new
  put-one spec made new leaves m other mask numbers told among has =
      let place : col ≡ among.col = single col among.place among.col among.asked in
      let both : Some column ≡ Some other = sym there ∙ ap (slice_get dataset.schema) place ∙ among.in_schema in
      let is : other ≡ column = cc in
      let rows : HasRows m dataset.dir part column mask numbers = subst (λ (c : Column). HasRows m dataset.dir part c mask numbers) is has in
      ap (λ (c : Column). told_at new (index_name dataset.dir part.number c.name)) is
      ∙ put-there old new m (index_name dataset.dir part.number column.name) (index_of spec mask numbers) told (leaves m mask numbers told rows).0

  -- what is done has no damaged file
  pub sound-one : (made : Built) → ((m : Files) (damage : Damage) → old ≡ Some m → IsDamagedAt m dataset.dir part column damage → TellsDamage damage (Ok made))
      → AreSound old dataset part (col ∷ [])
  sound-one made tells m other told among damage d =
      let place : col ≡ among.col = single col among.place among.col among.asked in
      let both : Some column ≡ Some other = sym there ∙ ap (slice_get dataset.schema) place ∙ among.in_schema in
      let is : other ≡ column = cc in
      tells m damage told (subst (λ (c : Column). IsDamagedAt m dataset.dir part c damage) is d)

  too-many : (spec : Spec) (bins limit : ℕ) (o : Option Files)
      → ((m : Files) (damage : Damage) → o ≡ Some m → IsDamagedAt m dataset.dir part column damage
      → TellsDamage damage (Err (build.TooManyBins bins limit)))
      → ((m : Files) (mask : List Bool) (numbers : List ℤ) → o ≡ Some m → HasRows m dataset.dir part column mask numbers
      → AnswersOver spec.encoding (bin_count spec mask numbers) (Err (build.TooManyBins bins limit)))
      → IfSome o (λ m. HasTooMany m dataset part column spec bins)
  too-many spec bins limit None d f = tt
  too-many spec bins limit (Some m) d f = (λ damage h. d m damage refl h, λ mask numbers has. let a = f m mask numbers refl has in (a.0, a.1))

  pub stop-built : (spec : Spec) (fault : BuildFault) → BuildStops old dataset column.name fault
      → ((m : Files) (damage : Damage) → old ≡ Some m → IsDamagedAt m dataset.dir part column damage → TellsDamage damage (Err fault))
      → ((m : Files) (mask : List Bool) (numbers : List ℤ) → old ≡ Some m → HasRows m dataset.dir part column mask numbers
      → AnswersOver spec.encoding (bin_count spec mask numbers) (Err fault))
      → StopsIn old dataset (record { spec = spec; cols = col ∷ [] }) (stop_of_build fault)
  stop-built spec (build.Damaged file kind want have) h d f =
      Damages column (record { file = file; kind = kind; want = want; have = have }) among-it h refl
  stop-built spec (build.TooManyBins bins limit) h d f =
      Passes at part column bins listed among-it (too-many spec bins limit old d f) (ap (λ (n : ℕ). Limit Bins bins n) h.0)
  stop-built spec build.Store h d f = tt
  stop-built spec build.OutOfMemory h d f = tt
