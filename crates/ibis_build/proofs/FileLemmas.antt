-- Indexes that are put change no other file, so what is wrong with the files of a column stays wrong.
use Rattle.std.proofs.Common.{◌≡◌, ◌≢◌, ◌<◌, ℕ, ℤ, zero, suc, Bool, List, [], ◌∷◌, Option, Some, None, IfSome, is_some, true, false, refl, sym, ap, subst, ◌∙◌}
use Rattle.std.specs.List.{slice_get}
use Rattle.std.specs.Prelude.{Err, Result}
use Rattle.fb_outside.specs.Files.{ChangesAmong, Files, file_at, told_at}
use Rattle.fb_outside.specs.Reads.{Look}
use Rattle.fb_types.specs.declared.schemas.Column.{Column}
use Rattle.fb_types.specs.Names.{IsColumnName}
use Rattle.fb_types.specs.Schemas.{IsSchema}
use Rattle.index_spec.specs.declared.spec.Spec.{Spec}
use Rattle.part_meta.specs.declared.names.FileKind.{FileKind}
use Rattle.part_meta.specs.declared.names.FileKind.TheVariants as file
use Rattle.part_meta.specs.declared.part.PartMeta.{PartMeta}
use Rattle.part_meta.specs.FileNames.{IsCalled, file_name, index_name, mask_name, values_name}
use Rattle.part_meta.proofs.FileNameLemmas.{same_file}
use Rattle.world.proofs.PlaceLemmas.{All-at}
use Rattle.dataset.specs.Damage.{Damage, IsColumnDamaged, IsDamagedAt, words_name}
use Rattle.dataset.specs.Opened.{IsDataset, IsPartOf}
use Rattle.dataset.specs.declared.content.Dataset.{Dataset}
use Rattle.dataset.proofs.DamageLemmas.{damage_kept}
use Rattle.index_build.specs.Build.{HasRows}
use Rattle.statuses.specs.declared.Status.{Status}
use Rattle.statuses.specs.declared.stop.Unanswered.{Unanswered}
use Rattle.statuses.specs.declared.stop.Unanswered.TheVariants.{Refused, StoreFault, OutOfMemory}
use Rattle.ibis_build.specs.Builds.{Asked}
use Rattle.ibis_build.specs.Causes.{Damages, HasPartIndexes, HasTooMany, IsAmong, IsIndexName, IsPartIndex, IsRefused, Passes, StopsIn}
use Rattle.ibis_build.specs.Looks.{IsLookAmong}

module _ (dataset : Dataset) (valid : IsDataset dataset) (cols : List ℕ) where
  pub part-low : (place : ℕ) (part : PartMeta) → slice_get dataset.parts place ≡ Some part → part.number < 4096
  part-low place part listed = (All-at (IsPartOf dataset) dataset.parts place part listed valid.parts).0.number

  pub column-called : (col : ℕ) (column : Column) → slice_get dataset.schema col ≡ Some column → IsColumnName column.name
  column-called col column e = All-at (λ (c : Column). IsColumnName c.name) dataset.schema col column e valid.catalog.schema.named

  -- a file of another kind is no index
  no-index : (number : ℕ) (name : List ℕ) (kind : FileKind) → number < 4096 → IsCalled kind (Some name) → kind ≢ file.Index
      → IsIndexName dataset cols (file_name dataset.dir number (Some name) kind) → ⊥
  no-index number name kind few called other h =
      other (same_file dataset.dir dataset.dir number h.part.number (Some name) (Some h.index.column.name) kind file.Index few
      (part-low h.place h.part h.listed) called (column-called h.index.among.col h.index.column h.index.among.in_schema) h.index.is).3

  module _ (old new : Option Files) (h : ChangesAmong (IsIndexName dataset cols) old new) where
    stays : (number : ℕ) (name : List ℕ) (kind : FileKind) → number < 4096 → IsCalled kind (Some name) → kind ≢ file.Index
        → told_at new (file_name dataset.dir number (Some name) kind) ≡ told_at old (file_name dataset.dir number (Some name) kind)
    stays number name kind few called other = h.others (file_name dataset.dir number (Some name) kind) (no-index number name kind few called other)

  module _ (m m' : Files) (h : ChangesAmong (IsIndexName dataset cols) (Some m) (Some m')) where
    values-stay : (number : ℕ) (name : List ℕ) → number < 4096 → IsColumnName name
        → file_at m' (values_name dataset.dir number name) ≡ file_at m (values_name dataset.dir number name)
    values-stay number name few called = stays (Some m) (Some m') h number name file.Values few called (λ e. cc)

    mask-stays : (number : ℕ) (name : List ℕ) → number < 4096 → IsColumnName name
        → file_at m' (mask_name dataset.dir number name) ≡ file_at m (mask_name dataset.dir number name)
    mask-stays number name few called = stays (Some m) (Some m') h number name file.Mask few called (λ e. cc)

    words-stay : (number : ℕ) (name : List ℕ) → number < 4096 → IsColumnName name
        → file_at m' (words_name dataset.dir number name) ≡ file_at m (words_name dataset.dir number name)
    words-stay number name few called = stays (Some m) (Some m') h number name file.Words few called (λ e. cc)

    damage-was : (name : List ℕ) (damage : Damage) → IsColumnDamaged m' dataset name damage → IsColumnDamaged m dataset name damage
    damage-was name damage d = record {
      part = d.part;
      place = d.place;
      listed = d.listed;
      column = d.column;
      col = d.col;
      in_schema = d.in_schema;
      named = d.named;
      width = d.width;
      first =
          let few = part-low d.place d.part d.listed in
          let called = column-called d.col d.column d.in_schema in
          damage_kept m m' dataset.dir d.part d.column damage (values-stay d.part.number d.column.name few called)
          (mask-stays d.part.number d.column.name few called) (words-stay d.part.number d.column.name few called) d.first;
    }

    -- a damage that was there is there still
    pub damage-stays : (part : PartMeta) (column : Column) (damage : Damage) → part.number < 4096 → IsColumnName column.name
        → IsDamagedAt m dataset.dir part column damage → IsDamagedAt m' dataset.dir part column damage
    damage-stays part column damage few called d =
        damage_kept m' m dataset.dir part column damage (sym (values-stay part.number column.name few called))
        (sym (mask-stays part.number column.name few called)) (sym (words-stay part.number column.name few called)) d

    pub rows-stay : (part : PartMeta) (column : Column) (mask : List Bool) (numbers : List ℤ) → part.number < 4096 → IsColumnName column.name
        → HasRows m dataset.dir part column mask numbers → HasRows m' dataset.dir part column mask numbers
    rows-stay part column mask numbers few called r =
        record {
          values = values-stay part.number column.name few called ∙ r.values;
          present = mask-stays part.number column.name few called ∙ r.present;
          fit = r.fit;
          each = r.each;
          long = r.long;
          words = λ is.
              let had = r.words is in
              (had.0, record { dictionary = had.1.dictionary; there = words-stay part.number column.name few called ∙ had.1.there });
        }

    too-many-was : (place : ℕ) (part : PartMeta) (column : Column) (spec : Spec) (number : ℕ) → slice_get dataset.parts place ≡ Some part
        → IsColumnName column.name → HasTooMany m' dataset part column spec number → HasTooMany m dataset part column spec number
    too-many-was place part column spec number listed called t =
        let few = part-low place part listed in
        (λ damage d. t.0 damage (damage-stays part column damage few called d), λ mask numbers r. t.1 mask numbers (rows-stay part column mask numbers few called r))

  was : (P Q : Files → Type 0) (old new : Option Files) → ChangesAmong (IsIndexName dataset cols) old new
      → ((m m' : Files) → ChangesAmong (IsIndexName dataset cols) (Some m) (Some m') → P m' → Q m) → IfSome new P → IfSome old Q
  was P Q None new h f p = tt
  was P Q (Some m) None h f p = let bad : false ≡ true = h.told in absurd (cc)
  was P Q (Some m) (Some m') h f p = f m m' h p

  refusal-was : (asked : Asked) (old new : Option Files) (status : Status) → ChangesAmong (IsIndexName dataset cols) old new
      → IsRefused new dataset asked status → IsRefused old dataset asked status
  refusal-was asked old new status h (Damages column damage among d is) =
      Damages column damage among
      (was (λ m. IsColumnDamaged m dataset column.name damage) (λ m. IsColumnDamaged m dataset column.name damage) old new h
      (λ m m' k x. damage-was m m' k column.name damage x) d) is
  refusal-was asked old new status h (Passes place part column number listed among t is) =
      Passes place part column number listed among
      (was (λ m. HasTooMany m dataset part column asked.spec number) (λ m. HasTooMany m dataset part column asked.spec number) old new h
      (λ m m' k x. too-many-was m m' k place part column asked.spec number listed (column-called among.col column among.in_schema) x) t) is

  -- why a later index wasn't built, in the files before the earlier ones
  pub stop-was : (asked : Asked) (old new : Option Files) (stop : Unanswered) → ChangesAmong (IsIndexName dataset cols) old new
      → StopsIn new dataset asked stop → StopsIn old dataset asked stop
  stop-was asked old new (Refused status) h k = refusal-was asked old new status h k
  stop-was asked old new StoreFault h k = tt
  stop-was asked old new OutOfMemory h k = tt

-- ---- one column of a list

among-one : (schema : List Column) (cols : List ℕ) (place col : ℕ) (column : Column) → slice_get cols place ≡ Some col
    → IsAmong schema (col ∷ []) column → IsAmong schema cols column
among-one schema cols place col column there h = record { place = place; col = h.col; asked = there ∙ ap Some (only h.place h.asked); in_schema = h.in_schema }
  where
    only : (k : ℕ) → slice_get (col ∷ []) k ≡ Some h.col → col ≡ h.col
    only zero e = cc
    only (suc k) e = absurd (cc)

module _ (dataset : Dataset) (cols : List ℕ) (place col : ℕ) (there : slice_get cols place ≡ Some col) where
  pub name-one : (part : PartMeta) (name : List ℕ) → IsPartIndex dataset part (col ∷ []) name → IsPartIndex dataset part cols name
  name-one part name h = record { column = h.column; among = among-one dataset.schema cols place col h.column there h.among; is = h.is }

  pub look-one : (look : Look) → IsLookAmong dataset (col ∷ []) look → IsLookAmong dataset cols look
  look-one look h = record { column = h.column; among = among-one dataset.schema cols place col h.column there h.among; file = h.file }

  pub stop-one : (files : Option Files) (spec : Spec) (stop : Unanswered) → StopsIn files dataset (record { spec = spec; cols = col ∷ [] }) stop
      → StopsIn files dataset (record { spec = spec; cols = cols }) stop
  stop-one files spec (Refused status) (Damages column damage among d is) =
      Damages column damage (among-one dataset.schema cols place col column there among) d is
  stop-one files spec (Refused status) (Passes at part column number listed among t is) =
      Passes at part column number listed (among-one dataset.schema cols place col column there among) t is
  stop-one files spec StoreFault h = tt
  stop-one files spec OutOfMemory h = tt

-- the part's are the dataset's
pub name-listed : (dataset : Dataset) (cols : List ℕ) (place : ℕ) (part : PartMeta) (name : List ℕ) → slice_get dataset.parts place ≡ Some part
    → IsPartIndex dataset part cols name → IsIndexName dataset cols name
name-listed dataset cols place part name listed h = record { part = part; place = place; listed = listed; index = h }
