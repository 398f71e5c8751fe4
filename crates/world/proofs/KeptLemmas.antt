-- What stands for a dataset or a world still does while the files that matter to it stay.
use Rattle.std.proofs.Common.{◌≡◌, ◌≢◌, ◌⊎◌, inl, inr, ◌<◌, ◌≤◌, ℕ, List, ◌++◌, All, length, map, Option, Some, None, sym, ap, ◌∙◌, subst, arith}
use lib.Chars.{codes}
use Rattle.std.specs.FinMap.{insert}
use Rattle.std.proofs.lemmas.List.{get_or-map, length-map}
use Rattle.std.proofs.lemmas.List.Elements.{All-weaker}
use Rattle.std.proofs.Common.{get_or}
use Rattle.fb_outside.specs.Files.{Files, file_at}
use Rattle.fb_outside.specs.Names.{IsPath}
use Rattle.fb_outside.specs.Puts.{File, IsThere, with_files}
use Rattle.fb_outside.proofs.FileLemmas.{file_at-insert_other, file_at-insert_same}
use Rattle.fb_outside.proofs.PutLemmas.{with_files-other}
use Rattle.fb_types.specs.declared.schemas.Column.{Column}
use Rattle.fb_types.specs.Names.{IsColumnName}
use Rattle.fb_types.specs.Schemas.{IsSchema}
use Rattle.part_meta.specs.declared.names.FileKind.{FileKind}
use Rattle.part_meta.specs.declared.names.FileKind.TheVariants as file
use Rattle.part_meta.specs.CatalogText.{catalog_text}
use Rattle.part_meta.specs.FileNames.{IsCalled, catalog_name, file_name, index_name}
use Rattle.part_meta.proofs.FileNameLemmas.{catalog_is_no_csv, catalog_name-injective, file_is_no_catalog, file_is_no_csv, same_file}
use Rattle.world.specs.World.{Content, IsContent, Partition, World, catalog_data, content_at, with_content}
use Rattle.world.specs.PartFiles.{part_files}
use Rattle.world.specs.Stands.{IsFree, IsInputName, IsUnindexed, PartRests, Rests, Stands}
use Rattle.world.proofs.FileLemmas.{IsOfPart, IsWritten, part-written}
use Rattle.world.proofs.MapLemmas.{get-insert_other, get-insert_same, same_or_apart}
use Rattle.world.proofs.PlaceLemmas.{All-at}

-- The files of a path's part of that number stayed, but maybe its indexes.
abbrev pub KeepsBase : Files → Files → List ℕ → ℕ → Type 0
KeepsBase old new dir number = (name : Option (List ℕ)) (kind : FileKind) → IsCalled kind name → kind ≢ file.Index
    → file_at new (file_name dir number name kind) ≡ file_at old (file_name dir number name kind)

-- All files of that part stayed.
abbrev pub KeepsPart : Files → Files → List ℕ → ℕ → Type 0
KeepsPart old new dir number = (name : Option (List ℕ)) (kind : FileKind) → IsCalled kind name
    → file_at new (file_name dir number name kind) ≡ file_at old (file_name dir number name kind)

-- The files of a path's parts of numbers below `next` stayed, and all its indexes.
pub record KeepsParts (old new : Files) (dir : List ℕ) (next : ℕ) : Type 0 where
  pub parts : (number : ℕ) → number < next → KeepsPart old new dir number
  pub indexes : (number : ℕ) (name : List ℕ) → number < 4096 → IsColumnName name
      → file_at new (index_name dir number name) ≡ file_at old (index_name dir number name)

-- ---- of one path

module _ (old new : Files) (dir : List ℕ) where
  pub unindexed-kept : (next number : ℕ) (columns : List Column) → KeepsParts old new dir next → All (λ column. IsColumnName column.name) columns
      → number < 4096 → All (λ column. IsUnindexed old dir number column.name) columns → All (λ column. IsUnindexed new dir number column.name) columns
  unindexed-kept next number columns kept named low h k d within =
      kept.indexes number (get_or columns k d).name low (named k d within) ∙ h k d within

  there-kept : (number : ℕ) → KeepsBase old new dir number → (f : File) → IsWritten dir number f.name → IsThere old f → IsThere new f
  there-kept number kept f written there =
      ap (file_at new) written.is ∙ kept written.column written.kind written.called written.plain
      ∙ sym (ap (file_at old) written.is) ∙ there

  pub listed-kept : (schema : List Column) (part : Partition) → IsSchema schema → KeepsBase old new dir part.number
      → All (IsThere old) (part_files dir schema part) → All (IsThere new) (part_files dir schema part)
  listed-kept schema part valid kept h k d within =
      there-kept part.number kept (get_or (part_files dir schema part) k d) (part-written dir schema part valid k d within) (h k d within)

  pub PartRests-kept : (schema : List Column) (part : Partition) → IsSchema schema → KeepsPart old new dir part.number
      → PartRests old dir schema part → PartRests new dir schema part
  PartRests-kept schema part valid kept h =
      record {
        listed = listed-kept schema part valid (λ name kind called plain. kept name kind called) h.listed;
        indexes = λ col column e.
            kept (Some column.name) file.Index (All-at (λ (c : Column). IsColumnName c.name) schema col column e valid.named) ∙ h.indexes col column e;
      }

  pub parts-kept : (next : ℕ) (schema : List Column) (parts : List Partition) → IsSchema schema
      → All (λ number. number < next) (map (λ part. part.number) parts) → KeepsParts old new dir next
      → All (PartRests old dir schema) parts → All (PartRests new dir schema) parts
  parts-kept next schema parts valid below kept h k d within =
      let inside : k < length (map (λ (part : Partition). part.number) parts) = omega (arith, length-map parts (λ (part : Partition). part.number)) in
      let number : (get_or parts k d).number < next
      = subst (λ (n : ℕ). n < next) (get_or-map (λ (part : Partition). part.number) parts k d 0 within) (below k 0 inside) in
      PartRests-kept schema (get_or parts k d) valid (kept.parts (get_or parts k d).number number) (h k d within)

  pub Rests-kept : (content : Content) → IsContent content → file_at new (catalog_name dir) ≡ file_at old (catalog_name dir)
      → KeepsParts old new dir content.next → Rests old dir content → Rests new dir content
  Rests-kept content valid catalog kept h =
      record {
        catalog = catalog ∙ h.catalog;
        parts = parts-kept content.next content.schema content.parts valid.catalog.schema valid.catalog.below kept h.parts;
        unindexed = λ number later low. unindexed-kept content.next number content.schema kept valid.catalog.schema.named low (h.unindexed number later low);
      }

  pub IsFree-kept : file_at new (catalog_name dir) ≡ file_at old (catalog_name dir) → KeepsParts old new dir 0 → IsFree old dir → IsFree new dir
  IsFree-kept catalog kept h =
      record {
        catalog = catalog ∙ h.catalog;
        unindexed = λ number name low named. kept.indexes number name low named ∙ h.unindexed number name low named;
      }

-- ---- files of new parts

-- a number that a new part may have
abbrev pub IsNewNumber : ℕ → ℕ → Type 0
IsNewNumber next number = (next ≤ number) × (number < 4096)

-- the name of a file of a part that is still to come
abbrev pub IsNewName : List ℕ → ℕ → List ℕ → Type 0
IsNewName path next name = IsOfPart (IsNewNumber next) path name

new-no_catalog : (path : List ℕ) (next : ℕ) (name q : List ℕ) → IsNewName path next name → name ≢ catalog_name q
new-no_catalog path next name q h e =
    file_is_no_catalog path q h.number h.written.column h.written.kind h.written.called (sym h.written.is ∙ e)

new-no_index : (path : List ℕ) (next : ℕ) (name q : List ℕ) (number : ℕ) (column : List ℕ) → number < 4096 → IsColumnName column
    → IsNewName path next name → name ≢ index_name q number column
new-no_index path next name q number column low named h e =
    h.written.plain (same_file path q h.number number h.written.column (Some column) h.written.kind file.Index h.holds.1 low
    h.written.called named (sym h.written.is ∙ e)).3

new-no_old : (path : List ℕ) (next : ℕ) (name q : List ℕ) (number : ℕ) (column : Option (List ℕ)) (kind : FileKind) → number < 4096 → IsCalled kind column
    → (q ≡ path → number < next) → IsNewName path next name → name ≢ file_name q number column kind
new-no_old path next name q number column kind low called older h e =
    let same = same_file path q h.number number h.written.column column h.written.kind kind h.holds.1 low
    h.written.called called (sym h.written.is ∙ e) in
    let before : number < next = older (sym same.0) in
    let is : h.number ≡ number = same.1 in
    let new : next ≤ h.number = h.holds.0 in
    omega (arith, before, is, new)

new-no_csv : (path : List ℕ) (next : ℕ) (name stem : List ℕ) → IsNewName path next name → name ≢ stem ++ codes ".csv"
new-no_csv path next name stem h e =
    file_is_no_csv path stem h.number h.written.column h.written.kind h.written.called (sym h.written.is ∙ e)

-- Once such files are put, the files stand for the same world.
module _ (files : Files) (world : World) (path : List ℕ) (next : ℕ) (news : List File)
    (fresh : All (λ f. IsNewName path next f.name) news) where
  abbrev after : Files
  after = with_files news files

  stays : (q : List ℕ) → ((name : List ℕ) → IsNewName path next name → name ≢ q) → file_at after q ≡ file_at files q
  stays q apart =
      with_files-other news files q
      (All-weaker (λ (f : File). IsNewName path next f.name) (λ f. f.name ≢ q) (λ f h. apart f.name h) news fresh)

  pub catalog-stays : (q : List ℕ) → file_at after (catalog_name q) ≡ file_at files (catalog_name q)
  catalog-stays q = stays (catalog_name q) (λ name h. new-no_catalog path next name q h)

  pub keeps-others : (q : List ℕ) (most : ℕ) → most ≤ 4096 → (q ≡ path → most ≤ next) → KeepsParts files after q most
  keeps-others q most few older =
      record {
        parts = λ number below column kind called.
            stays (file_name q number column kind)
            (λ name h. new-no_old path next name q number column kind (omega arith) called (λ e. let w : most ≤ next = older e in omega (arith, w)) h);
        indexes = λ number column low named.
            stays (index_name q number column) (λ name h. new-no_index path next name q number column low named h);
      }

  pub Stands-new : ((content : Content) → content_at world path ≡ Some content → content.next ≤ next) → Stands files world → Stands after world
  Stands-new known h =
      record {
        paths = h.paths;
        valid = h.valid;
        rests = λ q content there.
            Rests-kept files after q content (h.valid q content there) (catalog-stays q)
            (keeps-others q content.next (h.valid q content there).catalog.next
            (λ e. known content (subst (λ (p : List ℕ). content_at world p ≡ Some content) e there)))
            (h.rests q content there);
        free = λ q proper absent. IsFree-kept files after q (catalog-stays q) (keeps-others q 0 (omega arith) (λ e. omega arith)) (h.free q proper absent);
        inputs = λ name input.
            stays name (λ other new e. new-no_csv path next other input.stem new (e ∙ input.is)) ∙ h.inputs name input;
      }

-- ---- one path's dataset is another

-- Files in which the content rests at its path, and where what stands elsewhere stayed, stand for the world with that content.
module _ (files new : Files) (world : World) (path : List ℕ) (content : Content) where
  pub record IsElsewhereKept : Type 0 where
    pub catalogs : (q : List ℕ) → q ≢ path → file_at new (catalog_name q) ≡ file_at files (catalog_name q)
    pub parts : (q : List ℕ) (most : ℕ) → q ≢ path → most ≤ 4096 → KeepsParts files new q most
    pub inputs : (name : List ℕ) → IsInputName name → file_at new name ≡ file_at files name

  here : (q : List ℕ) (found : Content) → q ≡ path → content_at (with_content world path content) q ≡ Some found → found ≡ content
  here q found same there =
      let at : content_at (with_content world path content) path ≡ Some found
      = subst (λ (p : List ℕ). content_at (with_content world path content) p ≡ Some found) same there in
      let is : content_at (with_content world path content) path ≡ Some content = get-insert_same world.datasets path content in
      cc

  before : (q : List ℕ) (found : Option Content) → q ≢ path → content_at (with_content world path content) q ≡ found → content_at world q ≡ found
  before q found apart there = sym (get-insert_other world.datasets path content q apart) ∙ there

  found-at : IsPath path → IsContent content → Rests new path content → IsElsewhereKept → Stands files world → (q : List ℕ) (found : Content)
      → (q ≡ path) ⊎ (q ≢ path) → content_at (with_content world path content) q ≡ Some found → IsPath q × IsContent found × Rests new q found
  found-at proper valid rests kept h q found (inl same) there =
      let is = here q found same there in (
        subst IsPath (sym same) proper,
        subst IsContent (sym is) valid,
        subst (λ (p : List ℕ). Rests new p found) (sym same) (subst (λ (x : Content). Rests new path x) (sym is) rests),
      )
  found-at proper valid rests kept h q found (inr apart) there =
      let old = before q (Some found) apart there in
      let sound = h.valid q found old in (
        h.paths q found old,
        sound,
        Rests-kept files new q found sound (kept.catalogs q apart) (kept.parts q found.next apart sound.catalog.next) (h.rests q found old),
      )

  free-at : IsElsewhereKept → Stands files world → (q : List ℕ) → (q ≡ path) ⊎ (q ≢ path) → IsPath q
      → content_at (with_content world path content) q ≡ None → IsFree new q
  free-at kept h q (inl same) proper absent =
      let at : content_at (with_content world path content) path ≡ None
      = subst (λ (p : List ℕ). content_at (with_content world path content) p ≡ None) same absent in
      let is : content_at (with_content world path content) path ≡ Some content = get-insert_same world.datasets path content in
      cc
  free-at kept h q (inr apart) proper absent =
      IsFree-kept files new q (kept.catalogs q apart) (kept.parts q 0 apart (omega arith)) (h.free q proper (before q None apart absent))

  pub Stands-with : IsPath path → IsContent content → Rests new path content → IsElsewhereKept → Stands files world
      → Stands new (with_content world path content)
  Stands-with proper valid rests kept h =
      record {
        paths = λ q found there. (found-at proper valid rests kept h q found (same_or_apart q path) there).0;
        valid = λ q found there. (found-at proper valid rests kept h q found (same_or_apart q path) there).1;
        rests = λ q found there. (found-at proper valid rests kept h q found (same_or_apart q path) there).2;
        free = λ q is_path absent. free-at kept h q (same_or_apart q path) is_path absent;
        inputs = λ name input. kept.inputs name input ∙ h.inputs name input;
      }

-- ---- a catalog is put

-- What rests at a path once its catalog is put makes the files stand for the world with it.
module _ (files : Files) (world : World) (path : List ℕ) (content : Content) where
  abbrev put : Files
  put = insert files (catalog_name path) (catalog_text (catalog_data content))

  keeps-put : (q : List ℕ) (most : ℕ) → KeepsParts files put q most
  keeps-put q most =
      record {
        parts = λ number below column kind called.
            file_at-insert_other files (catalog_name path) (catalog_text (catalog_data content)) (file_name q number column kind)
            (file_is_no_catalog q path number column kind called);
        indexes = λ number column low named.
            file_at-insert_other files (catalog_name path) (catalog_text (catalog_data content)) (index_name q number column)
            (file_is_no_catalog q path number (Some column) file.Index named);
      }

  -- the parts' files are there, and no part to come has an index
  pub record IsReady : Type 0 where
    pub parts : All (PartRests files path content.schema) content.parts
    pub unindexed : (number : ℕ) → content.next ≤ number → number < 4096
        → All (λ column. IsUnindexed files path number column.name) content.schema

  rests-here : IsContent content → IsReady → Rests put path content
  rests-here valid ready =
      record {
        catalog = file_at-insert_same files (catalog_name path) (catalog_text (catalog_data content));
        parts = parts-kept files put path content.next content.schema content.parts valid.catalog.schema valid.catalog.below
            (keeps-put path content.next) ready.parts;
        unindexed = λ number later low.
            unindexed-kept files put path content.next number content.schema (keeps-put path content.next) valid.catalog.schema.named low
            (ready.unindexed number later low);
      }

  elsewhere : IsElsewhereKept files put world path content
  elsewhere =
      record {
        catalogs = λ q apart.
            file_at-insert_other files (catalog_name path) (catalog_text (catalog_data content)) (catalog_name q)
            (λ e. apart (catalog_name-injective q path e));
        parts = λ q most apart few. keeps-put q most;
        inputs = λ name input.
            file_at-insert_other files (catalog_name path) (catalog_text (catalog_data content)) name
            (λ e. catalog_is_no_csv path input.stem (sym e ∙ input.is));
      }

  pub Stands-put : IsPath path → IsContent content → IsReady → Stands files world → Stands put (with_content world path content)
  Stands-put proper valid ready h = Stands-with files put world path content proper valid (rests-here valid ready) elsewhere h
