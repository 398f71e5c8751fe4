-- An index file that is put makes the files stand for the world with that index.
use Rattle.std.proofs.Common.{◌≡◌, ◌≢◌, ◌<◌, ◌≤◌, ℕ, Bool, true, false, if◌then◌else◌, ◌==◌, List, ◌++◌, All, map, Option, Some, option_map, refl, sym, ap, ◌∙◌, subst, arith, get_or}
use Rattle.std.specs.FinMap.{insert}
use Rattle.std.specs.List.{slice_get}
use Rattle.std.proofs.lemmas.Bool.Decides.{Decides-eqb}
use Rattle.std.proofs.lemmas.List.Elements.{All-map}
use Rattle.std.proofs.lemmas.Option.{slice_get-get_or, slice_get-map}
use Rattle.fb_outside.specs.Files.{Files, file_at}
use Rattle.fb_outside.specs.Puts.{IsThere}
use Rattle.fb_outside.proofs.FileLemmas.{file_at-insert_other, file_at-insert_same}
use Rattle.fb_types.specs.declared.schemas.Column.{Column}
use Rattle.fb_types.specs.Names.{IsColumnName}
use Rattle.index_spec.specs.declared.spec.Spec.{Spec}
use Rattle.part_meta.specs.declared.catalog.Catalog.{Catalog}
use Rattle.part_meta.specs.declared.names.FileKind.{FileKind}
use Rattle.part_meta.specs.declared.names.FileKind.TheVariants as file
use Rattle.part_meta.specs.CatalogText.{catalog_text}
use Rattle.part_meta.specs.FileNames.{IsCalled, catalog_name, file_name, index_name}
use Rattle.part_meta.proofs.FileNameLemmas.{file_is_no_catalog, file_is_no_csv, same_file}
use Rattle.world.specs.World.{CanIndex, Content, IsContent, Partition, World, content_at, with_content}
use Rattle.world.specs.Cells.{column_cells}
use Rattle.world.specs.IndexFiles.{column_index}
use Rattle.world.specs.PartFiles.{index_in, part_files}
use Rattle.world.specs.Stands.{IsInputName, IsUnindexed, PartRests, Rests, Stands}
use Rattle.world.specs.Effects.{Builds, after_build, after_one, built, indexed, with_index}
use Rattle.world.proofs.IndexLemmas.{IsContent-built, catalog-built, part_files-with, same_part}
use Rattle.world.proofs.KeptLemmas.{IsElsewhereKept, KeepsPart, KeepsParts, PartRests-kept, Stands-with, listed-kept}
use Rattle.world.proofs.MapLemmas.{at-insert_other, at-insert_same}
use Rattle.world.proofs.PlaceLemmas.{All-at, AllPairs-at, same_place}

module _ (files : Files) (world : World) (path : List ℕ) (content : Content) (place : ℕ) (part : Partition) (col : ℕ) (column : Column) (spec : Spec)
    (there : content_at world path ≡ Some content) (listed : slice_get content.parts place ≡ Some part)
    (in_schema : slice_get content.schema col ≡ Some column) (h : Stands files world) where
  abbrev name : List ℕ
  name = index_name path part.number column.name

  abbrev bytes : List ℕ
  bytes = column_index spec column.ty (column_cells col part.records)

  abbrev put : Files
  put = insert files name bytes

  valid : IsContent content
  valid = h.valid path content there

  rests : Rests files path content
  rests = h.rests path content there

  below : part.number < content.next
  below =
      All-at (λ (n : ℕ). n < content.next) (map (λ (p : Partition). p.number) content.parts) place part.number
      (slice_get-map (λ (p : Partition). p.number) content.parts place ∙ ap (option_map (λ (p : Partition). p.number)) listed) valid.catalog.below

  low : part.number < 4096
  low = omega (arith, below, valid.catalog.next)

  named : (c : ℕ) (other : Column) → slice_get content.schema c ≡ Some other → IsColumnName other.name
  named c other e = All-at (λ (x : Column). IsColumnName x.name) content.schema c other e valid.catalog.schema.named

  -- ---- which files stay

  catalog-stays : (q : List ℕ) → file_at put (catalog_name q) ≡ file_at files (catalog_name q)
  catalog-stays q =
      file_at-insert_other files name bytes (catalog_name q)
      (λ e. file_is_no_catalog path q part.number (Some column.name) file.Index (named col column in_schema) (sym e))

  stays : (q : List ℕ) (number : ℕ) (c : Option (List ℕ)) (kind : FileKind) → number < 4096 → IsCalled kind c
      → ((q ≡ path) × (number ≡ part.number) × (c ≡ Some column.name) × (kind ≡ file.Index) → ⊥)
      → file_at put (file_name q number c kind) ≡ file_at files (file_name q number c kind)
  stays q number c kind few called apart =
      file_at-insert_other files name bytes (file_name q number c kind)
      (λ e. apart (same_file q path number part.number c (Some column.name) kind file.Index few low called (named col column in_schema) e))

  elsewhere : IsElsewhereKept files put world path (built content part.number col spec)
  elsewhere =
      record {
        catalogs = λ q apart. catalog-stays q;
        parts = λ q most apart few. record {
          parts = λ number less c kind called. stays q number c kind (omega arith) called (λ same. apart same.0);
          indexes = λ number other less called. stays q number (Some other) file.Index less called (λ same. apart same.0);
        };
        inputs = λ other input.
            file_at-insert_other files name bytes other
            (λ e. file_is_no_csv path input.stem part.number (Some column.name) file.Index (named col column in_schema) (sym e ∙ input.is));
      }

  keeps-part : (number : ℕ) → number < 4096 → number ≢ part.number → KeepsPart files put path number
  keeps-part number few apart c kind called = stays path number c kind few called (λ same. apart same.1)

  -- ---- the part's indexes

  here : file_at put name ≡ index_in (with_index col spec part) col column
  here =
      file_at-insert_same files name bytes
      ∙ sym (ap (option_map (λ (s : Spec). column_index s column.ty (column_cells col part.records))) (at-insert_same part.specs col spec))

  names-apart : (c : ℕ) (other : Column) → slice_get content.schema c ≡ Some other → c ≢ col → other.name ≢ column.name
  names-apart c other e apart same =
      apart (same_place c col
      (λ before.
      AllPairs-at (λ (a b : Column). a.name ≢ b.name) content.schema c col other column e in_schema before valid.catalog.schema.distinct same)
      (λ before.
      AllPairs-at (λ (a b : Column). a.name ≢ b.name) content.schema col c column other in_schema e before valid.catalog.schema.distinct (sym same)))

  indexes-with : (c : ℕ) (other : Column) → slice_get content.schema c ≡ Some other → PartRests files path content.schema part → (b : Bool) → (c == col) ≡ b
      → file_at put (index_name path part.number other.name) ≡ index_in (with_index col spec part) c other
  indexes-with c other e old true h' =
      let at : c ≡ col = (Decides-eqb c col).0 h' in
      let both : Some other ≡ Some column = sym e ∙ ap (slice_get content.schema) at ∙ in_schema in
      let same : column ≡ other = cc in
      subst (λ (k : ℕ). file_at put (index_name path part.number other.name) ≡ index_in (with_index col spec part) k other) (sym at)
      (subst (λ (x : Column). file_at put (index_name path part.number x.name) ≡ index_in (with_index col spec part) col x) same here)
  indexes-with c other e old false h' =
      let apart : c ≢ col = λ is. let t : (c == col) ≡ true = (Decides-eqb c col).1 is in cc in
      stays path part.number (Some other.name) file.Index low (named c other e)
      (λ same. names-apart c other e apart (let t : Some other.name ≡ Some column.name = same.2 in cc))
      ∙ old.indexes c other e
      ∙ sym (ap (option_map (λ (s : Spec). column_index s other.ty (column_cells c part.records))) (at-insert_other part.specs col spec c apart))

  rests-with : PartRests files path content.schema part → PartRests put path content.schema (with_index col spec part)
  rests-with old =
      record {
        listed = subst (All (IsThere put)) (sym (part_files-with path content.schema part col spec))
            (listed-kept files put path content.schema part valid.catalog.schema
            (λ c kind called plain. stays path part.number c kind low called (λ same. plain same.3)) old.listed);
        indexes = λ c other e. indexes-with c other e old (c == col) refl;
      }

  rests-indexed : (p : Partition) → p.number < 4096 → (p.number ≡ part.number → p ≡ part) → PartRests files path content.schema p
      → (b : Bool) → (p.number == part.number) ≡ b → PartRests put path content.schema (if b then with_index col spec p else p)
  rests-indexed p few one old true h' =
      let same : p ≡ part = one ((Decides-eqb p.number part.number).0 h') in
      subst (λ (x : Partition). PartRests put path content.schema (with_index col spec x)) (sym same)
      (rests-with (subst (PartRests files path content.schema) same old))
  rests-indexed p few one old false h' =
      let apart : p.number ≢ part.number = λ is. let t : (p.number == part.number) ≡ true = (Decides-eqb p.number part.number).1 is in cc in
      PartRests-kept files put path content.schema p valid.catalog.schema (keeps-part p.number few apart) old

  number-low : (k : ℕ) (p : Partition) → slice_get content.parts k ≡ Some p → p.number < 4096
  number-low k p at =
      let less : p.number < content.next
      = All-at (λ (n : ℕ). n < content.next) (map (λ (x : Partition). x.number) content.parts) k p.number
      (slice_get-map (λ (x : Partition). x.number) content.parts k ∙ ap (option_map (λ (x : Partition). x.number)) at) valid.catalog.below in
      omega (arith, less, valid.catalog.next)

  -- ---- the dataset

  rests-built : Rests put path (built content part.number col spec)
  rests-built =
      record {
        catalog = catalog-stays path ∙ rests.catalog
            ∙ ap (λ (c : Catalog). Some (catalog_text c)) (sym (catalog-built content part.number col spec));
        parts = All-map (PartRests put path content.schema) (indexed part.number col spec) content.parts
            (λ k d within.
            let p = get_or content.parts k d in
            let at : slice_get content.parts k ≡ Some p = slice_get-get_or content.parts k d within in
            rests-indexed p (number-low k p at) (λ e. same_part content.parts k place p part valid.catalog.rising at listed e) (rests.parts k d within)
            (p.number == part.number) refl);
        unindexed = λ number later few k d within.
            stays path number (Some (get_or content.schema k d).name) file.Index few (valid.catalog.schema.named k d within)
            (λ same. let is : number ≡ part.number = same.1 in omega (arith, is, below, later))
            ∙ rests.unindexed number later few k d within;
      }

  pub Stands-built : CanIndex content.schema part.records col spec → Stands put (after_one world (Builds path part.number col spec))
  Stands-built can =
      subst (Stands put) (sym (ap (after_build world path part.number col spec) there))
      (Stands-with files put world path (built content part.number col spec) (h.paths path content there)
      (IsContent-built content place part col spec valid listed can) rests-built elsewhere h)
