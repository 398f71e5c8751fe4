-- What a load answers and leaves where the files stand for a world.
use Rattle.std.proofs.Common.{◌≡◌, ◌≤◌, ◌⊎◌, inl, inr, ℕ, Bool, true, false, List, [], length, nat_le, Option, Some, None, IfSome, Result, Ok, Err, is_ok, refl, sym, ap, subst, ◌∙◌, arith}
use Rattle.std.specs.FinMap.{get}
use Rattle.std.proofs.lemmas.Bool.{leb-true}
use Rattle.fb_outside.specs.Files.{ChangesAmong, Files, file_at}
use Rattle.fb_outside.specs.Names.{IsPath}
use Rattle.fb_outside.specs.Puts.{PutsAll, PutsFront}
use Rattle.fb_outside.proofs.FileLemmas.{ChangesAmong-same}
use Rattle.fb_outside.proofs.PutLemmas.{PutsFront-all}
use Rattle.fb_types.specs.declared.schemas.Column.{Column}
use Rattle.fb_types.specs.SchemaText.{SchemaFault, read_schema}
use Rattle.fb_types.specs.Schemas.{IsSchema}
use Rattle.fb_types.specs.Table.{Table}
use Rattle.csv_load.specs.Loaded.{loaded}
use Rattle.command_words.specs.declared.Load.{Load}
use Rattle.command_words.specs.Valid.{IsCsvPath, IsValidLoad}
use Rattle.part_meta.specs.declared.catalog.Catalog.{Catalog}
use Rattle.part_meta.specs.FileNames.{IsFileOf}
use Rattle.world.specs.World.{Content, World, content_at}
use Rattle.world.specs.Stands.{Stands, StandsFor}
use Rattle.world.specs.Effects.{Loads, after_one}
use Rattle.dataset.specs.Appended.{append_files, refusal}
use Rattle.dataset.specs.Found.{Absent, Broken, Found, IsFound, There, found_by, found_in}
use Rattle.dataset.specs.Loads.{IsLoad, catalog_before, load_files}
use Rattle.dataset.proofs.LoadLemmas.{StandsFor-loaded, StandsFor-stopped, accepted, catalog_before-absent, catalog_before-there, others-stay}
use Rattle.dataset.proofs.WorldLemmas.{absent, opened, sound}
use Rattle.statuses.specs.declared.Status.{Status}
use Rattle.statuses.specs.declared.stop.Stop.{Stop}
use Rattle.statuses.specs.declared.stop.Stop.TheVariants.{Refused, ReadFault, StoreFault, OutOfMemory}
use Rattle.statuses.specs.Outcome.{◌>>=◌}
use Rattle.part_meta.specs.PartText.{most_rows}
use Rattle.ardea.specs.Load.{Gives, Reading, catalog_or_refusal, load_result, load_schema, load_table, reading_of, records_or_refusal, rows_or_refusal, schema_or_refusal, text_or_refusal, unless_refused}
use Rattle.ardea.specs.Done.{Ends, GoesThrough, IsCut, IsDone}
use Rattle.ardea.proofs.LoadLemmas.{result_table, rows_few, schema_loaded, table_by, table_is}

-- ---- what a path has is what it has in the world

found_is : (m : Files) (w : World) (dir : List ℕ) (found : Found) → Stands m w → IsPath dir → IsFound m dir found → found ≡ found_in w dir
found_is m w dir Absent stands path h = sym (ap (found_by dir) (absent m w dir stands h))
found_is m w dir (There dataset) stands path h =
    let of = opened m w dir dataset stands path h in
    ap There of.is ∙ sym (ap (found_by dir) of.there)
found_is m w dir (Broken damage) stands path h = absurd (sound m w dir damage stands path h)

-- ---- what the load names is an input file of the world

abbrev pub inputs_of : World → List ℕ → Reading
inputs_of w name = reading_of (get w.inputs name)

same_text : (load : Load) (input : List ℕ) (readings : List ℕ → Reading) (m : Files) (w : World) → Stands m w → IfSome load.file IsCsvPath
    → ((name : List ℕ) → readings name ≡ reading_of (file_at m name))
    → text_or_refusal load.file input readings ≡ text_or_refusal load.file input (inputs_of w)
same_text load input readings m w stands csv told = by load.file csv
  where
    by : (file : Option (List ℕ)) → IfSome file IsCsvPath → text_or_refusal file input readings ≡ text_or_refusal file input (inputs_of w)
    by None h = refl
    by (Some name) h =
        let same : readings name ≡ inputs_of w name = told name ∙ ap reading_of (stands.inputs name (record { stem = h.stem; is = h.is })) in
        rw same refl

-- ---- the answer

abbrev result_by : Load → Found → Result Table Status → Result Table Status
result_by load found table =
    table >>= (λ t. catalog_or_refusal t.schema found >>= (λ c. unless_refused t (refusal c t.schema load.per_part (length t.records))))

result_by-is : (load : Load) (input : List ℕ) (readings : List ℕ → Reading) (found : Found)
    → load_result load input readings found ≡ result_by load found (load_table load input readings)
unfolding load_result
result_by-is load input readings found = refl

-- For an input that is told the answer is the definition's in the world.
pub result_in_world : (load : Load) (left : Option (List ℕ)) (m : Files) (w : World) (result : Result Table Status) → IsValidLoad load
    → Stands m w → (g : Gives load left (Some m) result)
    → result ≡ load_result load g.situation.input (inputs_of w) (found_in w load.dir)
result_in_world load left m w result valid stands g = by (load_table load g.situation.input g.situation.readings) refl
  where
    same : load_table load g.situation.input g.situation.readings ≡ load_table load g.situation.input (inputs_of w)
    same =
        table_is load g.situation.input g.situation.readings ∙ ap (table_by load) (same_text load g.situation.input g.situation.readings m w stands valid.file g.situation.readings_told)
        ∙ sym (table_is load g.situation.input (inputs_of w))

    by : (r : Result Table Status) → load_table load g.situation.input g.situation.readings ≡ r
        → result ≡ load_result load g.situation.input (inputs_of w) (found_in w load.dir)
    by (Err why) is =
        sym g.is ∙ result_table load g.situation.input g.situation.readings g.situation.found why is
        ∙ sym (result_table load g.situation.input (inputs_of w) (found_in w load.dir) why (sym same ∙ is))
    by (Ok table) is =
        let found : g.situation.found ≡ found_in w load.dir = found_is m w load.dir g.situation.found stands valid.dir (g.situation.found_told (ap is_ok is)) in
        sym g.is ∙ result_by-is load g.situation.input g.situation.readings g.situation.found ∙ ap (result_by load g.situation.found) same
        ∙ ap (λ (f : Found). result_by load f (load_table load g.situation.input (inputs_of w))) found
        ∙ sym (result_by-is load g.situation.input (inputs_of w) (found_in w load.dir))

-- ---- what is left of the files

catalog_by : (w : World) (dir : List ℕ) (schema : List Column) (catalog : Catalog) (o : Option Content) → content_at w dir ≡ o
    → catalog_or_refusal schema (found_by dir o) ≡ Ok catalog → catalog ≡ catalog_before w dir schema
catalog_by w dir schema catalog None at taken =
    let is : catalog_or_refusal schema (found_by dir None) ≡ Ok catalog = taken in
    let before = catalog_before-absent w dir schema at in
    cc
catalog_by w dir schema catalog (Some content) at taken =
    let is : catalog_or_refusal schema (found_by dir (Some content)) ≡ Ok catalog = taken in
    let before = catalog_before-there w dir schema content at in
    cc

-- the catalog that takes the load is that of the world's dataset
catalog_is : (load : Load) (left : Option (List ℕ)) (m : Files) (w : World) (table : Table) (catalog : Catalog) → IsValidLoad load → Stands m w
    → GoesThrough load left (Some m) table catalog → catalog ≡ catalog_before w load.dir table.schema
catalog_is load left m w table catalog valid stands goes =
    let found : goes.situation.found ≡ found_in w load.dir =
    found_is m w load.dir goes.situation.found stands valid.dir (goes.situation.found_told (ap is_ok goes.loaded)) in
    catalog_by w load.dir table.schema catalog (content_at w load.dir) refl
    (subst (λ (f : Found). catalog_or_refusal table.schema f ≡ Ok catalog) found goes.taken)

few_of : (load : Load) → ((schema : List Column) × (load_schema load ≡ Ok schema)) → load.per_part ≤ most_rows
few_of load found = rows_few load found.0 found.1

pub IsLoad-goes : (load : Load) (left : Option (List ℕ)) (m : Files) (w : World) (table : Table) (catalog : Catalog) → IsValidLoad load
    → Stands m w → GoesThrough load left (Some m) table catalog → IsLoad w load.dir table.schema load.per_part table.records
IsLoad-goes load left m w table catalog valid stands goes =
    record {
      proper = valid.dir;
      valid = goes.schema;
      some = valid.some_rows;
      few = few_of load (schema_loaded load goes.situation.input goes.situation.readings table goes.loaded);
      fit = goes.fit;
      accepted = subst (λ (c : Catalog). refusal c table.schema load.per_part (length table.records) ≡ None)
          (catalog_is load left m w table catalog valid stands goes) goes.accepted;
    }

abbrev pub effect_world : World → Load → Table → World
effect_world w load table = after_one w (Loads load.dir table.schema load.per_part table.records)

-- a load that is done leaves files that stand for the world after its effect
pub StandsFor-done : (load : Load) (left : Option (List ℕ)) (m : Files) (new : Option Files) (w : World) (count : ℕ) → IsValidLoad load
    → Stands m w → (done : IsDone load left (Some m) new count) → StandsFor new (effect_world w load done.table)
StandsFor-done load left m new w count valid stands done =
    StandsFor-loaded (Some m) new w load.dir done.table.schema load.per_part done.table.records
    (IsLoad-goes load left m w done.table done.catalog valid stands done.goes) stands
    (subst (λ (c : Catalog). PutsAll (append_files load.dir c load.per_part done.table.records) (Some m) new)
    (catalog_is load left m w done.table done.catalog valid stands done.goes) done.put)

-- one that is cut, for the world before or after it
pub StandsFor-cut : (load : Load) (left : Option (List ℕ)) (m : Files) (new : Option Files) (w : World) → IsValidLoad load
    → Stands m w → (cut : IsCut load left (Some m) new) → StandsFor new w ⊎ StandsFor new (effect_world w load cut.table)
StandsFor-cut load left m new w valid stands cut =
    StandsFor-stopped (Some m) new w load.dir cut.table.schema load.per_part cut.table.records
    (IsLoad-goes load left m w cut.table cut.catalog valid stands cut.goes) stands
    (subst (λ (c : Catalog). PutsFront (append_files load.dir c load.per_part cut.table.records) (Some m) new)
    (catalog_is load left m w cut.table cut.catalog valid stands cut.goes) cut.put)

-- ---- which files change, whatever they stand for

front_kept : (load : Load) (left : Option (List ℕ)) (old new : Option Files) (table : Table) (catalog : Catalog)
    → GoesThrough load left old table catalog → PutsFront (append_files load.dir catalog load.per_part table.records) old new
    → ChangesAmong (IsFileOf load.dir) old new
front_kept load left old new table catalog goes put =
    let taken = accepted catalog table.schema load.per_part (length table.records) goes.accepted in
    others-stay old new load.dir catalog load.per_part table.records
    (subst IsSchema (sym taken.same) goes.schema) taken.numbers put

cut_kept : (load : Load) (left : Option (List ℕ)) (old new : Option Files) → IsCut load left old new → ChangesAmong (IsFileOf load.dir) old new
cut_kept load left old new cut = front_kept load left old new cut.table cut.catalog cut.goes cut.put

same_or_cut : (load : Load) (left : Option (List ℕ)) (old new : Option Files) → (new ≡ old) ⊎ IsCut load left old new
    → ChangesAmong (IsFileOf load.dir) old new
same_or_cut load left old new (inl same) = ChangesAmong-same old new same
same_or_cut load left old new (inr cut) = cut_kept load left old new cut

-- only files of the table of names, under the load's path, change
pub ends_kept : (load : Load) (left : Option (List ℕ)) (old new : Option Files) (result : Result ℕ Stop) → Ends load left old new result
    → ChangesAmong (IsFileOf load.dir) old new
ends_kept load left old new (Ok count) done =
    front_kept load left old new done.table done.catalog done.goes
    (PutsFront-all (append_files load.dir done.catalog load.per_part done.table.records) old new done.put)
ends_kept load left old new (Err (Refused status)) h = ChangesAmong-same old new h.1
ends_kept load left old new (Err ReadFault) h = ChangesAmong-same old new h
ends_kept load left old new (Err StoreFault) h = same_or_cut load left old new h
ends_kept load left old new (Err OutOfMemory) h = same_or_cut load left old new h
