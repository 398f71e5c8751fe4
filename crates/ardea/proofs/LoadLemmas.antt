-- The refusals of a load, each where the causes before it don't hold.
use Rattle.std.proofs.Common.{◌≡◌, ◌<◌, ◌≤◌, ℕ, Bool, true, false, List, ◌++◌, length, nat_le, Option, Some, None, IfSome, IsSome, Result, Ok, Err, is_ok, is_some, refl, sym, ap, subst, ◌∙◌, arith}
use Rattle.std.proofs.lemmas.Bool.{le-leb, leb-true}
use Rattle.fb_types.specs.declared.cells.Cell.{Cell}
use Rattle.fb_types.specs.declared.schemas.Column.{Column}
use Rattle.fb_types.specs.SchemaText.{SchemaFault, read_schema}
use Rattle.fb_types.specs.Table.{Table}
use Rattle.csv_load.specs.Loaded.{Fault, loaded}
use Rattle.command_words.specs.declared.Load.{Load}
use Rattle.part_meta.specs.declared.catalog.Catalog.{Catalog}
use Rattle.dataset.specs.Appended.{refusal}
use Rattle.dataset.specs.Found.{Found}
use Rattle.statuses.specs.declared.LimitKind.TheVariants as limit
use Rattle.statuses.specs.declared.Status.{Status}
use Rattle.statuses.specs.declared.Status.TheVariants as status
use Rattle.part_meta.specs.PartText.{most_rows}
use Rattle.ardea.specs.Load.{NoFile, Reading, catalog_or_refusal, load_result, load_schema, load_table, records_or_refusal, rows_or_refusal, schema_or_refusal, text_or_refusal, unless_refused}
use Rattle.statuses.specs.Outcome.{◌>>=◌}
use Rattle.ardea.specs.Order.{asks_by, load_asks_store, load_takes_input}

-- ---- the schema

pub schema_refused : (load : Load) (fault : SchemaFault) → read_schema load.schema ≡ Err fault
    → load_schema load ≡ Err (status.BadSchema fault.column fault.kind)
unfolding load_schema
schema_refused load fault e = rw e refl

pub above : (n m : ℕ) → m < n → nat_le n m ≡ false
above n m h = by (nat_le n m) refl
  where
    by : (b : Bool) → nat_le n m ≡ b → b ≡ false
    by true e = absurd (omega (arith, leb-true n m e))
    by false e = refl

pub rows_refused : (load : Load) (schema : List Column) → read_schema load.schema ≡ Ok schema → most_rows < load.per_part
    → load_schema load ≡ Err (status.Limit limit.Rows load.per_part most_rows)
unfolding load_schema
rows_refused load schema e h = rw (e, above load.per_part most_rows h) refl

pub schema_read : (load : Load) (schema : List Column) → read_schema load.schema ≡ Ok schema → load.per_part ≤ most_rows
    → load_schema load ≡ Ok schema
unfolding load_schema
schema_read load schema e h = rw (e, le-leb load.per_part most_rows h) refl

-- ---- the table: what each step refuses, it is refused for

pub table_schema : (load : Load) (input : List ℕ) (readings : List ℕ → Reading) (why : Status) → load_schema load ≡ Err why
    → load_table load input readings ≡ Err why
unfolding load_table
table_schema load input readings why e = rw e refl

pub table_text : (load : Load) (input : List ℕ) (readings : List ℕ → Reading) (schema : List Column) (why : Status)
    → load_schema load ≡ Ok schema → text_or_refusal load.file input readings ≡ Err why → load_table load input readings ≡ Err why
unfolding load_table
table_text load input readings schema why e bad = rw (e, bad) refl

pub table_records : (load : Load) (input : List ℕ) (readings : List ℕ → Reading) (schema : List Column) (text : List ℕ) (why : Status)
    → load_schema load ≡ Ok schema → text_or_refusal load.file input readings ≡ Ok text
    → records_or_refusal (loaded text schema load.skip) ≡ Err why → load_table load input readings ≡ Err why
unfolding load_table
table_records load input readings schema text why e read bad = rw (e, read, bad) refl

pub table_done : (load : Load) (input : List ℕ) (readings : List ℕ → Reading) (schema : List Column) (text : List ℕ) (records : List (List Cell))
    → load_schema load ≡ Ok schema → text_or_refusal load.file input readings ≡ Ok text → loaded text schema load.skip ≡ Ok records
    → load_table load input readings ≡ Ok (record { schema = schema; records = records })
unfolding load_table
table_done load input readings schema text records e read good = rw (e, read, good) refl

-- ---- the load: what refuses the table, the catalog or the records, it is refused for

pub result_table : (load : Load) (input : List ℕ) (readings : List ℕ → Reading) (found : Found) (why : Status)
    → load_table load input readings ≡ Err why → load_result load input readings found ≡ Err why
unfolding load_result
result_table load input readings found why e = rw e refl

pub result_catalog : (load : Load) (input : List ℕ) (readings : List ℕ → Reading) (found : Found) (table : Table) (why : Status)
    → load_table load input readings ≡ Ok table → catalog_or_refusal table.schema found ≡ Err why
    → load_result load input readings found ≡ Err why
unfolding load_result
result_catalog load input readings found table why e bad = rw (e, bad) refl

pub result_is : (load : Load) (input : List ℕ) (readings : List ℕ → Reading) (found : Found) (table : Table) (catalog : Catalog)
    → load_table load input readings ≡ Ok table → catalog_or_refusal table.schema found ≡ Ok catalog
    → load_result load input readings found ≡ unless_refused table (refusal catalog table.schema load.per_part (length table.records))
unfolding load_result
result_is load input readings found table catalog e good = rw (e, good) refl

-- ---- whether the input is asked for

pub takes_input : (load : Load) (schema : List Column) → load_schema load ≡ Ok schema → load.file ≡ None → load_takes_input load ≡ true
takes_input load schema e none = rw (e, none) refl

pub names_file : (load : Load) (schema : List Column) → load_schema load ≡ Ok schema → load_takes_input load ≡ false → IsSome load.file
names_file load schema e refused = by load.file refl
  where
    by : (file : Option (List ℕ)) → load.file ≡ file → IsSome file
    by None none = let yes : load_takes_input load ≡ true = takes_input load schema e none in absurd (cc)
    by (Some name) some = refl

-- ---- whether the store is

pub schema_loaded : (load : Load) (input : List ℕ) (readings : List ℕ → Reading) (table : Table) → load_table load input readings ≡ Ok table
    → (schema : List Column) × (load_schema load ≡ Ok schema)
schema_loaded load input readings table e = by (load_schema load) refl
  where
    by : (r : Result (List Column) Status) → load_schema load ≡ r → (schema : List Column) × (load_schema load ≡ Ok schema)
    by (Ok schema) is = (schema, is)
    by (Err why) is = let bad : load_table load input readings ≡ Err why = table_schema load input readings why is in absurd (cc)

schema_good : (load : Load) (input : List ℕ) (readings : List ℕ → Reading) (table : Table) → load_table load input readings ≡ Ok table
    → is_ok (load_schema load) ≡ true
schema_good load input readings table e = ap is_ok (schema_loaded load input readings table e).1

-- what the store gives of files doesn't matter to a load that names none
same_table : (load : Load) (input : List ℕ) (some others : List ℕ → Reading) → load.file ≡ None
    → load_table load input some ≡ load_table load input others
unfolding load_table
same_table load input some others none = simp none

pub asks_store : (load : Load) (input : List ℕ) (readings : List ℕ → Reading) (table : Table) → load_table load input readings ≡ Ok table
    → load_asks_store load input ≡ true
asks_store load input readings table e = by load.file refl
  where
    by : (file : Option (List ℕ)) → load.file ≡ file → load_asks_store load input ≡ true
    by None none =
        subst (λ (f : Option (List ℕ)). asks_by f load input ≡ true) (sym none) (ap is_ok (same_table load input (λ name. NoFile) readings none ∙ e))
    by (Some name) some = subst (λ (f : Option (List ℕ)). asks_by f load input ≡ true) (sym some) (schema_good load input readings table e)

pub asks_file : (load : Load) (input : List ℕ) → IsSome load.file → is_ok (load_schema load) ≡ true → load_asks_store load input ≡ true
asks_file load input named good = by load.file refl
  where
    by : (file : Option (List ℕ)) → load.file ≡ file → load_asks_store load input ≡ true
    by None none = let bad : false ≡ true = sym (ap is_some none) ∙ named in absurd (cc)
    by (Some name) some = subst (λ (f : Option (List ℕ)). asks_by f load input ≡ true) (sym some) good

-- ---- what an accepted load keeps

-- the table, of its text
abbrev pub table_by : Load → Result (List ℕ) Status → Result Table Status
table_by load text =
    load_schema load
    >>= (λ schema. text
    >>= (λ bytes. records_or_refusal (loaded bytes schema load.skip)
    >>= (λ records. Ok (record { schema = schema; records = records }))))

pub table_is : (load : Load) (input : List ℕ) (readings : List ℕ → Reading)
    → load_table load input readings ≡ table_by load (text_or_refusal load.file input readings)
unfolding load_table
table_is load input readings = refl

-- the rows of a part are few
few_by : (per_part : ℕ) (r : Result (List Column) Status) (schema : List Column)
    → (r >>= (λ s. rows_or_refusal per_part s)) ≡ Ok schema → per_part ≤ most_rows
few_by per_part (Err why) schema e = absurd (cc)
few_by per_part (Ok other) schema e = by (nat_le per_part most_rows) refl
  where
    by : (b : Bool) → nat_le per_part most_rows ≡ b → per_part ≤ most_rows
    by true is = leb-true per_part most_rows is
    by false is =
        let bad : rows_or_refusal per_part other ≡ Err (status.Limit limit.Rows per_part most_rows) = rw is refl in
        let good : rows_or_refusal per_part other ≡ Ok schema = e in
        absurd (cc)

pub rows_few : (load : Load) (schema : List Column) → load_schema load ≡ Ok schema → load.per_part ≤ most_rows
unfolding load_schema
rows_few load schema e = few_by load.per_part (schema_or_refusal (read_schema load.schema)) schema e
