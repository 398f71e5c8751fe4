-- What a load leaves behind its answers, from what its steps answer.
use Rattle.std.proofs.Common.{◌≡◌, ◌≢◌, inl, inr, ℕ, Bool, true, false, List, [], length, Option, Some, None, IfSome, IsSome, IsOk, Result, Ok, Err, is_ok, refl, sym, ap, subst, ◌∙◌}
use Rattle.std.specs.Prelude.{⊤}
use Rattle.fb_outside.specs.Files.{Files, SameFiles}
use Rattle.fb_outside.specs.Puts.{PutsAll, PutsFront}
use Rattle.fb_outside.specs.Streams.{ForSomeInput}
use Rattle.fb_types.specs.declared.schemas.Column.{Column}
use Rattle.fb_types.specs.Schemas.{IsSchema}
use Rattle.fb_types.specs.Table.{Table, AllFit}
use Rattle.command_words.specs.declared.Load.{Load}
use Rattle.part_meta.specs.declared.catalog.Catalog.{Catalog}
use Rattle.dataset.specs.Appended.{Refusal, append_files}
use Rattle.dataset.specs.Found.{Absent}
use Rattle.statuses.specs.declared.Status.{Status}
use Rattle.statuses.specs.declared.stop.Stop.{Stop}
use Rattle.statuses.specs.declared.stop.Stop.TheVariants.{Refused, ReadFault, StoreFault, OutOfMemory}
use Rattle.ardea.specs.Answers.{GivesCatalog, GivesTable, StopsBy, refusal_of}
use Rattle.ardea.specs.Done.{Ends, GoesThrough, IsDone}
use Rattle.ardea.specs.Load.{Gives, Situation, load_schema, load_table, unless_refused}
use Rattle.ardea.specs.Order.{load_asks_store, load_takes_input}
use Rattle.ardea.proofs.AnswerLemmas.{StopsBy-store}
use Rattle.ardea.proofs.LoadLemmas.{asks_file, asks_store, result_catalog, result_is, result_table}

-- ---- where the table is refused

-- why reading the table stops
abbrev pub TableStops : Load → Option (List ℕ) → Option Files → Stop → Type 0
TableStops load left files stop =
    StopsBy (λ why. GivesTable load left files (Err why)) (load_takes_input load ≡ true)
    (IsSome load.file × (is_ok (load_schema load) ≡ true)) stop

not_ok : {A : Type 0} (r : Result A Status) (why : Status) → r ≡ Err why → IsOk r → ⊥
not_ok r why e ok = let bad : false ≡ true = sym (ap is_ok e) ∙ ok in cc

refused_table : (load : Load) (left : Option (List ℕ)) (files : Option Files) (why : Status) → GivesTable load left files (Err why)
    → Gives load left files (Err why)
refused_table load left files why h =
    record {
      situation = record {
        input = h.input;
        readings = h.readings;
        found = Absent;
        input_told = h.input_told;
        readings_told = h.readings_told;
        found_told = λ ok. absurd (not_ok (load_table load h.input h.readings) why h.is ok);
      };
      is = result_table load h.input h.readings Absent why h.is;
    }

pub ends_table : (load : Load) (left : Option (List ℕ)) (old new : Option Files) (stop : Stop) → SameFiles old new
    → TableStops load left old stop → Ends load left old new (Err stop)
ends_table load left old new (Refused why) same h = (refused_table load left old why h, same)
ends_table load left old new ReadFault same h = same
ends_table load left old new StoreFault same h = inl same
ends_table load left old new OutOfMemory same h = inl same

pub file_asked : (load : Load) (left : Option (List ℕ)) (files : Option Files) (stop : Stop) → TableStops load left files stop
    → stop ≡ StoreFault → ForSomeInput left (λ bytes. load_asks_store load bytes ≡ true)
file_asked load None files stop h e =
    let asked = StopsBy-store _ _ _ stop e h in
    record { input = []; told = tt; holds = asks_file load [] asked.0 asked.1 }
file_asked load (Some bytes) files stop h e =
    let asked = StopsBy-store _ _ _ stop e h in
    record { input = bytes; told = refl; holds = asks_file load bytes asked.0 asked.1 }

-- ---- where it isn't

pub store_asked : (load : Load) (left : Option (List ℕ)) (files : Option Files) (table : Table) → GivesTable load left files (Ok table)
    → ForSomeInput left (λ bytes. load_asks_store load bytes ≡ true)
store_asked load left files table h =
    record { input = h.input; told = h.input_told; holds = asks_store load h.input h.readings table h.is }

-- the catalog is that of other files and columns that are the same
pub GivesCatalog-same : (dir : List ℕ) (schema other : List Column) (old mid : Option Files) (r : Result Catalog Status) → schema ≡ other
    → SameFiles old mid → GivesCatalog dir schema mid r → GivesCatalog dir other old r
GivesCatalog-same dir schema other old mid r columns same h =
    subst (λ (s : List Column). GivesCatalog dir s old r) columns (subst (λ (f : Option Files). GivesCatalog dir schema f r) same h)

abbrev situation_of : (load : Load) (left : Option (List ℕ)) (files : Option Files) (table : Table) (r : Result Catalog Status)
    → GivesTable load left files (Ok table) → GivesCatalog load.dir table.schema files r → Situation load left files
situation_of load left files table r t k =
    record {
      input = t.input;
      readings = t.readings;
      found = k.found;
      input_told = t.input_told;
      readings_told = t.readings_told;
      found_told = λ ok. k.told;
    }

pub ends_dataset : (load : Load) (left : Option (List ℕ)) (old new : Option Files) (table : Table) (stop : Stop) → SameFiles old new
    → GivesTable load left old (Ok table) → StopsBy (λ why. GivesCatalog load.dir table.schema old (Err why)) ⊥ ⊤ stop
    → Ends load left old new (Err stop)
ends_dataset load left old new table (Refused why) same t k = (
  record {
    situation = situation_of load left old table (Err why) t k;
    is = result_catalog load t.input t.readings k.found table why t.is k.is;
  },
  same,
)
ends_dataset load left old new table ReadFault same t k = absurd k
ends_dataset load left old new table StoreFault same t k = inl same
ends_dataset load left old new table OutOfMemory same t k = inl same

-- ---- where the dataset is there to take it

-- the table is read, and the dataset of this catalog is to take it
pub record IsReady (load : Load) (left : Option (List ℕ)) (files : Option Files) (table : Table) (catalog : Catalog) : Type 0 where
  pub table_read : GivesTable load left files (Ok table)
  pub opened : GivesCatalog load.dir table.schema files (Ok catalog)
  pub schema : IsSchema table.schema
  pub fit : AllFit table

goes_through : (load : Load) (left : Option (List ℕ)) (files : Option Files) (table : Table) (catalog : Catalog)
    → IsReady load left files table catalog → refusal_of catalog load.per_part table ≡ None → GoesThrough load left files table catalog
goes_through load left files table catalog h accepted =
    record {
      situation = situation_of load left files table (Ok catalog) h.table_read h.opened;
      loaded = h.table_read.is;
      taken = h.opened.is;
      accepted = accepted;
      schema = h.schema;
      fit = h.fit;
    }

-- why adding it stops
abbrev pub AddStops : Load → Table → Catalog → Stop → Type 0
AddStops load table catalog stop =
    StopsBy (λ why. unless_refused table (refusal_of catalog load.per_part table) ≡ Err why) ⊥
    (refusal_of catalog load.per_part table ≡ None) stop

not_none : (table : Table) (given : Option Refusal) (why : Status) → unless_refused table given ≡ Err why → given ≢ None
not_none table given why e none =
    let taken : unless_refused table None ≡ Err why = subst (λ (o : Option Refusal). unless_refused table o ≡ Err why) none e in
    cc

pub ends_add : (load : Load) (left : Option (List ℕ)) (old new : Option Files) (table : Table) (catalog : Catalog) (stop : Stop)
    → IsReady load left old table catalog → AddStops load table catalog stop
    → (refusal_of catalog load.per_part table ≢ None → SameFiles old new)
    → PutsFront (append_files load.dir catalog load.per_part table.records) old new → Ends load left old new (Err stop)
ends_add load left old new table catalog (Refused why) h stops kept put = (
  record {
    situation = situation_of load left old table (Ok catalog) h.table_read h.opened;
    is = result_is load h.table_read.input h.table_read.readings h.opened.found table catalog h.table_read.is h.opened.is ∙ stops;
  },
  kept (not_none table (refusal_of catalog load.per_part table) why stops),
)
ends_add load left old new table catalog ReadFault h stops kept put = absurd stops
ends_add load left old new table catalog StoreFault h stops kept put =
    inr (record { table = table; catalog = catalog; goes = goes_through load left old table catalog h stops; put = put })
ends_add load left old new table catalog OutOfMemory h stops kept put = by (refusal_of catalog load.per_part table) refl
  where
    by : (given : Option Refusal) → refusal_of catalog load.per_part table ≡ given → Ends load left old new (Err OutOfMemory)
    by None e = inr (record { table = table; catalog = catalog; goes = goes_through load left old table catalog h e; put = put })
    by (Some why) e = inl (kept (λ none. let bad : Some why ≡ None = sym e ∙ none in cc))

pub ends_done : (load : Load) (left : Option (List ℕ)) (old new : Option Files) (table : Table) (catalog : Catalog) (count : ℕ)
    → IsReady load left old table catalog → refusal_of catalog load.per_part table ≡ None → count ≡ length table.records
    → PutsAll (append_files load.dir catalog load.per_part table.records) old new → IsDone load left old new count
ends_done load left old new table catalog count h accepted rows put =
    record {
      table = table;
      catalog = catalog;
      goes = goes_through load left old table catalog h accepted;
      rows = rows;
      put = put;
    }
