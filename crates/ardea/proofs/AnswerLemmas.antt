-- What each step of a load tells, of what the calls below it tell.
use Rattle.std.proofs.Common.{◌≡◌, ◌≢◌, ◌<◌, ◌≤◌, ◌+◌, inl, inr, ℕ, Bool, true, false, List, [], ◌++◌, length, nat_le, Option, Some, None, IfSome, IfOk, IsSome, option_map, unwrap_or, Result, Ok, Err, is_ok, refl, sym, ap, subst, ◌∙◌, arith, length-append}
use Rattle.std.specs.Prelude.{⊤}
use Rattle.std.proofs.lemmas.Bool.{le-leb}
use Rattle.std.proofs.lemmas.List.{append-nil}
use Rattle.fb_outside.specs.Files.{Files, file_at}
use Rattle.fb_outside.specs.Streams.{IsAtEnd, Takes}
use Rattle.fb_types.specs.declared.schemas.Column.{Column}
use Rattle.fb_types.specs.Table.{Table}
use Rattle.csv_load.specs.Input.{TakesSome}
use Rattle.csv_load.specs.Loaded.{loaded}
use Rattle.command_words.specs.declared.Load.{Load}
use Rattle.part_meta.specs.declared.catalog.Catalog.{Catalog}
use Rattle.dataset.specs.Damage.{Damage, IsFirstDamaged}
use Rattle.dataset.specs.Found.{Absent, Broken, Found, IsFound, There}
use Rattle.dataset.specs.Opened.{OpensAs, catalog_in}
use Rattle.dataset.specs.declared.content.Dataset.{Dataset}
use Rattle.dataset.specs.declared.fault.DamageKind.TheVariants.{Length}
use Rattle.statuses.specs.declared.LimitKind.TheVariants as limit
use Rattle.statuses.specs.declared.Status.{Status}
use Rattle.statuses.specs.declared.Status.TheVariants as status
use Rattle.statuses.specs.declared.stop.Stop.{Stop}
use Rattle.statuses.specs.declared.stop.Stop.TheVariants.{Refused, ReadFault, StoreFault, OutOfMemory}
use Rattle.ardea.specs.Answers.{GivesCatalog, GivesFile, GivesInput, GivesTable, GivesText, StopsBy}
use Rattle.ardea.specs.Load.{Bytes, CutShort, NoFile, Reading, load_schema, load_table, most_input_bytes, reading_of, reading_or_refusal, records_or_refusal, text_or_refusal, within_limit}
use Rattle.ardea.specs.Order.{load_takes_input}
use Rattle.ardea.proofs.LoadLemmas.{above, table_done, table_records, table_schema, table_text, takes_input}

pub StopsBy-weaker : (P Q : Status → Type 0) (I J S R : Type 0) → ((why : Status) → P why → Q why) → (I → J) → (S → R)
    → (stop : Stop) → StopsBy P I S stop → StopsBy Q J R stop
StopsBy-weaker P Q I J S R refused failed store (Refused why) h = refused why h
StopsBy-weaker P Q I J S R refused failed store ReadFault h = failed h
StopsBy-weaker P Q I J S R refused failed store StoreFault h = store h
StopsBy-weaker P Q I J S R refused failed store OutOfMemory h = tt

-- two facts of one answer
pub IfOk-two : {X E : Type 0} (r : Result X E) (P Q R : X → Type 0) → ((x : X) → P x → Q x → R x) → IfOk r P → IfOk r Q → IfOk r R
IfOk-two (Ok x) P Q R f p q = f x p q
IfOk-two (Err e) P Q R f p q = tt

-- a fault of the outside shows what holds where it is asked
pub StopsBy-input : (P : Status → Type 0) (I S : Type 0) (stop : Stop) → stop ≡ ReadFault → StopsBy P I S stop → I
StopsBy-input P I S stop e h = subst (StopsBy P I S) e h

pub StopsBy-store : (P : Status → Type 0) (I S : Type 0) (stop : Stop) → stop ≡ StoreFault → StopsBy P I S stop → S
StopsBy-store P I S stop e h = subst (StopsBy P I S) e h

-- ---- the input

-- bytes that were taken to the end are all that was left
pub all_taken : (old new : Option (List ℕ)) (bytes : List ℕ) → Takes old new bytes → IsAtEnd new → IfSome old (λ all. all ≡ bytes)
all_taken None new bytes taken end = tt
all_taken (Some all) None bytes taken end = absurd (cc)
all_taken (Some all) (Some rest) bytes taken end =
    let is : all ≡ bytes ++ rest = cc in
    let none : bytes ++ rest ≡ bytes = rw end (append-nil bytes) in
    is ∙ none

-- bytes that came are no more than all that was left
pub came_short : (old new : Option (List ℕ)) (bytes : List ℕ) (n : ℕ) → Takes old new bytes → n < length bytes → IfSome old (λ all. n < length all)
came_short None new bytes n taken more = tt
came_short (Some all) None bytes n taken more = absurd (cc)
came_short (Some all) (Some rest) bytes n taken more =
    let is : all ≡ bytes ++ rest = cc in
    omega (arith, length-append bytes rest, ap length is)

pub input_read : (old new : Option (List ℕ)) (bytes : List ℕ) → Takes old new bytes → IsAtEnd new → length bytes ≤ most_input_bytes
    → GivesInput old (Ok bytes)
input_read old new bytes taken end within =
    record { input = bytes; told = all_taken old new bytes taken end; is = rw (le-leb (length bytes) most_input_bytes within) refl }

input_refused : (input : List ℕ) → most_input_bytes < length input
    → text_or_refusal None input (λ name. NoFile) ≡ Err (status.Limit limit.Input (most_input_bytes + 1) most_input_bytes)
input_refused input h = rw (above (length input) most_input_bytes h) refl

-- an input that is too long is refused, whether or not its bytes are told
too_long : (old new : Option (List ℕ)) (bytes : List ℕ) → Takes old new bytes → most_input_bytes < length bytes
    → GivesInput old (Err (status.Limit limit.Input (most_input_bytes + 1) most_input_bytes))
too_long None new bytes taken more = record { input = bytes; told = tt; is = input_refused bytes more }
too_long (Some all) new bytes taken more =
    record { input = all; told = refl; is = input_refused all (came_short (Some all) new bytes most_input_bytes taken more) }

pub too_long_of : (old new : Option (List ℕ)) (told block : ℕ)
    → (told ≡ most_input_bytes) × TakesSome old new (λ n. (most_input_bytes < n) × (n ≤ most_input_bytes + block))
    → GivesInput old (Err (status.Limit limit.Input (told + 1) told))
too_long_of old new told block h = rw h.0 (too_long old new h.1.came h.1.taken h.1.count.0)

-- ---- the file

-- a file that is told, else this reading
abbrev reading_in : List ℕ → Option Files → Reading → Reading
reading_in name None reading = reading
reading_in name (Some m) reading = reading_of (file_at m name)

pub file_read : (name : List ℕ) (files : Option Files) (bytes : List ℕ) → IfSome files (λ m. file_at m name ≡ Some bytes)
    → length bytes ≤ most_input_bytes → GivesFile name files (Ok bytes)
file_read name None bytes given within =
    record { reading = Bytes bytes; told = tt; is = rw (le-leb (length bytes) most_input_bytes within) refl }
file_read name (Some m) bytes given within =
    record { reading = Bytes bytes; told = rw given refl; is = rw (le-leb (length bytes) most_input_bytes within) refl }

pub file_missing : (name : List ℕ) (files : Option Files) → IfSome files (λ m. file_at m name ≡ None)
    → GivesFile name files (Err (status.NoDataset name))
file_missing name None none = record { reading = NoFile; told = tt; is = refl }
file_missing name (Some m) none = record { reading = NoFile; told = rw none refl; is = refl }

length_refused : {T : Type 0} (size : ℕ) (given : Result T Status) → most_input_bytes < size
    → within_limit size given ≡ Err (status.Limit limit.Input size most_input_bytes)
length_refused size given h = rw (above size most_input_bytes h) refl

abbrev lengths : Option (List ℕ) → Option ℕ
lengths file = option_map length file

file_too_long : (name : List ℕ) (files : Option Files) (have : ℕ) → IfSome files (λ m. option_map length (file_at m name) ≡ Some have)
    → most_input_bytes < have → GivesFile name files (Err (status.Limit limit.Input have most_input_bytes))
file_too_long name None have told over =
    record { reading = CutShort have; told = tt; is = length_refused have (Err (status.Damaged name Length 0 0)) over }
file_too_long name (Some m) have told over = by (file_at m name) refl
  where
    by : (file : Option (List ℕ)) → file_at m name ≡ file → GivesFile name (Some m) (Err (status.Limit limit.Input have most_input_bytes))
    by None e = let none : lengths None ≡ Some have = subst (λ (f : Option (List ℕ)). lengths f ≡ Some have) e told in absurd (cc)
    by (Some bytes) e =
        let some : lengths (Some bytes) ≡ Some have = subst (λ (f : Option (List ℕ)). lengths f ≡ Some have) e told in
        let long : length bytes ≡ have = cc in
        record {
          reading = Bytes bytes;
          told = rw e refl;
          is = subst (λ (n : ℕ). within_limit (length bytes) (Ok bytes) ≡ Err (status.Limit limit.Input n most_input_bytes)) long
              (length_refused (length bytes) (Ok bytes) (omega arith));
        }

pub file_over : (name : List ℕ) (files : Option Files) (have told : ℕ) → IfSome files (λ m. option_map length (file_at m name) ≡ Some have)
    → (most_input_bytes < have) × (told ≡ most_input_bytes) → GivesFile name files (Err (status.Limit limit.Input have told))
file_over name files have told len over = rw over.1 (file_too_long name files have len over.0)

pub file_short : (name : List ℕ) (files : Option Files) → IfSome files (λ m. ⊥) → GivesFile name files (Err (status.Damaged name Length 0 0))
file_short name None h = record { reading = CutShort 0; told = tt; is = refl }
file_short name (Some m) h = absurd h

-- ---- the text

abbrev readings_in : Option Files → Reading → List ℕ → Reading
readings_in files reading name = reading_in name files reading

readings_told : (files : Option Files) (reading : Reading)
    → IfSome files (λ m. (name : List ℕ) → readings_in files reading name ≡ reading_of (file_at m name))
readings_told None reading = tt
readings_told (Some m) reading = λ name. refl

input_told : (left : Option (List ℕ)) → IfSome left (λ bytes. bytes ≡ unwrap_or left [])
input_told None = tt
input_told (Some bytes) = refl

pub text_from_input : (load : Load) (left : Option (List ℕ)) (files : Option Files) (result : Result (List ℕ) Status) → load.file ≡ None
    → GivesInput left result → GivesText load left files result
text_from_input load left files result none h =
    record {
      input = h.input;
      readings = readings_in files NoFile;
      input_told = h.told;
      readings_told = readings_told files NoFile;
      is = rw none h.is;
    }

same_reading : (name : List ℕ) (files : Option Files) (reading : Reading) → IfSome files (λ m. reading ≡ reading_of (file_at m name))
    → readings_in files reading name ≡ reading
same_reading name None reading told = refl
same_reading name (Some m) reading told = sym told

pub text_from_file : (load : Load) (left : Option (List ℕ)) (files : Option Files) (name : List ℕ) (result : Result (List ℕ) Status)
    → load.file ≡ Some name → GivesFile name files result → GivesText load left files result
text_from_file load left files name result some h =
    record {
      input = unwrap_or left [];
      readings = readings_in files h.reading;
      input_told = input_told left;
      readings_told = readings_told files h.reading;
      is = rw (some, same_reading name files h.reading h.told) h.is;
    }

-- ---- the table

pub table_from_schema : (load : Load) (left : Option (List ℕ)) (files : Option Files) (why : Status) → load_schema load ≡ Err why
    → GivesTable load left files (Err why)
table_from_schema load left files why e =
    record {
      input = unwrap_or left [];
      readings = readings_in files NoFile;
      input_told = input_told left;
      readings_told = readings_told files NoFile;
      is = table_schema load (unwrap_or left []) (readings_in files NoFile) why e;
    }

pub table_from_text : (load : Load) (left : Option (List ℕ)) (files : Option Files) (schema : List Column) (why : Status)
    → load_schema load ≡ Ok schema → GivesText load left files (Err why) → GivesTable load left files (Err why)
table_from_text load left files schema why e h =
    record {
      input = h.input;
      readings = h.readings;
      input_told = h.input_told;
      readings_told = h.readings_told;
      is = table_text load h.input h.readings schema why e h.is;
    }

pub table_from_records : (load : Load) (left : Option (List ℕ)) (files : Option Files) (schema : List Column) (text : List ℕ) (why : Status)
    → load_schema load ≡ Ok schema → GivesText load left files (Ok text) → records_or_refusal (loaded text schema load.skip) ≡ Err why
    → GivesTable load left files (Err why)
table_from_records load left files schema text why e h bad =
    record {
      input = h.input;
      readings = h.readings;
      input_told = h.input_told;
      readings_told = h.readings_told;
      is = table_records load h.input h.readings schema text why e h.is bad;
    }

pub table_read : (load : Load) (left : Option (List ℕ)) (files : Option Files) (schema : List Column) (text : List ℕ) (table : Table)
    → load_schema load ≡ Ok schema → GivesText load left files (Ok text) → table.schema ≡ schema
    → loaded text schema load.skip ≡ Ok table.records → GivesTable load left files (Ok table)
table_read load left files schema text table e h same good =
    let read : load_table load h.input h.readings ≡ Ok (record { schema = schema; records = table.records }) =
    table_done load h.input h.readings schema text table.records e h.is good in
    record {
      input = h.input;
      readings = h.readings;
      input_told = h.input_told;
      readings_told = h.readings_told;
      is = subst (λ (s : List Column). load_table load h.input h.readings ≡ Ok (record { schema = s; records = table.records })) (sym same) read;
    }

-- ---- the catalog

pub catalog_there : (dir : List ℕ) (schema : List Column) (files : Option Files) (dataset : Dataset)
    → IfSome files (λ m. OpensAs m dir dataset) → GivesCatalog dir schema files (Ok (catalog_in dataset))
catalog_there dir schema files dataset h = record { found = There dataset; told = h; is = refl }

pub catalog_broken : (dir : List ℕ) (schema : List Column) (files : Option Files) (damage : Damage)
    → IfSome files (λ m. IsFirstDamaged m dir damage)
    → GivesCatalog dir schema files (Err (status.Damaged damage.file damage.kind damage.want damage.have))
catalog_broken dir schema files damage h = record { found = Broken damage; told = h; is = refl }
