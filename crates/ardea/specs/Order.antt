-- Where a load asks the outside.
use Rattle.std.specs.Prelude.{ℕ, Bool, false, List, Option, Some, None, is_ok}
use Rattle.command_words.specs.declared.Load.{Load}
use Rattle.ardea.specs.Load.{NoFile, load_schema, load_table}

-- the input, where the load names no file and its schema isn't refused
abbrev pub takes_by : Option (List ℕ) → Bool → Bool
takes_by None schema_is_good = schema_is_good
takes_by (Some name) schema_is_good = false

abbrev pub load_takes_input : Load → Bool
load_takes_input load = takes_by load.file (is_ok (load_schema load))

-- The store, where its records aren't refused; for the file that it names, where its schema isn't.
abbrev pub asks_by : Option (List ℕ) → Load → List ℕ → Bool
asks_by None load input = is_ok (load_table load input (λ name. NoFile))
asks_by (Some name) load input = is_ok (load_schema load)

abbrev pub load_asks_store : Load → List ℕ → Bool
load_asks_store load input = asks_by load.file load input
