-- What `gen` runs and prints: a load of records that are drawn from a number, and then, for each of four specifications, a request for
-- indexes and what is asked of them.
use Rattle.std.specs.Prelude.{ℕ, List, [], ◌∷◌, ◌++◌, length, Some, true}
use Rattle.std.specs.FinMap.{empty}
use Rattle.std.specs.List.{flat_map}
use lib.Chars.{codes}
use Rattle.generator.specs.Generated.{generated, generated_columns}
use Rattle.world.specs.World.{World, no_datasets}
use Rattle.world.specs.Effects.{Effect, Loads, after}
use Rattle.statuses.specs.declared.Status.TheVariants.{Done}
use Rattle.statuses.specs.Outcome.{Outcome}
use Rattle.ardea.specs.Load.{loaded_line}
use Rattle.commands.specs.Command.{Answers, Builds, Command, Estimates, command_outcome}

-- ---- commands one after another

-- what the commands print and do, each in the world that those before it leave
abbrev pub texts_of : List Command → World → List ℕ
texts_of [] world = []
texts_of (command ∷ commands) world =
    (command_outcome command [] world).text ++ texts_of commands (after world (command_outcome command [] world).effects)

abbrev pub effects_of : List Command → World → List Effect
effects_of [] world = []
effects_of (command ∷ commands) world =
    (command_outcome command [] world).effects ++ effects_of commands (after world (command_outcome command [] world).effects)

-- ---- those of a table

-- the path of the table
unfoldable pub table_path : List ℕ
table_path = codes "D"

-- the columns that get an index
unfoldable pub indexed_columns : List ℕ
indexed_columns = codes "a,c"

-- one of each encoding, and of each way to make bins but that of given bounds
unfoldable pub specifications : List (List ℕ)
specifications =
    codes "<binning none/><encoding equality/>"
    ∷ codes "<binning start=0 end=1000 nbins=20/><encoding range/>"
    ∷ codes "<binning nbins=30/><encoding interval/>"
    ∷ codes "<binning precision=2/><encoding two-level coarse=interval ncoarse=8/>" ∷ []

unfoldable pub queries : List (List ℕ)
queries =
    codes "where a < 250"
    ∷ codes "where 100 <= a < 400 and not (c >= 50000)"
    ∷ codes "where b = \"w5\" or a >= 900" ∷ []

-- an estimate, and then the answer with the number of checks
abbrev pub asked_by : List ℕ → List Command
asked_by query = Estimates table_path query ∷ Answers table_path query true ∷ []

-- the indexes by a specification, and then each query
abbrev pub asked_of : List ℕ → List Command
asked_of spec = Builds table_path spec (Some indexed_columns) ∷ flat_map asked_by queries

abbrev pub made_commands : List Command
made_commands = flat_map asked_of specifications

-- ---- the load before them

-- in parts of so many records
abbrev pub rows_of_part : ℕ
rows_of_part = 250000

abbrev pub made_load : (rows seed : ℕ) → Effect
made_load rows seed = Loads table_path generated_columns rows_of_part (generated rows seed)

-- a world that had nothing before the load
abbrev pub made_world : (rows seed : ℕ) → World
made_world rows seed = after (no_datasets empty) (made_load rows seed ∷ [])

-- ---- the reply

-- the line of the load, and the texts of the commands; outside of their own world they do nothing
abbrev pub gen_outcome : (rows seed : ℕ) → Outcome
gen_outcome rows seed = record {
  status = Done;
  text = loaded_line (length (generated rows seed)) ++ texts_of made_commands (made_world rows seed);
  effects = [];
}
