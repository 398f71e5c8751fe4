-- What a request that was read keeps.
use Rattle.std.specs.Prelude.{◌≡◌, ◌<◌, ◌≤◌, ◌^◌, ⊤, ℕ, List, ◌++◌, IfSome, IsUtf8, codes}
use Rattle.fb_outside.specs.Names.{IsPath}
use Rattle.command_words.specs.declared.Job.{Job}
use Rattle.command_words.specs.declared.Job.TheVariants.{Ardea, Gen, Ibis, Session}
use Rattle.command_words.specs.declared.Load.{Load}
use Rattle.command_words.specs.declared.Task.{Task}
use Rattle.command_words.specs.declared.Task.TheVariants as task

-- a path that ends in `.csv`
pub record IsCsvPath (name : List ℕ) : Type 0 where
  pub path : IsPath name
  pub stem : List ℕ
  pub is : name ≡ stem ++ codes ".csv"

-- the paths are paths, the schema's text is text, and the numbers have at most 18 digits
pub record IsValidLoad (load : Load) : Type 0 where
  pub dir : IsPath load.dir
  pub schema : IsUtf8 load.schema
  pub file : IfSome load.file IsCsvPath
  pub some_rows : 1 ≤ load.per_part
  pub per_part : load.per_part < 10 ^ 18
  pub skip : load.skip < 10 ^ 18

-- each text is text
abbrev pub IsValidTask : Task → Type 0
IsValidTask (task.Answer query tell) = IsUtf8 query
IsValidTask (task.Estimate query) = IsUtf8 query
IsValidTask (task.Build spec columns) = IsUtf8 spec × IfSome columns IsUtf8
IsValidTask task.Check = ⊤
IsValidTask task.List = ⊤

abbrev pub IsValid : Job → Type 0
IsValid (Ardea load) = IsValidLoad load
IsValid (Ibis dir task) = IsPath dir × IsValidTask task
IsValid Session = ⊤
IsValid (Gen rows seed) = (1 ≤ rows) × (rows ≤ 1000000) × (seed < 10 ^ 18)
