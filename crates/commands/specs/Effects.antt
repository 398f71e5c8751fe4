-- What a command leaves of the files.
use Rattle.std.specs.Prelude.{◌≡◌, ◌<◌, ◌≤◌, ℕ, false, List, length, take, Option}
use Rattle.fb_outside.specs.Files.{Files, SameFiles}
use Rattle.part_meta.specs.FileNames.{IsFileOf, index_name}
use Rattle.world.specs.World.{World}
use Rattle.world.specs.Stands.{StandsFor}
use Rattle.world.specs.Effects.{Effect, after}
use Rattle.statuses.specs.declared.Status.{Status}
use Rattle.statuses.specs.declared.Status.TheVariants.{ReadFault}
use Rattle.ibis_build.specs.Causes.{BuildKeeps}
use Rattle.ibis_build.specs.Looks.{IsAskedName}
use Rattle.commands.specs.Command.{Command, Loads, Answers, Estimates, Builds, Lists, Unknown}
use Rattle.commands.specs.Reply.{is_fault}

-- The files stand for the world after a front of the effects: after all of them but where the command ended with a fault,
-- and after none where its input failed.
pub record LeavesAfter (effects : List Effect) (world : World) (status : Status) (files : Option Files) : Type 0 where
  pub count : ℕ
  pub within : count ≤ length effects
  pub stands : StandsFor files (after world (take count effects))
  pub all : is_fault status ≡ false → count ≡ length effects
  pub none : status ≡ ReadFault → count ≡ 0

-- the index, in a part of the dataset, of a column whose name is asked for
pub record IsAskedIndex (dir : List ℕ) (list : Option (List ℕ)) (name : List ℕ) : Type 0 where
  pub number : ℕ
  pub column : List ℕ
  pub below : number < 4096
  pub asked : IsAskedName list column
  pub is : name ≡ index_name dir number column

-- a file that the command may change: one of the dataset that a load names, the index of a column that is asked for
abbrev pub IsOfCommand : Command → List ℕ → Type 0
IsOfCommand (Loads load) name = IsFileOf load.dir name
IsOfCommand (Answers dir query tell) name = ⊥
IsOfCommand (Estimates dir query) name = ⊥
IsOfCommand (Builds dir text list) name = IsAskedIndex dir list name
IsOfCommand (Lists dir) name = ⊥
IsOfCommand Unknown name = ⊥

-- A refused command changes no file, but that a request for indexes which ends at one that is refused leaves those before it.
abbrev pub KeepsRefused : Command → Option Files → Option Files → Type 0
KeepsRefused (Loads load) old new = SameFiles old new
KeepsRefused (Answers dir query tell) old new = SameFiles old new
KeepsRefused (Estimates dir query) old new = SameFiles old new
KeepsRefused (Builds dir text list) old new = BuildKeeps dir text list old new
KeepsRefused (Lists dir) old new = SameFiles old new
KeepsRefused Unknown old new = SameFiles old new
