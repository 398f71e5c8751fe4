-- Files that are put one after another.
use Rattle.std.specs.Prelude.{◌≡◌, ◌≤◌, ℕ, List, [], ◌∷◌, Option, Some, Result, Ok, Err, length, option_map, take}
use Rattle.std.specs.FinMap.{insert}
use Rattle.fb_outside.specs.Files.{Files, file_at}

-- a file: its name and its bytes
pub record File : Type 0 where
  pub name : List ℕ
  pub bytes : List ℕ

-- the file is there, with these bytes
abbrev pub IsThere : Files → File → Type 0
IsThere files file = file_at files file.name ≡ Some file.bytes

-- the files once these are put, the first of them first
abbrev pub with_files : List File → Files → Files
with_files [] files = files
with_files (file ∷ rest) files = with_files rest (insert files file.name file.bytes)

-- these files were put, in this order, and every other file stayed
abbrev pub PutsAll : List File → Option Files → Option Files → Type 0
PutsAll list old new = new ≡ option_map (with_files list) old

-- some front of them was put: what is there when a writer of these files stops
pub record PutsFront (list : List File) (old new : Option Files) : Type 0 where
  pub count : ℕ
  pub within : count ≤ length list
  pub front : PutsAll (take count list) old new

-- all of them where a call is done, and a front of them where it stopped
abbrev pub PutsInOrder : {A E : Type 0} → List File → Result A E → Option Files → Option Files → Type 0
PutsInOrder list (Ok done) old new = PutsAll list old new
PutsInOrder list (Err fault) old new = PutsFront list old new
