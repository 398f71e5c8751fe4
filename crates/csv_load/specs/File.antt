-- What reading a whole file says of it. A file is its bytes, or None where there is no such file.
use Rattle.std.specs.Prelude.{◌≡◌, ⊤, ℕ, ◌<◌, ◌≤◌, List, length, Option, Some, None, option_map}
use Rattle.fb_outside.specs.Files.{Files}
use Rattle.fb_outside.specs.Reads.{IsWholeLook, Look}
use Rattle.csv_load.specs.declared.file.FileFault.{FileFault}
use Rattle.csv_load.specs.declared.file.FileFault.TheVariants.{Missing, Store, TooLong, Short, OutOfMemory}

-- the file is there, with at most this many bytes
pub record HasUpTo (limit : ℕ) (file : Option (List ℕ)) : Type 0 where
  pub bytes : List ℕ
  pub is : file ≡ Some bytes
  pub within : length bytes ≤ limit

-- What a fault says of a file that is told: each names the one that there is, and none is short.
abbrev pub IsFileFault : ℕ → Option (List ℕ) → FileFault → Type 0
IsFileFault limit file Missing = file ≡ None
IsFileFault limit file Store = ⊤
IsFileFault limit file (TooLong have told) = option_map length file ≡ Some have
IsFileFault limit file Short = ⊥
IsFileFault limit file OutOfMemory = HasUpTo limit file

-- a length that is told is over the limit that is told
abbrev pub IsOver : ℕ → FileFault → Type 0
IsOver limit Missing = ⊤
IsOver limit Store = ⊤
IsOver limit (TooLong have told) = (limit < have) × (told ≡ limit)
IsOver limit Short = ⊤
IsOver limit OutOfMemory = ⊤

-- a fault that comes before the file is read
abbrev pub IsBeforeRead : FileFault → Type 0
IsBeforeRead Missing = ⊤
IsBeforeRead Store = ⊥
IsBeforeRead (TooLong have told) = ⊤
IsBeforeRead Short = ⊥
IsBeforeRead OutOfMemory = ⊤

-- a file is looked at as a whole, and only where it keeps to the limit
pub record IsLookWithin (limit : ℕ) (files : Option Files) (name : List ℕ) (look : Look) : Type 0 where
  pub whole : IsWholeLook files name look
  pub within : look.room ≤ limit
