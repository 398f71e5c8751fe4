-- The reads by which candidates are read.
use Rattle.std.specs.Prelude.{◌≡◌, ◌+◌, ◌<◌, ◌≤◌, ⊤, ℕ, Bool, true, false, List, map, Option, None, Some, get_or, is_some}
use Rattle.std.specs.List.{filter}
use Rattle.fb_outside.specs.Files.{Files, file_at}
use Rattle.fb_outside.specs.Reads.{Look, AddsReads}

-- a read of at most 4,096 neighbouring rows, each of which is among these
pub record IsBlockLook (look : ℕ × ℕ → Look) (rows : List Bool) (read : Look) : Type 0 where
  pub first : ℕ
  pub past : ℕ
  pub some : first < past
  pub few : past ≤ first + 4096
  pub is : read ≡ look (first, past)
  pub within : (row : ℕ) → first ≤ row → row < past → get_or rows row false ≡ true

-- a read of at most 4,096 neighbouring rows from one up to another
pub record IsPartLook (look : ℕ × ℕ → Look) (from to : ℕ) (read : Look) : Type 0 where
  pub first : ℕ
  pub past : ℕ
  pub some : first < past
  pub few : past ≤ first + 4096
  pub is : read ≡ look (first, past)
  pub begins : from ≤ first
  pub ends : past ≤ to

-- the notes of these reads: of those whose name has a file
abbrev pub notes_of : Files → List Look → List Look
notes_of files looks = filter (λ look. is_some (file_at files look.name)) looks

-- Where the files are told, these reads were made, in this order, and no other.
abbrev pub AddsAll : Option Files → Option (List Look) → Option (List Look) → List Look → Type 0
AddsAll None old new looks = ⊤
AddsAll (Some files) old new looks = AddsReads old new (λ added. added ≡ notes_of files looks)

-- the reads of blocks, of which some take none
abbrev pub reads_of : (ℕ × ℕ → Look) → (ℕ × ℕ → Bool) → List (ℕ × ℕ) → List Look
reads_of look takes_read blocks = map look (filter takes_read blocks)
