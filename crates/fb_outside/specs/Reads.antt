-- The reads of a store: each look at a name that has a file, refused ones too. None where they aren't told.
use Rattle.std.specs.Prelude.{◌≡◌, ◌⊎◌, ℕ, List, [], ◌∷◌, ◌++◌, length, Option, Some, None, IsSome, IfSome, is_some, option_map, unwrap_or, if◌then◌else◌}
use Rattle.std.specs.List.{AllByRecursion}
use Rattle.fb_outside.specs.Files.{Files, file_at}

-- a read: the file's name, where it began, and how many bytes it had room for
pub record Look : Type 0 where
  pub name : List ℕ
  pub offset : ℕ
  pub room : ℕ

-- Where the reads are told, they were told before, and those added meet P.
pub record AddsReads (old new : Option (List Look)) (P : List Look → Type 0) : Type 0 where
  pub added : List Look
  pub each : P added
  pub told : IsSome new → new ≡ option_map (λ before. before ++ added) old

-- each added read meets P
abbrev pub AddsOnly : (Look → Type 0) → Option (List Look) → Option (List Look) → Type 0
AddsOnly P old new = AddsReads old new (AllByRecursion P)

-- what one look adds: itself exactly where its name has a file; where the files aren't told, itself or nothing
abbrev pub IsNoteOf : Option Files → Look → List Look → Type 0
IsNoteOf None look added = (added ≡ []) ⊎ (added ≡ look ∷ [])
IsNoteOf (Some files) look added = added ≡ (if is_some (file_at files look.name) then look ∷ [] else [])

-- one look was made
abbrev pub AddsRead : Option Files → Option (List Look) → Option (List Look) → Look → Type 0
AddsRead files old new look = AddsReads old new (IsNoteOf files look)

-- the look at a whole file, with as much room as the file has bytes
abbrev pub whole_look : Files → List ℕ → Look
whole_look files name = record { name = name; offset = 0; room = length (unwrap_or (file_at files name) []) }

-- a look at this file from its beginning on, at the whole of it where that is told
pub record IsWholeLook (files : Option Files) (name : List ℕ) (look : Look) : Type 0 where
  pub of_it : look.name ≡ name
  pub from_start : look.offset ≡ 0
  pub whole : IfSome files (λ m. look ≡ whole_look m name)
