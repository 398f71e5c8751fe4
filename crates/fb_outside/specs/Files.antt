-- The files of a store. A meaning is None where the store doesn't tell it.
use Rattle.std.specs.Prelude.{◌≡◌, ◌⊎◌, ℕ, List, [], take, drop, Option, is_some, unwrap_or, option_map, option_and_then}
use Rattle.std.specs.Ordering.{nat_cmp}
use Rattle.std.specs.Cmp.Lexicographic.{slice_cmp}
use Rattle.std.specs.FinMap.{FinMap, get, insert}

-- from the bytes of a name to the bytes of its file
abbrev pub Files : Type 0
Files = FinMap (slice_cmp nat_cmp) (List ℕ)

-- a file's bytes, or None where there is no such file
abbrev pub file_at : Files → List ℕ → Option (List ℕ)
file_at files name = get files name

-- at most `most` of a file's bytes from `offset` on: none where there is no such file
abbrev pub bytes_at : Files → List ℕ → ℕ → ℕ → List ℕ
bytes_at files name offset most = take most (drop offset (unwrap_or (file_at files name) []))

-- no file changed
abbrev pub SameFiles : Option Files → Option Files → Type 0
SameFiles old new = new ≡ old

-- the file of this name has these bytes now, and every other file stayed
abbrev pub Puts : Option Files → Option Files → List ℕ → List ℕ → Type 0
Puts old new name bytes = new ≡ option_map (λ files. insert files name bytes) old

-- what a `put` that failed may leave: every file as it was, or the new bytes
abbrev pub PutLeaves : List ℕ → List ℕ → Option Files → Option Files → Type 0
PutLeaves name bytes old new = SameFiles old new ⊎ Puts old new name bytes

-- a file's bytes, where the files are told
abbrev pub told_at : Option Files → List ℕ → Option (List ℕ)
told_at files name = option_and_then (λ m. file_at m name) files

-- Whether the files are told stayed, and so did each file whose name isn't among these.
pub record ChangesAmong (names : List ℕ → Type 0) (old new : Option Files) : Type 0 where
  pub told : is_some new ≡ is_some old
  pub others : (q : List ℕ) → (names q → ⊥) → told_at new q ≡ told_at old q

-- every file but that of this name stayed
abbrev pub ChangesOnly : List ℕ → Option Files → Option Files → Type 0
ChangesOnly name old new = ChangesAmong (λ q. q ≡ name) old new
