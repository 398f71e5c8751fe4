-- What a source has left and what a sink has taken. A meaning is None where the object doesn't tell it.
use Rattle.std.specs.Prelude.{◌≡◌, ℕ, List, [], ◌++◌, take, Option, IfSome, option_map}
use Rattle.std.specs.Io.KnownBytes.{Appends}

-- the bytes were taken from the front of what was left
abbrev pub Takes : Option (List ℕ) → Option (List ℕ) → List ℕ → Type 0
Takes old new bytes = old ≡ option_map (λ rest. bytes ++ rest) new

-- nothing is left, where that is told
abbrev pub IsAtEnd : Option (List ℕ) → Type 0
IsAtEnd left = IfSome left (λ rest. rest ≡ [])

-- this holds for some input, which is what the source has left where it tells that
pub record ForSomeInput (left : Option (List ℕ)) (P : List ℕ → Type 0) : Type 0 where
  pub input : List ℕ
  pub told : IfSome left (λ bytes. bytes ≡ input)
  pub holds : P input

-- the bytes were put behind what was written
abbrev pub Grows : Option (List ℕ) → Option (List ℕ) → List ℕ → Type 0
Grows old new bytes = new ≡ option_map (λ all. all ++ bytes) old

-- some front of the bytes was put behind what was written
pub record GrowsInPart (old new : Option (List ℕ)) (bytes : List ℕ) : Type 0 where
  pub count : ℕ
  pub front : Grows old new (take count bytes)

-- the same of a writer of the toolchain: some front of the bytes stands behind those that it held, where it tells them
pub record AppendsInPart (old new : Option (List ℕ)) (bytes : List ℕ) : Type 0 where
  pub count : ℕ
  pub front : Appends old new (take count bytes)
