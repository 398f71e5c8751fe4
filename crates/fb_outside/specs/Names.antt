-- Names of files.
use Rattle.std.specs.Prelude.{◌≡◌, ◌≢◌, ◌<◌, ◌≤◌, ◌||◌, ◌==◌, ℕ, Bool, List, [], ◌∷◌, ◌++◌, length, IsTrue, if◌then◌else◌}
use Rattle.std.specs.Char.{is_ascii_alphanumeric}
use Rattle.std.specs.List.{AllByRecursion, join_with_byte}

-- ASCII letters, digits, `_`, `-` and `.`
abbrev pub is_piece_byte : ℕ → Bool
is_piece_byte b = is_ascii_alphanumeric b || (b == 95) || (b == 45) || (b == 46)

-- a piece of a name, of at most `most` bytes, that is neither `.` nor `..`
pub record IsPiece (most : ℕ) (piece : List ℕ) : Type 0 where
  pub some : 0 < length piece
  pub short : length piece ≤ most
  pub bytes : AllByRecursion (λ b. IsTrue (is_piece_byte b)) piece
  pub not_here : piece ≢ 46 ∷ []
  pub not_up : piece ≢ 46 ∷ 46 ∷ []

-- the pieces joined by single slashes, behind a slash where they begin at the root
abbrev pub spelled : Bool → List (List ℕ) → List ℕ
spelled rooted pieces = (if rooted then 47 ∷ [] else []) ++ join_with_byte 47 pieces

-- at most `longest` bytes that spell one or more pieces of at most `most` bytes each
pub record IsName (longest most : ℕ) (text : List ℕ) : Type 0 where
  pub rooted : Bool
  pub pieces : List (List ℕ)
  pub is : text ≡ spelled rooted pieces
  pub some : 0 < length pieces
  pub each : AllByRecursion (IsPiece most) pieces
  pub short : length text ≤ longest

-- a name that a file may have
abbrev pub IsFileName : List ℕ → Type 0
IsFileName = IsName 300 80

-- a name under which a dataset may stand
abbrev pub IsPath : List ℕ → Type 0
IsPath = IsName 200 64
