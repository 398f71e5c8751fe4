-- Which texts are of the form of a pattern.
use Rattle.std.specs.Prelude.{◌≡◌, ℕ, Bool, true, false, ◌&&◌, ◌||◌, ◌==◌, nat_le, if◌then◌else◌, List, [], ◌∷◌, ◌++◌, drop, Option, Some, None}
use Rattle.std.specs.List.{list_any, prefix_len, slice_split}

-- a byte from 80 to BF, which goes on with a character in UTF-8
abbrev pub goes_on : ℕ → Bool
goes_on b = nat_le 128 b && nat_le b 191

-- a text behind the bytes that go on with a character that began before it
abbrev pub next_character : List ℕ → List ℕ
next_character bs = drop (prefix_len goes_on bs) bs

-- What a text has behind a piece of a pattern that stands at its front; none where it doesn't stand there. `_` (95)
-- stands for one byte and all bytes 80 to BF that directly follow it, every other byte for itself.
abbrev pub behind : List ℕ → List ℕ → Option (List ℕ)
behind [] text = Some text
behind (p ∷ ps) [] = None
behind (p ∷ ps) (b ∷ bs) = if p == 95 then behind ps (next_character bs) else (if b == p then behind ps bs else None)

-- The pieces stand in the text one behind another, the first at its front and the last at its end, with any run of
-- bytes, also none, between two of them. There is at least one piece.
abbrev pub StandInOrder : List (List ℕ) → List ℕ → Type 0
StandInOrder [] text = ⊥
StandInOrder (piece ∷ []) text = behind piece text ≡ Some []
StandInOrder (piece ∷ next ∷ pieces) text =
    (between : List ℕ) × (rest : List ℕ) × (behind piece text ≡ Some (between ++ rest)) × StandInOrder (next ∷ pieces) rest

-- a pattern's pieces, which `%` (37) parts
abbrev pub pieces_of : List ℕ → List (List ℕ)
pieces_of pattern = slice_split (λ p. p == 37) pattern

abbrev pub IsLike : List ℕ → List ℕ → Type 0
IsLike pattern text = StandInOrder (pieces_of pattern) text

-- ---- the same as a test, by the pattern's bytes in turn

-- a text and all that is left of it behind some front
abbrev pub rests_of : List ℕ → List (List ℕ)
rests_of [] = [] ∷ []
rests_of (b ∷ bs) = (b ∷ bs) ∷ rests_of bs

abbrev pub one_then : (List ℕ → Bool) → List ℕ → Bool
one_then fits [] = false
one_then fits (b ∷ bs) = fits (next_character bs)

abbrev pub same_then : ℕ → (List ℕ → Bool) → List ℕ → Bool
same_then byte fits [] = false
same_then byte fits (b ∷ bs) = b == byte && fits bs

-- `%` stands for any run of bytes, also none
abbrev pub like : List ℕ → List ℕ → Bool
like [] [] = true
like [] (b ∷ bs) = false
like (p ∷ ps) text = if p == 37 then list_any (like ps) (rests_of text) else (if p == 95 then one_then (like ps) text else same_then p (like ps) text)

-- ---- searching

abbrev pub first_of : Option (List ℕ) → Option (List ℕ) → Option (List ℕ)
first_of None other = other
first_of (Some rest) other = Some rest

-- what a text has behind the first place at which the piece stands
abbrev pub behind_first : List ℕ → List ℕ → Option (List ℕ)
behind_first piece [] = behind piece []
behind_first piece (b ∷ bs) = first_of (behind piece (b ∷ bs)) (behind_first piece bs)

-- the piece has come to the end of the text
abbrev pub is_end : Option (List ℕ) → Bool
is_end None = false
is_end (Some []) = true
is_end (Some (b ∷ bs)) = false

-- the piece stands somewhere in the text, to its end
abbrev pub stands_last : List ℕ → List ℕ → Bool
stands_last piece text = list_any (λ rest. is_end (behind piece rest)) (rests_of text)
