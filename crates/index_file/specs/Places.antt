-- Where the bitmaps of an index file stand.
use Rattle.std.specs.Prelude.{◌≡◌, ◌<◌, ◌≤◌, suc, ◌+◌, ◌-◌, ◌*◌, ◌==◌, ℕ, Bool, List, [], ◌∷◌, length, Option, None, Some, option_map, nat_lt, slice_index, if◌then◌else◌}
use Rattle.wah_words.specs.Bytes.{spelling}
use Rattle.fb_outside.specs.Reads.{Look}

-- the bytes of a head with so many bytes of a specification, so many bins and so many bitmaps
abbrev pub head_size : ℕ → ℕ → ℕ → ℕ
head_size text bins bitmaps = 24 + (text + (32 * bins + 8 * (bitmaps + 1)))

-- where each bitmap begins, the first at a place, and where the last ends
abbrev pub places_from : ℕ → List (List Bool) → List ℕ
places_from at [] = at ∷ []
places_from at (bits ∷ more) = at ∷ places_from (at + length (spelling bits)) more

-- the number of the first place that isn't 8 or more past the one before it
abbrev pub first_close : ℕ → List ℕ → Option ℕ
first_close before [] = None
first_close before (place ∷ places) = if nat_lt place (before + 8) then Some 0 else option_map suc (first_close place places)

-- the last place
abbrev pub last_from : ℕ → List ℕ → ℕ
last_from place [] = place
last_from place (next ∷ places) = last_from next places

abbrev pub last_place : List ℕ → ℕ
last_place [] = 0
last_place (place ∷ places) = last_from place places

-- the first number that is there
abbrev pub or_else : Option ℕ → Option ℕ → Option ℕ
or_else (Some k) other = Some k
or_else None other = other

-- The number of the first wrong place: the first isn't where the head ends, one isn't 8 or more past the one before it,
-- or the last isn't where the file ends.
abbrev pub first_wrong_place : ℕ → ℕ → List ℕ → Option ℕ
first_wrong_place head size [] = Some 0
first_wrong_place head size (place ∷ places) =
    if place == head then or_else (option_map suc (first_close place places)) (if last_from place places == size then None else Some (length places)) else Some 0

-- In the bitmaps' own words: the first begins where the head ends, each has 8 bytes or more, and the last ends the file.
pub record ArePlaced (head size : ℕ) (places : List ℕ) : Type 0 where
  pub some : 0 < length places
  pub first : slice_index places 0 ≡ head
  pub last : last_place places ≡ size
  pub apart : (k : ℕ) → k + 1 < length places → slice_index places k + 8 ≤ slice_index places (k + 1)

-- how many bytes the bitmap of a number has
abbrev pub room_at : List ℕ → ℕ → ℕ
room_at places k = slice_index places (k + 1) - slice_index places k

-- the read of that bitmap
abbrev pub bitmap_look : List ℕ → List ℕ → ℕ → Look
bitmap_look name places k = record { name = name; offset = slice_index places k; room = room_at places k }
