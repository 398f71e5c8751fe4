-- What a walk over the ones of a vector has still to give.
use Rattle.std.specs.Prelude.{◌≡◌, ℕ, ◌+◌, ◌-◌, ◌*◌, ◌%◌, ◌^◌, ◌<◌, ◌≤◌, ⊤, Bool, true, List, [], ◌∷◌, ◌++◌, replicate, Option, None, Some}
use Rattle.wah_words.specs.Limits.{most_bits}
use Rattle.wah_words.specs.Places.{places}
use Rattle.wah_iter.specs.Rows.{rows_from, runs_from}

-- the ones of a word whose first place is the row `base`, those of all rows from `next` up to `end`, and those of
-- the values from the row `end` on
abbrev pub rows_left : ℕ → ℕ → ℕ → ℕ → List Bool → List ℕ
rows_left word base next end v = rows_from base (places 31 word) ++ rows_from next (replicate (end - next) true) ++ rows_from end v

pub record IsPiece (word base next end : ℕ) : Type 0 where
  pub word_fits : word < 2147483648
  pub base_first : base ≤ end
  pub next_first : next ≤ end
  pub within : end ≤ most_bits
  -- beside ones of the word no rows come, and the word's values end in its places
  pub alone : 0 < word → (next ≡ end) × (end ≤ base + 31)

-- a walk's rows and words that are still to come
pub record RowsLeft : Type 0 where
  pub rows : List ℕ
  pub words : ℕ

-- the first of the rows comes, and None where there is none
abbrev pub ComesRow : List ℕ → Option ℕ → List ℕ → Type 0
ComesRow old None new = (old ≡ []) × (new ≡ [])
ComesRow old (Some row) new = old ≡ row ∷ new

-- ---- the same of runs

abbrev pub runs_left : ℕ → ℕ → ℕ → ℕ → List Bool → List (ℕ × ℕ)
runs_left word base next end v = runs_from base (places 31 word) (runs_from next (replicate (end - next) true) (runs_from end v []))

-- a walk's runs and words that are still to come
pub record RunsLeft : Type 0 where
  pub runs : List (ℕ × ℕ)
  pub words : ℕ

-- the first of the runs comes, and None where there is none
abbrev pub ComesRun : List (ℕ × ℕ) → Option (ℕ × ℕ) → List (ℕ × ℕ) → Type 0
ComesRun old None new = (old ≡ []) × (new ≡ [])
ComesRun old (Some run) new = old ≡ run ∷ new

-- the first run begins at this row
abbrev pub BeginsAt : ℕ → List (ℕ × ℕ) → Type 0
BeginsAt row [] = ⊥
BeginsAt row (r ∷ rs) = r.0 ≡ row

-- no run begins at this row or before it
abbrev pub BeginsAfter : ℕ → List (ℕ × ℕ) → Type 0
BeginsAfter row [] = ⊤
BeginsAfter row (r ∷ rs) = row < r.0

-- ---- the first run of a word of 31 places, in a number of 32

-- z zeros are above the highest place
pub record IsTop (word z : ℕ) : Type 0 where
  pub some : 1 ≤ z
  pub few : z ≤ 31
  pub low : 2 ^ (31 - z) ≤ word
  pub high : word < 2 ^ (31 - z) + 2 ^ (31 - z)

-- below the z zeros come ones up to place y, and then a zero
pub record IsFirstRun (word z y : ℕ) : Type 0 where
  pub after : z < y
  pub few : y ≤ 32
  pub rest : word % 2 ^ (32 - y) < 2 ^ (32 - y)
  pub split : word ≡ (2 ^ (y - z) - 1) * 2 ^ (32 - y) + word % 2 ^ (32 - y)
  pub zero_next : y < 32 → word % 2 ^ (32 - y) < 2 ^ (31 - y)

-- how much a walk has still to do, which each run that it takes makes less
abbrev pub size : ℕ → ℕ → ℕ → ℕ → ℕ
size word next end words = word + (end - next) + 4294967296 * words
