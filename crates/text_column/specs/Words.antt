-- The words of a category column and their codes.
use Rattle.std.specs.Prelude.{◌≤◌, ◌+◌, ◌-◌, ◌==◌, ℕ, List, [], ◌∷◌, ◌++◌, Option, None, option_map, slice_get, length, fold, position, if◌then◌else◌}
use Rattle.std.specs.List.{AllByRecursion, IsDistinct, list_any}
use Rattle.std.specs.Str.{bytes_eq}

abbrev pub IsWord : List ℕ → Type 0
IsWord word = (1 ≤ length word) × (length word ≤ 65535)

-- the most words of a dictionary
abbrev pub most_words : ℕ
most_words = 4194304

-- distinct words, of which each has a code
pub record IsDictionary (words : List (List ℕ)) : Type 0 where
  pub each : AllByRecursion IsWord words
  pub distinct : IsDistinct bytes_eq words
  pub few : length words ≤ most_words

-- the word's code: its place, counted from 1
abbrev pub code_in : List (List ℕ) → List ℕ → Option ℕ
code_in words word = option_map (λ place. place + 1) (position (bytes_eq word) words)

-- the word of this code
abbrev pub word_in : List (List ℕ) → ℕ → Option (List ℕ)
word_in words code = if code == 0 then None else slice_get words (code - 1)

-- the words once this one has been seen, too: a new one comes behind the others
abbrev pub with_word : List (List ℕ) → List ℕ → List (List ℕ)
with_word words word = if list_any (bytes_eq word) words then words else words ++ word ∷ []

-- the words of a column in the order in which its rows first have them
abbrev pub first_seen : List (List ℕ) → List (List ℕ)
first_seen words = fold with_word [] words
