-- What the words behind a command give: which of them are options and flags, and the values of the options.
use Rattle.std.specs.Prelude.{ℕ, zero, suc, ◌+◌, Bool, false, ◌&&◌, ◌||◌, not, nat_le, List, [], ◌∷◌, length, Option, bytes_eq, count_by, filter, find, option_map, slice_index_or}
use Rattle.std.specs.List.{list_all, list_any, range_with_len}

-- the letters of a command: those of its options, which have a value, and those of its flags, which have none
pub record Letters : Type 0 where
  pub options : List ℕ
  pub flags : List ℕ

abbrev pub letters_by : (options flags : List ℕ) → Letters
letters_by options flags = record { options = options; flags = flags }

-- a word of two bytes, `-` (45) and the letter
abbrev pub spells : ℕ → List ℕ → Bool
spells letter word = bytes_eq word (45 ∷ letter ∷ [])

-- such a word, with one of these letters
abbrev pub spells_one : List ℕ → List ℕ → Bool
spells_one letters word = list_any (λ letter. spells letter word) letters

-- the word at a place, counted from 0
abbrev pub word_at : List (List ℕ) → ℕ → List ℕ
word_at words place = slice_index_or words place []

-- A word is a value exactly where the word before it is no value and spells an option.
unfoldable pub is_value : (options : List ℕ) → List (List ℕ) → ℕ → Bool
is_value options words zero = false
is_value options words (suc place) = not (is_value options words place) && spells_one options (word_at words place)

-- the places of the words that are no values
abbrev pub plain_places : (options : List ℕ) → List (List ℕ) → List ℕ
plain_places options words = filter (λ place. not (is_value options words place)) (range_with_len 0 (length words))

-- the words behind a command, and those of their places that have no value
pub record Given : Type 0 where
  pub words : List (List ℕ)
  pub places : List ℕ

abbrev pub given_by : Letters → List (List ℕ) → Given
given_by letters words = record { words = words; places = plain_places letters.options words }

-- the option or flag of a letter is read at a place
abbrev pub is_read_at : Given → (letter place : ℕ) → Bool
is_read_at given letter place = spells letter (word_at given.words place)

-- it is there
abbrev pub has : Given → ℕ → Bool
has given letter = list_any (λ place. is_read_at given letter place) given.places

-- its value: the word behind the place at which it is read
abbrev pub value_of : Given → ℕ → Option (List ℕ)
value_of given letter =
    option_map (λ place. word_at given.words (place + 1)) (find (λ place. is_read_at given letter place) given.places)

-- how often it is there
abbrev pub times : Given → ℕ → ℕ
times given letter = count_by (λ place. is_read_at given letter place) given.places

-- an option or a flag of a command
abbrev pub is_known : Letters → List ℕ → Bool
is_known letters word = spells_one letters.options word || spells_one letters.flags word

-- Each word that is no value is an option or a flag, none of them stands twice, and each option has a next word.
unfoldable pub are_in_order : Letters → Given → Bool
are_in_order letters given =
    list_all (λ place. is_known letters (word_at given.words place)) given.places
    && list_all (λ letter. nat_le (times given letter) 1) letters.options
    && list_all (λ letter. nat_le (times given letter) 1) letters.flags
    && not (is_value letters.options given.words (length given.words))
