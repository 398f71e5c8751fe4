-- The bytes of a dictionary file, and the words that bytes spell.
use Rattle.std.specs.Prelude.{◌≡◌, ◌<◌, ◌≤◌, ◌⊎◌, ◌+◌, ℕ, zero, suc, List, [], ◌∷◌, ◌++◌, length, take, drop, Option, Some, None, Result, Ok, Err, IsTrue, nat_lt, if◌then◌else◌}
use Rattle.std.specs.Int.{w16, w32, to_le_bytes, from_le_bytes}
use Rattle.std.specs.List.{flat_map, list_any}
use Rattle.std.specs.Str.{bytes_eq}
use Rattle.text_column.specs.Words.{IsDictionary, most_words}
use Rattle.text_column.specs.declared.fault.DicFault.{DicFault}
use Rattle.text_column.specs.declared.fault.DicFault.TheVariants.{Short, TooMany, Empty, Repeated, Trailing, Missing, Store, OutOfMemory}

-- a word behind its length in two bytes, the lowest first
abbrev pub word_bytes : List ℕ → List ℕ
word_bytes word = to_le_bytes w16 (length word) ++ word

abbrev pub words_bytes : List (List ℕ) → List ℕ
words_bytes words = flat_map word_bytes words

-- the number of words in four bytes, and then the words in order of code
unfoldable pub dictionary_bytes : List (List ℕ) → List ℕ
dictionary_bytes words = to_le_bytes w32 (length words) ++ words_bytes words

-- ---- reading

-- the length that two bytes tell, and the number that four tell
abbrev pub size_at : List ℕ → ℕ
size_at bytes = from_le_bytes w16 (take 2 bytes)

abbrev pub count_at : List ℕ → ℕ
count_at bytes = from_le_bytes w32 (take 4 bytes)

-- the bytes begin with a length that they don't have, or with less
abbrev pub IsCutOff : List ℕ → Type 0
IsCutOff bytes = (length bytes < 2) ⊎ (length (drop 2 bytes) < size_at bytes)

abbrev pub sized_at : ℕ → List ℕ → Option (List ℕ × List ℕ)
sized_at size bytes = if nat_lt (length bytes) size then None else Some (take size bytes, drop size bytes)

-- the word at the front of the bytes and the bytes behind it; none where it is cut off
abbrev pub word_at : List ℕ → Option (List ℕ × List ℕ)
word_at bytes = if nat_lt (length bytes) 2 then None else sized_at (size_at bytes) (drop 2 bytes)

abbrev pub taken_as : List (List ℕ) → List ℕ → Result (List (List ℕ)) DicFault
taken_as words [] = Err (Empty (length words + 1))
taken_as words (b ∷ bs) =
    if list_any (bytes_eq (b ∷ bs)) words then Err (Repeated (length words + 1)) else Ok (words ++ (b ∷ bs) ∷ [])

abbrev pub with_rest : List ℕ → Result (List (List ℕ)) DicFault → Result (List (List ℕ) × List ℕ) DicFault
with_rest rest (Ok words) = Ok (words, rest)
with_rest rest (Err fault) = Err fault

abbrev pub taken : List (List ℕ) → Option (List ℕ × List ℕ) → Result (List (List ℕ) × List ℕ) DicFault
taken words None = Err Short
taken words (Some (word, rest)) = with_rest rest (taken_as words word)

-- the words with the one at the front of the bytes, and the bytes behind it, or what is wrong with that one
abbrev pub next_in : List (List ℕ) → List ℕ → Result (List (List ℕ) × List ℕ) DicFault
next_in words bytes = taken words (word_at bytes)

abbrev pub to_its_end : List (List ℕ) × List ℕ → Result (List (List ℕ)) DicFault
to_its_end (words, []) = Ok words
to_its_end (words, b ∷ bs) = Err Trailing

abbrev pub and_then : Result (List (List ℕ) × List ℕ) DicFault → (List (List ℕ) × List ℕ → Result (List (List ℕ)) DicFault)
    → Result (List (List ℕ)) DicFault
and_then (Ok state) go = go state
and_then (Err fault) go = Err fault

-- so many more words, to the end of the bytes, behind those that are known
abbrev pub words_in : ℕ → List (List ℕ) × List ℕ → Result (List (List ℕ)) DicFault
words_in zero state = to_its_end state
words_in (suc n) state = and_then (next_in state.0 state.1) (words_in n)

abbrev pub counted_in : ℕ → List ℕ → Result (List (List ℕ)) DicFault
counted_in count bytes = if nat_lt most_words count then Err TooMany else words_in count ([], bytes)

-- the words of a dictionary file with these bytes, or its first fault
unfoldable pub dictionary_in : List ℕ → Result (List (List ℕ)) DicFault
dictionary_in bytes = if nat_lt (length bytes) 4 then Err Short else counted_in (count_at bytes) (drop 4 bytes)

-- ---- what a fault says of the bytes

-- the bytes begin with the number of words and with these words, which are a dictionary's, and go on so
pub record Begins (bytes : List ℕ) (count : ℕ) (words : List (List ℕ)) (rest : List ℕ) : Type 0 where
  pub is : bytes ≡ to_le_bytes w32 count ++ (words_bytes words ++ rest)
  pub dictionary : IsDictionary words
  pub limit : count ≤ most_words

-- and a word is still to come
abbrev pub BeginsMore : List ℕ → List (List ℕ) → List ℕ → Type 0
BeginsMore bytes words rest = (count : ℕ) × (length words < count) × Begins bytes count words rest

abbrev pub IsFaultOf : List ℕ → DicFault → Type 0
IsFaultOf bytes Short = (length bytes < 4) ⊎ ((words : List (List ℕ)) × (rest : List ℕ) × BeginsMore bytes words rest × IsCutOff rest)
IsFaultOf bytes TooMany = (4 ≤ length bytes) × (most_words < count_at bytes)
IsFaultOf bytes (Empty code) =
    (words : List (List ℕ)) × (rest : List ℕ) × BeginsMore bytes words (word_bytes [] ++ rest) × (code ≡ length words + 1)
IsFaultOf bytes (Repeated code) = (words : List (List ℕ)) × (word : List ℕ) × (rest : List ℕ)
    × BeginsMore bytes words (word_bytes word ++ rest) × IsTrue (list_any (bytes_eq word) words) × (code ≡ length words + 1)
IsFaultOf bytes Trailing = (words : List (List ℕ)) × (b : ℕ) × (rest : List ℕ) × Begins bytes (length words) words (b ∷ rest)
IsFaultOf bytes Missing = ⊥
IsFaultOf bytes Store = ⊥
IsFaultOf bytes OutOfMemory = ⊥
