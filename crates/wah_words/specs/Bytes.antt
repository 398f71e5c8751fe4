-- Words as 32-bit numbers, and the bytes of a vector.
use Rattle.std.specs.Prelude.{◌≡◌, ℕ, zero, suc, ◌+◌, ◌*◌, ◌/◌, ◌%◌, ◌^◌, ◌<◌, ◌≤◌, Bool, false, ◌||◌, List, [], ◌∷◌, ◌++◌, length, take, drop, map, Option, None, Some, Result, Ok, Err, nat_lt, nat_le, ◌==◌, if◌then◌else◌}
use Rattle.wah_words.specs.Limits.{most_bits}
use Rattle.std.specs.Option.{option_map}
use Rattle.std.specs.List.{flat_map}
use Rattle.std.specs.Int.{w32, to_le_bytes, from_le_bytes}
use Rattle.wah_words.specs.declared.fault.WordsFault.{WordsFault}
use Rattle.wah_words.specs.declared.fault.WordsFault.TheVariants.{Short, TooLong, Groups, NotCanonical, OutOfMemory}
use Rattle.wah_words.specs.Places.{places, number}
use Rattle.wah_words.specs.Spelling.{Word, literal, fill, same_value, regular_words, rest_of, told, groups_told, IsCanonical}

-- A literal is its group. A fill has bit 31 set, its value in bit 30, and the number of its groups below.
abbrev pub encoded : Word → ℕ
encoded (literal g) = g
encoded (fill b n) = 2147483648 + (if b then 1073741824 else 0) + n

abbrev pub decoded : ℕ → Word
decoded n = if nat_lt n 2147483648 then literal n else fill (nat_le 3221225472 n) (n % 1073741824)

abbrev pub decoded_all : List ℕ → List Word
decoded_all ns = map decoded ns

-- four bytes of the number, the lowest first
unfoldable pub number_bytes : ℕ → List ℕ
number_bytes n = to_le_bytes w32 n

-- the active word, where there is a rest: its values are the low places
unfoldable pub active_bytes : List Bool → List ℕ
active_bytes v = if length v % 31 == 0 then [] else number_bytes (number (rest_of v))

-- the bytes of regular words
unfoldable pub words_bytes : List Word → List ℕ
words_bytes ws = flat_map (λ w. number_bytes (encoded w)) ws

-- the length, the number of regular words, these, and the active word
unfoldable pub spelling : List Bool → List ℕ
spelling v = number_bytes (length v) ++ (number_bytes (length (regular_words v)) ++ (words_bytes (regular_words v) ++ active_bytes v))

-- ---- reading, with the first fault

-- a fill of no group, or a literal whose places are all equal
abbrev pub is_improper : Word → Bool
is_improper (literal g) = g == 0 || g == 2147483647
is_improper (fill b n) = n == 0

-- two fills of one value
abbrev pub are_joined : Word → Word → Bool
are_joined (fill b n) (fill c m) = same_value b c
are_joined (fill b n) (literal g) = false
are_joined (literal g) w = false

-- the place of the first word that is improper or joined to the one directly before it, where `last` is before the first
abbrev pub first_wrong : Word → List Word → Option ℕ
first_wrong last [] = None
first_wrong last (w ∷ ws) = if is_improper w || are_joined last w then Some 0 else option_map (λ k. suc k) (first_wrong w ws)

unfoldable pub number_at : List ℕ → ℕ
number_at bytes = from_le_bytes w32 (take 4 bytes)

-- the first m numbers
unfoldable pub numbers_at : ℕ → List ℕ → List ℕ
numbers_at zero bytes = []
numbers_at (suc m) bytes = number_at bytes ∷ numbers_at m (drop 4 bytes)

-- how many bytes an active word takes
abbrev pub active_size : ℕ → ℕ
active_size len = if len % 31 == 0 then 0 else 4

-- Words after which none is wrong: an active number that has a place above the rest is the next wrong one, and then
-- the groups have to be those of the length.
abbrev pub values_of : ℕ → List Word → ℕ → Result (List Bool) WordsFault
values_of len ws active = if nat_le (2 ^ (len % 31)) active then Err (NotCanonical (length ws)) else if groups_told ws == len / 31 then Ok (told ws ++ places (len % 31) active) else Err Groups

abbrev pub unless_wrong : Option ℕ → Result (List Bool) WordsFault → Result (List Bool) WordsFault
unless_wrong (Some k) read = Err (NotCanonical k)
unless_wrong None read = read

-- what the regular words and the active number stand for, or the first fault among them; nothing is joined to a literal
unfoldable pub vector_of : ℕ → List Word → ℕ → Result (List Bool) WordsFault
vector_of len ws active = unless_wrong (first_wrong (literal 0) ws) (values_of len ws active)

abbrev pub with_size : ℕ → Result (List Bool) WordsFault → Result (List Bool × ℕ) WordsFault
with_size n (Ok v) = Ok (v, n)
with_size n (Err e) = Err e

-- the same of the bytes after the length and the number m of regular words, with the number of all bytes of the vector
unfoldable pub body_at : ℕ → ℕ → List ℕ → Result (List Bool × ℕ) WordsFault
body_at len m bytes = with_size (8 + 4 * m + active_size len) (vector_of len (decoded_all (numbers_at m bytes)) (if len % 31 == 0 then 0 else number_at (drop (4 * m) bytes)))

-- the vector of this length and so many regular words at the front of the bytes, or the first fault
unfoldable pub sized_at : ℕ → ℕ → List ℕ → Result (List Bool × ℕ) WordsFault
sized_at len m bytes = if nat_lt most_bits len then Err TooLong else if nat_lt (len / 31) m then Err Groups else if nat_lt (length bytes) (8 + 4 * m + active_size len) then Err Short else body_at len m (drop 8 bytes)

-- the vector at the front of the bytes with the number of its bytes, or the first fault
unfoldable pub vector_at : List ℕ → Result (List Bool × ℕ) WordsFault
vector_at bytes = if nat_lt (length bytes) 8 then Err Short else sized_at (number_at bytes) (number_at (drop 4 bytes)) bytes

-- the first wrong word, where reading the words answered a fault
abbrev pub IsWrongAt : Option ℕ → WordsFault → Type 0
IsWrongAt wrong (NotCanonical k) = wrong ≡ Some k
IsWrongAt wrong OutOfMemory = Unit {0}
IsWrongAt wrong Short = ⊥
IsWrongAt wrong TooLong = ⊥
IsWrongAt wrong Groups = ⊥

-- what a call answered is what reading gives, unless memory ran out
abbrev pub Fails : WordsFault → Result (List Bool × ℕ) WordsFault → Type 0
Fails OutOfMemory read = Unit {0}
Fails Short read = read ≡ Err Short
Fails TooLong read = read ≡ Err TooLong
Fails Groups read = read ≡ Err Groups
Fails (NotCanonical k) read = read ≡ Err (NotCanonical k)

abbrev pub Reads : Result (List Bool × ℕ) WordsFault → Result (List Bool × ℕ) WordsFault → Type 0
Reads (Ok x) read = read ≡ Ok x
Reads (Err e) read = Fails e read

-- ---- what is stored

-- the regular words and the active one stand for a vector of this length
pub record IsStored (len : ℕ) (items : List ℕ) (active : ℕ) : Type 0 where
  pub canonical : IsCanonical (decoded_all items)
  pub whole : 31 * groups_told (decoded_all items) + len % 31 ≡ len
  pub active_fits : active < 2 ^ (len % 31)
  pub within : len ≤ most_bits

-- the vector
abbrev pub stored : ℕ → List ℕ → ℕ → List Bool
stored len items active = told (decoded_all items) ++ places (len % 31) active

-- words at the end stand for so many more groups, which have these values; at most one word is new
pub record Appends (old new : List ℕ) (values : List Bool) (groups : ℕ) : Type 0 where
  pub canonical : IsCanonical (decoded_all new)
  pub told : told (decoded_all new) ≡ told (decoded_all old) ++ values
  pub groups_told : groups_told (decoded_all new) ≡ groups_told (decoded_all old) + groups
  pub at_least : length old ≤ length new
  pub at_most : length new ≤ length old + 1

-- what a cursor has
pub record IsLeft (items : List ℕ) (active count : ℕ) : Type 0 where
  pub canonical : IsCanonical (decoded_all items)
  pub rest : count < 31
  pub active_fits : active < 2 ^ count
