-- The word-aligned spelling of a list of truth values (Wu, Otoo and Shoshani, TODS 2006, at 32 bits), with one
-- choice of words for each list: the list is cut into groups of 31 values and a rest. There is one literal word for
-- each mixed group and one fill word for each longest run of neighbouring groups whose values are all equal.
use Rattle.std.specs.Prelude.{◌≢◌, ℕ, zero, suc, ◌+◌, ◌*◌, ◌/◌, ◌%◌, ◌<◌, Bool, true, false, List, [], ◌∷◌, length, take, drop, replicate, ◌==◌, if◌then◌else◌}
use Rattle.std.specs.List.{flat_map}
use Rattle.wah_words.specs.Places.{places, number}

-- a mixed group, as the number of its 31 values; or so many groups of one value
pub data Word : Type 0 where
  literal : ℕ → Word
  fill : Bool → ℕ → Word

-- ---- from a list to its words

-- the number of a group whose values are all equal
abbrev pub uniform : Bool → ℕ
uniform false = 0
uniform true = 2147483647

-- the word of one group
abbrev pub group_word : ℕ → Word
group_word g = if g == 0 then fill false 1 else if g == 2147483647 then fill true 1 else literal g

abbrev pub same_value : Bool → Bool → Bool
same_value true b = b
same_value false true = false
same_value false false = true

-- A word before others: a fill and an equal fill after it are one fill.
abbrev pub before : Word → List Word → List Word
before (literal g) ws = literal g ∷ ws
before (fill b n) [] = fill b n ∷ []
before (fill b n) (literal g ∷ ws) = fill b n ∷ literal g ∷ ws
before (fill b n) (fill c m ∷ ws) = if same_value b c then fill b (n + m) ∷ ws else fill b n ∷ fill c m ∷ ws

-- the words of groups
abbrev pub spelled : List ℕ → List Word
spelled [] = []
spelled (g ∷ gs) = before (group_word g) (spelled gs)

-- the numbers of the first n groups of 31 values
unfoldable pub groups_in : ℕ → List Bool → List ℕ
groups_in zero v = []
groups_in (suc n) v = number (take 31 v) ∷ groups_in n (drop 31 v)

-- the regular words of a list
unfoldable pub regular_words : List Bool → List Word
regular_words v = spelled (groups_in (length v / 31) v)

-- the values after the last whole group, of which there are `length v % 31`
unfoldable pub rest_of : List Bool → List Bool
rest_of v = drop (31 * (length v / 31)) v

-- the number of words: the regular ones, and an active word where there is a rest
unfoldable pub words_of : List Bool → ℕ
words_of v = length (regular_words v) + (if length v % 31 == 0 then 0 else 1)

-- ---- from words to the values that they stand for

unfoldable pub word_values : Word → List Bool
word_values (literal g) = places 31 g
word_values (fill b n) = replicate (31 * n) b

unfoldable pub told : List Word → List Bool
told ws = flat_map word_values ws

-- how many groups a word stands for
abbrev pub word_groups : Word → ℕ
word_groups (literal g) = 1
word_groups (fill b n) = n

unfoldable pub groups_told : List Word → ℕ
groups_told [] = 0
groups_told (w ∷ ws) = word_groups w + groups_told ws

-- ---- canonical words

-- A literal is a mixed group, a fill has a group.
abbrev pub IsProper : Word → Type 0
IsProper (literal g) = (0 < g) × (g < 2147483647)
IsProper (fill b n) = 0 < n

-- not two fills of one value
abbrev pub AreApart : Word → Word → Type 0
AreApart (fill b n) (fill c m) = b ≢ c
AreApart (fill b n) (literal h) = Unit {0}
AreApart (literal g) v = Unit {0}

abbrev pub IsApartFrom : Word → List Word → Type 0
IsApartFrom w [] = Unit {0}
IsApartFrom w (v ∷ vs) = AreApart w v

-- each word is proper, and no two neighbours are fills of one value
abbrev pub IsCanonical : List Word → Type 0
IsCanonical [] = Unit {0}
IsCanonical (w ∷ ws) = IsProper w × IsApartFrom w ws × IsCanonical ws
