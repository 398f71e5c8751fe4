-- Operations on two lists of truth values, place by place.
use Rattle.std.specs.Prelude.{ℕ, ◌+◌, ◌/◌, Bool, true, false, not, List, [], ◌∷◌, replicate, count_by, sum_by}
use Rattle.wah_words.specs.Spelling.{words_of}

-- the operation at each place that both lists have
unfoldable pub each_place : (Bool → Bool → Bool) → List Bool → List Bool → List Bool
each_place op [] b = []
each_place op (x ∷ a) [] = []
each_place op (x ∷ a) (y ∷ b) = op x y ∷ each_place op a b

-- ---- the four operations

abbrev pub and : Bool → Bool → Bool
and true y = y
and false y = false

abbrev pub or : Bool → Bool → Bool
or true y = true
or false y = y

-- exactly one
abbrev pub xor : Bool → Bool → Bool
xor true y = not y
xor false y = y

-- the first without the second
abbrev pub and_not : Bool → Bool → Bool
and_not true y = not y
and_not false y = false

-- how many are true
abbrev pub ones : List Bool → ℕ
ones v = count_by (λ b. b) v

-- true where one of the vectors of this length is
unfoldable pub union : ℕ → List (List Bool) → List Bool
union len [] = replicate len false
union len (v ∷ vs) = each_place or v (union len vs)

-- how many groups and rests a list of this length is cut into
abbrev pub groups_and_rest : ℕ → ℕ
groups_and_rest len = (len + 30) / 31

-- the words of all vectors together
abbrev pub words_in : List (List Bool) → ℕ
words_in vs = sum_by words_of vs
