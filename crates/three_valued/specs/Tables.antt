-- Kleene's tables: what is known of a condition from what is known of its parts.
use Rattle.std.specs.Prelude.{◌≡◌, Bool, true, false, not, List, [], ◌∷◌, if◌then◌else◌}
use Rattle.binning.specs.declared.against_bins.Three.{Three}
use Rattle.binning.specs.declared.against_bins.Three.TheVariants.{Yes, No, Unknown}
use Rattle.three_valued.specs.declared.connectives.Join.{Join}
use Rattle.three_valued.specs.declared.connectives.Join.TheVariants.{Or, Xor, And}

abbrev pub is_yes : Three → Bool
is_yes Yes = true
is_yes No = false
is_yes Unknown = false

abbrev pub is_no : Three → Bool
is_no Yes = false
is_no No = true
is_no Unknown = false

abbrev pub is_unknown : Three → Bool
is_unknown Yes = false
is_unknown No = false
is_unknown Unknown = true

abbrev pub is_possible : Three → Bool
is_possible answer = not (is_no answer)

-- the answer where the truth is known
abbrev pub decided : Bool → Three
decided true = Yes
decided false = No

-- the answer where it may be true, and nothing else is known
abbrev pub undecided : Bool → Three
undecided true = Unknown
undecided false = No

-- ---- the tables of two

abbrev pub three_not : Three → Three
three_not Yes = No
three_not No = Yes
three_not Unknown = Unknown

abbrev pub three_and : Three → Three → Three
three_and No y = No
three_and Yes y = y
three_and Unknown Yes = Unknown
three_and Unknown No = No
three_and Unknown Unknown = Unknown

abbrev pub three_or : Three → Three → Three
three_or Yes y = Yes
three_or No y = y
three_or Unknown Yes = Yes
three_or Unknown No = Unknown
three_or Unknown Unknown = Unknown

-- Unknown where one of them is, else whether one alone is Yes
abbrev pub three_xor : Three → Three → Three
three_xor Unknown y = Unknown
three_xor Yes y = three_not y
three_xor No y = y

abbrev pub joins : Join → Three → Three → Three
joins Or = three_or
joins Xor = three_xor
joins And = three_and

-- the answer of no part
abbrev pub unit : Join → Three
unit Or = No
unit Xor = No
unit And = Yes

-- the answer of several parts
unfoldable pub joined : Join → List Three → Three
joined join [] = unit join
joined join (part ∷ parts) = joins join part (joined join parts)

-- ---- operations on vectors

-- the operation on the rows that are Yes, and on those that aren't No, is what the table says of these
pub record ActsOnBounds (op : Bool → Bool → Bool) (table : Three → Three → Three) : Type 0 where
  pub definite : (x y : Three) → is_yes (table x y) ≡ op (is_yes x) (is_yes y)
  pub possible : (x y : Three) → is_possible (table x y) ≡ op (is_possible x) (is_possible y)

abbrev pub HasTable : (Bool → Bool → Bool) → Type 0
HasTable op = (table : Three → Three → Three) × ActsOnBounds op table
