-- Column names.
use Rattle.std.specs.Prelude.{ℕ, Bool, false, not, ◌&&◌, ◌||◌, ◌==◌, nat_le, IsTrue, Option, Some, None, List, [], ◌∷◌, length, if◌then◌else◌}
use Rattle.std.specs.List.{list_all, list_any}
use Rattle.std.specs.Char.{is_ascii_lowercase, is_ascii_digit}
use Rattle.std.specs.Str.{bytes_eq, str_to_ascii_lowercase}
use lib.Chars.{codes}

-- a name, in lower case, begins with a letter or `_` (95), and goes on with letters, `_` and digits
abbrev pub begins_name : ℕ → Bool
begins_name b = is_ascii_lowercase b || b == 95

abbrev pub continues_name : ℕ → Bool
continues_name b = begins_name b || is_ascii_digit b

abbrev pub has_name_bytes : List ℕ → Bool
has_name_bytes [] = false
has_name_bytes (b ∷ bs) = begins_name b && list_all continues_name bs

-- the words of the query language, which name no column
unfoldable pub keywords : List (List ℕ)
keywords =
    codes "select" ∷ codes "where" ∷ codes "order" ∷ codes "by" ∷ codes "limit" ∷ codes "and" ∷ codes "or" ∷ codes "xor"
    ∷ codes "not" ∷ codes "between" ∷ codes "in" ∷ codes "like" ∷ codes "exists" ∷ codes "count" ∷ codes "min" ∷ codes "max"
    ∷ codes "sum" ∷ codes "asc" ∷ codes "desc" ∷ []

abbrev pub is_keyword : List ℕ → Bool
is_keyword name = list_any (bytes_eq name) keywords

-- the bytes are a column name in its kept form, with lower-case letters
abbrev pub is_column_name : List ℕ → Bool
is_column_name name = has_name_bytes name && nat_le (length name) 64 && not (is_keyword name)

abbrev pub IsColumnName : List ℕ → Type 0
IsColumnName name = IsTrue (is_column_name name)

-- the name that bytes of either case spell, if they spell one
abbrev pub column_name : List ℕ → Option (List ℕ)
column_name bytes =
    let name = str_to_ascii_lowercase bytes in if is_column_name name then Some name else None
