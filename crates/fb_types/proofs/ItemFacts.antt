-- An item of a schema text, written and read.
use Rattle.std.proofs.Common.{◌≡◌, ℕ, ◌+◌, ◌≤◌, ◌<◌, Bool, true, false, not, cond, List, [], ◌∷◌, ◌++◌, length, get_or, drop, refl, ap, sym, subst, ◌∙◌, arith, Some, None, inl, inr, lit≤, append-nil}
use Rattle.std.specs.Prelude.{◌==◌}
use Rattle.std.specs.List.{after_first, before_first, find, list_all, position_or_len}
use Rattle.std.specs.Char.{to_ascii_lowercase}
use Rattle.std.specs.Str.{bytes_eq, str_to_ascii_lowercase}
use Rattle.std.proofs.lemmas.Bool.{cases_lt, eqb-true}
use Rattle.std.proofs.lemmas.Bool.Decides.{nat_tests}
use Rattle.std.proofs.lemmas.List.{drop_all, take_at}
use Rattle.std.proofs.lemmas.List.Sums.{passes_at_first, split_at_first}
use Rattle.std.proofs.lemmas.Slice.Eq.{bytes_eq-Decides}
use Rattle.std.proofs.Math.Seq.{drop-append-add}
use Rattle.fb_types.specs.declared.schemas.Column.{Column}
use Rattle.fb_types.specs.declared.types.ColType.{ColType}
use Rattle.fb_types.specs.declared.types.ColType.TheVariants.{Byte, UByte, Short, UShort, Int, UInt, Long, ULong, Category, Text}
use Rattle.fb_types.specs.declared.types.TheConstants.{TYPES}
use Rattle.fb_types.specs.Field.{is_blank, trimmed}
use Rattle.fb_types.specs.Names.{IsColumnName, column_name, continues_name, is_column_name}
use Rattle.fb_types.specs.SchemaText.{IsPadded, SpellsName, SpellsType, Writes, column_text, is_colon, is_comma, name_in, type_in, type_named}
use Rattle.fb_types.specs.Types.{type_name}
use Rattle.lexing.proofs.Runs.{append_all}
use Rattle.fb_types.proofs.BlankFacts.{padded_trimmed, prefix_past, trimmed_is}
use Rattle.fb_types.proofs.NameFacts.{both_left, column_name-named, both_right, kept_if, lower_same, name_continues, name_some}

-- ---- bytes of names and types

not_blank : (b : ℕ) → continues_name (to_ascii_lowercase b) ≡ true → not (is_blank b) ≡ true
not_blank b h = grind (arith, nat_tests)

not_colon : (b : ℕ) → continues_name (to_ascii_lowercase b) ≡ true → not (is_colon b) ≡ true
not_colon b h = grind (arith, nat_tests)

not_comma : (b : ℕ) → continues_name (to_ascii_lowercase b) ≡ true → not (is_comma b) ≡ true
not_comma b h = grind (arith, nat_tests)

blank_no_colon : (b : ℕ) → is_blank b ≡ true → not (is_colon b) ≡ true
blank_no_colon b h = grind (arith, nat_tests)

blank_no_comma : (b : ℕ) → is_blank b ≡ true → not (is_comma b) ≡ true
blank_no_comma b h = grind (arith, nat_tests)

all_so : (p q : ℕ → Bool) → ((b : ℕ) → p b ≡ true → q b ≡ true) → (bytes : List ℕ) → list_all p bytes ≡ true → list_all q bytes ≡ true
all_so p q so [] all = refl
all_so p q so (b ∷ bs) all = rw (so b (both_left (p b) _ all)) (all_so p q so bs (both_right (p b) _ all))

-- bytes that spell a word of letters, `_` and digits in either case
abbrev IsWord : List ℕ → Type 0
IsWord bytes = list_all (λ b. continues_name (to_ascii_lowercase b)) bytes ≡ true

word_of_lower : (bytes : List ℕ) → list_all continues_name (str_to_ascii_lowercase bytes) ≡ true → IsWord bytes
word_of_lower [] all = refl
word_of_lower (b ∷ bs) all = rw (both_left (continues_name (to_ascii_lowercase b)) _ all) (word_of_lower bs (both_right (continues_name (to_ascii_lowercase b)) _ all))

-- a type's word is one, has a byte, and names the type
type_word : (ty : ColType) → IsWord (type_name ty) × (1 ≤ length (type_name ty)) × (type_named (type_name ty) ≡ Some ty)
unfolding type_name type_named
type_word Byte = (refl, (lit≤ tt), refl)
type_word UByte = (refl, (lit≤ tt), refl)
type_word Short = (refl, (lit≤ tt), refl)
type_word UShort = (refl, (lit≤ tt), refl)
type_word Int = (refl, (lit≤ tt), refl)
type_word UInt = (refl, (lit≤ tt), refl)
type_word Long = (refl, (lit≤ tt), refl)
type_word ULong = (refl, (lit≤ tt), refl)
type_word Category = (refl, (lit≤ tt), refl)
type_word Text = (refl, (lit≤ tt), refl)

-- a type's word names it, and nothing else does
pub type_named-type_name : (ty : ColType) → type_named (type_name ty) ≡ Some ty
type_named-type_name ty = (type_word ty).2

find_passes : (p : ColType → Bool) (types : List ColType) (ty : ColType) → find p types ≡ Some ty → p ty ≡ true
find_passes p [] ty is = cc
find_passes p (first ∷ types) ty is = by (p first) refl is (λ found. find_passes p types ty found)
  where
    by : (test : Bool) → p first ≡ test → cond test (Some first) (find p types) ≡ Some ty → (find p types ≡ Some ty → p ty ≡ true) → p ty ≡ true
    by true same found later = let here : first ≡ ty = cc in subst (λ t. p t ≡ true) here same
    by false same found later = later found

pub type_named-name : (word : List ℕ) (ty : ColType) → type_named word ≡ Some ty → type_name ty ≡ word
unfolding type_named
type_named-name word ty is = (bytes_eq-Decides (type_name ty) word).0 (find_passes (λ t. bytes_eq (type_name t) word) TYPES ty is)

no_type : type_named [] ≡ None
unfolding type_name type_named
no_type = refl

-- ---- an item that is written is read

padded_so : (p : ℕ → Bool) → ((b : ℕ) → is_blank b ≡ true → p b ≡ true) → (bytes piece : List ℕ) → IsPadded bytes piece → list_all p piece ≡ true → list_all p bytes ≡ true
padded_so p so bytes piece padded all =
    let back = append_all p piece padded.back all (all_so is_blank p so padded.back padded.blank_back) in
    rw padded.cut (append_all p padded.front (piece ++ padded.back) (all_so is_blank p so padded.front padded.blank_front) back)

-- what `name_in` and `type_in` give of an item, which has no comma
pub record Reads (item : List ℕ) (column : Column) : Type 0 where
  pub name : name_in item ≡ Some column.name
  pub ty : type_in item ≡ Some column.ty

colon_at : (left right : List ℕ) → list_all (λ b. not (is_colon b)) left ≡ true → position_or_len is_colon (left ++ 58 ∷ right) ≡ length left
colon_at left right none = prefix_past (λ b. not (is_colon b)) left (58 ∷ right) none refl

before_is : (left right : List ℕ) → list_all (λ b. not (is_colon b)) left ≡ true → before_first is_colon (left ++ 58 ∷ right) ≡ left
before_is left right none = take_at left (58 ∷ right) (position_or_len is_colon (left ++ 58 ∷ right)) (sym (colon_at left right none))

after_is : (left right : List ℕ) → list_all (λ b. not (is_colon b)) left ≡ true → after_first is_colon (left ++ 58 ∷ right) ≡ right
after_is left right none = ap (λ n. drop (n + 1) (left ++ 58 ∷ right)) (colon_at left right none) ∙ drop-append-add left (58 ∷ right) 1

name_word : (bytes kept : List ℕ) (s : SpellsName bytes kept) → IsWord s.name
name_word bytes kept s =
    let lower : list_all continues_name (str_to_ascii_lowercase s.name) ≡ true = rw s.lower (name_continues kept s.named) in
    word_of_lower s.name lower

length-lower : (bytes : List ℕ) → length (str_to_ascii_lowercase bytes) ≡ length bytes
length-lower [] = refl
length-lower (b ∷ bs) = omega (arith, length-lower bs)

spelled_name : (name kept : List ℕ) → str_to_ascii_lowercase name ≡ kept → IsColumnName kept → column_name name ≡ Some kept
spelled_name name kept lower named = rw (lower, named) refl

pub name_found : (bytes kept : List ℕ) → SpellsName bytes kept → column_name (trimmed bytes) ≡ Some kept
name_found bytes kept s =
    let word = name_word bytes kept s in
    let solid = all_so (λ b. continues_name (to_ascii_lowercase b)) (λ b. not (is_blank b)) not_blank s.name word in
    let some : 1 ≤ length s.name = omega (arith, length-lower s.name, ap length s.lower, name_some kept s.named) in
    ap column_name (trimmed_is bytes s.name s.padded solid some) ∙ spelled_name s.name kept s.lower s.named

pub type_found : (bytes : List ℕ) (ty : ColType) → SpellsType bytes ty → type_named (trimmed bytes) ≡ Some ty
type_found bytes ty s =
    let word = type_word ty in
    let solid = all_so (λ b. continues_name (to_ascii_lowercase b)) (λ b. not (is_blank b)) not_blank (type_name ty) word.0 in
    ap type_named (trimmed_is bytes (type_name ty) s solid word.1) ∙ word.2

pub item_read : (item : List ℕ) (column : Column) → Writes item column → Reads item column
item_read item column w =
    let no_colon : list_all (λ b. not (is_colon b)) w.left ≡ true =
    padded_so (λ b. not (is_colon b)) blank_no_colon w.left w.named.name w.named.padded
    (all_so (λ b. continues_name (to_ascii_lowercase b)) (λ b. not (is_colon b)) not_colon w.named.name (name_word w.left column.name w.named)) in
    let before : before_first is_colon item ≡ w.left = ap (before_first is_colon) w.cut ∙ before_is w.left w.right no_colon in
    let after : after_first is_colon item ≡ w.right = ap (after_first is_colon) w.cut ∙ after_is w.left w.right no_colon in
    record {
      name = ap (λ b. column_name (trimmed b)) before ∙ name_found w.left column.name w.named;
      ty = ap (λ b. type_named (trimmed b)) after ∙ type_found w.right column.ty w.typed;
    }

pub item_whole : (item : List ℕ) (column : Column) → Writes item column → list_all (λ b. not (is_comma b)) item ≡ true
item_whole item column w =
    let p : ℕ → Bool = λ b. not (is_comma b) in
    let of_word = all_so (λ b. continues_name (to_ascii_lowercase b)) p not_comma in
    let left = padded_so p blank_no_comma w.left w.named.name w.named.padded (of_word w.named.name (name_word w.left column.name w.named)) in
    let right = padded_so p blank_no_comma w.right (type_name column.ty) w.typed (of_word (type_name column.ty) (type_word column.ty).0) in
    rw w.cut (append_all p w.left (58 ∷ w.right) left right)

-- ---- and one that is read is written

colon_there : (item : List ℕ) (ty : ColType) → type_in item ≡ Some ty → position_or_len is_colon item < length item
colon_there item ty is =
    elim (cases_lt (position_or_len is_colon item) (length item)) [ inl within ↦ within | inr past ↦ absurd (by past) ]
  where
    by : length item ≤ position_or_len is_colon item → ⊥
    by past =
        let nothing : after_first is_colon item ≡ [] = drop_all (position_or_len is_colon item + 1) item (omega (arith, past)) in
        let none : type_in item ≡ None = ap (λ b. type_named (trimmed b)) nothing ∙ no_type in
        let clash : None ≡ Some ty = sym none ∙ is in
        cc

pub name_spelled : (bytes kept : List ℕ) → column_name (trimmed bytes) ≡ Some kept → SpellsName bytes kept
name_spelled bytes kept is =
    let found = kept_if (is_column_name (str_to_ascii_lowercase (trimmed bytes))) (str_to_ascii_lowercase (trimmed bytes)) kept is in
    record { name = trimmed bytes; padded = padded_trimmed bytes; lower = found.1; named = column_name-named (trimmed bytes) kept is }

pub item_written : (item : List ℕ) (column : Column) → Reads item column → Writes item column
item_written item column r =
    let left = before_first is_colon item in
    let right = after_first is_colon item in
    let there = colon_there item column.ty r.ty in
    let colon : get_or item (position_or_len is_colon item) 0 ≡ 58 = eqb-true _ 58 (passes_at_first is_colon item 0 there) in
    let word : type_name column.ty ≡ trimmed right = type_named-name (trimmed right) column.ty r.ty in
    record {
      left = left;
      right = right;
      cut = split_at_first is_colon item 0 there ∙ ap (λ b. left ++ b ∷ right) colon;
      named = name_spelled left column.name r.name;
      typed = rw word (padded_trimmed right);
    }

-- ---- the printed form

bare : (piece : List ℕ) → IsPadded piece piece
bare piece = record { front = []; back = []; cut = sym (append-nil piece); blank_front = refl; blank_back = refl }

pub printed_item : (column : Column) → IsColumnName column.name → Writes (column_text column) column
printed_item column named = record {
  left = column.name;
  right = type_name column.ty;
  cut = refl;
  named = record { name = column.name; padded = bare column.name; lower = lower_same column.name (name_continues column.name named); named = named };
  typed = bare (type_name column.ty);
}

-- ---- names and types stand on one line

no_line_feed : (b : ℕ) → continues_name (to_ascii_lowercase b) ≡ true → not (b == 10) ≡ true
no_line_feed b h = grind (arith, nat_tests)

pub name-line : (name : List ℕ) → IsColumnName name → list_all (λ b. not (b == 10)) name ≡ true
name-line name named =
    let lower : list_all continues_name (str_to_ascii_lowercase name) ≡ true = rw (lower_same name (name_continues name named)) (name_continues name named) in
    all_so (λ b. continues_name (to_ascii_lowercase b)) (λ b. not (b == 10)) no_line_feed name (word_of_lower name lower)

pub type-line : (ty : ColType) → list_all (λ b. not (b == 10)) (type_name ty) ≡ true
type-line ty = all_so (λ b. continues_name (to_ascii_lowercase b)) (λ b. not (b == 10)) no_line_feed (type_name ty) (type_word ty).0
