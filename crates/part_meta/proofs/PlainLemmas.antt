-- Texts of ASCII without a line feed.
use Rattle.std.proofs.Common.{◌≡◌, ◌≢◌, ℕ, ◌+◌, ◌<◌, ◌≤◌, ◌^◌, ◌%◌, ◌&&◌, ◌==◌, nat_lt, not, true, Bool, List, [], ◌∷◌, ◌++◌, map, refl, ◌∙◌, subst, arith, IsAscii, decimal, ltb-true, eq-eqb}
use Rattle.std.specs.List.{AllByRecursion, join_with_byte, list_all}
use Rattle.std.specs.Str.Parse.{AllDigits}
use Rattle.std.proofs.lemmas.Bool.{and_from, and_parts}
use Rattle.std.proofs.lemmas.Bool.Decides.{nat_tests}
use Rattle.std.proofs.lemmas.Fmt.{decimal_is_IsNumeral}
use Rattle.std.proofs.lemmas.List.Elements.{All-from_recursion, recursion_from_All}
use Rattle.std.proofs.lemmas.List.Folds.{list_all-append}
use Rattle.std.proofs.lemmas.Str.Ascii.{IsAscii-from_all}
use Rattle.std.proofs.lemmas.Str.Parse.{digit_from_value}
use Rattle.fb_types.proofs.NameFacts.{name_continues}
use Rattle.fb_types.specs.Names.{IsColumnName, continues_name}
use Rattle.fb_types.specs.Schemas.{IsSchema}
use Rattle.fb_types.specs.SchemaText.{column_text, schema_text}
use Rattle.fb_types.specs.Types.{type_name}
use Rattle.fb_types.specs.declared.schemas.Column.{Column}
use Rattle.fb_types.specs.declared.types.ColType.{ColType}
use Rattle.fb_types.specs.declared.types.ColType.TheVariants.{Byte, UByte, Short, UShort, Int, UInt, Long, ULong, Category, Text}
use Rattle.part_meta.specs.FileNames.{folder_name}
use Rattle.part_meta.specs.Lines.{IsLine, IsUnbroken, line}

abbrev pub is_plain : ℕ → Bool
is_plain b = nat_lt b 128 && not (b == 10)

abbrev pub IsPlain : List ℕ → Type 0
IsPlain bytes = list_all is_plain bytes ≡ true

pub plain-append : (xs ys : List ℕ) → IsPlain xs → IsPlain ys → IsPlain (xs ++ ys)
plain-append xs ys h k = list_all-append is_plain xs ys ∙ and_from _ _ h k

plain_parts : (b : ℕ) → is_plain b ≡ true → (b < 128) × (b ≢ 10)
plain_parts b h =
    let parts = and_parts (nat_lt b 128) (not (b == 10)) h in
    (ltb-true b 128 parts.0, λ e. let bad : (b == 10) ≡ true = eq-eqb b 10 e in let P : Bool → Type 0 = λ t. not t ≡ true in let worse : not true ≡ true = subst P bad parts.1 in absurd (cc))

each_unbroken : (bytes : List ℕ) → IsPlain bytes → AllByRecursion (λ b. b ≢ 10) bytes
each_unbroken [] h = tt
each_unbroken (b ∷ bs) h =
    let parts = and_parts (is_plain b) (list_all is_plain bs) h in ((plain_parts b parts.0).1, each_unbroken bs parts.1)

each_ascii : (bytes : List ℕ) → IsPlain bytes → AllByRecursion (λ b. b < 128) bytes
each_ascii [] h = tt
each_ascii (b ∷ bs) h =
    let parts = and_parts (is_plain b) (list_all is_plain bs) h in ((plain_parts b parts.0).0, each_ascii bs parts.1)

pub plain_unbroken : (bytes : List ℕ) → IsPlain bytes → IsUnbroken bytes
plain_unbroken bytes h = All-from_recursion (λ b. b ≢ 10) bytes (each_unbroken bytes h)

pub plain_ascii : (bytes : List ℕ) → IsPlain bytes → IsAscii bytes
plain_ascii bytes h = IsAscii-from_all bytes (All-from_recursion (λ b. b < 128) bytes (each_ascii bytes h))

-- a line of such a text
pub plain_line : (text : List ℕ) → IsPlain text → IsLine (line text)
plain_line text h = record { text = text; is = refl; unbroken = plain_unbroken text h }

-- and a label before it
pub plain_labelled : (label text : List ℕ) → IsPlain label → IsPlain text → IsLine (line (label ++ text))
plain_labelled label text h k = plain_line (label ++ text) (plain-append label text h k)

digit_plain : (b : ℕ) → 48 ≤ b → b ≤ 57 → is_plain b ≡ true
digit_plain b low high = grind (arith, nat_tests)

digits_plain : (ds : List ℕ) → AllDigits 10 ds → IsPlain ds
digits_plain [] h = refl
digits_plain (d ∷ ds) h =
    let within = digit_from_value d h.0 in and_from (is_plain d) (list_all is_plain ds) (digit_plain d within.0 within.1) (digits_plain ds h.1)

pub plain_decimal : (n : ℕ) → n < 2 ^ 64 → IsPlain (decimal n)
plain_decimal n small = digits_plain (decimal n) (decimal_is_IsNumeral n small).0.1

last_digit : (n : ℕ) → is_plain (48 + n % 10) ≡ true
last_digit n = digit_plain (48 + n % 10) (omega arith) (omega arith)

pub plain_folder : (n : ℕ) → IsPlain (folder_name n)
plain_folder n = simp last_digit

continues_plain : (b : ℕ) → continues_name b ≡ true → is_plain b ≡ true
continues_plain b h = grind (arith, nat_tests)

all_continue_plain : (bytes : List ℕ) → list_all continues_name bytes ≡ true → IsPlain bytes
all_continue_plain [] h = refl
all_continue_plain (b ∷ bs) h =
    let parts = and_parts (continues_name b) (list_all continues_name bs) h in
    and_from (is_plain b) (list_all is_plain bs) (continues_plain b parts.0) (all_continue_plain bs parts.1)

pub plain_name : (name : List ℕ) → IsColumnName name → IsPlain name
plain_name name h = all_continue_plain name (name_continues name h)

pub plain_type : (ty : ColType) → IsPlain (type_name ty)
unfolding type_name
plain_type Byte = refl
plain_type UByte = refl
plain_type Short = refl
plain_type UShort = refl
plain_type Int = refl
plain_type UInt = refl
plain_type Long = refl
plain_type ULong = refl
plain_type Category = refl
plain_type Text = refl

plain_column : (column : Column) → IsColumnName column.name → IsPlain (column_text column)
plain_column column h =
    plain-append column.name (58 ∷ type_name column.ty) (plain_name column.name h) (plain-append (58 ∷ []) (type_name column.ty) refl (plain_type column.ty))

plain_columns : (columns : List Column) → AllByRecursion (λ column. IsColumnName column.name) columns → IsPlain (join_with_byte 44 (map column_text columns))
plain_columns [] h = refl
plain_columns (c ∷ []) h = plain_column c h.0
plain_columns (c ∷ d ∷ cs) h =
    plain-append (column_text c) (44 ∷ join_with_byte 44 (map column_text (d ∷ cs))) (plain_column c h.0)
    (plain-append (44 ∷ []) (join_with_byte 44 (map column_text (d ∷ cs))) refl (plain_columns (d ∷ cs) h.1))

pub plain_schema : (columns : List Column) → IsSchema columns → IsPlain (schema_text columns)
plain_schema columns valid = plain_columns columns (recursion_from_All (λ column. IsColumnName column.name) columns valid.named)
