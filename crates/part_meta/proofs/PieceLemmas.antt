-- The files' names are names of files, and what they are made of.
use Rattle.std.proofs.Common.{◌≡◌, ◌≢◌, ◌<◌, ◌≤◌, ◌+◌, ◌/◌, ◌%◌, ◌&&◌, not, ℕ, Bool, true, false, List, [], ◌∷◌, ◌++◌, length, IsTrue, Option, Some, None, IsNone, IfSome, option_copied, unwrap_or, Bor, refl, sym, ap, subst, arith, nat_le, leb-true, length-append}
use Rattle.std.specs.List.{AllByRecursion, join_with_byte, list_all}
use Rattle.std.specs.Str.{IsUtf8}
use Rattle.std.proofs.lemmas.Bool.{and_parts}
use Rattle.std.proofs.lemmas.Bool.Decides.{nat_tests}
use Rattle.std.proofs.lemmas.List.{append-nil}
use Rattle.std.proofs.lemmas.List.Elements.{All-from_recursion}
use Rattle.std.proofs.lemmas.Str.{IsUtf8-from_ascii}
use Rattle.std.proofs.lemmas.Str.Ascii.{IsAscii-from_all}
use lib.Chars.{codes}
use Rattle.fb_types.specs.Names.{IsColumnName, begins_name, continues_name, has_name_bytes, is_keyword}
use Rattle.fb_outside.specs.Names.{IsPiece, IsName, IsPath, IsFileName, is_piece_byte, spelled}
use Rattle.fb_outside.proofs.NameLemmas.{IsPiece-from_test}
use Rattle.fb_outside.proofs.JoinLemmas.{IsName-under}
use Rattle.part_meta.specs.declared.names.FileKind.{FileKind}
use Rattle.part_meta.specs.declared.names.FileKind.TheVariants.{PartText, Values, Mask, Words, Starts, Index}
use Rattle.part_meta.specs.FileNames.{catalog_name, four_digits, part_folder, leaf, file_name}
use Rattle.part_meta.specs.LeafParts.{suffix}
use Rattle.part_meta.proofs.FileNameLemmas.{has_bytes}

-- bytes of which pieces are made
abbrev pub PieceBytes : List ℕ → Type 0
PieceBytes bs = AllByRecursion (λ b. IsTrue (is_piece_byte b)) bs

abbrev pub AsciiBytes : List ℕ → Type 0
AsciiBytes bs = AllByRecursion (λ b. b < 128) bs

byte_is_ascii : (b : ℕ) → is_piece_byte b ≡ true → b < 128
byte_is_ascii b h = grind (arith, nat_tests)

bytes_are_ascii : (bs : List ℕ) → PieceBytes bs → AsciiBytes bs
bytes_are_ascii [] h = tt
bytes_are_ascii (b ∷ bs) h = (byte_is_ascii b h.0, bytes_are_ascii bs h.1)

ascii-append : (xs ys : List ℕ) → AsciiBytes xs → AsciiBytes ys → AsciiBytes (xs ++ ys)
ascii-append [] ys h k = k
ascii-append (x ∷ xs) ys h k = (h.0, ascii-append xs ys h.1 k)

joined_is_ascii : (most : ℕ) (ps : List (List ℕ)) → AllByRecursion (IsPiece most) ps → AsciiBytes (join_with_byte 47 ps)
joined_is_ascii most [] h = tt
joined_is_ascii most (p ∷ []) h = bytes_are_ascii p h.0.bytes
joined_is_ascii most (p ∷ q ∷ ps) h =
    ascii-append p (47 ∷ join_with_byte 47 (q ∷ ps)) (bytes_are_ascii p h.0.bytes) (omega arith, joined_is_ascii most (q ∷ ps) h.1)

spelled_is_ascii : (most : ℕ) (rooted : Bool) (ps : List (List ℕ)) → AllByRecursion (IsPiece most) ps → AsciiBytes (spelled rooted ps)
spelled_is_ascii most true ps h = (omega arith, joined_is_ascii most ps h)
spelled_is_ascii most false ps h = joined_is_ascii most ps h

-- a name is text
pub name_is_utf8 : (longest most : ℕ) (text : List ℕ) → IsName longest most text → IsUtf8 text
name_is_utf8 longest most text h =
    let ascii : AsciiBytes text = subst AsciiBytes (sym h.is) (spelled_is_ascii most h.rooted h.pieces h.each) in
    IsUtf8-from_ascii text (IsAscii-from_all text (All-from_recursion (λ b. b < 128) text ascii))

continues_is_byte : (b : ℕ) → continues_name b ≡ true → is_piece_byte b ≡ true
continues_is_byte b h = grind (arith, nat_tests)

begins_is_byte : (b : ℕ) → begins_name b ≡ true → is_piece_byte b ≡ true
begins_is_byte b h = grind (arith, nat_tests)

begins_is_no_dot : (b : ℕ) → begins_name b ≡ true → b ≢ 46
begins_is_no_dot b h e = let no : begins_name 46 ≡ true = subst (λ x. begins_name x ≡ true) e h in absurd (cc)

digit_is_byte : (n : ℕ) → is_piece_byte (48 + n % 10) ≡ true
digit_is_byte n = grind (arith, nat_tests)

continues_are_bytes : (bs more : List ℕ) → list_all continues_name bs ≡ true → PieceBytes more → PieceBytes (bs ++ more)
continues_are_bytes [] more h k = k
continues_are_bytes (b ∷ bs) more h k =
    let parts = and_parts (continues_name b) (list_all continues_name bs) h in
    (continues_is_byte b parts.0, continues_are_bytes bs more parts.1 k)

-- a piece that begins with no dot
piece_of : (most b : ℕ) (bs : List ℕ) → is_piece_byte b ≡ true → PieceBytes bs → b ≢ 46 → length bs + 1 ≤ most → IsPiece most (b ∷ bs)
piece_of most b bs h k n short = record {
  some = omega arith;
  short = omega (arith, short);
  bytes = (h, k);
  not_here = λ e. n (let same : b ≡ 46 = cc in same);
  not_up = λ e. n (let same : b ≡ 46 = cc in same);
}

column_piece : (name more : List ℕ) → has_name_bytes name ≡ true → length name ≤ 64 → PieceBytes more → length more ≤ 16 → IsPiece 80 (name ++ more)
column_piece [] more h short k few = absurd (cc)
column_piece (b ∷ bs) more h short k few =
    let parts = and_parts (begins_name b) (list_all continues_name bs) h in
    piece_of 80 b (bs ++ more) (begins_is_byte b parts.0) (continues_are_bytes bs more parts.1 k) (begins_is_no_dot b parts.0)
    (omega (arith, length-append bs more))

name_is_short : (name : List ℕ) → IsColumnName name → length name ≤ 64
name_is_short name named =
    let whole = and_parts (has_name_bytes name && nat_le (length name) 64) (not (is_keyword name)) named in
    leb-true (length name) 64 (and_parts (has_name_bytes name) (nat_le (length name) 64) whole.0).1

-- a column's name and one of the suffixes
named_piece : (name more : List ℕ) → IsColumnName name → PieceBytes more → length more ≤ 16 → IsPiece 80 (name ++ more)
named_piece name more named k few = column_piece name more (has_bytes name named) (name_is_short name named) k few

-- what each kind is called
pub leaf_is : (kind : FileKind) (name : List ℕ) → (kind ≡ PartText → name ≡ []) → leaf kind name ≡ name ++ suffix kind
unfolding leaf
leaf_is PartText name h = sym (ap (λ n. n ++ codes "-part.txt") (h refl))
leaf_is Values name h = sym (append-nil name)
leaf_is Mask name h = refl
leaf_is Words name h = refl
leaf_is Starts name h = refl
leaf_is Index name h = refl

tested : (bs : List ℕ) → list_all is_piece_byte bs ≡ true → PieceBytes bs
tested [] h = tt
tested (b ∷ bs) h =
    let parts = and_parts (is_piece_byte b) (list_all is_piece_byte bs) h in
    (parts.0, tested bs parts.1)

suffix_bytes : (kind : FileKind) → PieceBytes (suffix kind)
suffix_bytes PartText = tested (codes "-part.txt") refl
suffix_bytes Values = tt
suffix_bytes Mask = tested (codes ".msk") refl
suffix_bytes Words = tested (codes ".dic") refl
suffix_bytes Starts = tested (codes ".sp") refl
suffix_bytes Index = tested (codes ".idx") refl

suffix_is_short : (kind : FileKind) → length (suffix kind) ≤ 16
suffix_is_short PartText = omega arith
suffix_is_short Values = omega arith
suffix_is_short Mask = omega arith
suffix_is_short Words = omega arith
suffix_is_short Starts = omega arith
suffix_is_short Index = omega arith

pub none_is_empty : (name : Option (Bor (List ℕ))) → IsNone name → unwrap_or (option_copied name) [] ≡ []
none_is_empty None h = refl
none_is_empty (Some b) h = absurd (cc)

leaf_piece : (kind : FileKind) (name : Option (Bor (List ℕ))) → (IsNone name → kind ≡ PartText) → (kind ≡ PartText → IsNone name)
    → IfSome (option_copied name) IsColumnName → IsPiece 80 (leaf kind (unwrap_or (option_copied name) []))
unfolding leaf
leaf_piece kind None none text named =
    subst (λ k. IsPiece 80 (leaf k [])) (sym (none refl)) (IsPiece-from_test 80 (codes "-part.txt") refl)
leaf_piece kind (Some b) none text named =
    subst (IsPiece 80) (sym (leaf_is kind b.now (λ e. absurd (let no : true ≡ false = text e in cc))))
    (named_piece b.now (suffix kind) named (suffix_bytes kind) (suffix_is_short kind))

folder_piece : (part : ℕ) → IsPiece 64 (112 ∷ four_digits part)
folder_piece part =
    piece_of 64 112 (four_digits part) refl
    (digit_is_byte (part / 1000), (digit_is_byte (part / 100), (digit_is_byte (part / 10), (digit_is_byte part, tt))))
    (λ e. absurd (omega arith)) (omega arith)

pub file_is : (dir : List ℕ) (part : ℕ) (name : Option (Bor (List ℕ))) (kind : FileKind) → IsPath dir → (IsNone name → kind ≡ PartText)
    → (kind ≡ PartText → IsNone name) → IfSome (option_copied name) IsColumnName → IsFileName (file_name dir part (option_copied name) kind)
unfolding file_name part_folder
file_is dir part name kind path none text named =
    let folder : IsName 206 64 (part_folder dir part) =
    IsName-under 200 64 206 64 dir (112 ∷ four_digits part) path (folder_piece part) (omega arith) (omega (arith, path.short)) in
    let piece = leaf_piece kind name none text named in
    IsName-under 206 64 300 80 (part_folder dir part) (leaf kind (unwrap_or (option_copied name) [])) folder piece (omega arith)
    (omega (arith, folder.short, piece.short))

pub catalog_is : (dir : List ℕ) → IsPath dir → IsFileName (catalog_name dir)
unfolding catalog_name
catalog_is dir path =
    IsName-under 200 64 300 80 dir (codes "-catalog.txt") path (IsPiece-from_test 80 (codes "-catalog.txt") refl) (omega arith)
    (omega (arith, path.short))
