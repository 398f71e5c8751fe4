-- Names of files tell what they are names of.
use Rattle.std.proofs.Common.{nat_le, ◌≡◌, ◌≢◌, ◌+◌, ◌<◌, ◌%◌, ◌&&◌, ◌==◌, not, ℕ, true, false, List, [], ◌∷◌, ◌++◌, length, Option, Some, None, IsNone, IsSomeAnd, unwrap_or, if◌then◌else◌, bytes_eq, refl, sym, ap, ◌∙◌, subst, arith, append_assoc, append-nil, length-append}
use Rattle.std.specs.List.{list_all}
use lib.Chars.{codes}
use Rattle.std.proofs.lemmas.Bool.{and_from, and_parts, both_ways, not-true}
use Rattle.std.proofs.lemmas.Bool.Decides.{nat_tests}
use Rattle.std.proofs.lemmas.List.{append_cancel_right}
use Rattle.std.proofs.lemmas.List.Folds.{list_all-append}
use Rattle.std.proofs.lemmas.Slice.Eq.{bytes_eq-Decides}
use Rattle.fb_outside.proofs.JoinLemmas.{NoSlash, same_ends}
use Rattle.fb_types.proofs.NameFacts.{name_continues}
use Rattle.fb_types.specs.Names.{IsColumnName, continues_name, has_name_bytes, is_keyword}
use Rattle.part_meta.specs.FileNames.{IsCalled, under, catalog_name, four_digits, folder_name, part_folder, leaf, file_name, values_name}
use Rattle.part_meta.specs.declared.names.FileKind.{FileKind}
use Rattle.part_meta.specs.declared.names.FileKind.TheVariants.{PartText, Values, Mask, Words, Starts, Index}
use Rattle.part_meta.proofs.DigitLemmas.{four_digits-injective}

-- ---- bytes that a name doesn't have

abbrev Lacks : ℕ → List ℕ → Type 0
Lacks byte bytes = list_all (λ b. not (b == byte)) bytes ≡ true

lacks-append : (byte : ℕ) (xs ys : List ℕ) → Lacks byte xs → Lacks byte ys → Lacks byte (xs ++ ys)
lacks-append byte xs ys h k = list_all-append (λ b. not (b == byte)) xs ys ∙ and_from _ _ h k

no_slashes : (bytes : List ℕ) → Lacks 47 bytes → NoSlash bytes
no_slashes [] h = tt
no_slashes (b ∷ bs) h =
    let parts = and_parts (not (b == 47)) (list_all (λ x. not (x == 47)) bs) h in (not-true (b == 47) parts.0, no_slashes bs parts.1)

no_slash_byte : (b : ℕ) → continues_name b ≡ true → not (b == 47) ≡ true
no_slash_byte b h = grind (arith, nat_tests)

no_dot_byte : (b : ℕ) → continues_name b ≡ true → not (b == 46) ≡ true
no_dot_byte b h = grind (arith, nat_tests)

bytes_lack : (byte : ℕ) → ((b : ℕ) → continues_name b ≡ true → not (b == byte) ≡ true) → (bytes : List ℕ) → list_all continues_name bytes ≡ true → Lacks byte bytes
bytes_lack byte each [] h = refl
bytes_lack byte each (b ∷ bs) h =
    let parts = and_parts (continues_name b) (list_all continues_name bs) h in
    and_from (not (b == byte)) (list_all (λ x. not (x == byte)) bs) (each b parts.0) (bytes_lack byte each bs parts.1)

name_lacks_slash : (name : List ℕ) → IsColumnName name → Lacks 47 name
name_lacks_slash name named = bytes_lack 47 no_slash_byte name (name_continues name named)

name_lacks_dot : (name : List ℕ) → IsColumnName name → Lacks 46 name
name_lacks_dot name named = bytes_lack 46 no_dot_byte name (name_continues name named)

pub has_bytes : (name : List ℕ) → IsColumnName name → has_name_bytes name ≡ true
has_bytes name named =
    let whole = and_parts (has_name_bytes name && nat_le (length name) 64) (not (is_keyword name)) named in
    (and_parts (has_name_bytes name) (nat_le (length name) 64) whole.0).0

digit_is_no_slash : (n : ℕ) → not (48 + n % 10 == 47) ≡ true
digit_is_no_slash n = grind (arith, nat_tests)

folder_lacks_slash : (n : ℕ) → Lacks 47 (folder_name n)
folder_lacks_slash n = simp digit_is_no_slash

-- ---- a leaf is a stem without a dot, and what ends it

stem : FileKind → List ℕ → List ℕ
stem PartText name = codes "-part"
stem Values name = name
stem Mask name = name
stem Words name = name
stem Starts name = name
stem Index name = name

ending : FileKind → List ℕ
ending PartText = codes ".txt"
ending Values = []
ending Mask = codes ".msk"
ending Words = codes ".dic"
ending Starts = codes ".sp"
ending Index = codes ".idx"

leaf_cut : (kind : FileKind) (name : List ℕ) → leaf kind name ≡ stem kind name ++ ending kind
unfolding leaf stem ending
leaf_cut PartText name = refl
leaf_cut Values name = sym (append-nil name)
leaf_cut Mask name = refl
leaf_cut Words name = refl
leaf_cut Starts name = refl
leaf_cut Index name = refl

called_lacks : (byte : ℕ) → ((name : List ℕ) → IsColumnName name → Lacks byte name) → (name : Option (List ℕ)) → IsSomeAnd name IsColumnName → Lacks byte (unwrap_or name [])
called_lacks byte each None h = absurd h
called_lacks byte each (Some name) h = each name h

stem_lacks : (byte : ℕ) → Lacks byte (codes "-part") → ((name : List ℕ) → IsColumnName name → Lacks byte name) → (kind : FileKind) (name : Option (List ℕ)) → IsCalled kind name → Lacks byte (stem kind (unwrap_or name []))
unfolding stem
stem_lacks byte text each PartText name h = text
stem_lacks byte text each Values name h = called_lacks byte each name h
stem_lacks byte text each Mask name h = called_lacks byte each name h
stem_lacks byte text each Words name h = called_lacks byte each name h
stem_lacks byte text each Starts name h = called_lacks byte each name h
stem_lacks byte text each Index name h = called_lacks byte each name h

ending_lacks_slash : (kind : FileKind) → Lacks 47 (ending kind)
unfolding ending
ending_lacks_slash PartText = refl
ending_lacks_slash Values = refl
ending_lacks_slash Mask = refl
ending_lacks_slash Words = refl
ending_lacks_slash Starts = refl
ending_lacks_slash Index = refl

leaf_lacks_slash : (kind : FileKind) (name : Option (List ℕ)) → IsCalled kind name → NoSlash (leaf kind (unwrap_or name []))
leaf_lacks_slash kind name called =
    let cut = leaf_cut kind (unwrap_or name []) in
    subst NoSlash (sym cut) (no_slashes (stem kind (unwrap_or name []) ++ ending kind)
    (lacks-append 47 (stem kind (unwrap_or name [])) (ending kind) (stem_lacks 47 refl name_lacks_slash kind name called) (ending_lacks_slash kind)))

-- bytes that are none, or begin with a dot (46)
abbrev Dotted : List ℕ → Type 0
Dotted [] = Unit {0}
Dotted (b ∷ bs) = b ≡ 46

ending_dotted : (kind : FileKind) → Dotted (ending kind)
unfolding ending
ending_dotted PartText = refl
ending_dotted Values = tt
ending_dotted Mask = refl
ending_dotted Words = refl
ending_dotted Starts = refl
ending_dotted Index = refl

dot_in : (b : ℕ) (bs : List ℕ) → b ≡ 46 → Lacks 46 (b ∷ bs) → ⊥
dot_in b bs e h =
    let P : ℕ → Type 0 = λ x. not (x == 46) ≡ true in
    let bad : not true ≡ true = subst P e (and_parts (not (b == 46)) (list_all (λ x. not (x == 46)) bs) h).0 in
    absurd (cc)

-- a text is cut before its first dot in one way
same_stems : (m n s t : List ℕ) → Lacks 46 m → Lacks 46 n → Dotted s → Dotted t → m ++ s ≡ n ++ t → (m ≡ n) × (s ≡ t)
same_stems [] [] s t h k d f e = (refl, e)
same_stems [] (y ∷ n) [] t h k d f e = absurd (cc)
same_stems [] (y ∷ n) (b ∷ s) t h k d f e = absurd (dot_in y n (let same : b ≡ y = cc in sym same ∙ d) k)
same_stems (x ∷ m) [] s [] h k d f e = absurd (cc)
same_stems (x ∷ m) [] s (b ∷ t) h k d f e = absurd (dot_in x m (let same : x ≡ b = cc in same ∙ f) h)
same_stems (x ∷ m) (y ∷ n) s t h k d f e =
    let hs = and_parts (not (x == 46)) (list_all (λ b. not (b == 46)) m) h in
    let ks = and_parts (not (y == 46)) (list_all (λ b. not (b == 46)) n) k in
    let heads : x ≡ y = cc in
    let tails : m ++ s ≡ n ++ t = cc in
    let rest = same_stems m n s t hs.1 ks.1 d f tails in
    (cc (rest.0), rest.1)

-- the kind that ends so
kind_of : List ℕ → FileKind
kind_of s =
    if bytes_eq s (codes ".txt") then PartText else (if bytes_eq s (codes ".msk") then Mask else (if bytes_eq s (codes ".dic") then Words
    else (if bytes_eq s (codes ".sp") then Starts else (if bytes_eq s (codes ".idx") then Index else Values))))

kind_of-ending : (kind : FileKind) → kind_of (ending kind) ≡ kind
unfolding ending kind_of
kind_of-ending PartText = refl
kind_of-ending Values = refl
kind_of-ending Mask = refl
kind_of-ending Words = refl
kind_of-ending Starts = refl
kind_of-ending Index = refl

same_some : (m n : Option (List ℕ)) → IsSomeAnd m IsColumnName → IsSomeAnd n IsColumnName → unwrap_or m [] ≡ unwrap_or n [] → m ≡ n
same_some None n h k e = absurd h
same_some (Some a) None h k e = absurd k
same_some (Some a) (Some b) h k e = ap (λ x. Some x) e

same_none : (m n : Option (List ℕ)) → IsNone m → IsNone n → m ≡ n
same_none None None h k = refl
same_none None (Some b) h k = absurd (cc)
same_none (Some a) n h k = absurd (cc)

same_called : (kind : FileKind) (m n : Option (List ℕ)) → IsCalled kind m → IsCalled kind n → stem kind (unwrap_or m []) ≡ stem kind (unwrap_or n []) → m ≡ n
unfolding stem
same_called PartText m n h k e = same_none m n h k
same_called Values m n h k e = same_some m n h k e
same_called Mask m n h k e = same_some m n h k e
same_called Words m n h k e = same_some m n h k e
same_called Starts m n h k e = same_some m n h k e
same_called Index m n h k e = same_some m n h k e

same_leaf : (j k : FileKind) (m n : Option (List ℕ)) → IsCalled j m → IsCalled k n → leaf j (unwrap_or m []) ≡ leaf k (unwrap_or n []) → (m ≡ n) × (j ≡ k)
same_leaf j k m n left right e =
    let whole : stem j (unwrap_or m []) ++ ending j ≡ stem k (unwrap_or n []) ++ ending k = sym (leaf_cut j (unwrap_or m [])) ∙ e ∙ leaf_cut k (unwrap_or n []) in
    let ends = same_stems (stem j (unwrap_or m [])) (stem k (unwrap_or n [])) (ending j) (ending k) (stem_lacks 46 refl name_lacks_dot j m left) (stem_lacks 46 refl name_lacks_dot k n right)
    (ending_dotted j) (ending_dotted k) whole in
    let kinds : j ≡ k = sym (kind_of-ending j) ∙ ap kind_of ends.1 ∙ kind_of-ending k in
    let Called : FileKind → Type 0 = λ kind. IsCalled kind n in
    let Stems : FileKind → Type 0 = λ kind. stem j (unwrap_or m []) ≡ stem kind (unwrap_or n []) in
    (same_called j m n left (subst Called (sym kinds) right) (subst Stems (sym kinds) ends.0), kinds)

-- ---- the whole name

same_folder : (p q : List ℕ) (a b : ℕ) → a < 4096 → b < 4096 → part_folder p a ≡ part_folder q b → (p ≡ q) × (a ≡ b)
unfolding part_folder
same_folder p q a b low high e =
    let cut = same_ends p q (folder_name a) (folder_name b) (no_slashes (folder_name a) (folder_lacks_slash a)) (no_slashes (folder_name b) (folder_lacks_slash b)) e in
    let digits : four_digits a ≡ four_digits b = cc (cut.1) in
    (cut.0, four_digits-injective a b (omega arith) (omega arith) digits)

pub same_file : (p q : List ℕ) (a b : ℕ) (m n : Option (List ℕ)) (j k : FileKind) → a < 4096 → b < 4096 → IsCalled j m → IsCalled k n
    → file_name p a m j ≡ file_name q b n k → (p ≡ q) × (a ≡ b) × (m ≡ n) × (j ≡ k)
unfolding file_name
same_file p q a b m n j k low high left right e =
    let cut = same_ends (part_folder p a) (part_folder q b) (leaf j (unwrap_or m [])) (leaf k (unwrap_or n [])) (leaf_lacks_slash j m left) (leaf_lacks_slash k n right) e in
    let folder = same_folder p q a b low high cut.0 in
    let leaves = same_leaf j k m n left right cut.1 in
    (folder.0, folder.1, leaves.0, leaves.1)

pub catalog_name-injective : (p q : List ℕ) → catalog_name p ≡ catalog_name q → p ≡ q
unfolding catalog_name
catalog_name-injective p q e = append_cancel_right p q (47 ∷ codes "-catalog.txt") e

-- no stem is that of a catalog
begins_with_dash : (name : List ℕ) → has_name_bytes name ≡ true → name ≢ codes "-catalog"
begins_with_dash name h e =
    let P : List ℕ → Type 0 = λ x. has_name_bytes x ≡ true in
    let bad : has_name_bytes (codes "-catalog") ≡ true = subst P e h in
    cc

called_is_no_catalog : (name : Option (List ℕ)) → IsSomeAnd name IsColumnName → unwrap_or name [] ≢ codes "-catalog"
called_is_no_catalog None h e = absurd h
called_is_no_catalog (Some name) h e = begins_with_dash name (has_bytes name h) e

stem_is_no_catalog : (kind : FileKind) (name : Option (List ℕ)) → IsCalled kind name → stem kind (unwrap_or name []) ≢ codes "-catalog"
unfolding stem
stem_is_no_catalog PartText name h e = absurd (cc)
stem_is_no_catalog Values name h e = called_is_no_catalog name h e
stem_is_no_catalog Mask name h e = called_is_no_catalog name h e
stem_is_no_catalog Words name h e = called_is_no_catalog name h e
stem_is_no_catalog Starts name h e = called_is_no_catalog name h e
stem_is_no_catalog Index name h e = called_is_no_catalog name h e

pub file_is_no_catalog : (p q : List ℕ) (a : ℕ) (m : Option (List ℕ)) (j : FileKind) → IsCalled j m → file_name p a m j ≢ catalog_name q
unfolding file_name catalog_name
file_is_no_catalog p q a m j called e =
    let cut = same_ends (part_folder p a) q (leaf j (unwrap_or m [])) (codes "-catalog.txt") (leaf_lacks_slash j m called) (no_slashes (codes "-catalog.txt") refl) e in
    let whole : stem j (unwrap_or m []) ++ ending j ≡ codes "-catalog" ++ codes ".txt" = sym (leaf_cut j (unwrap_or m [])) ∙ cut.1 in
    let ends = same_stems (stem j (unwrap_or m [])) (codes "-catalog") (ending j) (codes ".txt") (stem_lacks 46 refl name_lacks_dot j m called) refl (ending_dotted j) refl whole in
    stem_is_no_catalog j m called ends.0

-- ---- no name ends in `.csv`

slash_in : (xs ys : List ℕ) → Lacks 47 (xs ++ 47 ∷ ys) → ⊥
slash_in [] ys h = let bad : not true ≡ true = (and_parts (not true) (list_all (λ x. not (x == 47)) ys) h).0 in absurd (cc)
slash_in (x ∷ xs) ys h = slash_in xs ys (and_parts (not (x == 47)) (list_all (λ b. not (b == 47)) (xs ++ 47 ∷ ys)) h).1

record EndsSo (leaf tail : List ℕ) : Type 0 where
  front : List ℕ
  cut : leaf ≡ front ++ tail

-- an end without a slash is one of what follows a slash
ends_leaf : (folder leaf front tail : List ℕ) → Lacks 47 tail → under folder leaf ≡ front ++ tail → EndsSo leaf tail
ends_leaf [] leaf [] tail h e = let P : List ℕ → Type 0 = λ t. Lacks 47 t in absurd (slash_in [] leaf (subst P (sym e) h))
ends_leaf [] leaf (y ∷ front) tail h e = record { front = front; cut = cc }
ends_leaf (x ∷ folder) leaf [] tail h e = let P : List ℕ → Type 0 = λ t. Lacks 47 t in absurd (slash_in (x ∷ folder) leaf (subst P (sym e) h))
ends_leaf (x ∷ folder) leaf (y ∷ front) tail h e = ends_leaf folder leaf front tail h (cc)

-- the same last bytes, where the ends are as long
same_tails : (a b s t : List ℕ) → length s ≡ length t → a ++ s ≡ b ++ t → s ≡ t
same_tails [] [] s t l e = e
same_tails [] (y ∷ b) s t l e = absurd (omega (arith, ap length e, length-append (y ∷ b) t))
same_tails (x ∷ a) [] s t l e = absurd (omega (arith, ap length e, length-append (x ∷ a) s))
same_tails (x ∷ a) (y ∷ b) s t l e = same_tails a b s t l (cc)

dot_among : (xs ys : List ℕ) → Lacks 46 (xs ++ 46 ∷ ys) → ⊥
dot_among [] ys h = dot_in 46 ys refl h
dot_among (x ∷ xs) ys h = dot_among xs ys (and_parts (not (x == 46)) (list_all (λ b. not (b == 46)) (xs ++ 46 ∷ ys)) h).1

-- texts that a test tells apart
apart : (s t : List ℕ) → bytes_eq s t ≡ false → s ≢ t
apart s t test same = both_ways (bytes_eq s t) test ((bytes_eq-Decides s t).1 same)

four_csv : (base front s : List ℕ) → length s ≡ 4 → bytes_eq s (codes ".csv") ≡ false → base ++ s ≢ front ++ codes ".csv"
four_csv base front s long test e = apart s (codes ".csv") test (same_tails base front s (codes ".csv") long e)

no_csv : (kind : FileKind) (base front : List ℕ) → Lacks 46 base → base ++ ending kind ≢ front ++ codes ".csv"
unfolding ending
no_csv PartText base front h e = four_csv base front (codes ".txt") refl refl e
no_csv Values base front h e = let P : List ℕ → Type 0 = λ t. Lacks 46 t in dot_among front (codes "csv") (subst P (sym (append-nil base) ∙ e) h)
no_csv Mask base front h e = four_csv base front (codes ".msk") refl refl e
no_csv Words base front h e = four_csv base front (codes ".dic") refl refl e
no_csv Starts base front h e =
    let longer : base ++ codes ".sp" ≡ (front ++ codes ".") ++ codes "csv" = e ∙ sym (append_assoc front (codes ".") (codes "csv")) in
    apart (codes ".sp") (codes "csv") refl (same_tails base (front ++ codes ".") (codes ".sp") (codes "csv") refl longer)
no_csv Index base front h e = four_csv base front (codes ".idx") refl refl e

pub file_is_no_csv : (p front : List ℕ) (a : ℕ) (m : Option (List ℕ)) (j : FileKind) → IsCalled j m → file_name p a m j ≢ front ++ codes ".csv"
unfolding file_name
file_is_no_csv p front a m j called e =
    let ends = ends_leaf (part_folder p a) (leaf j (unwrap_or m [])) front (codes ".csv") refl e in
    no_csv j (stem j (unwrap_or m [])) ends.front (stem_lacks 46 refl name_lacks_dot j m called) (sym (leaf_cut j (unwrap_or m [])) ∙ ends.cut)

pub catalog_is_no_csv : (p front : List ℕ) → catalog_name p ≢ front ++ codes ".csv"
unfolding catalog_name
catalog_is_no_csv p front e =
    let longer : (p ++ 47 ∷ codes "-catalog") ++ codes ".txt" ≡ front ++ codes ".csv" = append_assoc p (47 ∷ codes "-catalog") (codes ".txt") ∙ e in
    four_csv (p ++ 47 ∷ codes "-catalog") front (codes ".txt") refl refl longer

-- ---- values files

-- the values of a column are never in a catalog's file
pub values_name-catalog_name : (p q : List ℕ) (part : ℕ) (name : List ℕ) → IsColumnName name → values_name p part name ≢ catalog_name q
values_name-catalog_name p q part name named e = file_is_no_catalog p q part (Some name) Values named e

-- and two datasets have no values file in common
pub values_name-path : (p q : List ℕ) (a b : ℕ) (name other : List ℕ) → IsColumnName name → IsColumnName other → values_name p a name ≡ values_name q b other → p ≡ q
unfolding file_name part_folder
values_name-path p q a b name other named called e =
    let cut = same_ends (part_folder p a) (part_folder q b) (leaf Values name) (leaf Values other) (leaf_lacks_slash Values (Some name) named) (leaf_lacks_slash Values (Some other) called) e in
    (same_ends p q (folder_name a) (folder_name b) (no_slashes (folder_name a) (folder_lacks_slash a)) (no_slashes (folder_name b) (folder_lacks_slash b)) cut.0).0
