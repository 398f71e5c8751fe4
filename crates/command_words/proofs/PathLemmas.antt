-- The test of a path decides what a path is, and a path is a file's name.
use Rattle.std.proofs.Common.{◌≡◌, ◌-◌, ◌&&◌, ◌++◌, ℕ, Bool, true, false, List, drop, eqb, length, nat_le, take, Option, Some, None, IsSome, is_some, Result, Ok, Err, IfOk, IfSome, codes, cond, refl, sym, ap, subst, ◌∙◌, arith}
use Rattle.std.specs.List.{ends_with}
use Rattle.std.proofs.lemmas.Bool.{leb-true, le-leb}
use Rattle.std.proofs.lemmas.List.{take-append-drop}
use Rattle.std.proofs.lemmas.Slice.Eq.{bytes_eq-Decides}
use Rattle.fb_outside.specs.Names.{IsPath, IsFileName}
use Rattle.fb_outside.specs.NameTests.{are_pieces}
use Rattle.fb_outside.proofs.JoinLemmas.{IsName-more}
use Rattle.fb_outside.proofs.NameLemmas.{IsName-from_test, test-from_IsName}
use Rattle.command_words.specs.Valid.{IsCsvPath}
use Rattle.command_words.specs.Words.{is_path, path_of}

both : (a b : Bool) → (a && b) ≡ true → (a ≡ true) × (b ≡ true)
both true b h = (refl, h)
both false b h = absurd (cc)

pub IsPath-from_test : (text : List ℕ) → is_path text ≡ true → IsPath text
unfolding is_path
IsPath-from_test text h =
    let parts = both (nat_le (length text) 200) (are_pieces 64 text) h in
    IsName-from_test 200 64 text parts.1 (leb-true (length text) 200 parts.0)

pub test-from_IsPath : (text : List ℕ) → IsPath text → is_path text ≡ true
unfolding is_path
test-from_IsPath text h = rw (le-leb (length text) 200 h.short, test-from_IsName 200 64 text h) refl

pub IsFileName-from_path : (text : List ℕ) → IsPath text → IsFileName text
IsFileName-from_path text h = IsName-more 200 64 300 80 text (omega arith) (omega arith) h

test_by : (text : List ℕ) (b : Bool) → is_path text ≡ b → (IsPath text → ⊥) → b ≡ false
test_by text true h not_path = absurd (not_path (IsPath-from_test text h))
test_by text false h not_path = refl

-- what is no path fails the test
pub no_test : (text : List ℕ) → (IsPath text → ⊥) → is_path text ≡ false
no_test text not_path = test_by text (is_path text) refl not_path

-- what a word gives as a path, by the name that it spells
pub no_name : (word : List ℕ) (name : Option (List ℕ)) → name ≡ None → (IsFileName word → IsSome name) → None ≡ path_of word
no_name word name none named =
    rw (no_test word (λ path. let some : IsSome name = named (IsFileName-from_path word path) in let off : is_some name ≡ false = ap is_some none in cc)) refl

pub a_path : (word name : List ℕ) → name ≡ word → IsPath name → Some name ≡ path_of word
a_path word name same path =
    let test : is_path word ≡ true = test-from_IsPath word (subst IsPath same path) in
    rw test (ap Some same)

pub no_path : (word name : List ℕ) → name ≡ word → (IsPath name → false ≡ true) → None ≡ path_of word
no_path word name same not_path =
    rw (no_test word (λ path. let bad : false ≡ true = not_path (subst IsPath (sym same) path) in cc)) refl

-- a word that ends so
ends-is : (word needle : List ℕ) → ends_with eqb word needle ≡ true → word ≡ take (length word - length needle) word ++ needle
ends-is word needle h =
    let tail : needle ≡ drop (length word - length needle) word = (bytes_eq-Decides needle (drop (length word - length needle) word)).0 h in
    rw (ap (λ t. take (length word - length needle) word ++ t) tail) (sym (take-append-drop (length word - length needle) word))

-- what a path is that a word of that end gives
pub csv_found : {E : Type 0} (word : List ℕ) (found : Result (Option (List ℕ)) E) → ends_with eqb word (codes ".csv") ≡ true
    → IfOk found (λ f. f ≡ path_of word) → IfOk found (λ f. IfSome f IsPath) → IfOk found (λ f. IfSome f IsCsvPath)
csv_found word (Err e) ends is path = tt
csv_found word (Ok None) ends is path = tt
csv_found word (Ok (Some name)) ends is path = by (is_path word) is
  where
    by : (b : Bool) → Some name ≡ cond b (Some word) None → IsCsvPath name
    by true e =
        let same : name ≡ word = cc in
        record { path = path; stem = take (length word - 4) word; is = same ∙ ends-is word (codes ".csv") ends }
    by false e = absurd (cc)
