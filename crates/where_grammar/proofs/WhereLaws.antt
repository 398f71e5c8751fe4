-- What follows the word `where`.
use Rattle.std.proofs.Common.{◌≡◌, ℕ, true, false, List, [], ◌∷◌, ◌++◌, length, take, drop, refl, sym, ap, subst, ◌∙◌, inl, inr, arith}
use Rattle.std.specs.Prelude.{Some, None, codes}
use Rattle.std.specs.List.{list_all, prefix_len}
use Rattle.std.specs.Char.{is_ascii_lowercase, to_ascii_lowercase}
use Rattle.std.specs.Str.{str_eq_ignore_ascii_case, str_to_ascii_lowercase}
use Rattle.std.proofs.lemmas.List.{drop_at, take-append-drop, take_at}
use Rattle.std.proofs.lemmas.Slice.Eq.{bytes_eq-Decides}
use Rattle.std.proofs.lemmas.Bool.Decides.{nat_tests}
use Rattle.lexing.specs.Blanks.{StopsAt, is_blank}
use Rattle.lexing.proofs.Cases.{chosen}
use Rattle.std.proofs.lemmas.Bool.{and_from, and_parts}
use Rattle.lexing.proofs.Runs.{front_passes, prefix_len-cut, rest_stops}
use Rattle.where_grammar.specs.Tokens.{in_word}
use Rattle.where_grammar.specs.Language.{FollowsWhere, after_where, behind_where}

is_where : (word : List ℕ) → str_eq_ignore_ascii_case word (codes "where") ≡ true → str_to_ascii_lowercase word ≡ codes "where"
is_where word e = (bytes_eq-Decides (str_to_ascii_lowercase word) (codes "where")).0 e

where_is : (word : List ℕ) → str_to_ascii_lowercase word ≡ codes "where" → str_eq_ignore_ascii_case word (codes "where") ≡ true
where_is word e = (bytes_eq-Decides (str_to_ascii_lowercase word) (codes "where")).1 e

pub after_where-told : (text rest : List ℕ) → after_where text ≡ Some rest → FollowsWhere text rest
unfolding after_where
after_where-told text rest e =
    let b = prefix_len is_blank text in
    let query = drop b text in
    let n = prefix_len in_word query in
    elim (chosen (str_eq_ignore_ascii_case (take n query) (codes "where")) (Some (drop n query)) None (Some rest) e) [
      | inl h ↦ (
          let same : drop n query ≡ rest = cc in
          let cut : text ≡ take b text ++ (take n query ++ drop n query) = sym (take-append-drop b text) ∙ ap (λ xs. take b text ++ xs) (sym (take-append-drop n query)) in
          subst (FollowsWhere text) same (record { blanks = take b text; word = take n query; cut = cut; all_blank = front_passes is_blank text; is_where = is_where (take n query) h.0; ends = rest_stops in_word query }))
      | inr h ↦ absurd cc
    ]

-- ---- and the other way

lower_byte : (b : ℕ) → is_ascii_lowercase (to_ascii_lowercase b) ≡ true → (in_word b ≡ true) × (is_blank b ≡ false)
lower_byte b e = (grind (arith, nat_tests), grind (arith, nat_tests))

lower_word : (word : List ℕ) → list_all is_ascii_lowercase (str_to_ascii_lowercase word) ≡ true → list_all in_word word ≡ true
lower_word [] e = refl
lower_word (b ∷ bs) e =
    let parts = and_parts (is_ascii_lowercase (to_ascii_lowercase b)) (list_all is_ascii_lowercase (str_to_ascii_lowercase bs)) e in
    and_from (in_word b) (list_all in_word bs) (lower_byte b parts.0).0 (lower_word bs parts.1)

word_stops : (word rest : List ℕ) → str_to_ascii_lowercase word ≡ codes "where" → StopsAt is_blank (word ++ rest)
word_stops [] rest e = absurd cc
word_stops (b ∷ bs) rest e =
    let all : list_all is_ascii_lowercase (str_to_ascii_lowercase (b ∷ bs)) ≡ true = ap (list_all is_ascii_lowercase) e in
    (lower_byte b (and_parts (is_ascii_lowercase (to_ascii_lowercase b)) (list_all is_ascii_lowercase (str_to_ascii_lowercase bs)) all).0).1

pub after_where-again : (text rest : List ℕ) → FollowsWhere text rest → after_where text ≡ Some rest
unfolding after_where
after_where-again text rest is =
    let all : list_all is_ascii_lowercase (str_to_ascii_lowercase is.word) ≡ true = ap (list_all is_ascii_lowercase) is.is_where in
    let b : prefix_len is_blank (is.blanks ++ (is.word ++ rest)) ≡ length is.blanks = prefix_len-cut is_blank is.blanks (is.word ++ rest) is.all_blank (word_stops is.word rest is.is_where) in
    let query : drop (length is.blanks) (is.blanks ++ (is.word ++ rest)) ≡ is.word ++ rest = drop_at is.blanks (is.word ++ rest) (length is.blanks) refl in
    let n : prefix_len in_word (is.word ++ rest) ≡ length is.word = prefix_len-cut in_word is.word rest (lower_word is.word all) is.ends in
    let front : take (length is.word) (is.word ++ rest) ≡ is.word = take_at is.word rest (length is.word) refl in
    let back : drop (length is.word) (is.word ++ rest) ≡ rest = drop_at is.word rest (length is.word) refl in
    let test : str_eq_ignore_ascii_case is.word (codes "where") ≡ true = where_is is.word is.is_where in
    ap after_where is.cut ∙ (ap (λ k. behind_where (drop k (is.blanks ++ (is.word ++ rest)))) b ∙ (ap behind_where query ∙ rw (n, front, back, test) refl))
