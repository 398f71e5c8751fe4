-- Blanks round a piece of text, and the piece without them.
use Rattle.std.proofs.Common.{◌≡◌, ℕ, ◌-◌, ◌≤◌, Bool, true, false, not, cond, List, [], ◌∷◌, ◌++◌, length, take, drop, refl, ap, sym, ◌∙◌, arith, length-append}
use Rattle.std.specs.Prelude.{reverse}
use Rattle.std.specs.List.{list_all, prefix_len, take_while}
use Rattle.std.proofs.lemmas.List.{drop_at, take_at, take-append-drop, length-reverse, reverse-append, reverse-reverse, length-drop}
use Rattle.std.proofs.lemmas.List.Folds.{length-prefix_len}
use Rattle.std.proofs.lemmas.List.Sums.{take_while-cons}
use Rattle.lexing.proofs.Runs.{append_all}
use Rattle.fb_types.specs.Field.{is_blank, blanks_before, trimmed, without_leading_blanks, without_trailing_blanks}
use Rattle.fb_types.specs.SchemaText.{IsPadded}
use Rattle.fb_types.proofs.NameFacts.{both_left, both_right}

pub not_false : (b : Bool) → not b ≡ true → b ≡ false
not_false true h = cc
not_false false h = refl

-- a front that passes ends before a rest that doesn't begin so
pub prefix_past : (p : ℕ → Bool) (front rest : List ℕ) → list_all p front ≡ true → prefix_len p rest ≡ 0 → prefix_len p (front ++ rest) ≡ length front
prefix_past p [] rest all stops = stops
prefix_past p (b ∷ bs) rest all stops =
    let first : p b ≡ true = both_left (p b) _ all in
    let others = prefix_past p bs rest (both_right (p b) _ all) stops in
    rw first (omega (arith, others))

prefix_none : (p : ℕ → Bool) (xs : List ℕ) → list_all (λ b. not (p b)) xs ≡ true → prefix_len p xs ≡ 0
prefix_none p [] none = refl
prefix_none p (b ∷ bs) none = rw (not_false (p b) (both_left _ _ none)) refl

prefix_none_front : (p : ℕ → Bool) (xs rest : List ℕ) → list_all (λ b. not (p b)) xs ≡ true → 1 ≤ length xs → prefix_len p (xs ++ rest) ≡ 0
prefix_none_front p [] rest none some = absurd (omega arith)
prefix_none_front p (b ∷ bs) rest none some = rw (not_false (p b) (both_left _ _ none)) refl

all_reverse : (p : ℕ → Bool) (xs : List ℕ) → list_all p xs ≡ true → list_all p (reverse xs) ≡ true
all_reverse p [] all = refl
all_reverse p (b ∷ bs) all =
    let one : list_all p (b ∷ []) ≡ true = rw (both_left (p b) _ all) refl in
    let others = all_reverse p bs (both_right (p b) _ all) in
    let turned : reverse (b ∷ bs) ≡ reverse bs ++ b ∷ [] = reverse-append (b ∷ []) bs in
    rw turned (append_all p (reverse bs) (b ∷ []) others one)

front_passes : (p : ℕ → Bool) (xs : List ℕ) → list_all p (take_while p xs) ≡ true
front_passes p [] = refl
front_passes p (b ∷ bs) = rw (take_while-cons p b bs) (by (p b) refl (front_passes p bs))
  where
    by : (first : Bool) → p b ≡ first → list_all p (take_while p bs) ≡ true → list_all p (cond first (b ∷ take_while p bs) []) ≡ true
    by true is others = rw is others
    by false is others = refl

blanks_before_is : (front rest : List ℕ) → list_all is_blank front ≡ true → prefix_len is_blank rest ≡ 0 → blanks_before (front ++ rest) ≡ length front
blanks_before_is front rest all stops = length-prefix_len is_blank (front ++ rest) ∙ prefix_past is_blank front rest all stops

without_leading : (front rest : List ℕ) → list_all is_blank front ≡ true → prefix_len is_blank rest ≡ 0 → without_leading_blanks (front ++ rest) ≡ rest
without_leading front rest all stops = drop_at front rest (blanks_before (front ++ rest)) (sym (blanks_before_is front rest all stops))

without_trailing : (piece back : List ℕ) → list_all is_blank back ≡ true → list_all (λ b. not (is_blank b)) piece ≡ true → without_trailing_blanks (piece ++ back) ≡ piece
without_trailing piece back all none =
    let behind : blanks_before (reverse back ++ reverse piece) ≡ length (reverse back) =
    blanks_before_is (reverse back) (reverse piece) (all_reverse is_blank back all) (prefix_none is_blank (reverse piece) (all_reverse (λ b. not (is_blank b)) piece none)) in
    let blanks : blanks_before (reverse (piece ++ back)) ≡ length back = ap blanks_before (reverse-append piece back) ∙ behind ∙ length-reverse back in
    take_at piece back (length (piece ++ back) - blanks_before (reverse (piece ++ back))) (omega (arith, blanks, length-append piece back))

-- a piece without blanks is what stands between those round it
pub trimmed_is : (bytes piece : List ℕ) → IsPadded bytes piece → list_all (λ b. not (is_blank b)) piece ≡ true → 1 ≤ length piece → trimmed bytes ≡ piece
trimmed_is bytes piece padded none some =
    let stops = prefix_none_front is_blank piece padded.back none some in
    let front = without_leading padded.front (piece ++ padded.back) padded.blank_front stops in
    ap trimmed padded.cut ∙ ap without_trailing_blanks front ∙ without_trailing piece padded.back padded.blank_back none

back_of : (rest : List ℕ) → drop (length rest - blanks_before (reverse rest)) rest ≡ reverse (take_while is_blank (reverse rest))
back_of rest =
    let ys = reverse rest in
    let n = prefix_len is_blank ys in
    let cut : reverse (drop n ys) ++ reverse (take n ys) ≡ rest = sym (reverse-append (take n ys) (drop n ys)) ∙ ap reverse (take-append-drop n ys) ∙ reverse-reverse rest in
    let long : length (reverse (drop n ys)) ≡ length rest - blanks_before ys =
    omega (arith, length-reverse (drop n ys), length-drop n ys, length-reverse rest, length-prefix_len is_blank ys) in
    sym (ap (drop (length rest - blanks_before ys)) cut) ∙ drop_at (reverse (drop n ys)) (reverse (take n ys)) (length rest - blanks_before ys) long

-- bytes are their trimmed piece with blanks round it
pub padded_trimmed : (bytes : List ℕ) → IsPadded bytes (trimmed bytes)
padded_trimmed bytes =
    let n = blanks_before bytes in
    let rest = drop n bytes in
    let m = length rest - blanks_before (reverse rest) in
    let inner : take m rest ++ drop m rest ≡ rest = take-append-drop m rest in
    record {
      front = take n bytes;
      back = drop m rest;
      cut = sym (ap (λ r. take n bytes ++ r) inner ∙ take-append-drop n bytes);
      blank_front = rw (length-prefix_len is_blank bytes) (front_passes is_blank bytes);
      blank_back = rw (back_of rest) (all_reverse is_blank (take_while is_blank (reverse rest)) (front_passes is_blank (reverse rest)));
    }
