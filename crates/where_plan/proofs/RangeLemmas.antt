-- Numbers of a span that stand so to a limit.
use Rattle.std.proofs.Common.{◌≡◌, ℕ, Bool, true, false, not, ◌&&◌, ◌||◌, List, [], ◌∷◌, ◌++◌, length, take, get_or, ◌+◌, ◌<◌, pos, ℤ, ◌≤ℤ◌, ◌<ℤ◌, int_lt, refl, sym, ap, ◌∙◌, arith}
use Rattle.std.specs.Prelude.{int_le, Result, Ok, Err, IfOk}
use Rattle.std.specs.List.{list_any}
use Rattle.std.specs.Ordering.{int_eq}
use Rattle.std.proofs.lemmas.Int.{ints}
use Rattle.std.proofs.lemmas.Grind.{common_steps}
use Rattle.std.proofs.lemmas.List.Folds.{list_any-append}
use Rattle.binning.specs.declared.span_lists.Span.{Span}
use Rattle.binning.specs.Spans.{AreApart, has, in_span}
use Rattle.where_grammar.specs.declared.clause.Op.{Op}
use Rattle.where_grammar.specs.declared.clause.Op.TheVariants as op
use Rattle.where_grammar.specs.Holds.{compares}
use Rattle.where_plan.specs.SpansOf.{AreSpansOf}

-- ---- limits outside

pub none_below : (ends : Span) (limit n : ℤ) → limit ≤ℤ ends.least → (in_span n ends && int_lt n limit) ≡ false
none_below ends limit n h = grind (arith, ints)

pub none_above : (ends : Span) (limit n : ℤ) → ends.greatest ≤ℤ limit → (in_span n ends && int_lt limit n) ≡ false
none_above ends limit n h = grind (arith, ints)

pub none_at_most : (ends : Span) (limit n : ℤ) → limit <ℤ ends.least → (in_span n ends && int_le n limit) ≡ false
none_at_most ends limit n h = grind (arith, ints)

pub none_at_least : (ends : Span) (limit n : ℤ) → ends.greatest <ℤ limit → (in_span n ends && int_le limit n) ≡ false
none_at_least ends limit n h = grind (arith, ints)

-- ---- truth values

pub first_alone : (x y a : Bool) → x ≡ a → y ≡ false → (x || y) ≡ a
first_alone true false a e f = e
first_alone false false a e f = e
first_alone x true a e f = absurd cc

pub and_swapped : (a b c x : Bool) → x ≡ ((a && b) && c) → x ≡ (a && (c && b))
and_swapped true true true x e = e
and_swapped true true false x e = e
and_swapped true false true x e = e
and_swapped true false false x e = e
and_swapped false b c x e = e

pub or_none : (a : Bool) → (a || false) ≡ a
or_none true = refl
or_none false = refl

pub both_sides : (ends : Span) (n limit : ℤ) → ((in_span n ends && int_lt n limit) || (in_span n ends && int_lt limit n)) ≡ (in_span n ends && not (int_eq n limit))
both_sides ends n limit = parted (in_span n ends) (int_lt n limit) (int_lt limit n) (not (int_eq n limit)) (differs n limit)
  where
    parted : (a b c d : Bool) → (b || c) ≡ d → ((a && b) || (a && c)) ≡ (a && d)
    parted true b c d e = e
    parted false b c d e = refl

    differs : (x y : ℤ) → (int_lt x y || int_lt y x) ≡ not (int_eq x y)
    differs x y = grind (arith, ints)

pub one_number : (ends : Span) (n limit : ℤ) → (in_span n ends && (int_le limit n && int_le n limit)) ≡ (in_span n ends && int_eq n limit)
one_number ends n limit = ap (λ b. in_span n ends && b) (meets n limit)
  where
    meets : (x y : ℤ) → (int_le y x && int_le x y) ≡ int_eq x y
    meets x y = grind (arith, ints)

-- ---- lists of spans

-- spans with the numbers of a list
pub spans_given : {E : Type 0} (ends : Span) (test : ℤ → Bool) (list : List Span) (r : Result (List Span) E) → IfOk r (λ spans. (n : ℤ) → has spans n ≡ has list n) → IfOk r AreApart → ((n : ℤ) → has list n ≡ (in_span n ends && test n)) → IfOk r (AreSpansOf ends test)
spans_given ends test list (Ok spans) same apart numbers = record { apart = apart; numbers = λ n. same n ∙ numbers n }
spans_given ends test list (Err e) same apart numbers = tt

pub has_two : (a b : Span) (n : ℤ) → has (a ∷ b ∷ []) n ≡ (in_span n a || in_span n b)
has_two a b n = ap (λ x. in_span n a || x) (or_none (in_span n b))

pub has_one : (a : Span) (n : ℤ) → has (a ∷ []) n ≡ in_span n a
has_one a n = or_none (in_span n a)

-- two spans cut from each of two
pub has_four : (ends a b c d e f : Span) (test more : ℤ → Bool) (n : ℤ) → (in_span n e || in_span n f) ≡ (in_span n ends && test n) → (in_span n a || in_span n b) ≡ (in_span n e && more n) → (in_span n c || in_span n d) ≡ (in_span n f && more n)
    → has (a ∷ b ∷ c ∷ d ∷ []) n ≡ (in_span n ends && (test n && more n))
has_four ends a b c d e f test more n h k m =
    four (in_span n a) (in_span n b) (in_span n c) (in_span n d) (in_span n e) (in_span n f) (in_span n ends) (test n) (more n) h k m
  where
    split : (e f z t m : Bool) → (e || f) ≡ (z && t) → ((e && m) || (f && m)) ≡ (z && (t && m))
    split e f z t m h = grind arith

    regroup : (a b c d : Bool) → (a || (b || (c || (d || false)))) ≡ ((a || b) || (c || d))
    regroup true b c d = refl
    regroup false true c d = refl
    regroup false false true d = refl
    regroup false false false true = refl
    regroup false false false false = refl

    four : (a b c d e f z t m : Bool) → (e || f) ≡ (z && t) → (a || b) ≡ (e && m) → (c || d) ≡ (f && m) → (a || (b || (c || (d || false)))) ≡ (z && (t && m))
    four a b c d e f z t m h k l = regroup a b c d ∙ (ap (λ x. x || (c || d)) k ∙ (ap (λ x. (e && m) || x) l ∙ split e f z t m h))

pub has_pushed : (spans : List Span) (s : Span) (n : ℤ) → has (spans ++ s ∷ []) n ≡ (has spans n || in_span n s)
has_pushed spans s n = list_any-append (in_span n) spans (s ∷ []) ∙ ap (λ b. has spans n || b) (or_none (in_span n s))

-- one test more of a list
pub one_test_more : {A : Type 0} (a : Bool) (test : A → Bool) (list : List A) (x : A) → ((a && list_any test list) || (a && test x)) ≡ (a && list_any test (list ++ x ∷ []))
one_test_more a test list x = joined_tests a (list_any test list) (test x) (list_any test (list ++ x ∷ [])) (list_any-append test list (x ∷ []))
  where
    joined_tests : (a b c d : Bool) → d ≡ (b || (c || false)) → ((a && b) || (a && c)) ≡ (a && d)
    joined_tests true b c d e = ap (λ x. b || x) (sym (or_none c)) ∙ sym e
    joined_tests false b c d e = refl

taken_more : (xs : List ℤ) (i : ℕ) → i < length xs → take (i + 1) xs ≡ take i xs ++ get_or xs i (pos 0) ∷ []
taken_more xs i h = grind (arith, common_steps)

-- one number more of a list
pub number_step : (ends s : Span) (spans more : List Span) (list : List ℤ) (i : ℕ) (n : ℤ) → i < length list → more ≡ spans ++ s ∷ [] → has spans n ≡ (in_span n ends && list_any (int_eq n) (take i list))
    → in_span n s ≡ (in_span n ends && int_eq n (get_or list i (pos 0))) → has more n ≡ (in_span n ends && list_any (int_eq n) (take (i + 1) list))
number_step ends s spans more list i n h e so_far one =
    let x = get_or list i (pos 0) in
    ap (λ xs. has xs n) e ∙ has_pushed spans s n
    ∙ ap (λ b. b || in_span n s) so_far ∙ ap (λ b. (in_span n ends && list_any (int_eq n) (take i list)) || b) one
    ∙ one_test_more (in_span n ends) (int_eq n) (take i list) x
    ∙ ap (λ xs. in_span n ends && list_any (int_eq n) xs) (sym (taken_more list i h))
