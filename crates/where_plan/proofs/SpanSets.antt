-- Spans that stand apart are told by their numbers.
use Rattle.std.proofs.Common.{◌≡◌, Bool, true, false, ◌&&◌, ◌||◌, List, [], ◌∷◌, ℤ, pos, ◌+ℤ◌, ◌≤ℤ◌, ◌<ℤ◌, int_lt, refl, sym, ap, subst, ◌∙◌, arith}
use Rattle.std.specs.List.{list_any}
use Rattle.std.proofs.lemmas.Int.{ints}
use Rattle.binning.specs.declared.span_lists.Span.{Span}
use Rattle.binning.specs.Spans.{AreApart, has, in_span, int_le}
use Rattle.binning.proofs.SpanLemmas.{apart_after, has_number_of}
use Rattle.binning.proofs.TestLemmas.{either, not_both}
use Rattle.where_plan.specs.SpansOf.{AreSpansOf, span}

-- no number up to the one behind a span is in the spans after it
pub none_near : (s : Span) (spans : List Span) (n : ℤ) → AreApart (s ∷ spans) → n ≤ℤ (s.greatest +ℤ pos 1) → has spans n ≡ false
none_near s [] n apart near = refl
none_near s (t ∷ spans) n apart near =
    let low : n <ℤ t.least = omega (arith, ints, apart.1) in
    let some : t.least ≤ℤ t.greatest = has_number_of t spans apart.2 in
    let out : in_span n t ≡ false = out_below t n low in
    let rest = none_near t spans n apart.2 (omega (arith, ints)) in
    both_false (in_span n t) (has spans n) out rest
  where
    out_below : (t : Span) (n : ℤ) → n <ℤ t.least → in_span n t ≡ false
    out_below t n h = grind (arith, ints)

    both_false : (a b : Bool) → a ≡ false → b ≡ false → (a || b) ≡ false
    both_false a b h k = cc

none_below : (t : Span) (ts : List Span) (n : ℤ) → AreApart (t ∷ ts) → n <ℤ t.least → has (t ∷ ts) n ≡ false
none_below t ts n apart low =
    let some : t.least ≤ℤ t.greatest = has_number_of t ts apart in
    both_false (in_span n t) (has ts n) (out_below t n low) (none_near t ts n apart (omega (arith, ints)))
  where
    out_below : (t : Span) (n : ℤ) → n <ℤ t.least → in_span n t ≡ false
    out_below t n h = grind (arith, ints)

    both_false : (a b : Bool) → a ≡ false → b ≡ false → (a || b) ≡ false
    both_false a b h k = cc

or_first : (a b : Bool) → a ≡ true → (a || b) ≡ true
or_first a b h = cc

inside : (t : Span) (n : ℤ) → t.least ≤ℤ n → n ≤ℤ t.greatest → in_span n t ≡ true
inside t n h k = grind (arith, ints)

has_first : (t : Span) (ts : List Span) (n : ℤ) → t.least ≤ℤ n → n ≤ℤ t.greatest → has (t ∷ ts) n ≡ true
has_first t ts n h k = or_first (in_span n t) (has ts n) (inside t n h k)

-- spans with the same numbers
abbrev Same : List Span → List Span → Type 0
Same xs ys = (n : ℤ) → has xs n ≡ has ys n

none_empty : (t : Span) (ts : List Span) → AreApart (t ∷ ts) → Same [] (t ∷ ts) → ⊥
none_empty t ts apart same =
    not_both (has_first t ts t.least (omega (arith, ints)) (has_number_of t ts apart)) (sym (same t.least))

not_below : (s t : Span) (xs ys : List Span) → AreApart (s ∷ xs) → AreApart (t ∷ ys) → Same (s ∷ xs) (t ∷ ys) → t.least ≤ℤ s.least
not_below s t xs ys a b same =
    either (int_lt s.least t.least)
    (λ e. let low : s.least <ℤ t.least = lower s.least t.least e in
    not_both (has_first s xs s.least (omega (arith, ints)) (has_number_of s xs a)) (same s.least ∙ none_below t ys s.least b low))
    (λ e. upper s.least t.least e)
  where
    lower : (x y : ℤ) → int_lt x y ≡ true → x <ℤ y
    lower x y e = grind (arith, ints)

    upper : (x y : ℤ) → int_lt x y ≡ false → y ≤ℤ x
    upper x y e = grind (arith, ints)

not_shorter : (s t : Span) (xs ys : List Span) → s.least ≡ t.least → AreApart (s ∷ xs) → AreApart (t ∷ ys) → Same (s ∷ xs) (t ∷ ys) → t.greatest ≤ℤ s.greatest
not_shorter s t xs ys least a b same =
    either (int_lt s.greatest t.greatest)
    (λ e.
    let n = s.greatest +ℤ pos 1 in
    let some : s.least ≤ℤ s.greatest = has_number_of s xs a in
    let low : t.least ≤ℤ n = start s t some least in
    let high : n ≤ℤ t.greatest = end s t e in
    not_both (has_first t ys n low high) (sym (same n) ∙ both_false (in_span n s) (has xs n) (past s) (none_near s xs n a (omega (arith, ints)))))
    (λ e. upper s.greatest t.greatest e)
  where
    upper : (x y : ℤ) → int_lt x y ≡ false → y ≤ℤ x
    upper x y e = grind (arith, ints)

    start : (s t : Span) → s.least ≤ℤ s.greatest → s.least ≡ t.least → t.least ≤ℤ (s.greatest +ℤ pos 1)
    start s t h e = rw (← e) (omega (arith, ints))

    end : (s t : Span) → int_lt s.greatest t.greatest ≡ true → (s.greatest +ℤ pos 1) ≤ℤ t.greatest
    end s t h = grind (arith, ints)

    past : (s : Span) → in_span (s.greatest +ℤ pos 1) s ≡ false
    past s = grind (arith, ints)

    both_false : (a b : Bool) → a ≡ false → b ≡ false → (a || b) ≡ false
    both_false a b h k = cc

same_ints : (x y : ℤ) → x ≤ℤ y → y ≤ℤ x → x ≡ y
same_ints x y h k = omega (arith, ints)

first_same : (s t : Span) (xs ys : List Span) → AreApart (s ∷ xs) → AreApart (t ∷ ys) → Same (s ∷ xs) (t ∷ ys) → s ≡ t
first_same s t xs ys a b same =
    let back : Same (t ∷ ys) (s ∷ xs) = λ n. sym (same n) in
    let least : s.least ≡ t.least = same_ints s.least t.least (not_below t s ys xs b a back) (not_below s t xs ys a b same) in
    let greatest : s.greatest ≡ t.greatest = same_ints s.greatest t.greatest (not_shorter t s ys xs (sym least) b a back) (not_shorter s t xs ys least a b same) in
    ap (λ x. span x s.greatest) least ∙ ap (λ y. span t.least y) greatest

rest_same : (s : Span) (xs ys : List Span) → AreApart (s ∷ xs) → AreApart (s ∷ ys) → Same (s ∷ xs) (s ∷ ys) → Same xs ys
rest_same s xs ys a b same n =
    either (int_lt s.greatest n)
    (λ e. behind (in_span n s) (has xs n) (has ys n) (past s n e) (same n))
    (λ e. let near : n ≤ℤ (s.greatest +ℤ pos 1) = close s n e in none_near s xs n a near ∙ sym (none_near s ys n b near))
  where
    past : (s : Span) (n : ℤ) → int_lt s.greatest n ≡ true → in_span n s ≡ false
    past s n e = grind (arith, ints)

    close : (s : Span) (n : ℤ) → int_lt s.greatest n ≡ false → n ≤ℤ (s.greatest +ℤ pos 1)
    close s n e = grind (arith, ints)

    behind : (a b c : Bool) → a ≡ false → (a || b) ≡ (a || c) → b ≡ c
    behind true b c h e = absurd cc
    behind false b c h e = e

pub same_spans : (xs ys : List Span) → AreApart xs → AreApart ys → Same xs ys → xs ≡ ys
same_spans [] [] a b same = refl
same_spans [] (t ∷ ys) a b same = absurd (none_empty t ys b same)
same_spans (s ∷ xs) [] a b same = absurd (none_empty s xs a (λ n. sym (same n)))
same_spans (s ∷ xs) (t ∷ ys) a b same =
    let e = first_same s t xs ys a b same in
    let c : AreApart (s ∷ ys) = subst (λ x. AreApart (x ∷ ys)) (sym e) b in
    let f : Same (s ∷ xs) (s ∷ ys) = subst (λ x. Same (s ∷ xs) (x ∷ ys)) (sym e) same in
    let rest = same_spans xs ys (apart_after s xs a) (apart_after s ys c) (rest_same s xs ys a c f) in
    ap (λ x. x ∷ xs) e ∙ ap (λ zs. t ∷ zs) rest

-- a condition has at most one list of spans
pub one_list : (ends : Span) (test : ℤ → Bool) (xs ys : List Span) → AreSpansOf ends test xs → AreSpansOf ends test ys → xs ≡ ys
one_list ends test xs ys a b = same_spans xs ys a.apart b.apart (λ n. a.numbers n ∙ sym (b.numbers n))
