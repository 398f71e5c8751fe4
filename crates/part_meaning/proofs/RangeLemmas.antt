-- What spans, and conditions on words, say of the numbers from one to another.
use Rattle.std.proofs.Common.{◌≡◌, ℕ, zero, suc, ◌+◌, ◌<◌, ◌≤◌, Bool, true, false, ◌&&◌, ◌||◌, cond, nat_lt, List, [], ◌∷◌, length, map, ℤ, pos, negsuc, ◌+ℤ◌, ◌≤ℤ◌, ◌<ℤ◌, refl, sym, ap, ◌∙◌, arith}
use Rattle.std.specs.List.{list_all, list_any, range_with_len}
use Rattle.std.specs.Int.{int_gap}
use Rattle.std.proofs.lemmas.Bool.{ltb-false, ltb-true}
use Rattle.std.proofs.lemmas.Int.{by_lt_z, ints}
use Rattle.binning.specs.Against.{against, covers, meets}
use Rattle.binning.specs.Spans.{AreApart, has, in_span, int_le}
use Rattle.binning.specs.declared.against_bins.Three.TheVariants.{Yes, No, Unknown}
use Rattle.binning.specs.declared.span_lists.Span.{Span}
use Rattle.binning.proofs.TestLemmas.{either, int_le-true, le_from, not_both}
use Rattle.binning.proofs.SpanLemmas.{apart_after, has_number_of}
use Rattle.where_grammar.specs.declared.clause.Atom.{Atom}
use Rattle.where_plan.specs.SpansOf.{AreSpansOf, code_meets, code_range}
use Rattle.three_valued.specs.Plans.{IsSound}
use Rattle.part_meaning.specs.Known.{between, over}

-- ---- truth values

and_both : (a b : Bool) → a ≡ true → b ≡ true → (a && b) ≡ true
and_both a b h k = cc

and_left : (a b : Bool) → (a && b) ≡ true → a ≡ true
and_left true b h = refl
and_left false b h = absurd cc

and_right : (a b : Bool) → (a && b) ≡ true → b ≡ true
and_right true b h = h
and_right false b h = absurd cc

or_first : (a b : Bool) → a ≡ true → (a || b) ≡ true
or_first a b h = cc

or_second : (a b : Bool) → b ≡ true → (a || b) ≡ true
or_second true b h = refl
or_second false b h = h

or_rest : (a b : Bool) → (a || b) ≡ true → a ≡ false → b ≡ true
or_rest true b h k = absurd cc
or_rest false b h k = h

-- two that hold together are one
same_by : (a b : Bool) → (a ≡ true → b ≡ true) → (b ≡ true → a ≡ true) → a ≡ b
same_by true b f g = sym (f refl)
same_by false true f g = g refl
same_by false false f g = refl

-- ---- the numbers from one to another

record IsIn (least greatest n : ℤ) : Type 0 where
  low : least ≤ℤ n
  high : n ≤ℤ greatest

-- a number that is so far above the first
gap_up : (a b : ℤ) → a ≤ℤ b → a +ℤ pos (int_gap a b) ≡ b
gap_up (pos a) (pos b) h = omega (arith, ints)
gap_up (pos a) (negsuc b) h = absurd (omega (arith, ints))
gap_up (negsuc a) (pos b) h = omega (arith, ints)
gap_up (negsuc a) (negsuc b) h = omega (arith, ints)

gap_le : (a b c : ℤ) → a ≤ℤ b → b ≤ℤ c → int_gap a b ≤ int_gap a c
gap_le a b c h k =
    let first = gap_up a b h in
    let second : a +ℤ pos (int_gap a c) ≡ c = gap_up a c (omega (arith, ints)) in
    omega (arith, ints)

within_gap : (a c : ℤ) (k : ℕ) → a ≤ℤ c → k < int_gap a c + 1 → IsIn a c (a +ℤ pos k)
within_gap a c k h below =
    let last = gap_up a c h in
    record { low = omega (arith, ints); high = omega (arith, ints) }

module _ (test : ℤ → Bool) (first : ℤ) where
  record Found (a n : ℕ) : Type 0 where
    k : ℕ
    from : a ≤ k
    below : k < a + n
    passes : test (first +ℤ pos k) ≡ true

  all_from : (a n : ℕ) → ((k : ℕ) → a ≤ k → k < a + n → test (first +ℤ pos k) ≡ true)
      → list_all test (map (λ k. first +ℤ pos k) (range_with_len a n)) ≡ true
  all_from a zero each = refl
  all_from a (suc n) each =
      and_both (test (first +ℤ pos a)) (list_all test (map (λ k. first +ℤ pos k) (range_with_len (a + 1) n)))
      (each a (omega arith) (omega arith)) (all_from (a + 1) n (λ k from below. each k (omega arith) (omega arith)))

  each_of : (a n k : ℕ) → list_all test (map (λ k. first +ℤ pos k) (range_with_len a n)) ≡ true → a ≤ k → k < a + n
      → test (first +ℤ pos k) ≡ true
  each_of a zero k all from below = absurd (omega arith)
  each_of a (suc n) k all from below =
      either (nat_lt a k)
      (λ t. let later = ltb-true a k t in
      each_of (a + 1) n k (and_right (test (first +ℤ pos a)) (list_all test (map (λ k. first +ℤ pos k) (range_with_len (a + 1) n))) all) (omega arith) (omega arith))
      (λ f. let here : a ≡ k = omega (arith, ltb-false a k f) in
      ap (λ i. test (first +ℤ pos i)) (sym here) ∙ and_left (test (first +ℤ pos a)) (list_all test (map (λ k. first +ℤ pos k) (range_with_len (a + 1) n))) all)

  any_from : (a n k : ℕ) → a ≤ k → k < a + n → test (first +ℤ pos k) ≡ true
      → list_any test (map (λ k. first +ℤ pos k) (range_with_len a n)) ≡ true
  any_from a zero k from below passes = absurd (omega arith)
  any_from a (suc n) k from below passes =
      either (nat_lt a k)
      (λ t. let later = ltb-true a k t in
      or_second (test (first +ℤ pos a)) (list_any test (map (λ k. first +ℤ pos k) (range_with_len (a + 1) n))) (any_from (a + 1) n k (omega arith) (omega arith) passes))
      (λ f. let here : a ≡ k = omega (arith, ltb-false a k f) in
      or_first (test (first +ℤ pos a)) (list_any test (map (λ k. first +ℤ pos k) (range_with_len (a + 1) n))) (ap (λ i. test (first +ℤ pos i)) here ∙ passes))

  some_of : (a n : ℕ) → list_any test (map (λ k. first +ℤ pos k) (range_with_len a n)) ≡ true → Found a n
  some_of a zero any = absurd cc
  some_of a (suc n) any =
      either (test (first +ℤ pos a))
      (λ t. record { k = a; from = omega arith; below = omega arith; passes = t })
      (λ f. let r = some_of (a + 1) n (or_rest (test (first +ℤ pos a)) (list_any test (map (λ k. first +ℤ pos k) (range_with_len (a + 1) n))) any f) in
      record { k = r.k; from = omega (arith, r.from); below = omega (arith, r.below); passes = r.passes })

-- the same of a test over the numbers from one to another
pub all_between : (test : ℤ → Bool) (least greatest : ℤ) → least ≤ℤ greatest
    → ((n : ℤ) → least ≤ℤ n → n ≤ℤ greatest → test n ≡ true) → list_all test (between least greatest) ≡ true
all_between test least greatest order each =
    all_from test least 0 (int_gap least greatest + 1)
    (λ k from below. let w = within_gap least greatest k order (omega arith) in each (least +ℤ pos k) w.low w.high)

pub each_between : (test : ℤ → Bool) (least greatest n : ℤ) → list_all test (between least greatest) ≡ true
    → least ≤ℤ n → n ≤ℤ greatest → test n ≡ true
each_between test least greatest n all low high =
    let at = gap_up least n low in
    let le = gap_le least n greatest low high in
    ap test (sym at) ∙ each_of test least 0 (int_gap least greatest + 1) (int_gap least n) all (omega arith) (omega arith)

pub any_between : (test : ℤ → Bool) (least greatest n : ℤ) → least ≤ℤ n → n ≤ℤ greatest → test n ≡ true
    → list_any test (between least greatest) ≡ true
any_between test least greatest n low high passes =
    let at = gap_up least n low in
    let le = gap_le least n greatest low high in
    any_from test least 0 (int_gap least greatest + 1) (int_gap least n) (omega arith) (omega arith) (ap test at ∙ passes)

pub record Passing (test : ℤ → Bool) (least greatest : ℤ) : Type 0 where
  pub number : ℤ
  pub low : least ≤ℤ number
  pub high : number ≤ℤ greatest
  pub passes : test number ≡ true

pub some_between : (test : ℤ → Bool) (least greatest : ℤ) → least ≤ℤ greatest → list_any test (between least greatest) ≡ true
    → Passing test least greatest
some_between test least greatest order any =
    let f = some_of test least 0 (int_gap least greatest + 1) any in
    let w = within_gap least greatest f.k order (omega (arith, f.below)) in
    record { number = least +ℤ pos f.k; low = w.low; high = w.high; passes = f.passes }

three_sound : (all any one : Bool) → (all ≡ true → one ≡ true) → (one ≡ true → any ≡ true) → IsSound (cond all Yes (cond any Unknown No)) one
three_sound true any one f g = f refl
three_sound false true one f g = tt
three_sound false false true f g = absurd (not_both (g refl) refl)
three_sound false false false f g = refl

-- what numbers say of a test is sound for each of them
pub over_sound : (test : ℤ → Bool) (least greatest n : ℤ) → least ≤ℤ n → n ≤ℤ greatest
    → IsSound (over test (between least greatest)) (test n)
over_sound test least greatest n low high =
    three_sound (list_all test (between least greatest)) (list_any test (between least greatest)) (test n)
    (λ all. each_between test least greatest n all low high) (λ one. any_between test least greatest n low high one)

-- ---- spans

span_has : (n : ℤ) (s : Span) → in_span n s ≡ true → IsIn s.least s.greatest n
span_has n s h = record {
  low = le_from s.least n (and_left (int_le s.least n) (int_le n s.greatest) h);
  high = le_from n s.greatest (and_right (int_le s.least n) (int_le n s.greatest) h);
}

-- numbers of later spans stand past the next one
above : (s : Span) (spans : List Span) (n : ℤ) → AreApart (s ∷ spans) → has spans n ≡ true → (s.greatest +ℤ pos 1) <ℤ n
above s [] n apart h = absurd cc
above s (t ∷ spans) n apart h =
    either (in_span n t)
    (λ here. let i = span_has n t here in omega (arith, ints, apart.1, i.low))
    (λ not_here.
    let later = above t spans n apart.2 (or_rest (in_span n t) (has spans n) h not_here) in
    omega (arith, ints, apart.1, has_number_of t spans apart.2, later))

in_of : (n : ℤ) (s : Span) → s.least ≤ℤ n → n ≤ℤ s.greatest → in_span n s ≡ true
in_of n s low high = and_both (int_le s.least n) (int_le n s.greatest) (int_le-true s.least n low) (int_le-true n s.greatest high)

-- a number of one of the spans is in the first or past it
in_first : (s : Span) (spans : List Span) (n : ℤ) → AreApart (s ∷ spans) → has (s ∷ spans) n ≡ true → n ≤ℤ (s.greatest +ℤ pos 1)
    → IsIn s.least s.greatest n
in_first s spans n apart h near =
    either (in_span n s)
    (λ here. span_has n s here)
    (λ not_here.
    let later = above s spans n apart (or_rest (in_span n s) (has spans n) h not_here) in
    absurd (omega (arith, ints, near, later)))

module _ (least greatest : ℤ) where
  covers_in : (s : Span) → covers least greatest s ≡ true → (s.least ≤ℤ least) × (greatest ≤ℤ s.greatest)
  covers_in s h = (
    le_from s.least least (and_left (int_le s.least least) (int_le greatest s.greatest) h),
    le_from greatest s.greatest (and_right (int_le s.least least) (int_le greatest s.greatest) h),
  )

  meets_in : (s : Span) → meets least greatest s ≡ true → (s.least ≤ℤ greatest) × (least ≤ℤ s.greatest)
  meets_in s h = (
    le_from s.least greatest (and_left (int_le s.least greatest) (int_le least s.greatest) h),
    le_from least s.greatest (and_right (int_le s.least greatest) (int_le least s.greatest) h),
  )

  -- a span that covers the range has each of its numbers
  pub covers_has : (spans : List Span) (n : ℤ) → list_any (covers least greatest) spans ≡ true → least ≤ℤ n → n ≤ℤ greatest → has spans n ≡ true
  covers_has [] n h low high = absurd cc
  covers_has (s ∷ spans) n h low high =
      either (covers least greatest s)
      (λ here.
      let c = covers_in s here in
      or_first (in_span n s) (has spans n) (in_of n s (omega (arith, ints, c.0, low)) (omega (arith, ints, c.1, high))))
      (λ not_here.
      or_second (in_span n s) (has spans n)
      (covers_has spans n (or_rest (covers least greatest s) (list_any (covers least greatest) spans) h not_here) low high))

  -- a span that has a number of the range meets it
  pub has_meets : (spans : List Span) (n : ℤ) → has spans n ≡ true → least ≤ℤ n → n ≤ℤ greatest → list_any (meets least greatest) spans ≡ true
  has_meets [] n h low high = absurd cc
  has_meets (s ∷ spans) n h low high =
      either (in_span n s)
      (λ here.
      let i = span_has n s here in
      or_first (meets least greatest s) (list_any (meets least greatest) spans)
      (and_both (int_le s.least greatest) (int_le least s.greatest)
      (int_le-true s.least greatest (omega (arith, ints, i.low, high))) (int_le-true least s.greatest (omega (arith, ints, low, i.high)))))
      (λ not_here.
      or_second (meets least greatest s) (list_any (meets least greatest) spans)
      (has_meets spans n (or_rest (in_span n s) (has spans n) h not_here) low high))

  module _ (order : least ≤ℤ greatest) where
    -- a span that meets the range has a number of it
    met : (spans : List Span) → AreApart spans → list_any (meets least greatest) spans ≡ true → Passing (has spans) least greatest
    met [] apart h = absurd cc
    met (s ∷ spans) apart h =
        either (meets least greatest s)
        (λ here. by (meets_in s here) (has_number_of s spans apart))
        (λ not_here.
        let p = met spans (apart_after s spans apart) (or_rest (meets least greatest s) (list_any (meets least greatest) spans) h not_here) in
        record { number = p.number; low = p.low; high = p.high; passes = or_second (in_span p.number s) (has spans p.number) p.passes })
      where
        by : (s.least ≤ℤ greatest) × (least ≤ℤ s.greatest) → s.least ≤ℤ s.greatest → Passing (has (s ∷ spans)) least greatest
        by m some =
            by_lt_z least s.least
            (λ below. record {
              number = s.least;
              low = omega (arith, ints, below);
              high = m.0;
              passes = or_first (in_span s.least s) (has spans s.least) (in_of s.least s (omega (arith, ints)) some);
            })
            (λ within. record {
              number = least;
              low = omega (arith, ints);
              high = order;
              passes = or_first (in_span least s) (has spans least) (in_of least s within m.1);
            })

    -- spans apart that have each number of the range have one that covers it
    covered : (spans : List Span) → AreApart spans → ((n : ℤ) → least ≤ℤ n → n ≤ℤ greatest → has spans n ≡ true)
        → list_any (covers least greatest) spans ≡ true
    covered [] apart each = each least (omega (arith, ints)) order
    covered (s ∷ spans) apart each =
        by_lt_z s.greatest least
        (λ before.
        or_second (covers least greatest s) (list_any (covers least greatest) spans)
        (covered spans (apart_after s spans apart) (λ n low high.
        or_rest (in_span n s) (has spans n) (each n low high) (not_in n (omega (arith, ints, before, low))))))
        (λ reach.
        let first = in_first s spans least apart (each least (omega (arith, ints)) order) (omega (arith, ints, reach)) in
        or_first (covers least greatest s) (list_any (covers least greatest) spans)
        (and_both (int_le s.least least) (int_le greatest s.greatest) (int_le-true s.least least first.low) (int_le-true greatest s.greatest (last reach))))
      where
        not_in : (n : ℤ) → s.greatest <ℤ n → in_span n s ≡ false
        not_in n past =
            either (in_span n s) (λ t. let i = span_has n s t in absurd (omega (arith, ints, i.high, past))) (λ f. f)

        last : least ≤ℤ s.greatest → greatest ≤ℤ s.greatest
        last reach =
            by_lt_z s.greatest greatest
            (λ past.
            let n : ℤ = s.greatest +ℤ pos 1 in
            let here = in_first s spans n apart (each n (omega (arith, ints, reach)) (omega (arith, ints, past))) (omega (arith, ints)) in
            absurd (omega (arith, ints, here.high)))
            (λ within. within)

    pub against_over : (spans : List Span) → AreApart spans → against least greatest spans ≡ over (has spans) (between least greatest)
    against_over spans apart =
        let numbers = between least greatest in
        let all : list_any (covers least greatest) spans ≡ list_all (has spans) numbers
        = same_by (list_any (covers least greatest) spans) (list_all (has spans) numbers)
        (λ one. all_between (has spans) least greatest order (λ n low high. covers_has spans n one low high))
        (λ each. covered spans apart (λ n low high. each_between (has spans) least greatest n each low high)) in
        let any : list_any (meets least greatest) spans ≡ list_any (has spans) numbers
        = same_by (list_any (meets least greatest) spans) (list_any (has spans) numbers)
        (λ one. let p = met spans apart one in any_between (has spans) least greatest p.number p.low p.high p.passes)
        (λ some. let p = some_between (has spans) least greatest order some in has_meets spans p.number p.passes p.low p.high) in
        ap (λ b. cond b Yes (cond (list_any (meets least greatest) spans) Unknown No)) all
        ∙ ap (λ b. cond (list_all (has spans) numbers) Yes (cond b Unknown No)) any

-- what spans say of a range is sound for each number of it
pub against_sound : (spans : List Span) (least greatest n : ℤ) → least ≤ℤ n → n ≤ℤ greatest → IsSound (against least greatest spans) (has spans n)
against_sound spans least greatest n low high =
    three_sound (list_any (covers least greatest) spans) (list_any (meets least greatest) spans) (has spans n)
    (λ one. covers_has least greatest spans n one low high) (λ there. has_meets least greatest spans n there low high)

-- ---- words

-- tests that agree on numbers say the same of them
over_same : (f g : ℤ → Bool) (least greatest : ℤ) → least ≤ℤ greatest → ((n : ℤ) → least ≤ℤ n → n ≤ℤ greatest → f n ≡ g n)
    → over f (between least greatest) ≡ over g (between least greatest)
over_same f g least greatest order same =
    let numbers = between least greatest in
    let all : list_all f numbers ≡ list_all g numbers
    = same_by (list_all f numbers) (list_all g numbers)
    (λ each. all_between g least greatest order (λ n low high. sym (same n low high) ∙ each_between f least greatest n each low high))
    (λ each. all_between f least greatest order (λ n low high. same n low high ∙ each_between g least greatest n each low high)) in
    let any : list_any f numbers ≡ list_any g numbers
    = same_by (list_any f numbers) (list_any g numbers)
    (λ some. let p = some_between f least greatest order some in
    any_between g least greatest p.number p.low p.high (sym (same p.number p.low p.high) ∙ p.passes))
    (λ some. let p = some_between g least greatest order some in
    any_between f least greatest p.number p.low p.high (same p.number p.low p.high ∙ p.passes)) in
    ap (λ b. cond b Yes (cond (list_any f numbers) Unknown No)) all
    ∙ ap (λ b. cond (list_all g numbers) Yes (cond b Unknown No)) any

-- the spans of the codes of a condition say what the words of these codes do
pub against_words : (condition : Atom) (words : List (List ℕ)) (spans : List Span) (least greatest : ℤ)
    → AreSpansOf (code_range words) (code_meets condition words) spans → pos 1 ≤ℤ least → least ≤ℤ greatest → greatest ≤ℤ pos (length words)
    → against least greatest spans ≡ over (code_meets condition words) (between least greatest)
against_words condition words spans least greatest are low order high =
    against_over least greatest order spans are.apart
    ∙ over_same (has spans) (code_meets condition words) least greatest order
    (λ n from to.
    are.numbers n
    ∙ ap (λ b. b && code_meets condition words n) (in_of n (code_range words) (omega (arith, ints, low, from)) (omega (arith, ints, to, high))))
