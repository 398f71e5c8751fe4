-- A clause that isn't refused has the plan that is defined, and no other.
use Rattle.std.proofs.Common.{◌≡◌, ℕ, zero, suc, Bool, true, false, cond, ◌&&◌, ◌||◌, List, [], ◌∷◌, map, refl, sym, ap, subst, ◌∙◌, ℤ, pos, negsuc, ◌+ℤ◌, ◌≤ℤ◌, ◌<ℤ◌, int_lt, arith}
use Rattle.std.specs.Prelude.{Option, Some, None, is_none, is_some}
use Rattle.std.specs.Int.{int_gap}
use Rattle.std.specs.List.{AllByRecursion}
use Rattle.std.specs.Ordering.{int_eq}
use Rattle.std.proofs.lemmas.Int.{ints}
use Rattle.fb_types.specs.Types.{ends_of}
use Rattle.fb_types.specs.declared.schemas.Column.{Column}
use Rattle.fb_types.specs.declared.types.ColType.{ColType}
use Rattle.fb_types.specs.declared.types.ColType.TheVariants.{Byte}
use Rattle.binning.specs.declared.span_lists.Span.{Span}
use Rattle.binning.specs.Spans.{AreApart, has, in_span, int_le}
use Rattle.binning.proofs.SpanLemmas.{has_number_of}
use Rattle.binning.proofs.TestLemmas.{either}
use Rattle.where_grammar.specs.declared.clause.Atom.{Atom}
use Rattle.where_grammar.specs.declared.clause.Atom.TheVariants as condition
use Rattle.where_grammar.specs.declared.clause.Op.TheVariants as op
use Rattle.where_grammar.specs.declared.clause.Clause.{Clause, roll-Clause, map-Clause}
use Rattle.where_grammar.specs.declared.clause.Clause.TheVariants as clause
use Rattle.where_grammar.specs.declared.clause.Clause.TheVariants.{rolls-Or, rolls-Xor, rolls-And, rolls-Not, rolls-One}
use Rattle.where_grammar.specs.declared.clause.Clause.TheOpen.{Clause-F}
use Rattle.where_grammar.specs.declared.clause.Clause.TheFolds.{fold-Clause, fold-roll-Clause, ind-Clause}
use Rattle.where_grammar.specs.declared.clause.QueryKind.{QueryKind}
use Rattle.where_grammar.specs.declared.clause.QueryKind.TheVariants.{WrongType}
use Rattle.where_grammar.specs.Holds.{column_of}
use Rattle.where_plan.specs.declared.plan.PlanAtom.TheVariants as atom
use Rattle.where_plan.specs.declared.plan.Plan.{Plan}
use Rattle.where_plan.specs.declared.plan.Plan.TheVariants as plan
use Rattle.where_plan.specs.declared.sorts.Sort.{Sort}
use Rattle.where_plan.specs.declared.sorts.Sort.TheVariants.{Number, Text, Any}
use Rattle.where_plan.specs.Sorts.{column_named, sort_of, suits}
use Rattle.where_plan.specs.SpansOf.{AreSpansOf, number_meets, span}
use Rattle.where_plan.specs.Plans.{ArePlans, IsAtomPlan, IsClausePlan, IsPlan, all_of, any_of, denied, no_parts, odd_of, one_more, single}
use Rattle.where_plan.specs.PlanOf.{atom_plan, clause_plan, in_front, plan_at, plan_by_parts, plan_of, spans_from, spans_of}
use Rattle.where_plan.specs.Refusals.{atom_refusal, clause_refusal, first_some, refusal_of}
use Rattle.where_plan.proofs.FoldLemmas.{clause_refusal-and, clause_refusal-not, clause_refusal-one, clause_refusal-or, clause_refusal-xor}
use Rattle.where_plan.proofs.PlanLemmas.{has_no_refusal, one_plan, suited, unnamed}

-- ---- the spans of a test

-- the number is one of so many from a least one on
abbrev among : ℤ → ℕ → ℤ → Bool
among least count n = int_le least n && int_lt n (least +ℤ pos count)

-- no span begins below the number
abbrev BeginFrom : ℤ → List Span → Type 0
BeginFrom least [] = Unit {0}
BeginFrom least (s ∷ spans) = least ≤ℤ s.least

-- The spans have exactly those of so many numbers from a least one on that pass the test.
record AreFrom (test : ℤ → Bool) (least : ℤ) (count : ℕ) (spans : List Span) : Type 0 where
  apart : AreApart spans
  begin : BeginFrom least spans
  numbers : (n : ℤ) → has spans n ≡ (among least count n && test n)

-- ---- one number more in front

begins_at : (s : Span) (least : ℤ) → int_eq s.least (least +ℤ pos 1) ≡ true → s.least ≤ℤ s.greatest → least ≤ℤ s.greatest
begins_at s least e h = grind (arith, ints)

begins_later : (s : Span) (least : ℤ) → int_eq s.least (least +ℤ pos 1) ≡ false → (least +ℤ pos 1) ≤ℤ s.least → (least +ℤ pos 1) <ℤ s.least
begins_later s least e h = grind (arith, ints)

same_number : (n : ℤ) → n ≤ℤ n
same_number n = omega (arith, ints)

longer_apart : (s : Span) (spans : List Span) (least : ℤ) → AreApart (s ∷ spans) → least ≤ℤ s.greatest → AreApart (span least s.greatest ∷ spans)
longer_apart s [] least apart h = h
longer_apart s (t ∷ spans) least apart h = (h, apart.1, apart.2)

front_apart : (b : Bool) (least : ℤ) (spans : List Span) → AreApart spans → BeginFrom (least +ℤ pos 1) spans → AreApart (in_front b least spans)
front_apart false least spans apart begin = apart
front_apart true least [] apart begin = same_number least
front_apart true least (s ∷ spans) apart begin =
    either (int_eq s.least (least +ℤ pos 1))
    (λ e. rw e (longer_apart s spans least apart (begins_at s least e (has_number_of s spans apart))))
    (λ e. rw e (same_number least, begins_later s least e begin, apart))

begin_below : (least : ℤ) (spans : List Span) → BeginFrom (least +ℤ pos 1) spans → BeginFrom least spans
begin_below least [] begin = tt
begin_below least (s ∷ spans) begin = omega (arith, ints)

front_begins : (b : Bool) (least : ℤ) (spans : List Span) → BeginFrom (least +ℤ pos 1) spans → BeginFrom least (in_front b least spans)
front_begins false least spans begin = begin_below least spans begin
front_begins true least [] begin = same_number least
front_begins true least (s ∷ spans) begin =
    either (int_eq s.least (least +ℤ pos 1))
    (λ e. rw e (same_number least))
    (λ e. rw e (same_number least))

only_number : (n least : ℤ) → in_span n (span least least) ≡ int_eq n least
only_number n least = grind (arith, ints)

longer_has : (s : Span) (n least : ℤ) → int_eq s.least (least +ℤ pos 1) ≡ true → s.least ≤ℤ s.greatest → in_span n (span least s.greatest) ≡ (int_eq n least || in_span n s)
longer_has s n least e h = grind (arith, ints)

or_grouped : (a b c : Bool) → ((a || b) || c) ≡ (a || (b || c))
or_grouped true b c = refl
or_grouped false b c = refl

front_has : (b : Bool) (least : ℤ) (spans : List Span) (n : ℤ) → AreApart spans → has (in_front b least spans) n ≡ ((int_eq n least && b) || has spans n)
front_has false least spans n apart = none (int_eq n least) (has spans n)
  where
    none : (a b : Bool) → b ≡ ((a && false) || b)
    none true b = refl
    none false b = refl
front_has true least [] n apart = ap (λ b. b || false) (only_number n least ∙ and_true (int_eq n least))
  where
    and_true : (a : Bool) → a ≡ (a && true)
    and_true true = refl
    and_true false = refl
front_has true least (s ∷ spans) n apart =
    either (int_eq s.least (least +ℤ pos 1))
    (λ e. rw e (ap (λ b. b || has spans n) (longer_has s n least e (has_number_of s spans apart)) ∙ (or_grouped (int_eq n least) (in_span n s) (has spans n) ∙ ap (λ b. b || has (s ∷ spans) n) (and_true (int_eq n least)))))
    (λ e. rw e (ap (λ b. b || has (s ∷ spans) n) (only_number n least ∙ and_true (int_eq n least))))
  where
    and_true : (a : Bool) → a ≡ (a && true)
    and_true true = refl
    and_true false = refl

-- ---- so many numbers

-- the first of so many numbers, or one of those behind it
among_more : (least : ℤ) (more : ℕ) (n : ℤ) → among least (suc more) n ≡ (int_eq n least || among (least +ℤ pos 1) more n)
among_more least more n = grind (arith, ints)

first_passes : (test : ℤ → Bool) (n least : ℤ) → (int_eq n least && test n) ≡ (int_eq n least && test least)
first_passes test n least =
    either (int_eq n least)
    (λ e. rw (equal n least e) refl)
    (λ e. rw e refl)
  where
    equal : (n least : ℤ) → int_eq n least ≡ true → n ≡ least
    equal n least e = grind (arith, ints)

parted : (a b c d : Bool) → (a && c) ≡ (a && d) → ((a && d) || (b && c)) ≡ ((a || b) && c)
parted true b true d e = rw (← e) refl
parted true b false d e = rw (← e) (none b)
  where
    none : (b : Bool) → (b && false) ≡ false
    none true = refl
    none false = refl
parted false b c d e = refl

spans_more : (test : ℤ → Bool) (least : ℤ) (more : ℕ) (spans : List Span) → AreFrom test (least +ℤ pos 1) more spans → AreFrom test least (suc more) (in_front (test least) least spans)
spans_more test least more spans are = record {
  apart = front_apart (test least) least spans are.apart are.begin;
  begin = front_begins (test least) least spans are.begin;
  numbers = λ n.
      front_has (test least) least spans n are.apart
      ∙ (ap (λ b. (int_eq n least && test least) || b) (are.numbers n)
      ∙ (parted (int_eq n least) (among (least +ℤ pos 1) more n) (test n) (test least) (first_passes test n least)
      ∙ ap (λ b. b && test n) (sym (among_more least more n))));
}

spans_are : (test : ℤ → Bool) (least : ℤ) (count : ℕ) → AreFrom test least count (spans_from test least count)
unfolding spans_from
spans_are test least zero = record { apart = tt; begin = tt; numbers = λ n. sym (ap (λ b. b && test n) (nothing n least)) }
  where
    nothing : (n least : ℤ) → among least zero n ≡ false
    nothing n least = grind (arith, ints)
spans_are test least (suc more) = spans_more test least more (spans_from test (least +ℤ pos 1) more) (spans_are test (least +ℤ pos 1) more)

-- ---- between both ends

gap_reaches : (a b : ℤ) → a ≤ℤ b → (a +ℤ pos (int_gap a b)) ≡ b
gap_reaches (pos a) (pos b) h = omega (arith, ints)
gap_reaches (pos a) (negsuc b) h = absurd (omega (arith, ints))
gap_reaches (negsuc a) (pos b) h = omega (arith, ints)
gap_reaches (negsuc a) (negsuc b) h = omega (arith, ints)

gap_none : (a b : ℤ) → b <ℤ a → int_gap a b ≡ 0
gap_none (pos a) (pos b) h = omega (arith, ints)
gap_none (pos a) (negsuc b) h = refl
gap_none (negsuc a) (pos b) h = absurd (omega (arith, ints))
gap_none (negsuc a) (negsuc b) h = omega (arith, ints)

among_ends : (ends : Span) (n : ℤ) → among ends.least (int_gap ends.least (ends.greatest +ℤ pos 1)) n ≡ in_span n ends
among_ends ends n =
    either (int_lt (ends.greatest +ℤ pos 1) ends.least)
    (λ e. below ends.least ends.greatest n (int_gap ends.least (ends.greatest +ℤ pos 1)) e (gap_none ends.least (ends.greatest +ℤ pos 1) (less (ends.greatest +ℤ pos 1) ends.least e)))
    (λ e. above ends.least ends.greatest n (int_gap ends.least (ends.greatest +ℤ pos 1)) (gap_reaches ends.least (ends.greatest +ℤ pos 1) (reaches (ends.greatest +ℤ pos 1) ends.least e)))
  where
    less : (a b : ℤ) → int_lt a b ≡ true → a <ℤ b
    less a b e = grind (arith, ints)

    reaches : (a b : ℤ) → int_lt a b ≡ false → b ≤ℤ a
    reaches a b e = grind (arith, ints)

    below : (least greatest n : ℤ) (count : ℕ) → int_lt (greatest +ℤ pos 1) least ≡ true → count ≡ 0 → among least count n ≡ (int_le least n && int_le n greatest)
    below least greatest n count e none = grind (arith, ints)

    above : (least greatest n : ℤ) (count : ℕ) → (least +ℤ pos count) ≡ (greatest +ℤ pos 1) → among least count n ≡ (int_le least n && int_le n greatest)
    above least greatest n count e = grind (arith, ints)

pub spans_of_are : (ends : Span) (test : ℤ → Bool) → AreSpansOf ends test (spans_of ends test)
unfolding spans_of
spans_of_are ends test =
    let are = spans_are test ends.least (int_gap ends.least (ends.greatest +ℤ pos 1)) in
    record { apart = are.apart; numbers = λ n. are.numbers n ∙ ap (λ b. b && test n) (among_ends ends n) }

-- ---- conditions

fitting : (b : Bool) (kind : QueryKind) → cond b None (Some kind) ≡ None → b ≡ true
fitting true kind e = refl
fitting false kind e = absurd cc

planned_at : (columns : List Column) (a : Atom) (col : ℕ) (ty : ColType) (sort : Sort) (ends : Option (ℤ × ℤ)) → column_named columns (column_of a) ≡ Some (col, ty) → sort_of a ≡ sort → ends_of ty ≡ ends → suits sort ty ≡ true → IsAtomPlan columns a (plan_at sort col ends a)
planned_at columns a col ty Number (Some ends) named sort e fits =
    record { sort = sort; ty = ty; named = named; least = ends.0; greatest = ends.1; ends = e; numbers = spans_of_are (span ends.0 ends.1) (number_meets a) }
planned_at columns a col ty Number None named sort e fits = absurd (let f : is_some (ends_of ty) ≡ true = fits in cc)
planned_at columns a col ty Text (Some ends) named sort e fits = absurd (let f : is_none (ends_of ty) ≡ true = fits in cc)
planned_at columns a col ty Text None named sort e fits = record { sort = sort; ty = ty; named = named; ends = e; same = refl }
planned_at columns a col ty Any ends named sort e fits = record { sort = sort; ty = ty; named = named }

atom_planned : (columns : List Column) (a : Atom) (found : Option (ℕ × ColType)) → column_named columns (column_of a) ≡ found → atom_refusal columns a ≡ None → IsAtomPlan columns a (atom_plan columns a)
atom_planned columns a None named none = absurd (let e = sym none ∙ unnamed columns a named in cc)
atom_planned columns a (Some (col, ty)) named none =
    let fits : suits (sort_of a) ty ≡ true = fitting (suits (sort_of a) ty) (WrongType (column_of a)) (sym (suited columns a col ty named) ∙ none) in
    subst (IsAtomPlan columns a) (sym (placed columns a col ty named)) (planned_at columns a col ty (sort_of a) (ends_of ty) named refl refl fits)
  where
    placed : (columns : List Column) (a : Atom) (col : ℕ) (ty : ColType) → column_named columns (column_of a) ≡ Some (col, ty) → atom_plan columns a ≡ plan_at (sort_of a) col (ends_of ty) a
    placed columns a col ty named = rw named refl

-- ---- the plan of a clause from those of its parts

module _ (columns : List Column) where
  clause_plan-or : (parts : List Clause) → clause_plan columns (clause.Or parts) ≡ plan.Or (map (clause_plan columns) parts)
  clause_plan-or parts = let step = plan_by_parts columns in ap (fold-Clause Plan step) (sym (rolls-Or parts)) ∙ fold-roll-Clause Plan step (Clause-F.Or parts)

  clause_plan-xor : (parts : List Clause) → clause_plan columns (clause.Xor parts) ≡ plan.Xor (map (clause_plan columns) parts)
  clause_plan-xor parts = let step = plan_by_parts columns in ap (fold-Clause Plan step) (sym (rolls-Xor parts)) ∙ fold-roll-Clause Plan step (Clause-F.Xor parts)

  clause_plan-and : (parts : List Clause) → clause_plan columns (clause.And parts) ≡ plan.And (map (clause_plan columns) parts)
  clause_plan-and parts = let step = plan_by_parts columns in ap (fold-Clause Plan step) (sym (rolls-And parts)) ∙ fold-roll-Clause Plan step (Clause-F.And parts)

  clause_plan-not : (part : Clause) → clause_plan columns (clause.Not part) ≡ plan.Not (clause_plan columns part)
  clause_plan-not part = let step = plan_by_parts columns in ap (fold-Clause Plan step) (sym (rolls-Not part)) ∙ fold-roll-Clause Plan step (Clause-F.Not part)

  clause_plan-one : (condition : Atom) → clause_plan columns (clause.One condition) ≡ plan.One (atom_plan columns condition)
  clause_plan-one condition = let step = plan_by_parts columns in ap (fold-Clause Plan step) (sym (rolls-One condition)) ∙ fold-roll-Clause Plan step (Clause-F.One condition)

-- ---- induction over clauses

record ClauseCases (P : Clause → Type 0) : Type 0 where
  on_or : (parts : List Clause) → AllByRecursion P parts → P (clause.Or parts)
  on_xor : (parts : List Clause) → AllByRecursion P parts → P (clause.Xor parts)
  on_and : (parts : List Clause) → AllByRecursion P parts → P (clause.And parts)
  on_not : (part : Clause) → P part → P (clause.Not part)
  on_one : (condition : Atom) → P (clause.One condition)

each_such : {S : Type 0} (P : Clause → Type 0) (clause_at : S → Clause) → ((s : S) → P (clause_at s)) → (ss : List S) → AllByRecursion P (map clause_at ss)
each_such P clause_at holds [] = tt
each_such P clause_at holds (s ∷ ss) = (holds s, each_such P clause_at holds ss)

one_layer : {S : Type 0} (P : Clause → Type 0) (clause_at : S → Clause) → ((s : S) → P (clause_at s)) → ClauseCases P → (layer : Clause-F S) → P (roll-Clause (map-Clause S Clause clause_at layer))
one_layer P clause_at holds cases (Clause-F.Or ss) = subst P (sym (rolls-Or (map clause_at ss))) (cases.on_or (map clause_at ss) (each_such P clause_at holds ss))
one_layer P clause_at holds cases (Clause-F.Xor ss) = subst P (sym (rolls-Xor (map clause_at ss))) (cases.on_xor (map clause_at ss) (each_such P clause_at holds ss))
one_layer P clause_at holds cases (Clause-F.And ss) = subst P (sym (rolls-And (map clause_at ss))) (cases.on_and (map clause_at ss) (each_such P clause_at holds ss))
one_layer P clause_at holds cases (Clause-F.Not s) = subst P (sym (rolls-Not (clause_at s))) (cases.on_not (clause_at s) (holds s))
one_layer P clause_at holds cases (Clause-F.One condition) = subst P (sym (rolls-One condition)) (cases.on_one condition)

clause_induction : (P : Clause → Type 0) → ClauseCases P → (c : Clause) → P c
clause_induction P cases c = ind-Clause P (λ x y is. subst (λ z. P (roll-Clause z)) is (one_layer P (λ e. e.0) (λ e. e.1) cases y)) c

-- ---- a clause that isn't refused has its plan

-- the clause has its plan, where it isn't refused
abbrev HasPlan : List Column → Clause → Type 0
HasPlan columns c = clause_refusal columns c ≡ None → IsClausePlan columns c (clause_plan columns c)

none_first : {A : Type 0} (o : Option A) (rest : List (Option A)) → first_some (o ∷ rest) ≡ None → (o ≡ None) × (first_some rest ≡ None)
none_first None rest e = (refl, e)
none_first (Some x) rest e = absurd cc

parts_planned : (columns : List Column) (parts : List Clause) → AllByRecursion (HasPlan columns) parts → first_some (map (clause_refusal columns) parts) ≡ None → ArePlans columns parts (map (clause_plan columns) parts)
parts_planned columns [] has none = no_parts
parts_planned columns (c ∷ parts) has none =
    let both = none_first (clause_refusal columns c) (map (clause_refusal columns) parts) none in
    one_more c parts (clause_plan columns c) (map (clause_plan columns) parts) (has.0 both.0) (parts_planned columns parts has.1 both.1)

planned_cases : (columns : List Column) → ClauseCases (HasPlan columns)
planned_cases columns = record {
  on_or = λ parts has none. subst (IsClausePlan columns (clause.Or parts)) (sym (clause_plan-or columns parts)) (any_of parts (map (clause_plan columns) parts) (parts_planned columns parts has (sym (clause_refusal-or columns parts) ∙ none)));
  on_xor = λ parts has none. subst (IsClausePlan columns (clause.Xor parts)) (sym (clause_plan-xor columns parts)) (odd_of parts (map (clause_plan columns) parts) (parts_planned columns parts has (sym (clause_refusal-xor columns parts) ∙ none)));
  on_and = λ parts has none. subst (IsClausePlan columns (clause.And parts)) (sym (clause_plan-and columns parts)) (all_of parts (map (clause_plan columns) parts) (parts_planned columns parts has (sym (clause_refusal-and columns parts) ∙ none)));
  on_not = λ part has none. subst (IsClausePlan columns (clause.Not part)) (sym (clause_plan-not columns part)) (denied part (clause_plan columns part) (has (sym (clause_refusal-not columns part) ∙ none)));
  on_one = λ a none. subst (IsClausePlan columns (clause.One a)) (sym (clause_plan-one columns a)) (single a (atom_plan columns a) (atom_planned columns a (column_named columns (column_of a)) refl (sym (clause_refusal-one columns a) ∙ none)));
}

pub has_plan : (columns : List Column) (asked : Option Clause) → refusal_of columns asked ≡ None → IsPlan columns asked (plan_of columns asked)
has_plan columns None none = refl
has_plan columns (Some c) none = clause_induction (HasPlan columns) (planned_cases columns) c none

pub is_plan_of : (columns : List Column) (asked : Option Clause) (planned : Plan) → IsPlan columns asked planned → planned ≡ plan_of columns asked
is_plan_of columns asked planned is = one_plan columns asked planned (plan_of columns asked) is (has_plan columns asked (has_no_refusal columns asked planned is))

-- ---- a worked plan

number_plan : (columns : List Column) (a : Atom) (col : ℕ) → column_named columns (column_of a) ≡ Some (col, Byte) → sort_of a ≡ Number → atom_plan columns a ≡ atom.Whole col (spans_of (span (negsuc 127) (pos 127)) (number_meets a))
number_plan columns a col named sort = rw (named, sort) refl

below_5 : (a : List ℕ) → spans_of (span (negsuc 127) (pos 127)) (number_meets (condition.Compare a op.Less (pos 5))) ≡ span (negsuc 127) (pos 4) ∷ []
unfolding spans_of spans_from
below_5 a = refl

other_than_3 : (a : List ℕ) → spans_of (span (negsuc 127) (pos 127)) (number_meets (condition.Compare a op.Differs (pos 3))) ≡ span (negsuc 127) (pos 2) ∷ span (pos 4) (pos 127) ∷ []
unfolding spans_of spans_from
other_than_3 a = refl

pub bytes_planned : (columns : List Column) (a : List ℕ) (col : ℕ) → column_named columns a ≡ Some (col, Byte)
    → plan_of columns (Some (clause.And (clause.One (condition.Compare a op.Less (pos 5)) ∷ clause.One (condition.Compare a op.Differs (pos 3)) ∷ [])))
    ≡ plan.And (plan.One (atom.Whole col (span (negsuc 127) (pos 4) ∷ [])) ∷ plan.One (atom.Whole col (span (negsuc 127) (pos 2) ∷ span (pos 4) (pos 127) ∷ [])) ∷ [])
bytes_planned columns a col named =
    let below = condition.Compare a op.Less (pos 5) in
    let other = condition.Compare a op.Differs (pos 3) in
    let first = clause_plan-one columns below ∙ ap plan.One (number_plan columns below col named refl ∙ ap (atom.Whole col) (below_5 a)) in
    let second = clause_plan-one columns other ∙ ap plan.One (number_plan columns other col named refl ∙ ap (atom.Whole col) (other_than_3 a)) in
    clause_plan-and columns (clause.One below ∷ clause.One other ∷ [])
    ∙ (ap (λ p. plan.And (p ∷ clause_plan columns (clause.One other) ∷ [])) first
    ∙ ap (λ p. plan.And (plan.One (atom.Whole col (span (negsuc 127) (pos 4) ∷ [])) ∷ p ∷ [])) second)
