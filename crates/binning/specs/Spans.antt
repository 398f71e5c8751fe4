-- Closed spans of whole numbers, and lists of spans in the one form that a set of numbers has.
use Rattle.std.specs.Prelude.{ℕ, ◌<◌, ◌≤◌, length, slice_index_or, Bool, not, ◌&&◌, ⊤, List, [], ◌∷◌, ℤ, pos, negsuc, ◌+ℤ◌, ◌≤ℤ◌, ◌<ℤ◌, int_lt, ◌-◌, ◌^◌}
use Rattle.std.specs.List.{list_any}
use Rattle.binning.specs.declared.span_lists.Span.{Span}

-- whether a number is at most another
abbrev pub int_le : ℤ → ℤ → Bool
int_le a b = not (int_lt b a)

-- both ends lie between -2^63 and 2^64 - 1
abbrev pub IsInRange : ℤ → Type 0
IsInRange z = (negsuc (2 ^ 63 - 1) ≤ℤ z) × (z ≤ℤ pos (2 ^ 64 - 1))

-- the span has the number; none where its least is above its greatest
abbrev pub in_span : ℤ → Span → Bool
in_span v s = int_le s.least v && int_le v s.greatest

-- one of the spans has the number
abbrev pub has : List Span → ℤ → Bool
has spans v = list_any (in_span v) spans

-- spans that have a number each, rise, and have a number between each and the next
abbrev pub AreApart : List Span → Type 0
AreApart [] = ⊤
AreApart (s ∷ []) = s.least ≤ℤ s.greatest
AreApart (s ∷ t ∷ spans) = (s.least ≤ℤ s.greatest) × ((s.greatest +ℤ pos 1) <ℤ t.least) × AreApart (t ∷ spans)

-- both ends are in the range
abbrev pub IsSpanInRange : Span → Type 0
IsSpanInRange s = IsInRange s.least × IsInRange s.greatest

-- ---- how spans are put into this form

abbrev pub has_number : Span → Bool
has_number s = int_le s.least s.greatest

abbrev pub HasNumber : Span → Type 0
HasNumber s = s.least ≤ℤ s.greatest

-- no span begins below the one before it
abbrev pub LeastsRise : List Span → Type 0
LeastsRise [] = ⊤
LeastsRise (s ∷ []) = ⊤
LeastsRise (s ∷ t ∷ spans) = (s.least ≤ℤ t.least) × LeastsRise (t ∷ spans)

-- The place of the first span that reaches up to the number, or how many there are.
pub record IsFirstReaching (spans : List Span) (v : ℤ) (place : ℕ) : Type 0 where
  pub within : place ≤ length spans
  pub before : (k : ℕ) (d : Span) → k < place → (slice_index_or spans k d).greatest <ℤ v
  pub there : (d : Span) → place < length spans → v ≤ℤ (slice_index_or spans place d).greatest
