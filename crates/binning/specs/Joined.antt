-- How spans in order are joined, one after another.
use Rattle.std.specs.Prelude.{◌≡◌, List, [], ◌∷◌, ◌++◌, ℤ}
use Rattle.std.specs.List.{AllByRecursion}
use Rattle.binning.specs.Spans.{AreApart, has, HasNumber, IsSpanInRange, LeastsRise}
use Rattle.binning.specs.declared.span_lists.Span.{Span}

-- The spans so far, the last of which is open, the spans still to come, and those seen.
pub record Joined (items : List Span) (current : Span) (rest seen : List Span) : Type 0 where
  pub apart : AreApart (items ++ current ∷ [])
  pub same : (x : ℤ) → has (items ++ current ∷ []) x ≡ has seen x
  pub range : AllByRecursion IsSpanInRange (items ++ current ∷ [])
  pub numbers : AllByRecursion HasNumber (current ∷ rest)
  pub ranges : AllByRecursion IsSpanInRange (current ∷ rest)
  pub sorted : LeastsRise (current ∷ rest)
