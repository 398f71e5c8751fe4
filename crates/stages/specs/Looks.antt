-- The reads that a call adds: which are allowed, and that those of bitmaps are a list, as far as the call came.
use Rattle.std.specs.Prelude.{◌≡◌, Bool, IsTrue, List, [], ◌++◌, filter, Option}
use Rattle.std.specs.List.{AllByRecursion}
use Rattle.fb_outside.specs.Reads.{Look, AddsReads}

-- Each is allowed; those of bitmaps, with those that are left, are these; where the call is done none is left.
pub record Looks (allowed is_bitmap : Look → Bool) (bitmaps : List Look) (done : Type 0) (added : List Look) : Type 0 where
  pub each : AllByRecursion (λ look. IsTrue (allowed look)) added
  pub left : List Look
  pub front : filter is_bitmap added ++ left ≡ bitmaps
  pub whole : done → left ≡ []

-- the reads that a call added, where they are told
abbrev pub AddsLooks : Option (List Look) → Option (List Look) → (Look → Bool) → (Look → Bool) → List Look → Type 0 → Type 0
AddsLooks old new allowed is_bitmap bitmaps done = AddsReads old new (Looks allowed is_bitmap bitmaps done)
