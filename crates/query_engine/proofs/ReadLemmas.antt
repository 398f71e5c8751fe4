-- The reads of the parts of a dataset, one part after the other.
use Rattle.std.proofs.Common.{◌≡◌, ℕ, suc, ◌||◌, Bool, true, false, cond, IsTrue, List, [], ◌∷◌, ◌++◌, Option, Some, refl, sym, ap, ◌∙◌}
use Rattle.std.specs.Prelude.{slice_get}
use Rattle.std.specs.List.{AllByRecursion, filter, list_any}
use Rattle.fb_outside.specs.Reads.{Look}
use Rattle.fb_outside.proofs.ReadLemmas.{AddsReads-weaken}
use Rattle.stages.specs.Looks.{AddsLooks, Looks}
use Rattle.stages.proofs.ListLemmas.{any_at}
use Rattle.query_engine.proofs.NameLemmas.{either}

-- ---- tests of lists

none_passes : {X : Type 0} (test : X → Bool) (xs : List X) → ((i : ℕ) (x : X) → slice_get xs i ≡ Some x → test x ≡ false) → list_any test xs ≡ false
none_passes test [] none = refl
none_passes test (x ∷ xs) none =
    ap (λ b. b || list_any test xs) (none 0 x refl) ∙ none_passes test xs (λ i y there. none (suc i) y there)

no_both : (b : Bool) → b ≡ true → b ≡ false → ⊥
no_both true t f = cc
no_both false t f = cc

-- where no other item passes
pub any_alone : {X : Type 0} (test : X → Bool) (xs : List X) (i : ℕ) (x : X) → slice_get xs i ≡ Some x
    → ((j : ℕ) (y : X) → slice_get xs j ≡ Some y → test y ≡ true → y ≡ x) → list_any test xs ≡ test x
any_alone test xs i x there only =
    either (test x) (λ t. any_at test xs i x there t ∙ sym t)
    (λ f. none_passes test xs (λ j y at. either (test y) (λ t. absurd (no_both (test x) (sym (ap test (only j y at t)) ∙ t) f)) (λ n. n)) ∙ sym f)

filter_same : (f g : Look → Bool) (P : Look → Type 0) (xs : List Look) → AllByRecursion P xs → ((look : Look) → P look → f look ≡ g look)
    → filter f xs ≡ filter g xs
filter_same f g P [] all same = refl
filter_same f g P (x ∷ xs) all same =
    ap (λ b. cond b (x ∷ filter f xs) (filter f xs)) (same x all.0)
    ∙ ap (λ rest. cond (g x) (x ∷ rest) rest) (filter_same f g P xs all.1 same)

-- another test of bitmaps, which tells the same of what is allowed
pub adds_other : (old new : Option (List Look)) (allowed is_bitmap other : Look → Bool) (xs : List Look) (done : Type 0)
    → ((look : Look) → IsTrue (allowed look) → is_bitmap look ≡ other look) → AddsLooks old new allowed is_bitmap xs done
    → AddsLooks old new allowed other xs done
adds_other old new allowed is_bitmap other xs done same h =
    AddsReads-weaken {P = Looks allowed is_bitmap xs done} {Q = Looks allowed other xs done} old new (λ added l. record {
      each = l.each;
      left = l.left;
      front = ap (λ ys. ys ++ l.left) (sym (filter_same is_bitmap other (λ look. IsTrue (allowed look)) added l.each same)) ∙ l.front;
      whole = l.whole;
    }) h
