-- Reads that calls add one after another: they are joined, less is said of them, and those of a call that was refused are a front.
use Rattle.std.proofs.Common.{◌≡◌, ℕ, arith, Result, Err, Bool, IsTrue, List, [], ◌∷◌, ◌++◌, Option, Some, refl, sym, ap, subst, ◌∙◌, append_assoc, append-nil}
use Rattle.std.specs.Prelude.{slice_get}
use Rattle.std.specs.List.{AllByRecursion, filter}
use Rattle.std.proofs.lemmas.List.Elements.{filter-append}
use Rattle.fb_outside.specs.Causes.{HasCause}
use Rattle.fb_outside.specs.Reads.{AddsOnly, Look}
use Rattle.fb_outside.proofs.ReadLemmas.{AddsOnly-trans, AddsOnly-weaken, AddsReads-trans, AddsReads-weaken, AddsReads-same, all_weaken}
use Rattle.where_plan.specs.declared.plan.PlanAtom.{PlanAtom}
use Rattle.stages.specs.Faults.{IsOneOf, IsRefused}
use Rattle.stages.specs.Looks.{AddsLooks, Looks}

all_joined : (P : Look → Type 0) (xs ys : List Look) → AllByRecursion P xs → AllByRecursion P ys → AllByRecursion P (xs ++ ys)
all_joined P [] ys h k = k
all_joined P (x ∷ xs) ys h k = (h.0, all_joined P xs ys h.1 k)

all_of : (added left bitmaps : List Look) → added ++ left ≡ bitmaps → left ≡ [] → added ≡ bitmaps
all_of added left bitmaps h e = sym (append-nil added) ∙ ap (λ l. added ++ l) (sym e) ∙ h

looks_joined : (allowed is_bitmap : Look → Bool) (xs ys : List Look) (done more : Type 0) (a b : List Look) → done → Looks allowed is_bitmap xs done a → Looks allowed is_bitmap ys more b → Looks allowed is_bitmap (xs ++ ys) more (a ++ b)
looks_joined allowed is_bitmap xs ys done more a b is h k = record {
  each = all_joined (λ look. IsTrue (allowed look)) a b h.each k.each;
  left = k.left;
  front = ap (λ l. l ++ k.left) (filter-append is_bitmap a b)
      ∙ append_assoc (filter is_bitmap a) (filter is_bitmap b) k.left
      ∙ ap (λ l. filter is_bitmap a ++ l) k.front
      ∙ ap (λ l. l ++ ys) (all_of (filter is_bitmap a) h.left xs h.front (h.whole is));
  whole = k.whole;
}

looks_front : (allowed is_bitmap : Look → Bool) (xs ys : List Look) (done more : Type 0) (a : List Look) → (more → ⊥) → Looks allowed is_bitmap xs done a → Looks allowed is_bitmap (xs ++ ys) more a
looks_front allowed is_bitmap xs ys done more a not_done h = record {
  each = h.each;
  left = h.left ++ ys;
  front = sym (append_assoc (filter is_bitmap a) h.left ys) ∙ ap (λ l. l ++ ys) h.front;
  whole = λ is. absurd (not_done is);
}

-- ---- the same of the reads of calls

pub adds_joined : (old mid new : Option (List Look)) (allowed is_bitmap : Look → Bool) (xs ys : List Look) (done more : Type 0) → done → AddsLooks old mid allowed is_bitmap xs done → AddsLooks mid new allowed is_bitmap ys more → AddsLooks old new allowed is_bitmap (xs ++ ys) more
adds_joined old mid new allowed is_bitmap xs ys done more is h k =
    AddsReads-trans {P = Looks allowed is_bitmap xs done} {Q = Looks allowed is_bitmap ys more} {R = Looks allowed is_bitmap (xs ++ ys) more} old mid new h k (λ a b p q. looks_joined allowed is_bitmap xs ys done more a b is p q)

-- what a refused call read is a front of a longer list
pub adds_front : (old new : Option (List Look)) (allowed is_bitmap : Look → Bool) (xs ys : List Look) (done more : Type 0) → (more → ⊥) → AddsLooks old new allowed is_bitmap xs done → AddsLooks old new allowed is_bitmap (xs ++ ys) more
adds_front old new allowed is_bitmap xs ys done more not_done h =
    AddsReads-weaken {P = Looks allowed is_bitmap xs done} {Q = Looks allowed is_bitmap (xs ++ ys) more} old new (λ a p. looks_front allowed is_bitmap xs ys done more a not_done p) h

-- more is allowed
pub adds_weaker : (old new : Option (List Look)) (p q is_bitmap : Look → Bool) (xs : List Look) (done : Type 0) → ((look : Look) → IsTrue (p look) → IsTrue (q look)) → AddsLooks old new p is_bitmap xs done → AddsLooks old new q is_bitmap xs done
adds_weaker old new p q is_bitmap xs done f h =
    AddsReads-weaken {P = Looks p is_bitmap xs done} {Q = Looks q is_bitmap xs done} old new (λ a l. record {
      each = all_weaken (λ look. IsTrue (p look)) (λ look. IsTrue (q look)) f a l.each;
      left = l.left;
      front = l.front;
      whole = l.whole;
    }) h

-- no read
pub adds_none : (old new : Option (List Look)) (allowed is_bitmap : Look → Bool) (done : Type 0) → new ≡ old → AddsLooks old new allowed is_bitmap [] done
adds_none old new allowed is_bitmap done e =
    AddsReads-same {P = Looks allowed is_bitmap [] done} old new e (record { each = tt; left = []; front = refl; whole = λ is. refl })

-- another call's end is asked for
pub adds_done : (old new : Option (List Look)) (allowed is_bitmap : Look → Bool) (xs : List Look) (done more : Type 0) → (more → done) → AddsLooks old new allowed is_bitmap xs done → AddsLooks old new allowed is_bitmap xs more
adds_done old new allowed is_bitmap xs done more f h =
    AddsReads-weaken {P = Looks allowed is_bitmap xs done} {Q = Looks allowed is_bitmap xs more} old new (λ a l. record { each = l.each; left = l.left; front = l.front; whole = λ is. l.whole (f is) }) h

-- ---- reads of files of the conditions' columns

-- a read for one of these conditions
abbrev pub IsLookFor : (PlanAtom → Look → Type 0) → List PlanAtom → Look → Type 0
IsLookFor is_look atoms look = IsOneOf atoms (λ atom. is_look atom look)

-- those of one more condition
pub looks_for_one : (is_look : PlanAtom → Look → Type 0) (atoms : List PlanAtom) (place : ℕ) (atom : PlanAtom) (old mid new : Option (List Look)) → slice_get atoms place ≡ Some atom → AddsOnly (IsLookFor is_look atoms) old mid → AddsOnly (is_look atom) mid new → AddsOnly (IsLookFor is_look atoms) old new
looks_for_one is_look atoms place atom old mid new at h k =
    AddsOnly-trans (IsLookFor is_look atoms) old mid new h
    (AddsOnly-weaken (is_look atom) (IsLookFor is_look atoms) mid new (λ look is. record { place = place; atom = atom; there = at; is = is }) k)

-- the same list of conditions
pub looks_for_same : (is_look : PlanAtom → Look → Type 0) (atoms all : List PlanAtom) (old new : Option (List Look)) → atoms ≡ all → AddsOnly (IsLookFor is_look atoms) old new → AddsOnly (IsLookFor is_look all) old new
looks_for_same is_look atoms all old new e h = subst (λ l. AddsOnly (IsLookFor is_look l) old new) e h

-- ---- calls that were refused for want of memory

-- the store didn't fail
pub no_cause : {A E : Type 0} (result : Result A E) (is_store : E → Type 0) (fault : E) (before now : ℕ) → result ≡ Err fault → (is_store fault → ⊥) → now ≡ before → HasCause before now (IsRefused result is_store)
no_cause result is_store fault before now refused not_store same =
    subst (λ r. HasCause before now (IsRefused r is_store)) (sym refused) (record { later = omega (arith, same); rose = λ failed. absurd (not_store failed); told = λ _. same })
