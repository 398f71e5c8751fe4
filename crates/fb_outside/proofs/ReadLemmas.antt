-- The reads that calls add together.
use Rattle.std.proofs.Common.{◌≡◌, inl, inr, true, false, cond, List, [], ◌∷◌, ◌++◌, Option, Some, None, option_map, IsSome, is_some, refl, sym, ap, subst, ◌∙◌, append_assoc, append-nil}
use Rattle.std.specs.List.{AllByRecursion}
use Rattle.fb_outside.specs.Files.{Files, file_at}
use Rattle.fb_outside.specs.Reads.{Look, AddsReads, AddsOnly, AddsRead, IsNoteOf}

-- the reads before, where those after are told
option_map_told : (old : Option (List Look)) (added : List Look) (new : Option (List Look)) → new ≡ option_map (λ before. before ++ added) old → IsSome new → IsSome old
option_map_told None added new e h = sym (ap is_some e) ∙ h
option_map_told (Some before) added new e h = refl

map_twice : (old : Option (List Look)) (xs ys : List Look)
    → option_map (λ before. before ++ ys) (option_map (λ before. before ++ xs) old) ≡ option_map (λ before. before ++ (xs ++ ys)) old
map_twice None xs ys = refl
map_twice (Some before) xs ys = ap Some (append_assoc before xs ys)

map_nil : (old : Option (List Look)) → old ≡ option_map (λ before. before ++ []) old
map_nil None = refl
map_nil (Some before) = ap Some (sym (append-nil before))

-- the reads of two calls, one after the other
pub AddsReads-trans : {P Q R : List Look → Type 0} (old mid new : Option (List Look)) → AddsReads old mid P → AddsReads mid new Q
    → ((xs ys : List Look) → P xs → Q ys → R (xs ++ ys)) → AddsReads old new R
AddsReads-trans old mid new h k joined = record {
  added = h.added ++ k.added;
  each = joined h.added k.added h.each k.each;
  told = λ there.
      k.told there ∙ ap (option_map (λ before. before ++ k.added)) (h.told (option_map_told mid k.added new (k.told there) there))
      ∙ map_twice old h.added k.added;
}

-- less is said of the same reads
pub AddsReads-weaken : {P Q : List Look → Type 0} (old new : Option (List Look)) → ((xs : List Look) → P xs → Q xs) → AddsReads old new P → AddsReads old new Q
AddsReads-weaken old new f h = record { added = h.added; each = f h.added h.each; told = h.told }

-- no read was added
pub AddsReads-same : {P : List Look → Type 0} (old new : Option (List Look)) → new ≡ old → P [] → AddsReads old new P
AddsReads-same old new e p = record { added = []; each = p; told = λ _. e ∙ map_nil old }

all_joined : (P : Look → Type 0) (xs ys : List Look) → AllByRecursion P xs → AllByRecursion P ys → AllByRecursion P (xs ++ ys)
all_joined P [] ys h k = k
all_joined P (x ∷ xs) ys h k = (h.0, all_joined P xs ys h.1 k)

pub all_weaken : (P Q : Look → Type 0) → ((x : Look) → P x → Q x) → (xs : List Look) → AllByRecursion P xs → AllByRecursion Q xs
all_weaken P Q f [] h = tt
all_weaken P Q f (x ∷ xs) h = (f x h.0, all_weaken P Q f xs h.1)

pub AddsOnly-trans : (P : Look → Type 0) (old mid new : Option (List Look)) → AddsOnly P old mid → AddsOnly P mid new → AddsOnly P old new
AddsOnly-trans P old mid new h k = AddsReads-trans old mid new h k (λ xs ys p q. all_joined P xs ys p q)

pub AddsOnly-weaken : (P Q : Look → Type 0) (old new : Option (List Look)) → ((x : Look) → P x → Q x) → AddsOnly P old new → AddsOnly Q old new
AddsOnly-weaken P Q old new f h = AddsReads-weaken old new (λ xs p. all_weaken P Q f xs p) h

pub AddsOnly-same : (P : Look → Type 0) (old new : Option (List Look)) → new ≡ old → AddsOnly P old new
AddsOnly-same P old new e = AddsReads-same old new e tt

-- one look
note_meets : (P : Look → Type 0) (files : Option Files) (look : Look) → P look → (added : List Look) → IsNoteOf files look added → AllByRecursion P added
note_meets P None look p added (inl none) = subst (AllByRecursion P) (sym none) tt
note_meets P None look p added (inr one) = subst (AllByRecursion P) (sym one) (p, tt)
note_meets P (Some m) look p added h =
    elim (is_some (file_at m look.name)) as (λ b. added ≡ cond b (look ∷ []) [] → AllByRecursion P added) [
      | true ↦ λ e. subst (AllByRecursion P) (sym e) (p, tt)
      | false ↦ λ e. subst (AllByRecursion P) (sym e) tt
    ] h

pub AddsOnly-read : (P : Look → Type 0) (files : Option Files) (old new : Option (List Look)) (look : Look) → P look → AddsRead files old new look → AddsOnly P old new
AddsOnly-read P files old new look p h = AddsReads-weaken old new (λ xs is. note_meets P files look p xs is) h
