-- What calls on a store do to its files together.
use Rattle.std.proofs.Common.{◌≡◌, ◌≢◌, inl, inr, ℕ, Bool, true, false, cond, List, Option, Some, None, option_map, is_some, bytes_eq, refl, sym, ap, ◌∙◌}
use Rattle.std.specs.Cmp.Lexicographic.{texts_ties}
use Rattle.std.specs.FinMap.{insert, get-insert}
use Rattle.std.proofs.lemmas.Cmp.{nat_list_cmp_total}
use Rattle.std.proofs.lemmas.Slice.Eq.{bytes_eq-Decides}
use Rattle.fb_outside.specs.Files.{Files, file_at, told_at, SameFiles, Puts, PutLeaves, ChangesAmong, ChangesOnly}

-- a file after a put
pub file_at-insert : (m : Files) (name bytes q : List ℕ) → file_at (insert m name bytes) q ≡ cond (bytes_eq q name) (Some bytes) (file_at m q)
file_at-insert m name bytes q =
    get-insert nat_list_cmp_total m name bytes q ∙ (λ i. cond (sym (texts_ties q name) i) (Some bytes) (file_at m q))

pub file_at-insert_same : (m : Files) (name bytes : List ℕ) → file_at (insert m name bytes) name ≡ Some bytes
file_at-insert_same m name bytes =
    file_at-insert m name bytes name ∙ ap (λ b. cond b (Some bytes) (file_at m name)) ((bytes_eq-Decides name name).1 refl)

pub file_at-insert_other : (m : Files) (name bytes q : List ℕ) → q ≢ name → file_at (insert m name bytes) q ≡ file_at m q
file_at-insert_other m name bytes q apart =
    file_at-insert m name bytes q ∙ ap (λ b. cond b (Some bytes) (file_at m q)) (not_equal (bytes_eq q name) refl)
  where
    not_equal : (b : Bool) → bytes_eq q name ≡ b → bytes_eq q name ≡ false
    not_equal false h = h
    not_equal true h = absurd (apart ((bytes_eq-Decides q name).0 h))

-- whether the files are told stays
pub Puts-told : (old new : Option Files) (name bytes : List ℕ) → Puts old new name bytes → is_some new ≡ is_some old
Puts-told None new name bytes h = ap is_some h
Puts-told (Some m) new name bytes h = ap is_some h

pub PutLeaves-told : (old new : Option Files) (name bytes : List ℕ) → PutLeaves name bytes old new → is_some new ≡ is_some old
PutLeaves-told old new name bytes (inl same) = ap is_some same
PutLeaves-told old new name bytes (inr put) = Puts-told old new name bytes put

-- no file changed, so none but those named
pub ChangesAmong-same : {P : List ℕ → Type 0} (old new : Option Files) → SameFiles old new → ChangesAmong P old new
ChangesAmong-same old new h = record { told = ap is_some h; others = λ q _. ap (λ m. told_at m q) h }

-- more names
pub ChangesAmong-weaken : {P Q : List ℕ → Type 0} (old new : Option Files) → ((q : List ℕ) → P q → Q q) → ChangesAmong P old new → ChangesAmong Q old new
ChangesAmong-weaken old new f h = record { told = h.told; others = λ q apart. h.others q (λ p. apart (f q p)) }

-- one change after another
pub ChangesAmong-trans : {P : List ℕ → Type 0} (old mid new : Option Files) → ChangesAmong P old mid → ChangesAmong P mid new → ChangesAmong P old new
ChangesAmong-trans old mid new h k = record { told = k.told ∙ h.told; others = λ q apart. k.others q apart ∙ h.others q apart }

-- a put changes the file of its name and no other
pub ChangesOnly-puts : (old new : Option Files) (name bytes : List ℕ) → Puts old new name bytes → ChangesOnly name old new
ChangesOnly-puts old new name bytes h = record { told = Puts-told old new name bytes h; others = λ q apart. ap (λ m. told_at m q) h ∙ stays old q apart }
  where
    stays : (m : Option Files) (q : List ℕ) → q ≢ name → told_at (option_map (λ files. insert files name bytes) m) q ≡ told_at m q
    stays None q apart = refl
    stays (Some m) q apart = file_at-insert_other m name bytes q apart

pub ChangesOnly-left : (old new : Option Files) (name bytes : List ℕ) → PutLeaves name bytes old new → ChangesOnly name old new
ChangesOnly-left old new name bytes (inl same) = ChangesAmong-same old new same
ChangesOnly-left old new name bytes (inr put) = ChangesOnly-puts old new name bytes put
