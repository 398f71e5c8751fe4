-- Maps from the bytes of names and from numbers, after one key is set.
use Rattle.std.proofs.Common.{◌≡◌, ◌≢◌, ◌⊎◌, inl, inr, ℕ, Bool, true, false, cond, List, Some, refl, sym, ap, ◌∙◌, ◌==◌}
use Rattle.std.specs.Ordering.{nat_cmp}
use Rattle.std.specs.Cmp.Lexicographic.{slice_cmp}
use Rattle.std.specs.Cmp.{unsigned_tied}
use Rattle.std.specs.FinMap.{FinMap, get, insert, get-insert, nat_cmp-IsAntisymmetric, same_map, slice_cmp-IsAntisymmetric}
use Rattle.std.specs.Str.{bytes_eq}
use Rattle.std.proofs.lemmas.Bool.Decides.{Decides-eqb}
use Rattle.std.proofs.lemmas.Cmp.{nat_cmp_total, nat_list_cmp_total}
use Rattle.std.proofs.lemmas.Map.Text.{is_eq-slice_cmp}
use Rattle.std.proofs.lemmas.Slice.Eq.{bytes_eq-Decides}

module _ {X : Type 0} (m : FinMap (slice_cmp nat_cmp) X) (k : List ℕ) (v : X) where
  by_test : (q : List ℕ) (b : Bool) → bytes_eq q k ≡ b → get (insert m k v) q ≡ cond b (Some v) (get m q)
  by_test q b h = get-insert nat_list_cmp_total m k v q ∙ ap (λ c. cond c (Some v) (get m q)) (is_eq-slice_cmp q k ∙ h)

  pub get-insert_same : get (insert m k v) k ≡ Some v
  get-insert_same = by_test k true ((bytes_eq-Decides k k).1 refl)

  apart : (q : List ℕ) (b : Bool) → bytes_eq q k ≡ b → q ≢ k → b ≡ false
  apart q true h n = absurd (n ((bytes_eq-Decides q k).0 h))
  apart q false h n = refl

  pub get-insert_other : (q : List ℕ) → q ≢ k → get (insert m k v) q ≡ get m q
  get-insert_other q n = by_test q false (apart q (bytes_eq q k) refl n)

-- two names are one or not
pub same_or_apart : (p q : List ℕ) → (p ≡ q) ⊎ (p ≢ q)
same_or_apart p q = by_test (bytes_eq p q) refl
  where
    by_test : (b : Bool) → bytes_eq p q ≡ b → (p ≡ q) ⊎ (p ≢ q)
    by_test true h = inl ((bytes_eq-Decides p q).0 h)
    by_test false h = inr (λ e. let k : bytes_eq p q ≡ true = (bytes_eq-Decides p q).1 e in cc)

-- ---- maps from numbers

module _ {X : Type 0} (m : FinMap nat_cmp X) (k : ℕ) (v : X) where
  by_number : (q : ℕ) (b : Bool) → (q == k) ≡ b → get (insert m k v) q ≡ cond b (Some v) (get m q)
  by_number q b h = get-insert nat_cmp_total m k v q ∙ ap (λ c. cond c (Some v) (get m q)) (unsigned_tied q k ∙ h)

  pub at-insert_same : get (insert m k v) k ≡ Some v
  at-insert_same = by_number k true ((Decides-eqb k k).1 refl)

  pub at-insert_other : (q : ℕ) → q ≢ k → get (insert m k v) q ≡ get m q
  at-insert_other q n = by_number q false (by (q == k) refl)
    where
      by : (b : Bool) → (q == k) ≡ b → (q == k) ≡ false
      by true h = absurd (n ((Decides-eqb q k).0 h))
      by false h = h

-- what is there already, set again
pub insert-there : {X : Type 0} (m : FinMap (slice_cmp nat_cmp) X) (k : List ℕ) (v : X) → get m k ≡ Some v → insert m k v ≡ m
insert-there m k v there =
    same_map nat_list_cmp_total (slice_cmp-IsAntisymmetric nat_cmp-IsAntisymmetric) (insert m k v) m (λ q. by q (same_or_apart q k))
  where
    by : (q : List ℕ) → (q ≡ k) ⊎ (q ≢ k) → get (insert m k v) q ≡ get m q
    by q (inl same) = ap (get (insert m k v)) same ∙ get-insert_same m k v ∙ sym there ∙ sym (ap (get m) same)
    by q (inr apart) = get-insert_other m k v q apart
