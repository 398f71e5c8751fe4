-- `all_or_first` gives all the values, or stops at the first that is missing.
use Rattle.std.proofs.Common.{◌≡◌, ◌+◌, ◌++◌, ◌∙◌, ◌∷◌, [], ℕ, List, Result, Ok, Err, add-zero, ap, arith, length, map, refl, sym}
use Rattle.fb_types.specs.AllOrFirst.{StopsAt, all_or_first, behind}

pub all-found : {A E : Type 0} (n : ℕ) (values : List A) → all_or_first {A = A} {E = E} n (map Ok values) ≡ Ok values
unfolding all_or_first
all-found n [] = refl
all-found {A} {E} n (value ∷ values) = ap (λ rest. behind (value ∷ []) rest) (all-found {A = A} {E = E} (n + 1) values)

pub stops-found : {A E : Type 0} (n : ℕ) (values : List A) (why : E) (rest : List (Result A E)) → all_or_first n (map Ok values ++ Err why ∷ rest) ≡ Err (n + length values, why)
unfolding all_or_first
stops-found n [] why rest = ap (λ k. Err (k, why)) (omega arith)
stops-found n (value ∷ values) why rest =
    ap (λ r. behind (value ∷ []) r) (stops-found (n + 1) values why rest) ∙ ap (λ k. Err (k, why)) (omega arith)

-- where there are values, they are all there
pub all-ok : {A E : Type 0} (n : ℕ) (xs : List (Result A E)) (ys : List A) → all_or_first n xs ≡ Ok ys → xs ≡ map Ok ys
unfolding all_or_first
all-ok n [] [] h = refl
all-ok n [] (y ∷ ys) h = cc
all-ok n (Err why ∷ rest) ys h = cc
all-ok {A} {E} n (Ok value ∷ rest) ys h = by (all_or_first (n + 1) rest) refl (all-ok (n + 1) rest)
  where
    by : (o : Result (List A) (ℕ × E)) → all_or_first (n + 1) rest ≡ o → ((zs : List A) → all_or_first (n + 1) rest ≡ Ok zs → rest ≡ map Ok zs) → Ok value ∷ rest ≡ map Ok ys
    by (Ok zs) e more =
        let g : ◌≡◌ {A = Result (List A) (ℕ × E)} (Ok (value ∷ zs)) (Ok ys) = rw e at h in
        let same : value ∷ zs ≡ ys = cc in
        rw (← same) (ap (λ t. Ok value ∷ t) (more zs e))
    by (Err p) e more = let g : ◌≡◌ {A = Result (List A) (ℕ × E)} (Err p) (Ok ys) = rw e at h in cc

-- where there are none, the values before the missing one are there
pub all-stops : {A E : Type 0} (n : ℕ) (xs : List (Result A E)) (place : ℕ) (why : E) → all_or_first n xs ≡ Err (place, why) → StopsAt n xs place why
unfolding all_or_first
all-stops n [] place why h = cc
all-stops {A} {E} n (Err e ∷ rest) place why h =
    let same : (n, e) ≡ (place, why) = cc in
    record {
      before = [];
      after = rest;
      split = ap (λ (p : ℕ × E). Err p.1 ∷ rest) same;
      counted = sym (ap (λ (p : ℕ × E). p.0) same) ∙ sym (add-zero n);
    }
all-stops {A} {E} n (Ok value ∷ rest) place why h = by (all_or_first (n + 1) rest) refl (all-stops (n + 1) rest place why)
  where
    by : (o : Result (List A) (ℕ × E)) → all_or_first (n + 1) rest ≡ o → (all_or_first (n + 1) rest ≡ Err (place, why) → StopsAt (n + 1) rest place why)
        → StopsAt n (Ok value ∷ rest) place why
    by (Ok zs) e more = let g : ◌≡◌ {A = Result (List A) (ℕ × E)} (Ok (value ∷ zs)) (Err (place, why)) = rw e at h in cc
    by (Err p) e more =
        let g : ◌≡◌ {A = Result (List A) (ℕ × E)} (Err p) (Err (place, why)) = rw e at h in
        let there = more (e ∙ g) in
        record {
          before = value ∷ there.before;
          after = there.after;
          split = ap (λ t. Ok value ∷ t) there.split;
          counted = omega (arith, there.counted);
        }
