-- Rows that follow each other.
use Rattle.std.proofs.Common.{◌≡◌, ℕ, zero, suc, ◌+◌, List, [], ◌∷◌, ◌++◌, refl, sym, ap, ◌∙◌, arith}
use Rattle.std.specs.List.{range_with_len}

pub range_more : (a n : ℕ) → range_with_len a n ++ (a + n) ∷ [] ≡ range_with_len a (n + 1)
range_more a zero = let e : a + 0 ≡ a = omega arith in ap (λ x. x ∷ []) e
range_more a (suc n) =
    let e : a + suc n ≡ a + 1 + n = omega arith in
    let s : n + 1 ≡ suc n = omega arith in
    let t : suc (n + 1) ≡ suc n + 1 = omega arith in
    ap (λ x. a ∷ (range_with_len (a + 1) n ++ x ∷ [])) e ∙ ap (λ l. a ∷ l) (range_more (a + 1) n) ∙ ap (range_with_len a) t
