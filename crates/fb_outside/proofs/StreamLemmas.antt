-- What calls on a source or a sink do together.
use Rattle.std.proofs.Common.{◌≡◌, ◌+◌, ℕ, zero, suc, List, [], ◌∷◌, ◌++◌, take, length, Option, Some, None, option_map, refl, sym, ap, ◌∙◌, append_assoc, append-nil, is_some}
use Rattle.std.proofs.Math.Seq.{take-append-add, take-length}
use Rattle.fb_outside.specs.Streams.{Takes, Grows, GrowsInPart}

-- nothing was taken
pub Takes-nil : (old : Option (List ℕ)) → Takes old old []
Takes-nil None = refl
Takes-nil (Some rest) = refl

-- one piece after another
pub Takes-append : (old mid new : Option (List ℕ)) (xs ys : List ℕ) → Takes old mid xs → Takes mid new ys → Takes old new (xs ++ ys)
Takes-append old mid None xs ys h k = h ∙ ap (option_map (λ rest. xs ++ rest)) k
Takes-append old mid (Some rest) xs ys h k = h ∙ ap (option_map (λ r. xs ++ r)) k ∙ ap Some (sym (append_assoc xs ys rest))

-- nothing was put
pub Grows-nil : (old : Option (List ℕ)) → Grows old old []
Grows-nil None = refl
Grows-nil (Some all) = ap Some (sym (append-nil all))

-- one piece after another
pub Grows-append : (old mid new : Option (List ℕ)) (xs ys : List ℕ) → Grows old mid xs → Grows mid new ys → Grows old new (xs ++ ys)
Grows-append None mid new xs ys h k = k ∙ ap (option_map (λ all. all ++ ys)) h
Grows-append (Some all) mid new xs ys h k = k ∙ ap (option_map (λ r. r ++ ys)) h ∙ ap Some (append_assoc all xs ys)

-- the whole is a front
pub GrowsInPart-whole : (old new : Option (List ℕ)) (bytes : List ℕ) → Grows old new bytes → GrowsInPart old new bytes
GrowsInPart-whole old new bytes h = record { count = length bytes; front = h ∙ ap (λ b. option_map (λ all. all ++ b) old) (sym (take-length bytes)) }

-- nothing is a front
pub GrowsInPart-none : (old new : Option (List ℕ)) (bytes : List ℕ) → new ≡ old → GrowsInPart old new bytes
GrowsInPart-none old new bytes h = record { count = 0; front = h ∙ Grows-nil old }

-- a whole piece, and then a front of the next
pub GrowsInPart-append : (old mid new : Option (List ℕ)) (xs ys : List ℕ) → Grows old mid xs → GrowsInPart mid new ys → GrowsInPart old new (xs ++ ys)
GrowsInPart-append old mid new xs ys h k = record {
  count = length xs + k.count;
  front = Grows-append old mid new xs (take k.count ys) h k.front ∙ ap (λ b. option_map (λ all. all ++ b) old) (sym (take-append-add xs ys k.count));
}

fronts : (n : ℕ) (xs ys : List ℕ) → (m : ℕ) × (take m (xs ++ ys) ≡ take n xs)
fronts zero xs ys = (0, refl)
fronts (suc n) [] ys = (0, refl)
fronts (suc n) (x ∷ xs) ys = let rest = fronts n xs ys in (suc rest.0, ap (λ l. x ∷ l) rest.1)

-- a front of the first piece is a front of both
pub GrowsInPart-front : (old new : Option (List ℕ)) (xs ys : List ℕ) → GrowsInPart old new xs → GrowsInPart old new (xs ++ ys)
GrowsInPart-front old new xs ys h =
    let front = fronts h.count xs ys in
    record { count = front.0; front = h.front ∙ ap (λ b. option_map (λ all. all ++ b) old) (sym front.1) }

-- whether they are told stays
pub Takes-told : (old new : Option (List ℕ)) (bytes : List ℕ) → Takes old new bytes → is_some new ≡ is_some old
Takes-told old None bytes h = ap is_some (sym h)
Takes-told old (Some rest) bytes h = ap is_some (sym h)

pub Grows-told : (old new : Option (List ℕ)) (bytes : List ℕ) → Grows old new bytes → is_some new ≡ is_some old
Grows-told None new bytes h = ap is_some h
Grows-told (Some all) new bytes h = ap is_some h
