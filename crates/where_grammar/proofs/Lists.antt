-- The items of a list, one step at a time.
use Rattle.std.proofs.Common.{◌≡◌, ℕ, zero, suc, ◌≤◌, ◌<◌, true, false, cond, List, [], ◌∷◌, ◌++◌, length, refl, sym, ap, ◌∙◌, append_assoc, arith}
use Rattle.std.specs.Prelude.{Option, Some, None}
use Rattle.std.specs.Option.{option_map, option_and_then}
use Rattle.where_grammar.specs.declared.token.Placed.{Placed}
use Rattle.where_grammar.specs.declared.token.Sign.TheVariants as sign
use Rattle.where_grammar.specs.declared.token.Token.{Token}
use Rattle.where_grammar.specs.Nesting.{is_close, is_sign}
use Rattle.where_grammar.specs.Parsing.{bare, items_at, items_within, taken}
use Rattle.where_grammar.proofs.TokenTests.{taken_told}

pub front_told : (tokens : List Token) (token : Token) (rest : List Token) → Some (token, rest) ≡ taken (λ x. Some x) tokens → tokens ≡ token ∷ rest
front_told tokens token rest e =
    let h = taken_told (λ x. Some x) tokens (token, rest) (sym e) in
    let same : h.token ≡ token = same_token h.token token h.passed in
    h.cut ∙ ap (λ x. x ∷ rest) same
  where
    same_token : (a b : Token) → Some a ≡ Some b → a ≡ b
    same_token a b e = cc

pub no_front_told : (tokens : List Token) → None ≡ taken (λ x. Some x) tokens → tokens ≡ []
no_front_told [] e = refl
no_front_told (token ∷ tokens) e = absurd cc

pub length-bare : (ps : List Placed) → length (bare ps) ≡ length ps
length-bare [] = refl
length-bare (p ∷ ps) = let same = length-bare ps in omega arith

-- what is taken leaves less
pub taken-shorter : {A : Type 0} (part : Token → Option A) (tokens : List Token) (x : A) (rest : List Token) → taken part tokens ≡ Some (x, rest) → length rest < length tokens
taken-shorter part tokens x rest e =
    let h = taken_told part tokens (x, rest) e in
    let same : length tokens ≡ length (h.token ∷ rest) = ap length h.cut in
    omega arith

abbrev pub with_item : {A : Type 0} → A → Option (List A × List Token) → Option (List A × List Token)
with_item x = option_map (λ more. (x ∷ more.0, more.1))

abbrev pub item_then : {A : Type 0} → (List Token → Option (List A × List Token)) → Option (A × List Token) → Option (List A × List Token)
item_then more = option_and_then (λ item. with_item item.0 (more item.1))

then_same : {A : Type 0} (f g : List Token → Option (List A × List Token)) (o : Option (A × List Token)) → ((x : A × List Token) → o ≡ Some x → f x.1 ≡ g x.1) → item_then f o ≡ item_then g o
then_same f g None same = refl
then_same f g (Some x) same = ap (with_item x.0) (same x refl)

items-enough : {A : Type 0} (part : Token → Option A) (m n : ℕ) (tokens : List Token) → length tokens ≤ m → length tokens ≤ n → items_within part m tokens ≡ items_within part n tokens
items-enough part m n [] _ _ = refl
items-enough part zero n (token ∷ tokens) lm ln = absurd (omega arith)
items-enough part (suc m) zero (token ∷ tokens) lm ln = absurd (omega arith)
items-enough part (suc m) (suc n) (token ∷ tokens) lm ln =
    let others = then_same (items_within part m) (items_within part n) (taken part tokens) (λ x e. let less = taken-shorter part tokens x.0 x.1 e in items-enough part m n x.1 (omega arith) (omega arith)) in
    ap (λ o. cond (is_close token) (Some ([], tokens)) (cond (is_sign sign.Comma token) o None)) others

pub items_at-close : {A : Type 0} (part : Token → Option A) (token : Token) (tokens : List Token) → is_close token ≡ true → items_at part (token ∷ tokens) ≡ Some ([], tokens)
items_at-close part token tokens e = rw e refl

pub items_at-other : {A : Type 0} (part : Token → Option A) (token : Token) (tokens : List Token) → is_close token ≡ false → is_sign sign.Comma token ≡ false → items_at part (token ∷ tokens) ≡ None
items_at-other part token tokens e f = rw (e, f) refl

pub items_at-comma : {A : Type 0} (part : Token → Option A) (token : Token) (tokens : List Token) → is_close token ≡ false → is_sign sign.Comma token ≡ true → items_at part (token ∷ tokens) ≡ item_then (items_at part) (taken part tokens)
items_at-comma part token tokens e f =
    rw (e, f) (then_same (items_within part (length tokens)) (items_at part) (taken part tokens) (λ x is. let less = taken-shorter part tokens x.0 x.1 is in items-enough part (length tokens) (length x.1) x.1 (omega arith) (omega arith)))

pub items_at-none : {A : Type 0} (part : Token → Option A) (token : Token) (tokens : List Token) → is_close token ≡ false → is_sign sign.Comma token ≡ true → taken part tokens ≡ None → items_at part (token ∷ tokens) ≡ None
items_at-none part token tokens e f none = items_at-comma part token tokens e f ∙ ap (item_then (items_at part)) none

pub items_at-some : {A : Type 0} (part : Token → Option A) (token : Token) (tokens : List Token) (x : A) (rest : List Token) → is_close token ≡ false → is_sign sign.Comma token ≡ true → taken part tokens ≡ Some (x, rest) → items_at part (token ∷ tokens) ≡ with_item x (items_at part rest)
items_at-some part token tokens x rest e f some = items_at-comma part token tokens e f ∙ ap (item_then (items_at part)) some

-- items put before those that are still to come
abbrev pub put_items : {A : Type 0} → List A → Option (List A × List Token) → Option (List A × List Token)
put_items front = option_map (λ more. (front ++ more.0, more.1))

pub put-with : {A : Type 0} (front : List A) (x : A) (o : Option (List A × List Token)) → put_items front (with_item x o) ≡ put_items (front ++ (x ∷ [])) o
put-with front x None = refl
put-with front x (Some more) = ap (λ xs. Some (xs, more.1)) (sym (append_assoc front (x ∷ []) more.0))

pub put-one : {A : Type 0} (x : A) (o : Option (List A × List Token)) → put_items (x ∷ []) o ≡ with_item x o
put-one x None = refl
put-one x (Some more) = refl
