-- Items behind commas, one step at a time.
use Rattle.std.proofs.Common.{◌≡◌, ℕ, zero, suc, ◌≤◌, ◌<◌, Bool, true, false, cond, List, [], ◌∷◌, ◌++◌, length, refl, sym, ap, ◌∙◌, append-nil, arith}
use Rattle.std.specs.Prelude.{Option, Some, None}
use Rattle.std.specs.Option.{option_map, option_and_then}
use Rattle.where_grammar.specs.declared.token.Token.{Token}
use Rattle.where_grammar.specs.Grammar.{comma}
use Rattle.where_grammar.specs.Parsing.{At, after}
use Rattle.where_grammar.proofs.Lists.{item_then, put-with, put_items, with_item}
use Rattle.where_grammar.proofs.TokenTests.{after_told}
use Rattle.query_grammar.specs.Reading.{is_comma, listed_at, more_behind, more_within}
use Rattle.query_grammar.specs.Shorter.{Shrinks}

abbrev pub more_here : {A : Type 0} → At A → At (List A)
more_here part tokens = more_within part (length tokens) tokens

then_same : {A : Type 0} (f g : At (List A)) (o : Option (A × List Token)) → ((x : A × List Token) → o ≡ Some x → f x.1 ≡ g x.1) → item_then f o ≡ item_then g o
then_same f g None same = refl
then_same f g (Some x) same = ap (with_item x.0) (same x refl)

more-enough : {A : Type 0} (part : At A) → Shrinks part → (m n : ℕ) (tokens : List Token) → length tokens ≤ m → length tokens ≤ n → more_within part m tokens ≡ more_within part n tokens
more-enough part shrinks m n [] lm ln = refl
more-enough part shrinks zero n (token ∷ tokens) lm ln = absurd (omega arith)
more-enough part shrinks (suc m) zero (token ∷ tokens) lm ln = absurd (omega arith)
more-enough part shrinks (suc m) (suc n) (token ∷ tokens) lm ln =
    let others = then_same (more_within part m) (more_within part n) (part tokens) (λ x e. let less = shrinks tokens x e in more-enough part shrinks m n x.1 (omega arith) (omega arith)) in
    ap (λ o. cond (is_comma token) o (Some ([], token ∷ tokens))) others

comma_none : {A : Type 0} (part : At A) (n : ℕ) (token : Token) (tokens : List Token) (test : Bool) → is_comma token ≡ test → cond test (Some tokens) None ≡ None → more_within part (suc n) (token ∷ tokens) ≡ Some ([], token ∷ tokens)
comma_none part n token tokens true e none = absurd cc
comma_none part n token tokens false e none = rw e refl

pub more_here-none : {A : Type 0} (part : At A) (tokens : List Token) → after is_comma tokens ≡ None → more_here part tokens ≡ Some ([], tokens)
more_here-none part [] e = refl
more_here-none part (token ∷ tokens) e = comma_none part (length tokens) token tokens (is_comma token) refl e

more_step : {A : Type 0} (part : At A) (behind : List Token) (n : ℕ) (token : Token) → is_comma token ≡ true → more_within part (suc n) (token ∷ behind) ≡ item_then (more_within part n) (part behind)
more_step part behind n token joint = rw joint refl

-- behind a comma stands a list
pub more_here-comma : {A : Type 0} (part : At A) → Shrinks part → (tokens behind : List Token) → after is_comma tokens ≡ Some behind → more_here part tokens ≡ listed_at part behind
more_here-comma part shrinks tokens behind e =
    let h = after_told is_comma tokens behind e in
    let enough = then_same (more_within part (length behind)) (more_here part) (part behind) (λ x is. let less = shrinks behind x is in more-enough part shrinks (length behind) (length x.1) x.1 (omega arith) (omega arith)) in
    ap (more_here part) h.cut ∙ (more_step part behind (length behind) h.token h.passed ∙ enough)

pub listed-some : {A : Type 0} (part : At A) (tokens : List Token) (x : A) (rest : List Token) → part tokens ≡ Some (x, rest) → listed_at part tokens ≡ with_item x (more_here part rest)
listed-some part tokens x rest e = ap (option_and_then (λ first. more_behind part first.0 first.1)) e

pub listed-none : {A : Type 0} (part : At A) (tokens : List Token) → part tokens ≡ None → listed_at part tokens ≡ None
listed-none part tokens e = ap (option_and_then (λ first. more_behind part first.0 first.1)) e

-- ---- the walk over a list, with the items that it has

pub walk_step : {A : Type 0} (part : At A) → Shrinks part → (list more : List A) (tokens rest behind behind_item : List Token) (item : A) → after is_comma rest ≡ Some behind → part behind ≡ Some (item, behind_item) → more ≡ list ++ item ∷ []
    → put_items list (more_here part rest) ≡ listed_at part tokens → put_items more (more_here part behind_item) ≡ listed_at part tokens
walk_step part shrinks list more tokens rest behind behind_item item comma found pushed so_far =
    ap (λ xs. put_items xs (more_here part behind_item)) pushed
    ∙ (sym (put-with list item (more_here part behind_item))
    ∙ (ap (put_items list) (sym (listed-some part behind item behind_item found) ∙ sym (more_here-comma part shrinks rest behind comma)) ∙ so_far))

pub walk_smaller : {A : Type 0} (part : At A) → Shrinks part → (rest behind behind_item : List Token) (item : A) → after is_comma rest ≡ Some behind → part behind ≡ Some (item, behind_item) → length behind_item < length rest
walk_smaller part shrinks rest behind behind_item item comma found =
    let h = after_told is_comma rest behind comma in
    let longer : length rest ≡ length (h.token ∷ behind) = ap length h.cut in
    let less = shrinks behind (item, behind_item) found in
    omega arith

pub walk_ends : {A : Type 0} (part : At A) (list : List A) (tokens rest : List Token) → after is_comma rest ≡ None → put_items list (more_here part rest) ≡ listed_at part tokens → Some (list, rest) ≡ listed_at part tokens
walk_ends part list tokens rest none so_far = sym (ap (put_items list) (more_here-none part rest none) ∙ ap (λ xs. Some (xs, rest)) (append-nil list)) ∙ so_far

pub walk_fails : {A : Type 0} (part : At A) → Shrinks part → (list : List A) (tokens rest behind : List Token) → after is_comma rest ≡ Some behind → part behind ≡ None → put_items list (more_here part rest) ≡ listed_at part tokens → None ≡ listed_at part tokens
walk_fails part shrinks list tokens rest behind comma none so_far = sym (ap (put_items list) (more_here-comma part shrinks rest behind comma ∙ listed-none part behind none)) ∙ so_far
