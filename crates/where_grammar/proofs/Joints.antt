-- Parts behind joints, one step at a time.
use Rattle.std.proofs.Common.{◌≡◌, ℕ, zero, suc, ◌+◌, ◌-◌, ◌≤◌, ◌<◌, Bool, true, false, cond, List, [], ◌∷◌, length, length-append, refl, sym, ap, subst, ◌∙◌, append-nil, arith}
use Rattle.std.specs.Prelude.{Option, Some, None}
use Rattle.std.specs.Option.{option_map, option_and_then}
use Rattle.where_grammar.specs.declared.clause.Clause.{Clause}
use Rattle.where_grammar.specs.declared.clause.Join.{Join}
use Rattle.where_grammar.specs.declared.clause.Join.TheVariants as join
use Rattle.where_grammar.specs.declared.token.Token.{Token}
use Rattle.where_grammar.specs.Nesting.{is_close}
use Rattle.where_grammar.specs.Grammar.{group, joins}
use Rattle.where_grammar.specs.Parsing.{At, after, clause_within, enclosed_at, grouped, joined_at, part_at, parts_behind, parts_within}
use Rattle.where_grammar.proofs.TokenTests.{after_told}
use Rattle.where_grammar.proofs.Lists.{item_then, put_items, with_item}
use Rattle.where_grammar.proofs.Clauses.{clause_told, grouped_two, part_told}

-- how tight a level is, from the loosest down
abbrev pub rank : Join → ℕ
rank join.Or = 2
rank join.Xor = 1
rank join.And = 0

abbrev pub part_of : Join → ℕ → At Clause
part_of j depth = part_at j (clause_within depth)

abbrev Shrinks : At Clause → Type 0
Shrinks part = (tokens : List Token) (found : Clause × List Token) → part tokens ≡ Some found → length found.1 ≤ length tokens

pub part-shrinks : (j : Join) (depth : ℕ) → Shrinks (part_of j depth)
part-shrinks j depth tokens found e =
    let cut = part_told j (clause_within depth) (clause_told depth) tokens found e in
    let size : length tokens ≡ length cut.front + length found.1 = ap length cut.cut ∙ length-append cut.front found.1 in
    omega arith

then_same : (f g : List Token → Option (List Clause × List Token)) (o : Option (Clause × List Token)) → ((x : Clause × List Token) → o ≡ Some x → f x.1 ≡ g x.1) → item_then f o ≡ item_then g o
then_same f g None same = refl
then_same f g (Some x) same = ap (with_item x.0) (same x refl)

parts-enough : (j : Join) (part : At Clause) → Shrinks part → (m n : ℕ) (tokens : List Token) → length tokens ≤ m → length tokens ≤ n → parts_within j part m tokens ≡ parts_within j part n tokens
parts-enough j part shrinks m n [] _ _ = refl
parts-enough j part shrinks zero n (token ∷ tokens) lm ln = absurd (omega arith)
parts-enough j part shrinks (suc m) zero (token ∷ tokens) lm ln = absurd (omega arith)
parts-enough j part shrinks (suc m) (suc n) (token ∷ tokens) lm ln =
    let others = then_same (parts_within j part m) (parts_within j part n) (part tokens) (λ x e. let less = shrinks tokens x e in parts-enough j part shrinks m n x.1 (omega arith) (omega arith)) in
    ap (λ o. cond (joins j token) o (Some ([], token ∷ tokens))) others

abbrev pub parts_here : Join → At Clause → At (List Clause)
parts_here j part tokens = parts_within j part (length tokens) tokens

joint_none : (j : Join) (part : At Clause) (n : ℕ) (token : Token) (tokens : List Token) (test : Bool) → joins j token ≡ test → cond test (Some tokens) None ≡ None → parts_within j part (suc n) (token ∷ tokens) ≡ Some ([], token ∷ tokens)
joint_none j part n token tokens true e none = absurd cc
joint_none j part n token tokens false e none = rw e refl

pub parts_here-none : (j : Join) (part : At Clause) (tokens : List Token) → after (joins j) tokens ≡ None → parts_here j part tokens ≡ Some ([], tokens)
parts_here-none j part [] e = refl
parts_here-none j part (token ∷ tokens) e = joint_none j part (length tokens) token tokens (joins j token) refl e

pub parts_here-some : (j : Join) (depth : ℕ) (tokens behind : List Token) (next : Clause) (rest : List Token) → after (joins j) tokens ≡ Some behind → part_of j depth behind ≡ Some (next, rest)
    → parts_here j (part_of j depth) tokens ≡ with_item next (parts_here j (part_of j depth) rest)
parts_here-some j depth tokens behind next rest e found =
    let h = after_told (joins j) tokens behind e in
    let part = part_of j depth in
    let joint : joins j h.token ≡ true = h.passed in
    let less = part-shrinks j depth behind (next, rest) found in
    let enough : parts_within j part (length behind) rest ≡ parts_here j part rest = parts-enough j part (part-shrinks j depth) (length behind) (length rest) rest (omega arith) (omega arith) in
    ap (parts_here j part) h.cut ∙ step part behind next rest (length behind) h.token joint found ∙ ap (with_item next) enough
  where
    step : (part : At Clause) (behind : List Token) (next : Clause) (rest : List Token) (n : ℕ) (token : Token) → joins j token ≡ true → part behind ≡ Some (next, rest) → parts_within j part (suc n) (token ∷ behind) ≡ with_item next (parts_within j part n rest)
    step part behind next rest n token joint found = rw (joint, found) refl

pub parts_here-fail : (j : Join) (part : At Clause) (tokens behind : List Token) → after (joins j) tokens ≡ Some behind → part behind ≡ None → parts_here j part tokens ≡ None
parts_here-fail j part tokens behind e none =
    let h = after_told (joins j) tokens behind e in
    let joint : joins j h.token ≡ true = h.passed in
    ap (parts_here j part) h.cut ∙ step behind (length behind) h.token joint none
  where
    step : (behind : List Token) (n : ℕ) (token : Token) → joins j token ≡ true → part behind ≡ None → parts_within j part (suc n) (token ∷ behind) ≡ None
    step behind n token joint none = rw (joint, none) refl

same_group : (j : Join) (first : Clause) (parts others : List Clause) (rest back : List Token) → ◌≡◌ {A = Option (List Clause × List Token)} (Some (parts, rest)) (Some (first ∷ others, back)) → 2 ≤ length parts
    → ◌≡◌ {A = Option (Clause × List Token)} (Some (group j parts, rest)) (Some (grouped j first others, back))
same_group j first parts others rest back e two =
    let same : ◌≡◌ {A = List Clause × List Token} (parts, rest) (first ∷ others, back) = cc in
    let size : 2 ≤ length (first ∷ others) = subst (λ g. 2 ≤ length g.0) same two in
    ap (λ g. Some (group j g.0, g.1)) same ∙ ap (λ c. Some (c, back)) (sym (grouped_two j first others size))

abbrev as_grouped : Join → Clause → Option (List Clause × List Token) → Option (Clause × List Token)
as_grouped j first = option_map (λ more. (grouped j first more.0, more.1))

ended_by : (j : Join) (first : Clause) (parts : List Clause) (rest : List Token) (o : Option (List Clause × List Token)) → 2 ≤ length parts → Some (parts, rest) ≡ with_item first o → Some (group j parts, rest) ≡ as_grouped j first o
ended_by j first parts rest None two e = absurd cc
ended_by j first parts rest (Some more) two e = same_group j first parts more.0 rest more.1 e two

-- the loop, where no joint follows
pub ended : (j : Join) (part : At Clause) (first : Clause) (parts : List Clause) (tokens rest : List Token) → 2 ≤ length parts → after (joins j) rest ≡ None → put_items parts (parts_here j part rest) ≡ with_item first (parts_here j part tokens)
    → Some (group j parts, rest) ≡ parts_behind j part first tokens
ended j part first parts tokens rest two none so_far =
    let last : put_items parts (parts_here j part rest) ≡ Some (parts, rest) = ap (put_items parts) (parts_here-none j part rest none) ∙ ap (λ xs. Some (xs, rest)) (append-nil parts) in
    ended_by j first parts rest (parts_here j part tokens) two (sym last ∙ so_far)

failed_by : (j : Join) (first : Clause) (o : Option (List Clause × List Token)) → None ≡ with_item first o → None ≡ as_grouped j first o
failed_by j first None e = refl
failed_by j first (Some more) e = absurd cc

-- where a part is missing
pub failed : (j : Join) (part : At Clause) (first : Clause) (parts : List Clause) (tokens rest : List Token) → parts_here j part rest ≡ None → put_items parts (parts_here j part rest) ≡ with_item first (parts_here j part tokens) → None ≡ parts_behind j part first tokens
failed j part first parts tokens rest none so_far = failed_by j first (parts_here j part tokens) (sym (ap (put_items parts) none) ∙ so_far)

-- ---- one parenthesis deeper

pub within_less : (depth : ℕ) (tokens : List Token) → 0 < depth → clause_within depth tokens ≡ joined_at join.Or (part_at join.Or (clause_within (depth - 1))) tokens
within_less zero tokens some = absurd (omega arith)
within_less (suc n) tokens some =
    let less : n ≡ suc n - 1 = omega arith in
    ap (λ k. joined_at join.Or (part_at join.Or (clause_within k)) tokens) less

enclosed_by : (inner : At Clause) (tokens : List Token) (o : Option (Clause × List Token)) → inner tokens ≡ o → enclosed_at inner tokens ≡ option_and_then (λ found. option_map (λ rest. (found.0, rest)) (after is_close found.1)) o
enclosed_by inner tokens o e = ap (option_and_then (λ found. option_map (λ rest. (found.0, rest)) (after is_close found.1))) e

pub enclosed_some : (inner : At Clause) (tokens : List Token) (c : Clause) (rest behind : List Token) → inner tokens ≡ Some (c, rest) → after is_close rest ≡ Some behind → Some (c, behind) ≡ enclosed_at inner tokens
enclosed_some inner tokens c rest behind e f = sym (enclosed_by inner tokens (Some (c, rest)) e ∙ ap (option_map (λ rest. (c, rest))) f)

pub enclosed_open : (inner : At Clause) (tokens : List Token) (c : Clause) (rest : List Token) → inner tokens ≡ Some (c, rest) → after is_close rest ≡ None → None ≡ enclosed_at inner tokens
enclosed_open inner tokens c rest e f = sym (enclosed_by inner tokens (Some (c, rest)) e ∙ ap (option_map (λ rest. (c, rest))) f)

pub enclosed_none : (inner : At Clause) (tokens : List Token) → inner tokens ≡ None → None ≡ enclosed_at inner tokens
enclosed_none inner tokens e = sym (enclosed_by inner tokens None e)
