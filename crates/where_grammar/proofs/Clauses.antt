-- What the function finds is a clause.
use Rattle.std.proofs.Common.{◌≡◌, ℕ, zero, suc, ◌+◌, ◌≤◌, Bool, true, false, List, [], ◌∷◌, ◌++◌, length, drop, refl, sym, ap, subst, ◌∙◌, inl, inr, append_assoc, append-nil, arith}
use Rattle.std.specs.Prelude.{Option, Some, None}
use Rattle.std.specs.Option.{option_map, option_and_then}
use Rattle.std.specs.List.{prefix_len}
use Rattle.lexing.proofs.Cases.{chosen, mapped, chained}
use Rattle.where_grammar.specs.declared.clause.Clause.{Clause}
use Rattle.where_grammar.specs.declared.clause.Clause.TheVariants as clause
use Rattle.where_grammar.specs.declared.clause.Join.{Join}
use Rattle.where_grammar.specs.declared.clause.Join.TheVariants as join
use Rattle.where_grammar.specs.declared.token.Sign.TheVariants as sign
use Rattle.where_grammar.specs.declared.token.Token.{Token}
use Rattle.where_grammar.specs.Nesting.{is_close, is_not, is_open}
use Rattle.where_grammar.specs.Grammar.{AreParts, IsClause, IsJoined, IsNots, IsPart, alone, ands, closing, condition, enclosed, group, joins, last, more, negated, nots, opening, several, xors}
use Rattle.where_grammar.specs.Parsing.{At, after, atom_from, clause_of, clause_within, enclosed_at, grouped, joined_at, not_times, nots_at, part_at, parts_behind, parts_within, unit_at, whole}
use Rattle.where_grammar.proofs.TokenTests.{after_told, sign_told}
use Rattle.where_grammar.proofs.Conditions.{atom_from_told}

-- a front that is of this form, and what follows it
pub record Cut {A : Type 0} (IsForm : A → List Token → Type 0) (tokens : List Token) (found : A × List Token) : Type 0 where
  pub front : List Token
  pub cut : tokens ≡ front ++ found.1
  pub spelled : IsForm found.0 front

-- each that the reader finds is of this form
abbrev pub Finds : {A : Type 0} → At A → (A → List Token → Type 0) → Type 0
Finds {A} read IsForm = (tokens : List Token) (found : A × List Token) → read tokens ≡ Some found → Cut IsForm tokens found

-- ---- parts and joints

-- tokens with which parts that begin with this front go on
record GoesOn (j : Join) (first : Clause) (front tokens : List Token) (found : List Clause × List Token) : Type 0 where
  middle : List Token
  cut : tokens ≡ middle ++ found.1
  spelled : AreParts j (first ∷ found.0) (front ++ middle)

ends_here : (j : Join) (first : Clause) (front tokens : List Token) (found : List Clause × List Token) → IsPart j first front → ([], tokens) ≡ found → GoesOn j first front tokens found
ends_here j first front tokens found is same =
    subst (GoesOn j first front tokens) same (record { middle = []; cut = refl; spelled = last j first (front ++ []) (subst (IsPart j first) (sym (append-nil front)) is) })

behind_joint : (j : Join) (first second : Clause) (cs : List Clause) (token : Token) (front tokens next back rest : List Token) → IsPart j first front → joins j token ≡ true → tokens ≡ next ++ back → GoesOn j second next back (cs, rest)
    → GoesOn j first front (token ∷ tokens) (second ∷ cs, rest)
behind_joint j first second cs token front tokens next back rest is joint cut goes =
    record { middle = token ∷ (next ++ goes.middle); cut = ap (λ ts. token ∷ ts) (cut ∙ (ap (λ ts. next ++ ts) goes.cut ∙ sym (append_assoc next goes.middle rest))); spelled = more j first (second ∷ cs) front token (next ++ goes.middle) is joint goes.spelled }

abbrev behind_one : Join → At Clause → ℕ → At (List Clause)
behind_one j part n tokens = option_and_then (λ found. option_map (λ more. (found.0 ∷ more.0, more.1)) (parts_within j part n found.1)) (part tokens)

parts_told : (j : Join) (part : At Clause) → Finds part (IsPart j) → (n : ℕ) (first : Clause) (front tokens : List Token) (found : List Clause × List Token) → IsPart j first front → parts_within j part n tokens ≡ Some found → GoesOn j first front tokens found
parts_told j part finds n first front [] found is e = ends_here j first front [] found is cc
parts_told j part finds zero first front (token ∷ tokens) found is e = ends_here j first front (token ∷ tokens) found is cc
parts_told j part finds (suc n) first front (token ∷ tokens) found is e =
    elim (chosen (joins j token) (behind_one j part n tokens) (Some ([], token ∷ tokens)) (Some found) e) [
      | inl h ↦ (
          let second = chained (λ found. option_map (λ more. (found.0 ∷ more.0, more.1)) (parts_within j part n found.1)) (part tokens) found h.1 in
          let others = mapped (λ more. (second.0.0 ∷ more.0, more.1)) (parts_within j part n second.0.1) found second.1.1 in
          let cut = finds tokens second.0 second.1.0 in
          subst (GoesOn j first front (token ∷ tokens)) others.1.1
          (behind_joint j first second.0.0 others.0.0 token front tokens cut.front second.0.1 others.0.1 is h.0 cut.cut (parts_told j part finds n second.0.0 cut.front second.0.1 others.0 cut.spelled others.1.0)))
      | inr h ↦ ends_here j first front (token ∷ tokens) found is cc
    ]

grouped_is : (j : Join) (first : Clause) (cs : List Clause) (tokens : List Token) → IsPart j first tokens → IsJoined j (grouped j first []) tokens
grouped_is j first cs tokens is = alone j first tokens is

one_part : (j : Join) (first : Clause) (tokens : List Token) → AreParts j (first ∷ []) tokens → IsPart j first tokens
one_part j first tokens (last _ _ _ is) = is
one_part j first _ (more _ _ _ front token back is joint parts) = absurd (no_parts j back parts)
  where
    no_parts : (j : Join) (back : List Token) → AreParts j [] back → ⊥
    no_parts j back parts = elim parts [ ]

parts_joined : (j : Join) (first : Clause) (cs : List Clause) (tokens : List Token) → AreParts j (first ∷ cs) tokens → IsJoined j (grouped j first cs) tokens
parts_joined j first [] tokens parts = alone j first tokens (one_part j first tokens parts)
parts_joined j first (second ∷ cs) tokens parts = several j (first ∷ second ∷ cs) tokens (omega arith) parts

joined_told : (j : Join) (part : At Clause) → Finds part (IsPart j) → Finds (joined_at j part) (IsJoined j)
joined_told j part finds tokens found e =
    let first = chained (λ first. parts_behind j part first.0 first.1) (part tokens) found e in
    let others = mapped (λ more. (grouped j first.0.0 more.0, more.1)) (parts_within j part (length first.0.1) first.0.1) found first.1.1 in
    let cut = finds tokens first.0 first.1.0 in
    let goes = parts_told j part finds (length first.0.1) first.0.0 cut.front first.0.1 others.0 cut.spelled others.1.0 in
    subst (Cut (IsJoined j) tokens) others.1.1
    (record { front = cut.front ++ goes.middle; cut = cut.cut ∙ (ap (λ ts. cut.front ++ ts) goes.cut ∙ sym (append_assoc cut.front goes.middle others.0.1)); spelled = parts_joined j first.0.0 others.0.0 (cut.front ++ goes.middle) goes.spelled })

-- ---- units

enclosed_told : (inner : At Clause) → Finds inner IsClause → (tokens : List Token) (found : Clause × List Token) → enclosed_at inner tokens ≡ Some found → Cut IsNots (opening ∷ tokens) found
enclosed_told inner finds tokens found e =
    let clause = chained (λ found. option_map (λ rest. (found.0, rest)) (after is_close found.1)) (inner tokens) found e in
    let shut = mapped (λ rest. (clause.0.0, rest)) (after is_close clause.0.1) found clause.1.1 in
    let token = after_told is_close clause.0.1 shut.0 shut.1.0 in
    let cut = finds tokens clause.0 clause.1.0 in
    let behind : clause.0.1 ≡ closing ∷ shut.0 = token.cut ∙ ap (λ x. x ∷ shut.0) (sign_told sign.Close token.token token.passed) in
    let whole : opening ∷ tokens ≡ (opening ∷ (cut.front ++ closing ∷ [])) ++ shut.0 =
    ap (λ ts. opening ∷ ts) (cut.cut ∙ (ap (λ ts. cut.front ++ ts) behind ∙ sym (append_assoc cut.front (closing ∷ []) shut.0))) in
    subst (Cut IsNots (opening ∷ tokens)) shut.1.1 (record { front = opening ∷ (cut.front ++ closing ∷ []); cut = whole; spelled = enclosed clause.0.0 cut.front cut.spelled })

unit_told : (inner : At Clause) → Finds inner IsClause → Finds (unit_at inner) IsNots
unit_told inner finds [] found e = absurd cc
unit_told inner finds (token ∷ tokens) found e =
    elim (chosen (is_open token) (enclosed_at inner tokens) (option_map (λ found. (clause.One found.0, found.1)) (atom_from token tokens)) (Some found) e) [
      | inl h ↦ subst (λ x. Cut IsNots (x ∷ tokens) found) (sym (sign_told sign.Open token h.0)) (enclosed_told inner finds tokens found h.1)
      | inr h ↦ (
          let atom = mapped (λ found. (clause.One found.0, found.1)) (atom_from token tokens) found h.1 in
          let is = atom_from_told token tokens atom.0 atom.1.0 in
          subst (Cut IsNots (token ∷ tokens)) atom.1.1 (record { front = token ∷ is.middle; cut = ap (λ ts. token ∷ ts) is.cut; spelled = condition atom.0.0 (token ∷ is.middle) is.spelled }))
    ]

abbrev pub Found : Type 0
Found = Option (Clause × List Token)

abbrev pub denied : Found → Found
denied = option_map (λ found. (clause.Not found.0, found.1))

abbrev denied_times : ℕ → Found → Found
denied_times n = option_map (λ found. (not_times n found.0, found.1))

twice : (o : Found) (n : ℕ) → denied_times (suc n) o ≡ denied (denied_times n o)
twice None n = refl
twice (Some found) n = refl

-- one `not` less
pub nots_step : (inner : At Clause) (token : Token) (tokens : List Token) → is_not token ≡ true → nots_at inner (token ∷ tokens) ≡ denied (nots_at inner tokens)
nots_step inner token tokens e =
    let n : 1 + prefix_len is_not tokens ≡ suc (prefix_len is_not tokens) = omega arith in
    rw (e, n) (twice (unit_at inner (drop (prefix_len is_not tokens) tokens)) (prefix_len is_not tokens))

pub nots_none : (inner : At Clause) (tokens : List Token) → prefix_len is_not tokens ≡ 0 → nots_at inner tokens ≡ unit_at inner tokens
nots_none inner tokens e = rw e (never (unit_at inner tokens))
  where
    never : (o : Found) → denied_times 0 o ≡ o
    never None = refl
    never (Some found) = refl

no_front : (token : Token) (tokens : List Token) → is_not token ≡ false → prefix_len is_not (token ∷ tokens) ≡ 0
no_front token tokens e = rw e refl

nots_by : (inner : At Clause) → Finds inner IsClause → (token : Token) (tokens : List Token) (found : Clause × List Token) → ((found : Clause × List Token) → nots_at inner tokens ≡ Some found → Cut IsNots tokens found) → (test : Bool) → is_not token ≡ test → nots_at inner (token ∷ tokens) ≡ Some found
    → Cut IsNots (token ∷ tokens) found
nots_by inner finds token tokens found less true is e =
    let h = mapped (λ found. (clause.Not found.0, found.1)) (nots_at inner tokens) found (sym (nots_step inner token tokens is) ∙ e) in
    let cut = less h.0 h.1.0 in
    subst (Cut IsNots (token ∷ tokens)) h.1.1 (record { front = token ∷ cut.front; cut = ap (λ ts. token ∷ ts) cut.cut; spelled = negated h.0.0 token cut.front is cut.spelled })
nots_by inner finds token tokens found less false is e = unit_told inner finds (token ∷ tokens) found (sym (nots_none inner (token ∷ tokens) (no_front token tokens is)) ∙ e)

nots_told : (inner : At Clause) → Finds inner IsClause → (tokens : List Token) (found : Clause × List Token) → nots_at inner tokens ≡ Some found → Cut IsNots tokens found
nots_told inner finds [] found e = absurd cc
nots_told inner finds (token ∷ tokens) found e = nots_by inner finds token tokens found (nots_told inner finds tokens) (is_not token) refl e

-- ---- levels

and_told : (inner : At Clause) → Finds inner IsClause → Finds (part_at join.And inner) (IsPart join.And)
and_told inner finds tokens found e = let cut = nots_told inner finds tokens found e in record { front = cut.front; cut = cut.cut; spelled = nots found.0 cut.front cut.spelled }

xor_told : (inner : At Clause) → Finds inner IsClause → Finds (part_at join.Xor inner) (IsPart join.Xor)
xor_told inner finds tokens found e = let cut = joined_told join.And (part_at join.And inner) (and_told inner finds) tokens found e in record { front = cut.front; cut = cut.cut; spelled = ands found.0 cut.front cut.spelled }

or_told : (inner : At Clause) → Finds inner IsClause → Finds (part_at join.Or inner) (IsPart join.Or)
or_told inner finds tokens found e = let cut = joined_told join.Xor (part_at join.Xor inner) (xor_told inner finds) tokens found e in record { front = cut.front; cut = cut.cut; spelled = xors found.0 cut.front cut.spelled }

pub part_told : (j : Join) (inner : At Clause) → Finds inner IsClause → Finds (part_at j inner) (IsPart j)
part_told join.And inner finds = and_told inner finds
part_told join.Xor inner finds = xor_told inner finds
part_told join.Or inner finds = or_told inner finds

pub clause_told : (n : ℕ) → Finds (clause_within n) IsClause
clause_told zero tokens found e = absurd cc
clause_told (suc n) tokens found e = joined_told join.Or (part_at join.Or (clause_within n)) (or_told (clause_within n) (clause_told n)) tokens found e

whole_told : (o : Option (Clause × List Token)) (c : Clause) → whole o ≡ Some c → o ≡ Some (c, [])
whole_told None c e = cc
whole_told (Some found) c e = by found.0 found.1 c e
  where
    by : (d : Clause) (rest : List Token) (c : Clause) → whole (Some (d, rest)) ≡ Some c → ◌≡◌ {A = Option (Clause × List Token)} (Some (d, rest)) (Some (c, []))
    by d [] c e = let same : d ≡ c = cc in ap (λ x. Some (x, [])) same
    by d (token ∷ rest) c e = absurd cc

pub clause_of-told : (tokens : List Token) (c : Clause) → clause_of tokens ≡ Some c → IsClause c tokens
unfolding clause_of
clause_of-told tokens c e =
    let cut = clause_told 65 tokens (c, []) (whole_told (clause_within 65 tokens) c e) in
    subst (IsClause c) (sym (cut.cut ∙ append-nil cut.front)) cut.spelled

-- two parts or more are a group
pub grouped_two : (j : Join) (first : Clause) (others : List Clause) → 2 ≤ length (first ∷ others) → grouped j first others ≡ group j (first ∷ others)
grouped_two j first [] two = absurd (omega arith)
grouped_two j first (second ∷ cs) two = refl
