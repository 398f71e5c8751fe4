-- The tokens and the clause of a text, or the first refusal.
use Rattle.std.proofs.Common.{◌≡◌, ℕ, ◌≤◌, ◌<◌, Bool, true, false, cond, List, length, refl, sym, ap, subst, ◌∙◌, inl, inr, arith}
use Rattle.std.specs.Prelude.{Result, Ok, Err, IfOk, IfErr, nat_lt}
use Rattle.std.proofs.lemmas.Bool.Decides.{nat_tests}
use Rattle.lexing.proofs.Cases.{chosen}
use Rattle.where_grammar.specs.declared.clause.QueryKind.{QueryKind}
use Rattle.where_grammar.specs.declared.clause.QueryKind.TheVariants as kind
use Rattle.where_grammar.specs.declared.clause.ClauseFault.{ClauseFault}
use Rattle.where_grammar.specs.declared.clause.ClauseFault.TheVariants as fault
use Rattle.where_grammar.specs.declared.token.Placed.{Placed}
use Rattle.where_grammar.specs.Tokens.{tokens_of}
use Rattle.where_grammar.specs.Nesting.{is_deep}
use Rattle.where_grammar.specs.Parsing.{bare}
use Rattle.answers.specs.Answers.{Answers, Tells}
use Rattle.where_grammar.specs.Language.{HasTokens, NoTokens, too_long, stopped, too_deep, read_tokens, shallow_or_refused, refusal}
use Rattle.where_grammar.proofs.TokenLaws.{tokens_of-spelled, spelled-tokens_of, tokens_of-stopped, stopped-tokens_of}

-- an answer is the same as an equal one
pub along : {A : Type 0} (r : Result A ClauseFault) (x y : Result A QueryKind) → Answers refusal r x → x ≡ y → Answers refusal r y
along (Ok v) x y gives e = sym e ∙ gives
along (Err fault.OutOfMemory) x y gives e = gives
along (Err (fault.Bad k)) x y gives e = sym e ∙ gives

short_or_long : (text : List ℕ) (long : Bool) → nat_lt 1048576 (length text) ≡ long → cond long (1048576 < length text) (length text ≤ 1048576)
short_or_long text true e = grind (arith, nat_tests)
short_or_long text false e = grind (arith, nat_tests)

pub not_long : (text : List ℕ) → length text ≤ 1048576 → nat_lt 1048576 (length text) ≡ false
not_long text few = grind (arith, nat_tests)

is_long : (text : List ℕ) → 1048576 < length text → nat_lt 1048576 (length text) ≡ true
is_long text many = grind (arith, nat_tests)

-- ---- what the function gives

shallow_found : (r : Result (List Placed) QueryKind) (tokens : List Placed) → shallow_or_refused r ≡ Ok tokens → (r ≡ Ok tokens) × (is_deep (bare tokens) ≡ false)
shallow_found (Ok found) tokens e =
    elim (chosen (is_deep (bare found)) (Err kind.Depth) (Ok found) (Ok tokens) e) [
      | inl h ↦ absurd cc
      | inr h ↦ (let same : found ≡ tokens = cc in (h.1, subst (λ ts. is_deep (bare ts) ≡ false) same h.0))
    ]
shallow_found (Err k) tokens e = absurd cc

pub read_found : (text : List ℕ) (tokens : List Placed) → read_tokens text ≡ Ok tokens → HasTokens text tokens
unfolding read_tokens
read_found text tokens e =
    elim (chosen (nat_lt 1048576 (length text)) (Err kind.Length) (shallow_or_refused (tokens_of text)) (Ok tokens) e) [
      | inl h ↦ absurd cc
      | inr h ↦ (
          let told = shallow_found (tokens_of text) tokens h.1 in
          record { fits = short_or_long text false h.0; spelled = tokens_of-spelled text tokens told.0; shallow = told.1 })
    ]

shallow_refused : (text : List ℕ) (r : Result (List Placed) QueryKind) (k : QueryKind) → length text ≤ 1048576 → tokens_of text ≡ r → shallow_or_refused r ≡ Err k → NoTokens text k
shallow_refused text (Ok found) k few is e =
    elim (chosen (is_deep (bare found)) (Err kind.Depth) (Ok found) (Err k) e) [
      | inl h ↦ (let same : kind.Depth ≡ k = cc in subst (NoTokens text) same (too_deep found few (tokens_of-spelled text found is) h.0))
      | inr h ↦ absurd cc
    ]
shallow_refused text (Err other) k few is e =
    let same : other ≡ k = cc in
    subst (NoTokens text) same (stopped other few (tokens_of-stopped text other is))

pub read_refused : (text : List ℕ) (k : QueryKind) → read_tokens text ≡ Err k → NoTokens text k
unfolding read_tokens
read_refused text k e =
    elim (chosen (nat_lt 1048576 (length text)) (Err kind.Length) (shallow_or_refused (tokens_of text)) (Err k) e) [
      | inl h ↦ (let same : kind.Length ≡ k = cc in subst (NoTokens text) same (too_long (short_or_long text true h.0)))
      | inr h ↦ shallow_refused text (tokens_of text) k (short_or_long text false h.0) refl h.1
    ]

-- ---- and the other way

pub has_tokens : (text : List ℕ) (tokens : List Placed) → HasTokens text tokens → read_tokens text ≡ Ok tokens
unfolding read_tokens
has_tokens text tokens has =
    let few : nat_lt 1048576 (length text) ≡ false = not_long text has.fits in
    let found : tokens_of text ≡ Ok tokens = spelled-tokens_of text tokens has.spelled in
    let shallow : is_deep (bare tokens) ≡ false = has.shallow in
    rw few (ap shallow_or_refused found ∙ rw shallow refl)

stopped_read : (text : List ℕ) (k : QueryKind) → length text ≤ 1048576 → tokens_of text ≡ Err k → read_tokens text ≡ Err k
unfolding read_tokens
stopped_read text k few e = let short : nat_lt 1048576 (length text) ≡ false = not_long text few in rw (short, e) refl

deep_read : (text : List ℕ) (tokens : List Placed) → length text ≤ 1048576 → tokens_of text ≡ Ok tokens → is_deep (bare tokens) ≡ true → read_tokens text ≡ Err kind.Depth
unfolding read_tokens
deep_read text tokens few e deep = let short : nat_lt 1048576 (length text) ≡ false = not_long text few in rw short (ap shallow_or_refused e ∙ rw deep refl)

long_read : (text : List ℕ) → 1048576 < length text → read_tokens text ≡ Err kind.Length
unfolding read_tokens
long_read text many = let long : nat_lt 1048576 (length text) ≡ true = is_long text many in rw long refl

pub no_tokens : (text : List ℕ) (k : QueryKind) → NoTokens text k → read_tokens text ≡ Err k
no_tokens text _ (too_long many) = long_read text many
no_tokens text _ (stopped k few stops) = stopped_read text k few (stopped-tokens_of text k stops)
no_tokens text _ (too_deep tokens few spelled deep) = deep_read text tokens few (spelled-tokens_of text tokens spelled) deep

-- ---- answers of calls

pub gives_tokens : (text : List ℕ) (r : Result (List Placed) ClauseFault) → Answers refusal r (read_tokens text) → IfOk r (HasTokens text)
gives_tokens text (Ok tokens) gives = read_found text tokens gives
gives_tokens text (Err e) gives = tt

pub gives_refused : (text : List ℕ) (r : Result (List Placed) ClauseFault) → Answers refusal r (read_tokens text) → IfErr r (Tells refusal (NoTokens text))
gives_refused text (Ok tokens) gives = tt
gives_refused text (Err fault.OutOfMemory) gives = tt
gives_refused text (Err (fault.Bad k)) gives = read_refused text k gives
