-- Written tokens are read as themselves.
use Rattle.std.proofs.Common.{◌≡◌, ℕ, suc, ◌-◌, ◌||◌, Bool, true, false, cond, List, [], ◌∷◌, ◌++◌, length, refl, sym, ap, subst, ◌∙◌, inl, inr, ◌⊎◌, arith, ℤ, pos, negsuc}
use Rattle.std.specs.Prelude.{Some, None, codes}
use Rattle.std.specs.List.{list_all, list_any}
use Rattle.std.specs.Fmt.{decimal, signed_decimal}
use Rattle.std.specs.Str.{str_to_ascii_lowercase}
use Rattle.std.proofs.lemmas.Int.{ints}
use Rattle.std.proofs.lemmas.Bool.Decides.{nat_tests}
use Rattle.fb_types.specs.Field.{whole_of}
use Rattle.lexing.specs.Blanks.{StopsAt, is_blank}
use Rattle.lexing.specs.Tokens as lexing
use Rattle.std.proofs.lemmas.Bool.{and_parts}
use Rattle.where_grammar.specs.declared.clause.Op.{Op}
use Rattle.where_grammar.specs.declared.clause.Op.TheVariants as op
use Rattle.where_grammar.specs.declared.clause.QueryKind.TheVariants as kind
use Rattle.where_grammar.specs.declared.token.Placed.{Placed}
use Rattle.where_grammar.specs.declared.token.Sign.{Sign}
use Rattle.where_grammar.specs.declared.token.Sign.TheVariants as sign
use Rattle.where_grammar.specs.declared.token.Token.{Token}
use Rattle.where_grammar.specs.declared.token.Token.TheVariants as t
use Rattle.where_grammar.specs.Nesting.{is_close, is_open, is_sign}
use Rattle.where_grammar.specs.Parsing.{bare}
use Rattle.where_grammar.specs.Printed.{is_fit, is_long_text, is_tight, op_text, sign_text, token_text, written}
use Rattle.where_grammar.specs.Tokens.{IsInFront, IsToken, IsWritten, IsWrong, excess, fits_128, goes_on, is_word, sign_of}
use Rattle.lexing.proofs.DigitLemmas.{natural_of-decimal}
use Rattle.where_grammar.proofs.Cuts.{whole_of-minus, whole_of-plain}
use Rattle.where_grammar.proofs.Reread.{token_reads}
use Rattle.where_grammar.proofs.TokenTests.{sign_told}

-- ---- the text of a token is its form

-- words are written as they are read
abbrev pub IsPlain : Token → Type 0
IsPlain (t.Word word) = (is_word word ≡ true) × (str_to_ascii_lowercase word ≡ word)
IsPlain (t.Number z) = fits_128 z ≡ true
IsPlain (t.Text text) = Unit {0}
IsPlain (t.Sign s) = Unit {0}

number_written : (z : ℤ) → fits_128 z ≡ true → whole_of (signed_decimal z) ≡ Some z
number_written (pos n) fits = whole_of-plain (decimal n) n (natural_of-decimal n (grind (arith, nat_tests, ints)))
number_written (negsuc n) fits = whole_of-minus (decimal (suc n)) (suc n) (natural_of-decimal (suc n) (grind (arith, nat_tests, ints)))

op_written : (by : Op) → sign_of (op_text by) ≡ Some (sign.Op by)
op_written op.Less = refl
op_written op.LessEq = refl
op_written op.Greater = refl
op_written op.GreaterEq = refl
op_written op.Equal = refl
op_written op.Differs = refl

sign_written : (s : Sign) → sign_of (sign_text s) ≡ Some s
sign_written (sign.Op by) = op_written by
sign_written sign.And = refl
sign_written sign.Or = refl
sign_written sign.Not = refl
sign_written sign.Open = refl
sign_written sign.Close = refl
sign_written sign.Comma = refl
sign_written sign.Star = refl

token_written : (token : Token) → IsPlain token → IsWritten (token_text token) token
token_written (t.Word word) plain = (plain.0, sym plain.1)
token_written (t.Number z) plain = number_written z plain
token_written (t.Text text) plain = record { quote = 34; is_one = refl; cut = refl }
token_written (t.Sign s) plain = sign_written s

-- ---- where it ends

-- nothing follows, or a blank, `)` or `,`
abbrev Stops : List ℕ → Type 0
Stops [] = Unit {0}
Stops (b ∷ bs) = (b ≡ 32) ⊎ ((b ≡ 41) ⊎ (b ≡ 44))

-- these bytes go on with no token
abbrev Parts : Token → ℕ → Type 0
Parts token b = goes_on (token_text token) token b ≡ false

by_stop : (token : Token) → Parts token 32 → Parts token 41 → Parts token 44 → (rest : List ℕ) → Stops rest → StopsAt (goes_on (token_text token) token) rest
by_stop token blank closes commas [] stops = tt
by_stop token blank closes commas (b ∷ bs) stops = elim stops [
  | inl is ↦ subst (Parts token) (sym is) blank
  | inr other ↦ elim other [
    | inl is ↦ subst (Parts token) (sym is) closes
    | inr is ↦ subst (Parts token) (sym is) commas
  ]
]

op_stops : (by : Op) (rest : List ℕ) → Stops rest → StopsAt (goes_on (op_text by) (t.Sign (sign.Op by))) rest
op_stops op.Less rest stops = by_stop (t.Sign (sign.Op op.Less)) refl refl refl rest stops
op_stops op.LessEq rest stops = by_stop (t.Sign (sign.Op op.LessEq)) refl refl refl rest stops
op_stops op.Greater rest stops = by_stop (t.Sign (sign.Op op.Greater)) refl refl refl rest stops
op_stops op.GreaterEq rest stops = by_stop (t.Sign (sign.Op op.GreaterEq)) refl refl refl rest stops
op_stops op.Equal rest stops = by_stop (t.Sign (sign.Op op.Equal)) refl refl refl rest stops
op_stops op.Differs rest stops = by_stop (t.Sign (sign.Op op.Differs)) refl refl refl rest stops

-- behind `(` anything may follow
open_stops : (rest : List ℕ) → StopsAt (goes_on (codes "(") (t.Sign sign.Open)) rest
open_stops [] = tt
open_stops (b ∷ bs) = refl

sign_stops : (s : Sign) (rest : List ℕ) → Stops rest → StopsAt (goes_on (sign_text s) (t.Sign s)) rest
sign_stops (sign.Op by) rest stops = op_stops by rest stops
sign_stops sign.And rest stops = by_stop (t.Sign sign.And) refl refl refl rest stops
sign_stops sign.Or rest stops = by_stop (t.Sign sign.Or) refl refl refl rest stops
sign_stops sign.Not rest stops = by_stop (t.Sign sign.Not) refl refl refl rest stops
sign_stops sign.Open rest stops = open_stops rest
sign_stops sign.Close rest stops = by_stop (t.Sign sign.Close) refl refl refl rest stops
sign_stops sign.Comma rest stops = by_stop (t.Sign sign.Comma) refl refl refl rest stops
sign_stops sign.Star rest stops = by_stop (t.Sign sign.Star) refl refl refl rest stops

token_stops : (token : Token) (rest : List ℕ) → Stops rest → StopsAt (goes_on (token_text token) token) rest
token_stops (t.Word word) rest stops = by_stop (t.Word word) refl refl refl rest stops
token_stops (t.Number z) rest stops = by_stop (t.Number z) refl refl refl rest stops
token_stops (t.Text text) rest stops = by_stop (t.Text text) refl refl refl rest stops
token_stops (t.Sign s) rest stops = sign_stops s rest stops

tight_starts : (token : Token) (rest : List ℕ) → is_tight token ≡ true → Stops (token_text token ++ rest)
tight_starts token rest e =
    elim (or_cases (is_close token) (is_sign sign.Comma token) e) [
      | inl h ↦ subst (λ x. Stops (token_text x ++ rest)) (sym (sign_told sign.Close token h)) (inr (inl refl))
      | inr h ↦ subst (λ x. Stops (token_text x ++ rest)) (sym (sign_told sign.Comma token h)) (inr (inr refl))
    ]
  where
    or_cases : (x y : Bool) → (x || y) ≡ true → (x ≡ true) ⊎ (y ≡ true)
    or_cases true y e = inl refl
    or_cases false y e = inr e

next_stops : (token : Token) (rest : List ℕ) (tight : Bool) → is_tight token ≡ tight → Stops (cond tight [] (32 ∷ []) ++ (token_text token ++ rest))
next_stops token rest true e = tight_starts token rest e
next_stops token rest false e = inl refl

written_stops : (tokens : List Token) → Stops (written false tokens)
written_stops [] = tt
written_stops (token ∷ tokens) = next_stops token (written (is_open token) tokens) (is_tight token) refl

-- what follows a written token ends it
ends_by : (token : Token) (tokens : List Token) (opens : Bool) → is_open token ≡ opens → StopsAt (goes_on (token_text token) token) (written opens tokens)
ends_by token tokens true e = subst (λ x. StopsAt (goes_on (token_text x) x) (written true tokens)) (sym (sign_told sign.Open token e)) (open_stops (written true tokens))
ends_by token tokens false e = token_stops token (written false tokens) (written_stops tokens)

pub in_front : (token : Token) (tokens : List Token) → IsPlain token → IsInFront (token_text token ++ written (is_open token) tokens) token (written (is_open token) tokens)
in_front token tokens plain = record { form = token_text token; cut = refl; written = token_written token plain; ends = ends_by token tokens (is_open token) refl }

-- ---- the tokens of the text

-- a token at this place, of any size
pub record IsLoose (at : ℕ) (text : List ℕ) (placed : Placed) (rest : List ℕ) : Type 0 where
  pub place : placed.at ≡ at
  pub front : IsInFront text placed.token rest

abbrev pub AllPlain : List Token → Type 0
AllPlain [] = Unit {0}
AllPlain (token ∷ tokens) = IsPlain token × AllPlain tokens

blanks_blank : (none : Bool) → list_all is_blank (cond none [] (32 ∷ [])) ≡ true
blanks_blank true = refl
blanks_blank false = refl

pub record AreSpelled (size : ℕ) (text : List ℕ) (tokens : List Token) : Type 0 where
  pub placed : List Placed
  pub same : bare placed ≡ tokens
  pub spelled : lexing.Spells IsLoose size text placed

pub written_spelled : (size : ℕ) (starts : Bool) (tokens : List Token) → AllPlain tokens → AreSpelled size (written starts tokens) tokens
written_spelled size starts [] plain = record { placed = []; same = refl; spelled = refl }
written_spelled size starts (token ∷ tokens) plain =
    let rest = written (is_open token) tokens in
    let behind = token_text token ++ rest in
    let blanks : List ℕ = cond (starts || is_tight token) [] (32 ∷ []) in
    let others = written_spelled size (is_open token) tokens plain.1 in
    let p : Placed = record { at = size - length behind; token = token } in
    let here : IsLoose (size - length behind) behind p rest = record { place = refl; front = in_front token tokens plain.0 } in
    let begins : lexing.BeginsWith IsLoose size (blanks ++ behind) p rest = record { blanks = blanks; behind = behind; cut = refl; all_blank = blanks_blank (starts || is_tight token); here = here } in
    record { placed = p ∷ others.placed; same = ap (λ ts. token ∷ ts) others.same; spelled = (rest, (begins, others.spelled)) }

-- a token that fits is within the limits, or its text is too long
fit_excess : (token : Token) → is_fit token ≡ true → is_long_text token ≡ false → excess token ≡ None
fit_excess (t.Word word) fit short = refl
fit_excess (t.Number z) fit short = rw fit refl
fit_excess (t.Text text) fit short = rw short refl
fit_excess (t.Sign s) fit short = refl

long_excess : (token : Token) → is_long_text token ≡ true → excess token ≡ Some kind.TextLength
long_excess (t.Word word) long = cc
long_excess (t.Number z) long = cc
long_excess (t.Text text) long = rw long refl
long_excess (t.Sign s) long = cc

token_here : (size : ℕ) (text : List ℕ) (p : Placed) (rest : List ℕ) → excess p.token ≡ None → lexing.BeginsWith IsLoose size text p rest → lexing.BeginsWith IsToken size text p rest
token_here size text p rest within b = record { blanks = b.blanks; behind = b.behind; cut = b.cut; all_blank = b.all_blank; here = record { place = b.here.place; front = b.here.front; within = within } }

neither : (x y : Bool) → (x || y) ≡ false → (x ≡ false) × (y ≡ false)
neither true y e = absurd cc
neither false y e = (refl, e)

pub within_spelled : (size : ℕ) (text : List ℕ) (ps : List Placed) → list_all is_fit (bare ps) ≡ true → list_any is_long_text (bare ps) ≡ false → lexing.Spells IsLoose size text ps → lexing.Spells IsToken size text ps
within_spelled size text [] fit short spells = spells
within_spelled size text (p ∷ ps) fit short spells =
    let f = and_parts (is_fit p.token) (list_all is_fit (bare ps)) fit in
    let s = neither (is_long_text p.token) (list_any is_long_text (bare ps)) short in
    (spells.0, (token_here size text p spells.0 (fit_excess p.token f.0 s.0) spells.1.0, within_spelled size spells.0 ps f.1 s.1 spells.1.1))

long_here : (size : ℕ) (text : List ℕ) (p : Placed) (rest : List ℕ) → is_long_text p.token ≡ true → lexing.BeginsWith IsLoose size text p rest → lexing.StopsWith IsToken IsWrong size text kind.TextLength
long_here size text p rest long b =
    let front = b.here.front in
    let reads = token_reads p.token front.form rest front.written front.ends in
    let cons : b.behind ≡ reads.first ∷ reads.others = front.cut ∙ reads.cons in
    let is : IsInFront (reads.first ∷ reads.others) p.token rest = subst (λ xs. IsInFront xs p.token rest) cons front in
    record {
      tokens = [];
      more = text;
      front = refl;
      blanks = b.blanks;
      first = reads.first;
      others = reads.others;
      cut = b.cut ∙ ap (λ xs. b.blanks ++ xs) cons;
      all_blank = b.all_blank;
      visible = reads.visible;
      wrong = record { token = p.token; rest = rest; front = is; passed = long_excess p.token long };
    }

behind_token : (size : ℕ) (text : List ℕ) (p : Placed) (rest : List ℕ) → lexing.BeginsWith IsToken size text p rest → lexing.StopsWith IsToken IsWrong size rest kind.TextLength → lexing.StopsWith IsToken IsWrong size text kind.TextLength
behind_token size text p rest begins stops =
    record { tokens = p ∷ stops.tokens; more = stops.more; front = (rest, (begins, stops.front)); blanks = stops.blanks; first = stops.first; others = stops.others; cut = stops.cut; all_blank = stops.all_blank; visible = stops.visible; wrong = stops.wrong }

stop_by : (size : ℕ) (text : List ℕ) (p : Placed) (ps : List Placed) (rest : List ℕ) (long : Bool) → is_long_text p.token ≡ long → is_fit p.token ≡ true → (long || list_any is_long_text (bare ps)) ≡ true → lexing.BeginsWith IsLoose size text p rest
    → (list_any is_long_text (bare ps) ≡ true → lexing.StopsWith IsToken IsWrong size rest kind.TextLength) → lexing.StopsWith IsToken IsWrong size text kind.TextLength
stop_by size text p ps rest true is fit any begins more = long_here size text p rest is begins
stop_by size text p ps rest false is fit any begins more = behind_token size text p rest (token_here size text p rest (fit_excess p.token fit is) begins) (more any)

pub long_stops : (size : ℕ) (text : List ℕ) (ps : List Placed) → list_all is_fit (bare ps) ≡ true → list_any is_long_text (bare ps) ≡ true → lexing.Spells IsLoose size text ps → lexing.StopsWith IsToken IsWrong size text kind.TextLength
long_stops size text [] fit long spells = absurd cc
long_stops size text (p ∷ ps) fit long spells =
    let f = and_parts (is_fit p.token) (list_all is_fit (bare ps)) fit in
    stop_by size text p ps spells.0 (is_long_text p.token) refl f.0 long spells.1.0 (λ any. long_stops size spells.0 ps f.1 any spells.1.1)
