-- What the bytes of a sign are.
use Rattle.std.proofs.Common.{◌≡◌, ℕ, Bool, true, false, cond, refl, sym, subst, inl, inr, eqb, eqb-true}
use Rattle.std.specs.Prelude.{Option, Some, None, ◌&&◌}
use Rattle.std.specs.Char.{is_ascii_digit}
use Rattle.where_grammar.specs.declared.clause.Op.TheVariants as op
use Rattle.where_grammar.specs.declared.token.Sign.{Sign}
use Rattle.where_grammar.specs.declared.token.Sign.TheVariants as sign
use Rattle.lexing.specs.Blanks.{is_blank}
use Rattle.where_grammar.specs.Tokens.{is_quote, begins_word, double_sign, single_sign}
use Rattle.lexing.proofs.Cases.{chosen}
use Rattle.std.proofs.lemmas.Bool.{and_parts}

step : (P : Sign → Type 0) (test : Bool) (here : Sign) (others : Option Sign) (s : Sign) → cond test (Some here) others ≡ Some s → (test ≡ true → P here) → (others ≡ Some s → P s) → P s
step P test here others s e this more =
    elim (chosen test (Some here) others (Some s) e) [
      | inl h ↦ (let same : here ≡ s = cc in subst P same (this h.0))
      | inr h ↦ more h.1
    ]

no_sign : (P : Sign → Type 0) (s : Sign) → ◌≡◌ {A = Option Sign} None (Some s) → P s
no_sign P s e = absurd cc

-- a table of signs, entry by entry
by_single : (P : Sign → Type 0) (b : ℕ) (s : Sign) → single_sign b ≡ Some s
    → (eqb b 60 ≡ true → P (sign.Op op.Less)) → (eqb b 62 ≡ true → P (sign.Op op.Greater)) → (eqb b 61 ≡ true → P (sign.Op op.Equal)) → (eqb b 33 ≡ true → P sign.Not)
    → (eqb b 40 ≡ true → P sign.Open) → (eqb b 41 ≡ true → P sign.Close) → (eqb b 44 ≡ true → P sign.Comma) → (eqb b 42 ≡ true → P sign.Star) → P s
by_single P b s e less greater equal inverse opens closes comma star =
    step P (eqb b 60) (sign.Op op.Less) _ s e less (λ e1.
    step P (eqb b 62) (sign.Op op.Greater) _ s e1 greater (λ e2.
    step P (eqb b 61) (sign.Op op.Equal) _ s e2 equal (λ e3.
    step P (eqb b 33) sign.Not _ s e3 inverse (λ e4.
    step P (eqb b 40) sign.Open _ s e4 opens (λ e5.
    step P (eqb b 41) sign.Close _ s e5 closes (λ e6.
    step P (eqb b 44) sign.Comma _ s e6 comma (λ e7.
    step P (eqb b 42) sign.Star _ s e7 star (no_sign P s))))))))

by_double : (P : Sign → Type 0) (a b : ℕ) (s : Sign) → double_sign a b ≡ Some s
    → (eqb a 60 ≡ true → P (sign.Op op.LessEq)) → (eqb a 62 ≡ true → P (sign.Op op.GreaterEq)) → (eqb a 61 ≡ true → P (sign.Op op.Equal)) → (eqb a 33 ≡ true → P (sign.Op op.Differs))
    → (eqb a 60 ≡ true → P (sign.Op op.Differs)) → (eqb a 38 ≡ true → P sign.And) → (eqb a 124 ≡ true → P sign.Or) → P s
by_double P a b s e less greater equal differs other and_sign or_sign =
    step P (eqb a 60 && eqb b 61) (sign.Op op.LessEq) _ s e (λ h. less (and_parts _ _ h).0) (λ e1.
    step P (eqb a 62 && eqb b 61) (sign.Op op.GreaterEq) _ s e1 (λ h. greater (and_parts _ _ h).0) (λ e2.
    step P (eqb a 61 && eqb b 61) (sign.Op op.Equal) _ s e2 (λ h. equal (and_parts _ _ h).0) (λ e3.
    step P (eqb a 33 && eqb b 61) (sign.Op op.Differs) _ s e3 (λ h. differs (and_parts _ _ h).0) (λ e4.
    step P (eqb a 60 && eqb b 62) (sign.Op op.Differs) _ s e4 (λ h. other (and_parts _ _ h).0) (λ e5.
    step P (eqb a 38 && eqb b 38) sign.And _ s e5 (λ h. and_sign (and_parts _ _ h).0) (λ e6.
    step P (eqb a 124 && eqb b 124) sign.Or _ s e6 (λ h. or_sign (and_parts _ _ h).0) (no_sign P s)))))))

-- ---- no other token begins with the first byte of a sign

pub record BeginsSign (b : ℕ) : Type 0 where
  pub visible : is_blank b ≡ false
  pub no_minus : eqb b 45 ≡ false
  pub no_plus : eqb b 43 ≡ false
  pub no_digit : is_ascii_digit b ≡ false
  pub no_word : begins_word b ≡ false
  pub no_quote : is_quote b ≡ false

here : (b n : ℕ) → BeginsSign n → eqb b n ≡ true → BeginsSign b
here b n begins same = subst BeginsSign (sym (eqb-true b n same)) begins

pub single_begins : (b : ℕ) (s : Sign) → single_sign b ≡ Some s → BeginsSign b
single_begins b s e =
    by_single (λ found. BeginsSign b) b s e
    (here b 60 (record { visible = refl; no_minus = refl; no_plus = refl; no_digit = refl; no_word = refl; no_quote = refl }))
    (here b 62 (record { visible = refl; no_minus = refl; no_plus = refl; no_digit = refl; no_word = refl; no_quote = refl }))
    (here b 61 (record { visible = refl; no_minus = refl; no_plus = refl; no_digit = refl; no_word = refl; no_quote = refl }))
    (here b 33 (record { visible = refl; no_minus = refl; no_plus = refl; no_digit = refl; no_word = refl; no_quote = refl }))
    (here b 40 (record { visible = refl; no_minus = refl; no_plus = refl; no_digit = refl; no_word = refl; no_quote = refl }))
    (here b 41 (record { visible = refl; no_minus = refl; no_plus = refl; no_digit = refl; no_word = refl; no_quote = refl }))
    (here b 44 (record { visible = refl; no_minus = refl; no_plus = refl; no_digit = refl; no_word = refl; no_quote = refl }))
    (here b 42 (record { visible = refl; no_minus = refl; no_plus = refl; no_digit = refl; no_word = refl; no_quote = refl }))

pub double_begins : (a b : ℕ) (s : Sign) → double_sign a b ≡ Some s → BeginsSign a
double_begins a b s e =
    by_double (λ found. BeginsSign a) a b s e
    (here a 60 (record { visible = refl; no_minus = refl; no_plus = refl; no_digit = refl; no_word = refl; no_quote = refl }))
    (here a 62 (record { visible = refl; no_minus = refl; no_plus = refl; no_digit = refl; no_word = refl; no_quote = refl }))
    (here a 61 (record { visible = refl; no_minus = refl; no_plus = refl; no_digit = refl; no_word = refl; no_quote = refl }))
    (here a 33 (record { visible = refl; no_minus = refl; no_plus = refl; no_digit = refl; no_word = refl; no_quote = refl }))
    (here a 60 (record { visible = refl; no_minus = refl; no_plus = refl; no_digit = refl; no_word = refl; no_quote = refl }))
    (here a 38 (record { visible = refl; no_minus = refl; no_plus = refl; no_digit = refl; no_word = refl; no_quote = refl }))
    (here a 124 (record { visible = refl; no_minus = refl; no_plus = refl; no_digit = refl; no_word = refl; no_quote = refl }))
