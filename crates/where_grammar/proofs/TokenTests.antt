-- What the test of a token tells of it.
use Rattle.std.proofs.Common.{◌≡◌, ℕ, Bool, true, false, List, [], ◌∷◌, refl, sym, ap, ◌∙◌, inl, inr, ℤ}
use Rattle.std.specs.Prelude.{Option, Some, None, codes}
use Rattle.std.specs.Str.{bytes_eq}
use Rattle.std.proofs.lemmas.Slice.Eq.{bytes_eq-Decides}
use Rattle.fb_types.specs.Names.{column_name, keywords}
use Rattle.lexing.proofs.Cases.{mapped, chosen}
use Rattle.where_grammar.specs.declared.clause.Op.{Op}
use Rattle.where_grammar.specs.declared.token.Sign.{Sign}
use Rattle.where_grammar.specs.declared.token.Sign.TheVariants as sign
use Rattle.where_grammar.specs.declared.token.Token.{Token}
use Rattle.where_grammar.specs.declared.token.Token.TheVariants as t
use Rattle.where_grammar.specs.Nesting.{is_word, is_sign, same_sign}
use Rattle.where_grammar.specs.Grammar.{keyword, operator}
use Rattle.where_grammar.specs.Parsing.{after, name_in, number_in, op_in, op_of, taken, text_in}

pub number_told : (token : Token) (z : ℤ) → number_in token ≡ Some z → token ≡ t.Number z
number_told (t.Word word) z e = cc
number_told (t.Number x) z e = let same : x ≡ z = cc in ap t.Number same
number_told (t.Text text) z e = cc
number_told (t.Sign s) z e = cc

pub text_told : (token : Token) (text : List ℕ) → text_in token ≡ Some text → token ≡ t.Text text
text_told (t.Word word) text e = cc
text_told (t.Number x) text e = cc
text_told (t.Text x) text e = let same : x ≡ text = cc in ap t.Text same
text_told (t.Sign s) text e = cc

op_of_told : (s : Sign) (by : Op) → op_of s ≡ Some by → s ≡ sign.Op by
op_of_told (sign.Op x) by e = let same : x ≡ by = cc in ap sign.Op same
op_of_told _ by e = cc

pub op_told : (token : Token) (by : Op) → op_in token ≡ Some by → token ≡ operator by
op_told (t.Word word) by e = cc
op_told (t.Number x) by e = cc
op_told (t.Text text) by e = cc
op_told (t.Sign s) by e = ap t.Sign (op_of_told s by e)

pub record IsNamed (token : Token) (name : List ℕ) : Type 0 where
  pub word : List ℕ
  pub token_is : token ≡ t.Word word
  pub named : column_name word ≡ Some name

pub name_told : (token : Token) (name : List ℕ) → name_in token ≡ Some name → IsNamed token name
name_told (t.Word word) name e = record { word = word; token_is = refl; named = e }
name_told (t.Number x) name e = absurd cc
name_told (t.Text text) name e = absurd cc
name_told (t.Sign s) name e = absurd cc

pub word_told : (text : List ℕ) (token : Token) → is_word text token ≡ true → token ≡ keyword text
word_told text (t.Word word) e = ap t.Word ((bytes_eq-Decides word text).0 e)
word_told text (t.Number x) e = cc
word_told text (t.Text w) e = cc
word_told text (t.Sign s) e = cc

same_sign_told : (a b : Sign) → same_sign a b ≡ true → a ≡ b
same_sign_told sign.And sign.And e = refl
same_sign_told sign.Or sign.Or e = refl
same_sign_told sign.Not sign.Not e = refl
same_sign_told sign.Open sign.Open e = refl
same_sign_told sign.Close sign.Close e = refl
same_sign_told sign.Comma sign.Comma e = refl
same_sign_told sign.Star sign.Star e = refl
same_sign_told _ _ e = absurd cc

pub sign_told : (s : Sign) (token : Token) → is_sign s token ≡ true → token ≡ t.Sign s
sign_told s (t.Word word) e = cc
sign_told s (t.Number x) e = cc
sign_told s (t.Text text) e = cc
sign_told s (t.Sign other) e = ap t.Sign (sym (same_sign_told s other e))

-- ---- the token at the front

pub record IsTaken {A : Type 0} (part : Token → Option A) (tokens : List Token) (found : A × List Token) : Type 0 where
  pub token : Token
  pub cut : tokens ≡ token ∷ found.1
  pub passed : part token ≡ Some found.0

pub taken_told : {A : Type 0} (part : Token → Option A) (tokens : List Token) (found : A × List Token) → taken part tokens ≡ Some found → IsTaken part tokens found
taken_told part [] found e = absurd cc
taken_told part (token ∷ tokens) found e =
    let h = mapped (λ x. (x, tokens)) (part token) found e in
    record { token = token; cut = ap (λ f. token ∷ f.1) h.1.1; passed = h.1.0 ∙ ap (λ f. Some f.0) h.1.1 }

pub record IsPassed (test : Token → Bool) (tokens rest : List Token) : Type 0 where
  pub token : Token
  pub cut : tokens ≡ token ∷ rest
  pub passed : test token ≡ true

pub after_told : (test : Token → Bool) (tokens rest : List Token) → after test tokens ≡ Some rest → IsPassed test tokens rest
after_told test [] rest e = absurd cc
after_told test (token ∷ tokens) rest e =
    elim (chosen (test token) (Some tokens) None (Some rest) e) [
      | inl h ↦ (let same : tokens ≡ rest = cc in record { token = token; cut = ap (λ ts. token ∷ ts) same; passed = h.0 })
      | inr h ↦ absurd cc
    ]

-- ---- names are no words of the language

no_keyword : (word name text : List ℕ) → column_name word ≡ Some name → column_name text ≡ None → (test : Bool) → bytes_eq word text ≡ test → test ≡ false
no_keyword word name text named none true e =
    let same : word ≡ text = (bytes_eq-Decides word text).0 e in
    let both : ◌≡◌ {A = Option (List ℕ)} None (Some name) = sym none ∙ (ap column_name (sym same) ∙ named) in
    absurd cc
no_keyword word name text named none false e = refl

pub not_keyword : (word name text : List ℕ) → column_name word ≡ Some name → column_name text ≡ None → is_word text (t.Word word) ≡ false
not_keyword word name text named none = no_keyword word name text named none (bytes_eq word text) refl

pub exists_none : column_name (codes "exists") ≡ None
unfolding keywords
exists_none = refl

pub in_none : column_name (codes "in") ≡ None
unfolding keywords
in_none = refl

pub not_none : column_name (codes "not") ≡ None
unfolding keywords
not_none = refl

pub no_exists : (word name : List ℕ) → column_name word ≡ Some name → is_word (codes "exists") (t.Word word) ≡ false
no_exists word name named = not_keyword word name (codes "exists") named exists_none
