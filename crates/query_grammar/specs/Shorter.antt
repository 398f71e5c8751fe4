-- An item has at least one token.
use Rattle.std.proofs.Common.{◌≡◌, ℕ, ◌<◌, ◌≤◌, Bool, true, false, cond, List, [], ◌∷◌, length, refl, sym, ap, ◌∙◌, inl, inr, arith}
use Rattle.std.specs.Prelude.{Option, Some, None, codes}
use Rattle.std.specs.Option.{option_map, option_and_then}
use Rattle.lexing.proofs.Cases.{chosen, mapped, chained}
use Rattle.where_grammar.specs.declared.token.Sign.TheVariants as sign
use Rattle.where_grammar.specs.declared.token.Token.{Token}
use Rattle.where_grammar.specs.Nesting.{is_close, is_open, is_sign, is_word}
use Rattle.where_grammar.specs.Parsing.{At, after, name_in, taken}
use Rattle.where_grammar.proofs.TokenTests.{after_told, taken_told}
use Rattle.query_grammar.specs.declared.query.Item.{Item}
use Rattle.query_grammar.specs.declared.query.Item.TheVariants as item
use Rattle.query_grammar.specs.declared.query.OrderItem.{OrderItem}
use Rattle.query_grammar.specs.Grammar.{ordered_by}
use Rattle.query_grammar.specs.Reading.{called_at, counted_at, directed, item_at, item_from, name_called, order_item_at, plain_item}

-- what is read leaves less
abbrev pub Shrinks : {A : Type 0} → At A → Type 0
Shrinks {A} part = (tokens : List Token) (found : A × List Token) → part tokens ≡ Some found → length found.1 < length tokens

pub after-shorter : (test : Token → Bool) (tokens rest : List Token) → after test tokens ≡ Some rest → length rest < length tokens
after-shorter test tokens rest e =
    let h = after_told test tokens rest e in
    let same : length tokens ≡ length (h.token ∷ rest) = ap length h.cut in
    omega arith

taken-shorter : {A : Type 0} (part : Token → Option A) (tokens : List Token) (found : A × List Token) → taken part tokens ≡ Some found → length found.1 < length tokens
taken-shorter part tokens found e =
    let h = taken_told part tokens found e in
    let same : length tokens ≡ length (h.token ∷ found.1) = ap length h.cut in
    omega arith

name_called-shorter : Shrinks name_called
unfolding name_called
name_called-shorter tokens found e =
    let open_ = chained _ (after is_open tokens) found e in
    let name = chained _ (taken name_in open_.0) found open_.1.1 in
    let shut = mapped (λ end. (name.0.0, end)) (after is_close name.0.1) found name.1.1 in
    let a = after-shorter is_open tokens open_.0 open_.1.0 in
    let b = taken-shorter name_in open_.0 name.0 name.1.0 in
    let c = after-shorter is_close name.0.1 shut.0 shut.1.0 in
    let same : length shut.0 ≡ length found.1 = ap (λ f. length f.1) shut.1.1 in
    omega arith

counted_at-shorter : Shrinks counted_at
unfolding counted_at
counted_at-shorter tokens found e =
    let open_ = chained _ (after is_open tokens) found e in
    let star = chained _ (after (is_sign sign.Star) open_.0) found open_.1.1 in
    let shut = mapped (λ end. (item.CountAll, end)) (after is_close star.0) found star.1.1 in
    let a = after-shorter is_open tokens open_.0 open_.1.0 in
    let b = after-shorter (is_sign sign.Star) open_.0 star.0 star.1.0 in
    let c = after-shorter is_close star.0 shut.0 shut.1.0 in
    let same : length shut.0 ≡ length found.1 = ap (λ f. length f.1) shut.1.1 in
    omega arith

called_at-shorter : (make : List ℕ → Item) → Shrinks (called_at make)
called_at-shorter make tokens found e =
    let h = mapped (λ f. (make f.0, f.1)) (name_called tokens) found e in
    let less = name_called-shorter tokens h.0 h.1.0 in
    let same : length h.0.1 ≡ length found.1 = ap (λ f. length f.1) h.1.1 in
    omega arith

plain_item-rest : (token : Token) (tokens : List Token) (found : Item × List Token) → plain_item token tokens ≡ Some found → length found.1 ≤ length tokens
plain_item-rest token tokens found e =
    let h = mapped (λ name. (item.Plain name, tokens)) (name_in token) found e in
    let same : length tokens ≡ length found.1 = ap (λ f. length f.1) h.1.1 in
    omega arith

item_from-rest : (token : Token) (tokens : List Token) (found : Item × List Token) → item_from token tokens ≡ Some found → length found.1 ≤ length tokens
item_from-rest token tokens found e =
    let plain : Option (Item × List Token) = plain_item token tokens in
    let sum : Option (Item × List Token) = cond (is_word (codes "sum") token) (called_at item.Sum tokens) plain in
    let max : Option (Item × List Token) = cond (is_word (codes "max") token) (called_at item.Greatest tokens) sum in
    let min : Option (Item × List Token) = cond (is_word (codes "min") token) (called_at item.Least tokens) max in
    elim (chosen (is_word (codes "count") token) (counted_at tokens) min (Some found) e) [
      | inl h ↦ (let s = counted_at-shorter tokens found h.1 in omega arith)
      | inr h ↦ elim (chosen (is_word (codes "min") token) (called_at item.Least tokens) max (Some found) h.1) [
        | inl g ↦ (let s = called_at-shorter item.Least tokens found g.1 in omega arith)
        | inr g ↦ elim (chosen (is_word (codes "max") token) (called_at item.Greatest tokens) sum (Some found) g.1) [
          | inl f ↦ (let s = called_at-shorter item.Greatest tokens found f.1 in omega arith)
          | inr f ↦ elim (chosen (is_word (codes "sum") token) (called_at item.Sum tokens) plain (Some found) f.1) [
            | inl k ↦ (let s = called_at-shorter item.Sum tokens found k.1 in omega arith)
            | inr k ↦ plain_item-rest token tokens found k.1
          ]
        ]
      ]
    ]

pub item_at-shorter : Shrinks item_at
item_at-shorter [] found e = absurd cc
item_at-shorter (token ∷ tokens) found e = let less = item_from-rest token tokens found e in omega arith

directed-rest : (i : Item) (tokens : List Token) → length (directed i tokens).1 ≤ length tokens
directed-rest i [] = omega arith
directed-rest i (token ∷ tokens) = by (is_word (codes "asc") token) (is_word (codes "desc") token)
  where
    by : (asc desc : Bool) → length (cond {A = OrderItem × List Token} asc (ordered_by i false, tokens) (cond desc (ordered_by i true, tokens) (ordered_by i false, token ∷ tokens))).1 ≤ length (token ∷ tokens)
    by true desc = omega arith
    by false true = omega arith
    by false false = omega arith

pub order_item_at-shorter : Shrinks order_item_at
order_item_at-shorter tokens found e =
    let h = mapped (λ f. directed f.0 f.1) (item_at tokens) found e in
    let less = item_at-shorter tokens h.0 h.1.0 in
    let rest = directed-rest h.0.0 h.0.1 in
    let same : length (directed h.0.0 h.0.1).1 ≡ length found.1 = ap (λ f. length f.1) h.1.1 in
    omega arith
