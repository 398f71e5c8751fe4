-- Long lists, by the tokens and by the clause.
use Rattle.std.proofs.Common.{◌≡◌, ℕ, suc, ◌||◌, Bool, true, false, cond, List, [], ◌∷◌, ◌++◌, length, map, refl, sym, ap, subst, ◌∙◌, inl, inr, append_assoc, append-nil, arith}
use Rattle.std.specs.Prelude.{Option, Some, is_some, codes, nat_le, nat_lt}
use Rattle.std.specs.List.{list_any}
use Rattle.std.proofs.lemmas.Bool.{or_cases}
use Rattle.std.proofs.lemmas.Bool.Decides.{nat_tests}
use Rattle.fb_types.specs.Names.{column_name}
use Rattle.where_grammar.specs.declared.clause.Atom.{Atom}
use Rattle.where_grammar.specs.declared.clause.Clause.{Clause}
use Rattle.where_grammar.specs.declared.clause.Join.{Join}
use Rattle.where_grammar.specs.declared.clause.Join.TheVariants as join
use Rattle.where_grammar.specs.declared.token.Placed.{Placed}
use Rattle.where_grammar.specs.declared.token.Sign.TheVariants as sign
use Rattle.where_grammar.specs.declared.token.Token.{Token}
use Rattle.where_grammar.specs.declared.token.Token.TheVariants as t
use Rattle.where_grammar.specs.Nesting.{is_close, is_not, is_sign, is_word}
use Rattle.where_grammar.specs.Grammar.{AreParts, IsAtom, IsJoined, IsNots, IsPart, alone, ands, behind_commas, between, closing, compared, condition, doubled, enclosed, exists, joins, last, like, more, negated, nots, numbers, opening, other, same, several, texts, turned_round, xors}
use Rattle.where_grammar.specs.Parsing.{bare, commas_before_close, is_long, long_behind, long_of}
use Rattle.where_grammar.specs.Printed.{has_long_list, lists_too_much}
use Rattle.where_grammar.proofs.Pieces.{lists_too_much-group, lists_too_much-not, lists_too_much-one}
use Rattle.where_grammar.proofs.TokenTests.{in_none, not_keyword, sign_told, word_told}

-- some list of the tokens is long
abbrev pub has_long : List Token → Bool
has_long [] = false
has_long (token ∷ tokens) = is_long token tokens || has_long tokens

or_assoc : (x y z : Bool) → (x || (y || z)) ≡ ((x || y) || z)
or_assoc true y z = refl
or_assoc false y z = refl

-- a token that isn't the word `in`
not_in : (token : Token) (tokens : List Token) → is_word (codes "in") token ≡ false → has_long (token ∷ tokens) ≡ has_long tokens
not_in token tokens e = rw e refl

joint_not_in : (j : Join) (token : Token) → joins j token ≡ true → is_word (codes "in") token ≡ false
joint_not_in join.Or token e =
    elim (or_cases (is_word (codes "or") token) (is_sign sign.Or token) e) [
      | inl h ↦ subst (λ x. is_word (codes "in") x ≡ false) (sym (word_told (codes "or") token h)) refl
      | inr h ↦ subst (λ x. is_word (codes "in") x ≡ false) (sym (sign_told sign.Or token h)) refl
    ]
joint_not_in join.Xor token e = subst (λ x. is_word (codes "in") x ≡ false) (sym (word_told (codes "xor") token e)) refl
joint_not_in join.And token e =
    elim (or_cases (is_word (codes "and") token) (is_sign sign.And token) e) [
      | inl h ↦ subst (λ x. is_word (codes "in") x ≡ false) (sym (word_told (codes "and") token h)) refl
      | inr h ↦ subst (λ x. is_word (codes "in") x ≡ false) (sym (sign_told sign.And token h)) refl
    ]

not_not_in : (token : Token) → is_not token ≡ true → is_word (codes "in") token ≡ false
not_not_in token e =
    elim (or_cases (is_word (codes "not") token) (is_sign sign.Not token) e) [
      | inl h ↦ subst (λ x. is_word (codes "in") x ≡ false) (sym (word_told (codes "not") token h)) refl
      | inr h ↦ subst (λ x. is_word (codes "in") x ≡ false) (sym (sign_told sign.Not token h)) refl
    ]

name_not_in : (word name : List ℕ) → column_name word ≡ Some name → is_word (codes "in") (t.Word word) ≡ false
name_not_in word name named = not_keyword word name (codes "in") named in_none

-- ---- lists

items_long : {A : Type 0} (make : A → Token) → ((x : A) → is_word (codes "in") (make x) ≡ false) → (xs : List A) (rest : List Token) → has_long (behind_commas (map make xs) ++ rest) ≡ has_long rest
items_long make plain [] rest = refl
items_long make plain (x ∷ xs) rest = not_in (make x) (behind_commas (map make xs) ++ rest) (plain x) ∙ items_long make plain xs rest

items_commas : {A : Type 0} (make : A → Token) → ((x : A) → is_close (make x) ≡ false) → ((x : A) → is_sign sign.Comma (make x) ≡ false) → (xs : List A) (rest : List Token) → commas_before_close (behind_commas (map make xs) ++ (closing ∷ rest)) ≡ length xs
items_commas make no_close no_comma [] rest = refl
items_commas make no_close no_comma (x ∷ xs) rest =
    let a : is_close (make x) ≡ false = no_close x in
    let b : is_sign sign.Comma (make x) ≡ false = no_comma x in
    let more : commas_before_close (behind_commas (map make xs) ++ (closing ∷ rest)) ≡ length xs = items_commas make no_close no_comma xs rest in
    rw (a, b, more) refl

many : (n : ℕ) → nat_le 4096 n ≡ nat_lt 4096 (suc n)
many n = grind (arith, nat_tests)

list_long : {A : Type 0} (make : A → Token) → ((x : A) → is_word (codes "in") (make x) ≡ false) → ((x : A) → is_close (make x) ≡ false) → ((x : A) → is_sign sign.Comma (make x) ≡ false) → (word name : List ℕ) (first : A) (xs : List A) (rest : List Token) → column_name word ≡ Some name
    → has_long (t.Word word ∷ t.Word (codes "in") ∷ opening ∷ make first ∷ ((behind_commas (map make xs) ++ closing ∷ []) ++ rest)) ≡ (nat_lt 4096 (length (first ∷ xs)) || has_long rest)
list_long make plain no_close no_comma word name first xs rest named =
    let items = behind_commas (map make xs) in
    let cut : (items ++ closing ∷ []) ++ rest ≡ items ++ (closing ∷ rest) = append_assoc items (closing ∷ []) rest in
    let a : is_close (make first) ≡ false = no_close first in
    let b : is_sign sign.Comma (make first) ≡ false = no_comma first in
    let w : is_word (codes "in") (make first) ≡ false = plain first in
    let commas : commas_before_close (items ++ (closing ∷ rest)) ≡ length xs = items_commas make no_close no_comma xs rest in
    let inside : has_long (items ++ (closing ∷ rest)) ≡ has_long rest = items_long make plain xs (closing ∷ rest) in
    let n : nat_le 4096 (length xs) ≡ nat_lt 4096 (length (first ∷ xs)) = many (length xs) in
    let tail = t.Word (codes "in") ∷ opening ∷ make first ∷ ((items ++ closing ∷ []) ++ rest) in
    let listed : has_long tail ≡ (nat_lt 4096 (length (first ∷ xs)) || has_long rest) = rw (cut, a, b, w, commas, inside, n) refl in
    not_in (t.Word word) tail (name_not_in word name named) ∙ listed

scan_atom : (a : Atom) (tokens : List Token) → IsAtom a tokens → (rest : List Token) → has_long (tokens ++ rest) ≡ (has_long_list a || has_long rest)
scan_atom _ _ (compared word name by value named) rest = rw (name_not_in word name named) refl
scan_atom _ _ (turned_round word name by value named) rest = rw (name_not_in word name named) refl
scan_atom _ _ (doubled word name left right low high named) rest = rw (name_not_in word name named) refl
scan_atom _ _ (between word name low high named) rest = rw (name_not_in word name named) refl
scan_atom _ _ (numbers word name first xs named) rest = list_long t.Number (λ x. refl) (λ x. refl) (λ x. refl) word name first xs rest named
scan_atom _ _ (same word name text named) rest = rw (name_not_in word name named) refl
scan_atom _ _ (other word name text named) rest = rw (name_not_in word name named) refl
scan_atom _ _ (texts word name first xs named) rest = list_long t.Text (λ x. refl) (λ x. refl) (λ x. refl) word name first xs rest named
scan_atom _ _ (like word name pattern named) rest = rw (name_not_in word name named) refl
scan_atom _ _ (exists word name named) rest = rw (name_not_in word name named) refl

-- ---- clauses

mutual
  pub scan_joined : (j : Join) (c : Clause) (tokens : List Token) → IsJoined j c tokens → (rest : List Token) → has_long (tokens ++ rest) ≡ (lists_too_much c || has_long rest)
  scan_joined _ _ _ (alone j c tokens is) rest = scan_part j c tokens is rest
  scan_joined _ _ _ (several j cs tokens two are) rest = scan_parts j cs tokens are rest ∙ ap (λ b. b || has_long rest) (sym (lists_too_much-group j cs))

  scan_parts : (j : Join) (cs : List Clause) (tokens : List Token) → AreParts j cs tokens → (rest : List Token) → has_long (tokens ++ rest) ≡ (list_any lists_too_much cs || has_long rest)
  scan_parts _ _ _ (last j c tokens is) rest = scan_part j c tokens is rest ∙ or_assoc (lists_too_much c) false (has_long rest)
  scan_parts _ _ _ (more j c cs front token back is joint are) rest =
      let cut : (front ++ (token ∷ back)) ++ rest ≡ front ++ (token ∷ (back ++ rest)) = append_assoc front (token ∷ back) rest in
      ap has_long cut ∙ (scan_part j c front is (token ∷ (back ++ rest)) ∙ (ap (λ b. lists_too_much c || b) (not_in token (back ++ rest) (joint_not_in j token joint) ∙ scan_parts j cs back are rest)
      ∙ or_assoc (lists_too_much c) (list_any lists_too_much cs) (has_long rest)))

  scan_part : (j : Join) (c : Clause) (tokens : List Token) → IsPart j c tokens → (rest : List Token) → has_long (tokens ++ rest) ≡ (lists_too_much c || has_long rest)
  scan_part _ _ _ (xors c tokens is) rest = scan_joined join.Xor c tokens is rest
  scan_part _ _ _ (ands c tokens is) rest = scan_joined join.And c tokens is rest
  scan_part _ _ _ (nots c tokens is) rest = scan_nots c tokens is rest

  scan_nots : (c : Clause) (tokens : List Token) → IsNots c tokens → (rest : List Token) → has_long (tokens ++ rest) ≡ (lists_too_much c || has_long rest)
  scan_nots _ _ (negated c token tokens e is) rest = not_in token (tokens ++ rest) (not_not_in token e) ∙ (scan_nots c tokens is rest ∙ ap (λ b. b || has_long rest) (sym (lists_too_much-not c)))
  scan_nots _ _ (enclosed c tokens is) rest =
      let cut : (tokens ++ closing ∷ []) ++ rest ≡ tokens ++ (closing ∷ rest) = append_assoc tokens (closing ∷ []) rest in
      ap has_long cut ∙ scan_joined join.Or c tokens is (closing ∷ rest)
  scan_nots _ _ (condition a tokens is) rest = scan_atom a tokens is rest ∙ ap (λ b. b || has_long rest) (sym (lists_too_much-one a))

-- the first token is no `in`
record Fronts (tokens : List Token) : Type 0 where
  first : Token
  others : List Token
  cons : tokens ≡ first ∷ others
  plain : is_word (codes "in") first ≡ false

named_front : (word name : List ℕ) (others : List Token) → column_name word ≡ Some name → Fronts (t.Word word ∷ others)
named_front word name others named = record { first = t.Word word; others = others; cons = refl; plain = name_not_in word name named }

front_atom : (a : Atom) (tokens : List Token) → IsAtom a tokens → Fronts tokens
front_atom _ _ (compared word name by value named) = named_front word name _ named
front_atom _ _ (turned_round word name by value named) = record { first = _; others = _; cons = refl; plain = refl }
front_atom _ _ (doubled word name left right low high named) = record { first = _; others = _; cons = refl; plain = refl }
front_atom _ _ (between word name low high named) = named_front word name _ named
front_atom _ _ (numbers word name first xs named) = named_front word name _ named
front_atom _ _ (same word name text named) = named_front word name _ named
front_atom _ _ (other word name text named) = named_front word name _ named
front_atom _ _ (texts word name first xs named) = named_front word name _ named
front_atom _ _ (like word name pattern named) = named_front word name _ named
front_atom _ _ (exists word name named) = record { first = _; others = _; cons = refl; plain = refl }

front_append : (front back : List Token) → Fronts front → Fronts (front ++ back)
front_append front back f = record { first = f.first; others = f.others ++ back; cons = ap (λ ts. ts ++ back) f.cons; plain = f.plain }

mutual
  front_joined : (j : Join) (c : Clause) (tokens : List Token) → IsJoined j c tokens → Fronts tokens
  front_joined _ _ _ (alone j c tokens is) = front_part j c tokens is
  front_joined _ _ _ (several j cs tokens two are) = front_parts j cs tokens are

  front_parts : (j : Join) (cs : List Clause) (tokens : List Token) → AreParts j cs tokens → Fronts tokens
  front_parts _ _ _ (last j c tokens is) = front_part j c tokens is
  front_parts _ _ _ (more j c cs front token back is joint are) = front_append front (token ∷ back) (front_part j c front is)

  front_part : (j : Join) (c : Clause) (tokens : List Token) → IsPart j c tokens → Fronts tokens
  front_part _ _ _ (xors c tokens is) = front_joined join.Xor c tokens is
  front_part _ _ _ (ands c tokens is) = front_joined join.And c tokens is
  front_part _ _ _ (nots c tokens is) = front_nots c tokens is

  front_nots : (c : Clause) (tokens : List Token) → IsNots c tokens → Fronts tokens
  front_nots _ _ (negated c token tokens e is) = record { first = token; others = tokens; cons = refl; plain = not_not_in token e }
  front_nots _ _ (enclosed c tokens is) = record { first = opening; others = _; cons = refl; plain = refl }
  front_nots _ _ (condition a tokens is) = front_atom a tokens is

-- ---- places

behind_by : (name : Placed) (test : Bool) (o : Option ℕ) (b : Bool) → is_some o ≡ b → is_some (cond test (Some name.at) o) ≡ (test || b)
behind_by name true o b e = refl
behind_by name false o b e = e

long_behind_is : (name : Placed) (ps : List Placed) → is_some (long_behind name ps) ≡ has_long (bare ps)
long_behind_is name [] = refl
long_behind_is name (p ∷ ps) = behind_by name (is_long p.token (bare ps)) (long_behind p ps) (has_long (bare ps)) (long_behind_is p ps)

long_is : (ps : List Placed) → Fronts (bare ps) → is_some (long_of ps) ≡ has_long (bare ps)
long_is [] f = absurd (no_cons f.first f.others f.cons)
  where
    no_cons : (a : Token) (bs : List Token) → [] ≡ a ∷ bs → ⊥
    no_cons a bs e = cc
long_is (p ∷ ps) f =
    let same : f.first ≡ p.token = first_is p.token (bare ps) f.first f.others f.cons in
    let plain : is_word (codes "in") p.token ≡ false = ap (is_word (codes "in")) (sym same) ∙ f.plain in
    long_behind_is p ps ∙ sym (not_in p.token (bare ps) plain)
  where
    first_is : (a : Token) (xs : List Token) (b : Token) (bs : List Token) → a ∷ xs ≡ b ∷ bs → b ≡ a
    first_is a xs b bs e = cc

pub long_clause : (c : Clause) (ps : List Placed) → IsJoined join.Or c (bare ps) → is_some (long_of ps) ≡ lists_too_much c
long_clause c ps is = long_is ps (front_joined join.Or c (bare ps) is) ∙ (ap has_long (sym (append-nil (bare ps))) ∙ (scan_joined join.Or c (bare ps) is [] ∙ or_false (lists_too_much c)))
  where
    or_false : (b : Bool) → (b || false) ≡ b
    or_false true = refl
    or_false false = refl
