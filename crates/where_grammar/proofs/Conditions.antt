-- Conditions, by the grammar and by the function.
use Rattle.std.proofs.Common.{◌≡◌, ℕ, zero, suc, ◌≤◌, cond, List, [], ◌∷◌, ◌++◌, length, map, refl, sym, ap, subst, ◌∙◌, inl, inr, append_assoc, arith, ℤ}
use Rattle.std.specs.Prelude.{Option, Some, None, codes}
use Rattle.std.specs.Option.{option_map, option_and_then}
use Rattle.fb_types.specs.Names.{column_name}
use Rattle.lexing.proofs.Cases.{chosen, mapped, chained}
use Rattle.where_grammar.specs.declared.clause.Op.{Op}
use Rattle.where_grammar.specs.declared.clause.Op.TheVariants as op
use Rattle.where_grammar.specs.declared.clause.Atom.{Atom}
use Rattle.where_grammar.specs.declared.clause.Atom.TheVariants as atom
use Rattle.where_grammar.specs.declared.token.Sign.TheVariants as sign
use Rattle.where_grammar.specs.declared.token.Token.{Token}
use Rattle.where_grammar.specs.declared.token.Token.TheVariants as t
use Rattle.where_grammar.specs.Nesting.{is_close, is_open, is_sign, is_word}
use Rattle.where_grammar.specs.Grammar.{IsAtom, behind_commas, closing, comma, compared, turned_round, doubled, between, numbers, same, other, texts, like, exists, keyword, opening, operator, turned}
use Rattle.where_grammar.specs.Parsing.{after, atom_at, atom_from, between_at, compared_at, compared_token, doubled_by, exists_at, items_at, items_from, items_within, like_at, list_at, list_begun, list_from, name_begun, name_in, named_at, named_by, number_in, numbered_at, op_in, taken, text_compared, text_in, turned_at, worded}
use Rattle.where_grammar.proofs.TokenTests.{after_told, name_told, no_exists, number_told, op_told, sign_told, taken_told, text_told, word_told}

-- ---- what the function finds is a condition

-- tokens that complete a condition whose front has been read
pub record Completes (front tokens : List Token) (found : Atom × List Token) : Type 0 where
  pub middle : List Token
  pub cut : tokens ≡ middle ++ found.1
  pub spelled : IsAtom found.0 (front ++ middle)

-- one token of the front less
step : (front : List Token) (token : Token) (tokens rest : List Token) (found : Atom × List Token) → tokens ≡ token ∷ rest → Completes (front ++ (token ∷ [])) rest found → Completes front tokens found
step front token tokens rest found e is =
    record { middle = token ∷ is.middle; cut = e ∙ ap (λ ts. token ∷ ts) is.cut; spelled = subst (IsAtom found.0) (append_assoc front (token ∷ []) is.middle) is.spelled }

done : (front : List Token) (found : Atom × List Token) → IsAtom found.0 (front ++ []) → Completes front found.1 found
done front found is = record { middle = []; cut = refl; spelled = is }

text_compared_told : (word name : List ℕ) (by : Op) (text : List ℕ) (a : Atom) → column_name word ≡ Some name → text_compared name by text ≡ Some a → IsAtom a (t.Word word ∷ operator by ∷ t.Text text ∷ [])
text_compared_told word name op.Equal text a named e = let is : atom.Same name text ≡ a = cc in subst (λ x. IsAtom x (t.Word word ∷ operator op.Equal ∷ t.Text text ∷ [])) is (same word name text named)
text_compared_told word name op.Differs text a named e = let is : atom.Other name text ≡ a = cc in subst (λ x. IsAtom x (t.Word word ∷ operator op.Differs ∷ t.Text text ∷ [])) is (other word name text named)
text_compared_told word name _ text a named e = absurd cc

compared_token_told : (word name : List ℕ) (by : Op) (token : Token) (a : Atom) → column_name word ≡ Some name → compared_token name by token ≡ Some a → IsAtom a (t.Word word ∷ operator by ∷ token ∷ [])
compared_token_told word name by (t.Word w) a named e = absurd cc
compared_token_told word name by (t.Number value) a named e = let is : atom.Compare name by value ≡ a = cc in subst (λ x. IsAtom x (t.Word word ∷ operator by ∷ t.Number value ∷ [])) is (compared word name by value named)
compared_token_told word name by (t.Text text) a named e = text_compared_told word name by text a named e
compared_token_told word name by (t.Sign s) a named e = absurd cc

compared_told : (word name : List ℕ) (by : Op) (tokens : List Token) (found : Atom × List Token) → column_name word ≡ Some name → compared_at name by tokens ≡ Some found → Completes (t.Word word ∷ operator by ∷ []) tokens found
compared_told word name by tokens found named e =
    let h = taken_told (compared_token name by) tokens found e in
    step (t.Word word ∷ operator by ∷ []) h.token tokens found.1 found h.cut (done (t.Word word ∷ operator by ∷ h.token ∷ []) found (compared_token_told word name by h.token found.0 named h.passed))

-- a number at the front
number_first : (front tokens rest : List Token) (z : ℤ) (found : Atom × List Token) → taken number_in tokens ≡ Some (z, rest) → Completes (front ++ (t.Number z ∷ [])) rest found → Completes front tokens found
number_first front tokens rest z found e is =
    let h = taken_told number_in tokens (z, rest) e in
    step front (t.Number z) tokens rest found (h.cut ∙ ap (λ x. x ∷ rest) (number_told h.token z h.passed)) is

word_first : (text : List ℕ) (front tokens rest : List Token) (found : Atom × List Token) → after (is_word text) tokens ≡ Some rest → Completes (front ++ (keyword text ∷ [])) rest found → Completes front tokens found
word_first text front tokens rest found e is =
    let h = after_told (is_word text) tokens rest e in
    step front (keyword text) tokens rest found (h.cut ∙ ap (λ x. x ∷ rest) (word_told text h.token h.passed)) is

between_told : (word name : List ℕ) (tokens : List Token) (found : Atom × List Token) → column_name word ≡ Some name → between_at name tokens ≡ Some found → Completes (t.Word word ∷ keyword (codes "between") ∷ []) tokens found
unfolding between_at
between_told word name tokens found named e =
    let low = chained _ (taken number_in tokens) found e in
    let conj = chained _ (after (is_word (codes "and")) low.0.1) found low.1.1 in
    let high = mapped (λ f. (atom.Between name low.0.0 f.0, f.1)) (taken number_in conj.0) found conj.1.1 in
    let front = t.Word word ∷ keyword (codes "between") ∷ [] in
    let is : Completes (front ++ (t.Number low.0.0 ∷ keyword (codes "and") ∷ t.Number high.0.0 ∷ [])) high.0.1 (atom.Between name low.0.0 high.0.0, high.0.1) = done _ _ (between word name low.0.0 high.0.0 named) in
    subst (Completes front tokens) high.1.1
    (number_first front tokens low.0.1 low.0.0 _ low.1.0
    (word_first (codes "and") (front ++ (t.Number low.0.0 ∷ [])) low.0.1 conj.0 _ conj.1.0
    (number_first (front ++ (t.Number low.0.0 ∷ keyword (codes "and") ∷ [])) conj.0 high.0.1 high.0.0 _ high.1.0 is)))

-- what stands behind a comma
abbrev behind_comma : {A : Type 0} → (Token → Option A) → ℕ → List Token → Option (List A × List Token)
behind_comma part n tokens = option_and_then (λ item. option_map (λ more. (item.0 ∷ more.0, more.1)) (items_within part n item.1)) (taken part tokens)

-- items behind commas, and the `)`
items_told : {A : Type 0} (part : Token → Option A) (make : A → Token) → ((token : Token) (x : A) → part token ≡ Some x → token ≡ make x) → (n : ℕ) (tokens : List Token) (found : List A × List Token)
    → items_within part n tokens ≡ Some found → tokens ≡ behind_commas (map make found.0) ++ (closing ∷ found.1)
items_told part make told n [] found e = absurd cc
items_told part make told zero (token ∷ tokens) found e = absurd cc
items_told part make told (suc n) (token ∷ tokens) found e =
    elim (chosen (is_close token) (Some ([], tokens)) (cond (is_sign sign.Comma token) (behind_comma part n tokens) None) (Some found) e) [
      | inl h ↦ (let is : ([], tokens) ≡ found = cc in ap (λ x. x ∷ tokens) (sign_told sign.Close token h.0) ∙ ap (λ f. behind_commas (map make f.0) ++ (closing ∷ f.1)) is)
      | inr h ↦ elim (chosen (is_sign sign.Comma token) (behind_comma part n tokens) None (Some found) h.1) [
        | inl g ↦ (
            let item = chained (λ item. option_map (λ more. (item.0 ∷ more.0, more.1)) (items_within part n item.1)) (taken part tokens) found g.1 in
            let others = mapped (λ more. (item.0.0 ∷ more.0, more.1)) (items_within part n item.0.1) found item.1.1 in
            let first = taken_told part tokens item.0 item.1.0 in
            let rest = items_told part make told n item.0.1 others.0 others.1.0 in
            ap (λ x. x ∷ tokens) (sign_told sign.Comma token g.0) ∙ (ap (λ ts. comma ∷ ts) (first.cut ∙ (ap (λ x. x ∷ item.0.1) (told first.token item.0.0 first.passed) ∙ ap (λ ts. make item.0.0 ∷ ts) rest))
            ∙ ap (λ f. behind_commas (map make f.0) ++ (closing ∷ f.1)) others.1.1))
        | inr g ↦ absurd cc
      ]
    ]

closed : (front items tokens rest : List Token) (a : Atom) → tokens ≡ items ++ (closing ∷ rest) → IsAtom a (front ++ (items ++ closing ∷ [])) → Completes front tokens (a, rest)
closed front items tokens rest a e is = record { middle = items ++ (closing ∷ []); cut = e ∙ sym (append_assoc items (closing ∷ []) rest); spelled = is }

list_from_told : (word name : List ℕ) (first : Token) (tokens : List Token) (found : Atom × List Token) → column_name word ≡ Some name → list_from name first tokens ≡ Some found → Completes (t.Word word ∷ keyword (codes "in") ∷ opening ∷ first ∷ []) tokens found
list_from_told word name (t.Word w) tokens found named e = absurd cc
list_from_told word name (t.Number first) tokens found named e =
    let h = mapped (λ list. (atom.Numbers name list.0, list.1)) (items_from number_in (t.Number first ∷ tokens)) found e in
    let g = mapped (λ more. (first ∷ more.0, more.1)) (items_at number_in tokens) h.0 h.1.0 in
    let cut = items_told number_in t.Number number_told (length tokens) tokens g.0 g.1.0 in
    let front = t.Word word ∷ keyword (codes "in") ∷ opening ∷ t.Number first ∷ [] in
    let is : Completes front tokens (atom.Numbers name (first ∷ g.0.0), g.0.1) = closed front (behind_commas (map t.Number g.0.0)) tokens g.0.1 (atom.Numbers name (first ∷ g.0.0)) cut (numbers word name first g.0.0 named) in
    subst (Completes front tokens) (ap (λ list. (atom.Numbers name list.0, list.1)) g.1.1 ∙ h.1.1) is
list_from_told word name (t.Text first) tokens found named e =
    let h = mapped (λ list. (atom.Texts name list.0, list.1)) (items_from text_in (t.Text first ∷ tokens)) found e in
    let g = mapped (λ more. (first ∷ more.0, more.1)) (items_at text_in tokens) h.0 h.1.0 in
    let cut = items_told text_in t.Text text_told (length tokens) tokens g.0 g.1.0 in
    let front = t.Word word ∷ keyword (codes "in") ∷ opening ∷ t.Text first ∷ [] in
    let is : Completes front tokens (atom.Texts name (first ∷ g.0.0), g.0.1) = closed front (behind_commas (map t.Text g.0.0)) tokens g.0.1 (atom.Texts name (first ∷ g.0.0)) cut (texts word name first g.0.0 named) in
    subst (Completes front tokens) (ap (λ list. (atom.Texts name list.0, list.1)) g.1.1 ∙ h.1.1) is
list_from_told word name (t.Sign s) tokens found named e = absurd cc

list_begun_told : (word name : List ℕ) (tokens : List Token) (found : Atom × List Token) → column_name word ≡ Some name → list_begun name tokens ≡ Some found → Completes (t.Word word ∷ keyword (codes "in") ∷ opening ∷ []) tokens found
list_begun_told word name [] found named e = absurd cc
list_begun_told word name (first ∷ tokens) found named e = step (t.Word word ∷ keyword (codes "in") ∷ opening ∷ []) first (first ∷ tokens) tokens found refl (list_from_told word name first tokens found named e)

open_first : (front tokens rest : List Token) (found : Atom × List Token) → after is_open tokens ≡ Some rest → Completes (front ++ (opening ∷ [])) rest found → Completes front tokens found
open_first front tokens rest found e is =
    let h = after_told is_open tokens rest e in
    step front opening tokens rest found (h.cut ∙ ap (λ x. x ∷ rest) (sign_told sign.Open h.token h.passed)) is

list_told : (word name : List ℕ) (tokens : List Token) (found : Atom × List Token) → column_name word ≡ Some name → list_at name tokens ≡ Some found → Completes (t.Word word ∷ keyword (codes "in") ∷ []) tokens found
list_told word name tokens found named e =
    let h = chained (list_begun name) (after is_open tokens) found e in
    open_first (t.Word word ∷ keyword (codes "in") ∷ []) tokens h.0 found h.1.0 (list_begun_told word name h.0 found named h.1.1)

like_told : (word name : List ℕ) (tokens : List Token) (found : Atom × List Token) → column_name word ≡ Some name → like_at name tokens ≡ Some found → Completes (t.Word word ∷ keyword (codes "like") ∷ []) tokens found
like_told word name tokens found named e =
    let h = mapped (λ text. (atom.Like name text.0, text.1)) (taken text_in tokens) found e in
    let text = taken_told text_in tokens h.0 h.1.0 in
    let front = t.Word word ∷ keyword (codes "like") ∷ [] in
    subst (Completes front tokens) h.1.1
    (step front (t.Text h.0.0) tokens h.0.1 (atom.Like name h.0.0, h.0.1) (text.cut ∙ ap (λ x. x ∷ h.0.1) (text_told text.token h.0.0 text.passed)) (done _ _ (like word name h.0.0 named)))

worded_told : (word name : List ℕ) (token : Token) (tokens : List Token) (found : Atom × List Token) → column_name word ≡ Some name → worded name token tokens ≡ Some found → Completes (t.Word word ∷ token ∷ []) tokens found
worded_told word name token tokens found named e =
    let likes = cond (is_word (codes "like") token) (like_at name tokens) None in
    elim (chosen (is_word (codes "between") token) (between_at name tokens) (cond (is_word (codes "in") token) (list_at name tokens) likes) (Some found) e) [
      | inl h ↦ subst (λ x. Completes (t.Word word ∷ x ∷ []) tokens found) (sym (word_told (codes "between") token h.0)) (between_told word name tokens found named h.1)
      | inr h ↦ elim (chosen (is_word (codes "in") token) (list_at name tokens) likes (Some found) h.1) [
        | inl g ↦ subst (λ x. Completes (t.Word word ∷ x ∷ []) tokens found) (sym (word_told (codes "in") token g.0)) (list_told word name tokens found named g.1)
        | inr g ↦ elim (chosen (is_word (codes "like") token) (like_at name tokens) None (Some found) g.1) [
          | inl f ↦ subst (λ x. Completes (t.Word word ∷ x ∷ []) tokens found) (sym (word_told (codes "like") token f.0)) (like_told word name tokens found named f.1)
          | inr f ↦ absurd cc
        ]
      ]
    ]

named_by_told : (word name : List ℕ) (o : Option Op) (token : Token) (tokens : List Token) (found : Atom × List Token) → column_name word ≡ Some name → op_in token ≡ o → named_by name o token tokens ≡ Some found → Completes (t.Word word ∷ token ∷ []) tokens found
named_by_told word name (Some by) token tokens found named is e = subst (λ x. Completes (t.Word word ∷ x ∷ []) tokens found) (sym (op_told token by is)) (compared_told word name by tokens found named e)
named_by_told word name None token tokens found named is e = worded_told word name token tokens found named e

named_told : (word name : List ℕ) (tokens : List Token) (found : Atom × List Token) → column_name word ≡ Some name → named_at name tokens ≡ Some found → Completes (t.Word word ∷ []) tokens found
named_told word name [] found named e = absurd cc
named_told word name (token ∷ tokens) found named e = step (t.Word word ∷ []) token (token ∷ tokens) tokens found refl (named_by_told word name (op_in token) token tokens found named refl e)

doubled_told : (low : ℤ) (left : Op) (word name : List ℕ) (o : Option (Op × List Token)) (tokens : List Token) (found : Atom × List Token) → column_name word ≡ Some name → taken op_in tokens ≡ o → doubled_by low left name o tokens ≡ Some found
    → Completes (t.Number low ∷ operator left ∷ t.Word word ∷ []) tokens found
doubled_told low left word name None tokens found named is e =
    let same : (atom.Compare name (turned left) low, tokens) ≡ found = cc in
    subst (Completes (t.Number low ∷ operator left ∷ t.Word word ∷ []) tokens) same (done _ (atom.Compare name (turned left) low, tokens) (turned_round word name left low named))
doubled_told low left word name (Some right) tokens found named is e =
    let h = mapped (λ high. (atom.Double name (turned left) low right.0 high.0, high.1)) (taken number_in right.1) found e in
    let sign = taken_told op_in tokens right is in
    let front = t.Number low ∷ operator left ∷ t.Word word ∷ [] in
    subst (Completes front tokens) h.1.1
    (step front (operator right.0) tokens right.1 _ (sign.cut ∙ ap (λ x. x ∷ right.1) (op_told sign.token right.0 sign.passed))
    (number_first (front ++ (operator right.0 ∷ [])) right.1 h.0.1 h.0.0 _ h.1.0 (done _ (atom.Double name (turned left) low right.0 h.0.0, h.0.1) (doubled word name left right.0 low h.0.0 named))))

numbered_told : (low : ℤ) (tokens : List Token) (found : Atom × List Token) → numbered_at low tokens ≡ Some found → Completes (t.Number low ∷ []) tokens found
numbered_told low tokens found e =
    let left = chained (λ left. turned_at low left.0 left.1) (taken op_in tokens) found e in
    let sign = taken_told op_in tokens left.0 left.1.0 in
    let name = chained (λ name. doubled_by low left.0.0 name.0 (taken op_in name.1) name.1) (taken name_in left.0.1) found left.1.1 in
    let token = taken_told name_in left.0.1 name.0 name.1.0 in
    let named = name_told token.token name.0.0 token.passed in
    step (t.Number low ∷ []) (operator left.0.0) tokens left.0.1 found (sign.cut ∙ ap (λ x. x ∷ left.0.1) (op_told sign.token left.0.0 sign.passed))
    (step (t.Number low ∷ operator left.0.0 ∷ []) (t.Word named.word) left.0.1 name.0.1 found (token.cut ∙ ap (λ x. x ∷ name.0.1) named.token_is)
    (doubled_told low left.0.0 named.word name.0.0 (taken op_in name.0.1) name.0.1 found named.named refl name.1.1))

exists_told : (tokens : List Token) (found : Atom × List Token) → exists_at tokens ≡ Some found → Completes (keyword (codes "exists") ∷ []) tokens found
unfolding exists_at
exists_told tokens found e =
    let opens = chained _ (after is_open tokens) found e in
    let name = chained _ (taken name_in opens.0) found opens.1.1 in
    let closes = mapped (λ end. (atom.Exists name.0.0, end)) (after is_close name.0.1) found name.1.1 in
    let token = taken_told name_in opens.0 name.0 name.1.0 in
    let named = name_told token.token name.0.0 token.passed in
    let shut = after_told is_close name.0.1 closes.0 closes.1.0 in
    let front = keyword (codes "exists") ∷ [] in
    subst (Completes front tokens) closes.1.1
    (open_first front tokens opens.0 _ opens.1.0
    (step (front ++ (opening ∷ [])) (t.Word named.word) opens.0 name.0.1 _ (token.cut ∙ ap (λ x. x ∷ name.0.1) named.token_is)
    (step (front ++ (opening ∷ t.Word named.word ∷ [])) closing name.0.1 closes.0 (atom.Exists name.0.0, closes.0) (shut.cut ∙ ap (λ x. x ∷ closes.0) (sign_told sign.Close shut.token shut.passed))
    (done _ (atom.Exists name.0.0, closes.0) (exists named.word name.0.0 named.named)))))

name_begun_told : (word : List ℕ) (o : Option (List ℕ)) (tokens : List Token) (found : Atom × List Token) → column_name word ≡ o → name_begun o tokens ≡ Some found → Completes (t.Word word ∷ []) tokens found
name_begun_told word None tokens found is e = absurd cc
name_begun_told word (Some name) tokens found is e = named_told word name tokens found is e

pub atom_from_told : (token : Token) (tokens : List Token) (found : Atom × List Token) → atom_from token tokens ≡ Some found → Completes (token ∷ []) tokens found
atom_from_told (t.Word word) tokens found e =
    elim (chosen (is_word (codes "exists") (t.Word word)) (exists_at tokens) (name_begun (column_name word) tokens) (Some found) e) [
      | inl h ↦ subst (λ x. Completes (x ∷ []) tokens found) (sym (word_told (codes "exists") (t.Word word) h.0)) (exists_told tokens found h.1)
      | inr h ↦ name_begun_told word (column_name word) tokens found refl h.1
    ]
atom_from_told (t.Number low) tokens found e = numbered_told low tokens found e
atom_from_told (t.Text text) tokens found e = absurd cc
atom_from_told (t.Sign s) tokens found e = absurd cc

-- ---- and each condition is found

-- what the items are read from has at most n tokens
items_again : {A : Type 0} (part : Token → Option A) (make : A → Token) → ((x : A) → part (make x) ≡ Some x) → (n : ℕ) (xs : List A) (rest : List Token) → length (behind_commas (map make xs) ++ (closing ∷ rest)) ≤ n
    → items_within part n (behind_commas (map make xs) ++ (closing ∷ rest)) ≡ Some (xs, rest)
items_again part make again zero [] rest few = absurd (omega arith)
items_again part make again (suc n) [] rest few = refl
items_again part make again zero (x ∷ xs) rest few = absurd (omega arith)
items_again part make again (suc n) (x ∷ xs) rest few =
    let found : part (make x) ≡ Some x = again x in
    let more : items_within part n (behind_commas (map make xs) ++ (closing ∷ rest)) ≡ Some (xs, rest) = items_again part make again n xs rest (omega arith) in
    rw (found, more) refl

-- no operator stands behind
abbrev pub NoOp : List Token → Type 0
NoOp rest = taken op_in rest ≡ None

pub atom_again : (a : Atom) (tokens : List Token) → IsAtom a tokens → (rest : List Token) → NoOp rest → atom_at (tokens ++ rest) ≡ Some (a, rest)
unfolding between_at exists_at
atom_again _ _ (compared word name by value named) rest none = rw (no_exists word name named, named) refl
atom_again _ _ (turned_round word name by value named) rest none = rw (named, none) refl
atom_again _ _ (doubled word name left right low high named) rest none = rw named refl
atom_again _ _ (between word name low high named) rest none = rw (no_exists word name named, named) refl
atom_again _ _ (numbers word name first more named) rest none =
    let items = behind_commas (map t.Number more) in
    let cut : (items ++ (closing ∷ [])) ++ rest ≡ items ++ (closing ∷ rest) = append_assoc items (closing ∷ []) rest in
    let found : items_at number_in (items ++ (closing ∷ rest)) ≡ Some (more, rest) = items_again number_in t.Number (λ x. refl) (length (items ++ (closing ∷ rest))) more rest (omega arith) in
    rw (no_exists word name named, named, cut, found) refl
atom_again _ _ (same word name text named) rest none = rw (no_exists word name named, named) refl
atom_again _ _ (other word name text named) rest none = rw (no_exists word name named, named) refl
atom_again _ _ (texts word name first more named) rest none =
    let items = behind_commas (map t.Text more) in
    let cut : (items ++ (closing ∷ [])) ++ rest ≡ items ++ (closing ∷ rest) = append_assoc items (closing ∷ []) rest in
    let found : items_at text_in (items ++ (closing ∷ rest)) ≡ Some (more, rest) = items_again text_in t.Text (λ x. refl) (length (items ++ (closing ∷ rest))) more rest (omega arith) in
    rw (no_exists word name named, named, cut, found) refl
atom_again _ _ (like word name pattern named) rest none = rw (no_exists word name named, named) refl
atom_again _ _ (exists word name named) rest none = rw named refl
