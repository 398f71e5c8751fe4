-- What holds of each token of a clause.
use Rattle.std.proofs.Common.{◌≡◌, ℕ, Bool, true, List, [], ◌∷◌, ◌++◌, map, refl, sym, ap, ◌∙◌, inl, inr, ℤ}
use Rattle.std.specs.Prelude.{Some, codes}
use Rattle.std.specs.List.{list_all}
use Rattle.std.proofs.lemmas.Bool.{and_from, and_parts, or_cases}
use Rattle.fb_types.specs.Names.{column_name}
use Rattle.where_grammar.specs.declared.clause.Atom.{Atom}
use Rattle.where_grammar.specs.declared.clause.Clause.{Clause}
use Rattle.where_grammar.specs.declared.clause.Join.{Join}
use Rattle.where_grammar.specs.declared.clause.Join.TheVariants as join
use Rattle.where_grammar.specs.declared.clause.Op.TheVariants as op
use Rattle.where_grammar.specs.declared.token.Sign.{Sign}
use Rattle.where_grammar.specs.declared.token.Sign.TheVariants as sign
use Rattle.where_grammar.specs.declared.token.Token.{Token}
use Rattle.where_grammar.specs.declared.token.Token.TheVariants as t
use Rattle.where_grammar.specs.Nesting.{is_not, is_sign, is_word}
use Rattle.where_grammar.specs.Grammar.{AreParts, IsAtom, IsClause, IsJoined, IsNots, IsPart, alone, ands, behind_commas, between, closing, comma, compared, condition, doubled, enclosed, exists, joins, keyword, last, like, more, negated, nots, numbers, opening, operator, other, same, several, texts, turned_round, xors}
use Rattle.where_grammar.proofs.TokenTests.{sign_told, word_told}

-- the test passes what clauses are made of
pub record PassesClauses (test : Token → Bool) : Type 0 where
  pub names : (word name : List ℕ) → column_name word ≡ Some name → test (t.Word word) ≡ true
  pub numbers_pass : (z : ℤ) → test (t.Number z) ≡ true
  pub texts_pass : (text : List ℕ) → test (t.Text text) ≡ true
  pub signs : (s : Sign) → test (t.Sign s) ≡ true
  pub or_word : test (keyword (codes "or")) ≡ true
  pub xor_word : test (keyword (codes "xor")) ≡ true
  pub and_word : test (keyword (codes "and")) ≡ true
  pub not_word : test (keyword (codes "not")) ≡ true
  pub between_word : test (keyword (codes "between")) ≡ true
  pub in_word : test (keyword (codes "in")) ≡ true
  pub like_word : test (keyword (codes "like")) ≡ true
  pub exists_word : test (keyword (codes "exists")) ≡ true

module _ (test : Token → Bool) (passes : PassesClauses test) where
  all-append : (front back : List Token) → list_all test front ≡ true → list_all test back ≡ true → list_all test (front ++ back) ≡ true
  all-append [] back f b = b
  all-append (token ∷ front) back f b =
      let parts = and_parts (test token) (list_all test front) f in
      and_from (test token) (list_all test (front ++ back)) parts.0 (all-append front back parts.1 b)

  put : (token : Token) (tokens : List Token) → test token ≡ true → list_all test tokens ≡ true → list_all test (token ∷ tokens) ≡ true
  put token tokens a b = and_from (test token) (list_all test tokens) a b

  items_pass : {A : Type 0} (make : A → Token) → ((x : A) → test (make x) ≡ true) → (xs : List A) → list_all test (behind_commas (map make xs) ++ closing ∷ []) ≡ true
  items_pass make each [] = put closing [] (passes.signs sign.Close) refl
  items_pass make each (x ∷ xs) =
      let rest = behind_commas (map make xs) ++ closing ∷ [] in
      put comma (make x ∷ rest) (passes.signs sign.Comma) (put (make x) rest (each x) (items_pass make each xs))

  two_pass : (a b : Token) → test a ≡ true → test b ≡ true → list_all test (a ∷ b ∷ []) ≡ true
  two_pass a b p q = put a (b ∷ []) p (put b [] q refl)

  three_pass : (a b c : Token) → test a ≡ true → test b ≡ true → test c ≡ true → list_all test (a ∷ b ∷ c ∷ []) ≡ true
  three_pass a b c p q r = put a (b ∷ c ∷ []) p (two_pass b c q r)

  list_passes : (word name : List ℕ) (first : Token) (rest : List Token) → column_name word ≡ Some name → test first ≡ true → list_all test rest ≡ true → list_all test (t.Word word ∷ keyword (codes "in") ∷ opening ∷ first ∷ rest) ≡ true
  list_passes word name first rest e f r =
      put (t.Word word) (keyword (codes "in") ∷ opening ∷ first ∷ rest) (passes.names word name e)
      (put (keyword (codes "in")) (opening ∷ first ∷ rest) passes.in_word (put opening (first ∷ rest) (passes.signs sign.Open) (put first rest f r)))

  atom_passes : (a : Atom) (tokens : List Token) → IsAtom a tokens → list_all test tokens ≡ true
  atom_passes _ _ (compared word name by value e) = three_pass (t.Word word) (operator by) (t.Number value) (passes.names word name e) (passes.signs (sign.Op by)) (passes.numbers_pass value)
  atom_passes _ _ (turned_round word name by value e) = three_pass (t.Number value) (operator by) (t.Word word) (passes.numbers_pass value) (passes.signs (sign.Op by)) (passes.names word name e)
  atom_passes _ _ (doubled word name left right low high e) =
      put (t.Number low) (operator left ∷ t.Word word ∷ operator right ∷ t.Number high ∷ []) (passes.numbers_pass low)
      (put (operator left) (t.Word word ∷ operator right ∷ t.Number high ∷ []) (passes.signs (sign.Op left))
      (three_pass (t.Word word) (operator right) (t.Number high) (passes.names word name e) (passes.signs (sign.Op right)) (passes.numbers_pass high)))
  atom_passes _ _ (between word name low high e) =
      put (t.Word word) (keyword (codes "between") ∷ t.Number low ∷ keyword (codes "and") ∷ t.Number high ∷ []) (passes.names word name e)
      (put (keyword (codes "between")) (t.Number low ∷ keyword (codes "and") ∷ t.Number high ∷ []) passes.between_word
      (three_pass (t.Number low) (keyword (codes "and")) (t.Number high) (passes.numbers_pass low) passes.and_word (passes.numbers_pass high)))
  atom_passes _ _ (numbers word name first xs e) = list_passes word name (t.Number first) (behind_commas (map t.Number xs) ++ closing ∷ []) e (passes.numbers_pass first) (items_pass t.Number passes.numbers_pass xs)
  atom_passes _ _ (same word name text e) = three_pass (t.Word word) (operator op.Equal) (t.Text text) (passes.names word name e) (passes.signs (sign.Op op.Equal)) (passes.texts_pass text)
  atom_passes _ _ (other word name text e) = three_pass (t.Word word) (operator op.Differs) (t.Text text) (passes.names word name e) (passes.signs (sign.Op op.Differs)) (passes.texts_pass text)
  atom_passes _ _ (texts word name first xs e) = list_passes word name (t.Text first) (behind_commas (map t.Text xs) ++ closing ∷ []) e (passes.texts_pass first) (items_pass t.Text passes.texts_pass xs)
  atom_passes _ _ (like word name pattern e) = three_pass (t.Word word) (keyword (codes "like")) (t.Text pattern) (passes.names word name e) passes.like_word (passes.texts_pass pattern)
  atom_passes _ _ (exists word name e) = put (keyword (codes "exists")) (opening ∷ t.Word word ∷ closing ∷ []) passes.exists_word (three_pass opening (t.Word word) closing (passes.signs sign.Open) (passes.names word name e) (passes.signs sign.Close))

  joint_passes : (j : Join) (token : Token) → joins j token ≡ true → test token ≡ true
  joint_passes join.Or token e =
      elim (or_cases (is_word (codes "or") token) (is_sign sign.Or token) e) [
        | inl h ↦ ap test (word_told (codes "or") token h) ∙ passes.or_word
        | inr h ↦ ap test (sign_told sign.Or token h) ∙ passes.signs sign.Or
      ]
  joint_passes join.Xor token e = ap test (word_told (codes "xor") token e) ∙ passes.xor_word
  joint_passes join.And token e =
      elim (or_cases (is_word (codes "and") token) (is_sign sign.And token) e) [
        | inl h ↦ ap test (word_told (codes "and") token h) ∙ passes.and_word
        | inr h ↦ ap test (sign_told sign.And token h) ∙ passes.signs sign.And
      ]

  not_passes : (token : Token) → is_not token ≡ true → test token ≡ true
  not_passes token e =
      elim (or_cases (is_word (codes "not") token) (is_sign sign.Not token) e) [
        | inl h ↦ ap test (word_told (codes "not") token h) ∙ passes.not_word
        | inr h ↦ ap test (sign_told sign.Not token h) ∙ passes.signs sign.Not
      ]

  mutual
    joined_pass : (j : Join) (c : Clause) (tokens : List Token) → IsJoined j c tokens → list_all test tokens ≡ true
    joined_pass _ _ _ (alone j c tokens is) = part_passes j c tokens is
    joined_pass _ _ _ (several j cs tokens two are) = parts_pass j cs tokens are

    parts_pass : (j : Join) (cs : List Clause) (tokens : List Token) → AreParts j cs tokens → list_all test tokens ≡ true
    parts_pass _ _ _ (last j c tokens is) = part_passes j c tokens is
    parts_pass _ _ _ (more j c cs front token back is joint are) =
        all-append front (token ∷ back) (part_passes j c front is) (put token back (joint_passes j token joint) (parts_pass j cs back are))

    part_passes : (j : Join) (c : Clause) (tokens : List Token) → IsPart j c tokens → list_all test tokens ≡ true
    part_passes _ _ _ (xors c tokens is) = joined_pass join.Xor c tokens is
    part_passes _ _ _ (ands c tokens is) = joined_pass join.And c tokens is
    part_passes _ _ _ (nots c tokens is) = nots_pass c tokens is

    nots_pass : (c : Clause) (tokens : List Token) → IsNots c tokens → list_all test tokens ≡ true
    nots_pass _ _ (negated c token tokens e is) = put token tokens (not_passes token e) (nots_pass c tokens is)
    nots_pass _ _ (enclosed c tokens is) =
        put opening (tokens ++ closing ∷ []) (passes.signs sign.Open) (all-append tokens (closing ∷ []) (joined_pass join.Or c tokens is) (put closing [] (passes.signs sign.Close) refl))
    nots_pass _ _ (condition a tokens is) = atom_passes a tokens is

  pub clause_passes : (c : Clause) (tokens : List Token) → IsClause c tokens → list_all test tokens ≡ true
  clause_passes c tokens is = joined_pass join.Or c tokens is
