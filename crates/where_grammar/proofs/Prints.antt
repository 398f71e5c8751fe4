-- The print of a clause is that clause.
use Rattle.std.proofs.Common.{◌≡◌, ℕ, ◌≤◌, Bool, true, false, List, [], ◌∷◌, ◌++◌, length, map, refl, sym, ap, subst, ◌∙◌, inl, inr, append-nil, arith, ℤ}
use Rattle.std.specs.Prelude.{Some, None, codes, not, ◌&&◌, nat_le}
use Rattle.std.specs.List.{list_all}
use Rattle.std.specs.Char.{to_ascii_lowercase}
use Rattle.std.specs.Str.{str_to_ascii_lowercase}
use Rattle.std.proofs.lemmas.Bool.Decides.{nat_tests}
use Rattle.fb_types.specs.Names.{begins_name, column_name, continues_name, has_name_bytes, is_column_name, is_keyword}
use Rattle.lexing.proofs.Cases.{chosen}
use Rattle.std.proofs.lemmas.Bool.{and_from, and_parts}
use Rattle.where_grammar.specs.declared.clause.Op.{Op}
use Rattle.where_grammar.specs.declared.clause.Op.TheVariants as op
use Rattle.where_grammar.specs.declared.clause.Atom.{Atom}
use Rattle.where_grammar.specs.declared.clause.Atom.TheVariants as atom
use Rattle.where_grammar.specs.declared.clause.Clause.{Clause}
use Rattle.where_grammar.specs.declared.clause.Clause.TheVariants as clause
use Rattle.where_grammar.specs.declared.clause.Join.{Join}
use Rattle.where_grammar.specs.declared.clause.Join.TheVariants as join
use Rattle.where_grammar.specs.declared.token.Token.{Token}
use Rattle.where_grammar.specs.declared.token.Token.TheVariants as t
use Rattle.where_grammar.specs.Grammar.{AreParts, IsAtom, IsClause, IsJoined, IsNots, IsPart, alone, ands, behind_commas, between, closing, compared, condition, doubled, enclosed, exists, group, joins, keyword, last, like, more, negated, nots, numbers, opening, operator, other, same, several, texts, turned, turned_round, xors}
use Rattle.where_grammar.specs.Printed.{Piece, as_part, atom_tokens, clause_tokens, group_piece, is_fit, joined, more_joined, piece_of}
use Rattle.where_grammar.specs.Tokens.{begins_word, in_word, is_word}
use Rattle.where_grammar.proofs.Pieces.{joint_word, piece_of-group, piece_of-not, piece_of-one}
use Rattle.where_grammar.proofs.Writings.{AllPlain, IsPlain}

-- ---- names are written as they are read

begins_plain : (b : ℕ) → begins_name b ≡ true → (begins_word b ≡ true) × (to_ascii_lowercase b ≡ b)
begins_plain b e = (grind (arith, nat_tests), grind (arith, nat_tests))

continues_plain : (b : ℕ) → continues_name b ≡ true → (in_word b ≡ true) × (to_ascii_lowercase b ≡ b)
continues_plain b e = (grind (arith, nat_tests), grind (arith, nat_tests))

rest_plain : (bs : List ℕ) → list_all continues_name bs ≡ true → (list_all in_word bs ≡ true) × (str_to_ascii_lowercase bs ≡ bs)
rest_plain [] e = (refl, refl)
rest_plain (b ∷ bs) e =
    let parts = and_parts (continues_name b) (list_all continues_name bs) e in
    let here = continues_plain b parts.0 in
    let more = rest_plain bs parts.1 in
    (and_from (in_word b) (list_all in_word bs) here.0 more.0, ap (λ x. x ∷ str_to_ascii_lowercase bs) here.1 ∙ ap (λ xs. b ∷ xs) more.1)

bytes_plain : (name : List ℕ) → has_name_bytes name ≡ true → (is_word name ≡ true) × (str_to_ascii_lowercase name ≡ name)
bytes_plain [] e = absurd cc
bytes_plain (b ∷ bs) e =
    let parts = and_parts (begins_name b) (list_all continues_name bs) e in
    let here = begins_plain b parts.0 in
    let more = rest_plain bs parts.1 in
    (and_from (begins_word b) (list_all in_word bs) here.0 more.0, ap (λ x. x ∷ str_to_ascii_lowercase bs) here.1 ∙ ap (λ xs. b ∷ xs) more.1)

record IsName (name : List ℕ) : Type 0 where
  plain : IsPlain (t.Word name)
  named : column_name name ≡ Some name

name_is : (name : List ℕ) → is_column_name name ≡ true → IsName name
name_is name e =
    let shape = (and_parts (has_name_bytes name) (nat_le (length name) 64) (and_parts (has_name_bytes name && nat_le (length name) 64) (not (is_keyword name)) e).0).0 in
    let plain = bytes_plain name shape in
    let low : str_to_ascii_lowercase name ≡ name = plain.1 in
    record { plain = plain; named = rw (low, e) refl }

named_is : (word name : List ℕ) → column_name word ≡ Some name → IsName name
named_is word name e =
    let lower = str_to_ascii_lowercase word in
    elim (chosen (is_column_name lower) (Some lower) None (Some name) e) [
      | inl h ↦ (let same : lower ≡ name = cc in subst IsName same (name_is lower h.0))
      | inr h ↦ absurd cc
    ]

-- ---- good tokens: written as they are read, with numbers of 128 bits

pub record AreGood (tokens : List Token) : Type 0 where
  pub plain : AllPlain tokens
  pub fit : list_all is_fit tokens ≡ true

good_append : (xs ys : List Token) → AreGood xs → AreGood ys → AreGood (xs ++ ys)
good_append [] ys good also = also
good_append (x ∷ xs) ys good also =
    let parts = both (is_fit x) (list_all is_fit xs) good.fit in
    let more = good_append xs ys (record { plain = good.plain.1; fit = parts.1 }) also in
    record { plain = (good.plain.0, more.plain); fit = and_from (is_fit x) (list_all is_fit (xs ++ ys)) parts.0 more.fit }
  where
    both : (x y : Bool) → (x && y) ≡ true → (x ≡ true) × (y ≡ true)
    both true y e = (refl, e)
    both false y e = absurd cc

good_first : (x : Token) (xs : List Token) → IsPlain x → is_fit x ≡ true → AreGood xs → AreGood (x ∷ xs)
good_first x xs plain fit good = record { plain = (plain, good.plain); fit = and_from (is_fit x) (list_all is_fit xs) fit good.fit }

none_good : AreGood []
none_good = record { plain = tt; fit = refl }

word_first : (name : List ℕ) (xs : List Token) → IsPlain (t.Word name) → AreGood xs → AreGood (t.Word name ∷ xs)
word_first name xs plain good = good_first (t.Word name) xs plain refl good

in_parentheses : (xs : List Token) → AreGood xs → AreGood (opening ∷ (xs ++ closing ∷ []))
in_parentheses xs good = good_first opening _ tt refl (good_append xs (closing ∷ []) good (good_first closing [] tt refl none_good))

-- the parts of what is known of all
fit_parts : (x : Token) (xs : List Token) → list_all is_fit (x ∷ xs) ≡ true → (is_fit x ≡ true) × (list_all is_fit xs ≡ true)
fit_parts x xs e = both (is_fit x) (list_all is_fit xs) e
  where
    both : (x y : Bool) → (x && y) ≡ true → (x ≡ true) × (y ≡ true)
    both true y e = (refl, e)
    both false y e = absurd cc

fit_append : (xs ys : List Token) → list_all is_fit (xs ++ ys) ≡ true → (list_all is_fit xs ≡ true) × (list_all is_fit ys ≡ true)
fit_append [] ys e = (refl, e)
fit_append (x ∷ xs) ys e =
    let parts = fit_parts x (xs ++ ys) e in
    let more = fit_append xs ys parts.1 in
    (and_from (is_fit x) (list_all is_fit xs) parts.0 more.0, more.1)

number_good : (z : ℤ) (xs : List Token) → is_fit (t.Number z) ≡ true → AreGood xs → AreGood (t.Number z ∷ xs)
number_good z xs fit good = good_first (t.Number z) xs fit fit good

numbers_good : (zs : List ℤ) → list_all is_fit (behind_commas (map t.Number zs)) ≡ true → AreGood (behind_commas (map t.Number zs))
numbers_good [] fit = none_good
numbers_good (z ∷ zs) fit = let parts = fit_parts (t.Number z) (behind_commas (map t.Number zs)) fit in good_first _ _ tt refl (number_good z _ parts.0 (numbers_good zs parts.1))

texts_good : (xs : List (List ℕ)) → AreGood (behind_commas (map t.Text xs))
texts_good [] = none_good
texts_good (x ∷ xs) = good_first _ _ tt refl (good_first (t.Text x) _ tt refl (texts_good xs))

-- ---- conditions

record PrintsAtom (a : Atom) : Type 0 where
  spelled : IsAtom a (atom_tokens a)
  good : AreGood (atom_tokens a)

turned-turned : (by : Op) → turned (turned by) ≡ by
turned-turned op.Less = refl
turned-turned op.LessEq = refl
turned-turned op.Greater = refl
turned-turned op.GreaterEq = refl
turned-turned op.Equal = refl
turned-turned op.Differs = refl

list_good : (name : List ℕ) (first : Token) (items : List Token) → IsPlain (t.Word name) → IsPlain first → is_fit first ≡ true → AreGood items → AreGood (t.Word name ∷ keyword (codes "in") ∷ opening ∷ first ∷ (items ++ closing ∷ []))
list_good name first items plain is fit good =
    word_first name _ plain (word_first (codes "in") _ (refl, refl) (good_first opening _ tt refl (good_first first _ is fit (good_append items (closing ∷ []) good (good_first closing [] tt refl none_good)))))

prints_atom : (a : Atom) (tokens : List Token) → IsAtom a tokens → list_all is_fit tokens ≡ true → PrintsAtom a
prints_atom _ _ (compared word name by value named) fit =
    let n = named_is word name named in
    let parts = fit_parts (t.Number value) [] fit in
    record { spelled = compared name name by value n.named; good = word_first name _ n.plain (good_first (operator by) _ tt refl (number_good value [] parts.0 none_good)) }
prints_atom _ _ (turned_round word name by value named) fit =
    let n = named_is word name named in
    let parts = fit_parts (t.Number value) [] fit in
    record { spelled = compared name name (turned by) value n.named; good = word_first name _ n.plain (good_first (operator (turned by)) _ tt refl (number_good value [] parts.0 none_good)) }
prints_atom _ _ (doubled word name left right low high named) fit =
    let n = named_is word name named in
    let first = fit_parts (t.Number low) (t.Number high ∷ []) fit in
    let second = fit_parts (t.Number high) [] first.1 in
    let is : IsAtom (atom.Double name (turned (turned (turned left))) low right high) (atom_tokens (atom.Double name (turned left) low right high)) = doubled name name (turned (turned left)) right low high n.named in
    record {
      spelled = subst (λ o. IsAtom (atom.Double name o low right high) (atom_tokens (atom.Double name (turned left) low right high))) (turned-turned (turned left)) is;
      good = number_good low _ first.0 (good_first (operator (turned (turned left))) _ tt refl (word_first name _ n.plain (good_first (operator right) _ tt refl (number_good high [] second.0 none_good))));
    }
prints_atom _ _ (between word name low high named) fit =
    let n = named_is word name named in
    let first = fit_parts (t.Number low) (t.Number high ∷ []) fit in
    let second = fit_parts (t.Number high) [] first.1 in
    record {
      spelled = between name name low high n.named;
      good = word_first name _ n.plain (word_first (codes "between") _ (refl, refl) (number_good low _ first.0 (word_first (codes "and") _ (refl, refl) (number_good high [] second.0 none_good))));
    }
prints_atom _ _ (numbers word name first xs named) fit =
    let n = named_is word name named in
    let items = behind_commas (map t.Number xs) in
    let here = fit_parts (t.Number first) (items ++ closing ∷ []) fit in
    let more = fit_append items (closing ∷ []) here.1 in
    record { spelled = numbers name name first xs n.named; good = list_good name (t.Number first) items n.plain here.0 here.0 (numbers_good xs more.0) }
prints_atom _ _ (same word name text named) fit = let n = named_is word name named in record { spelled = same name name text n.named; good = word_first name _ n.plain (good_first (operator op.Equal) _ tt refl (good_first (t.Text text) [] tt refl none_good)) }
prints_atom _ _ (other word name text named) fit = let n = named_is word name named in record { spelled = other name name text n.named; good = word_first name _ n.plain (good_first (operator op.Differs) _ tt refl (good_first (t.Text text) [] tt refl none_good)) }
prints_atom _ _ (texts word name first xs named) fit = let n = named_is word name named in record { spelled = texts name name first xs n.named; good = list_good name (t.Text first) (behind_commas (map t.Text xs)) n.plain tt refl (texts_good xs) }
prints_atom _ _ (like word name pattern named) fit = let n = named_is word name named in record { spelled = like name name pattern n.named; good = word_first name _ n.plain (word_first (codes "like") _ (refl, refl) (good_first (t.Text pattern) [] tt refl none_good)) }
prints_atom _ _ (exists word name named) fit = let n = named_is word name named in record { spelled = exists name name n.named; good = word_first (codes "exists") _ (refl, refl) (good_first opening _ tt refl (word_first name _ n.plain (good_first closing [] tt refl none_good))) }

-- ---- clauses

unit_part : (j : Join) (c : Clause) (tokens : List Token) → IsNots c tokens → IsPart j c tokens
unit_part join.And c tokens is = nots c tokens is
unit_part join.Xor c tokens is = ands c tokens (alone join.And c tokens (nots c tokens is))
unit_part join.Or c tokens is = xors c tokens (alone join.Xor c tokens (ands c tokens (alone join.And c tokens (nots c tokens is))))

joined_clause : (j : Join) (c : Clause) (tokens : List Token) → IsJoined j c tokens → IsClause c tokens
joined_clause join.Or c tokens is = is
joined_clause join.Xor c tokens is = alone join.Or c tokens (xors c tokens is)
joined_clause join.And c tokens is = alone join.Or c tokens (xors c tokens (alone join.Xor c tokens (ands c tokens is)))

-- what is known of the print of a clause
pub record Prints (c : Clause) : Type 0 where
  pub good : AreGood (clause_tokens c)
  pub part : AreGood (as_part (piece_of c))
  pub unit : IsNots c (as_part (piece_of c))
  pub whole : IsClause c (clause_tokens c)

-- by a piece that is its
by_piece : (c : Clause) (piece : Piece) → piece_of c ≡ piece → AreGood piece.tokens → AreGood (as_part piece) → IsNots c (as_part piece) → IsClause c piece.tokens → Prints c
by_piece c piece e good part unit whole =
    let back = sym e in
    record {
      good = subst (λ p. AreGood p.tokens) back good;
      part = subst (λ p. AreGood (as_part p)) back part;
      unit = subst (λ p. IsNots c (as_part p)) back unit;
      whole = subst (λ p. IsClause c p.tokens) back whole;
    }

by_unit : (c : Clause) (tokens : List Token) → piece_of c ≡ record { is_group = false; tokens = tokens } → AreGood tokens → IsNots c tokens → Prints c
by_unit c tokens e good is = by_piece c (record { is_group = false; tokens = tokens }) e good good is (alone join.Or c tokens (unit_part join.Or c tokens is))

-- parts of one level, with the level's word between
record PrintParts (j : Join) (cs : List Clause) : Type 0 where
  first : Clause
  others : List Clause
  cons : cs ≡ first ∷ others
  good : AreGood (joined (joint_word j) (map piece_of cs))
  spelled : AreParts j cs (joined (joint_word j) (map piece_of cs))

joint_joins : (j : Join) → joins j (keyword (joint_word j)) ≡ true
joint_joins join.Or = refl
joint_joins join.Xor = refl
joint_joins join.And = refl

joint_good : (j : Join) (xs : List Token) → AreGood xs → AreGood (keyword (joint_word j) ∷ xs)
joint_good join.Or xs good = word_first (codes "or") xs (refl, refl) good
joint_good join.Xor xs good = word_first (codes "xor") xs (refl, refl) good
joint_good join.And xs good = word_first (codes "and") xs (refl, refl) good

one_part : (j : Join) (c : Clause) → Prints c → PrintParts j (c ∷ [])
one_part j c is =
    let alone_is : as_part (piece_of c) ++ [] ≡ as_part (piece_of c) = append-nil (as_part (piece_of c)) in
    record { first = c; others = []; cons = refl; good = subst AreGood (sym alone_is) is.part; spelled = subst (AreParts j (c ∷ [])) (sym alone_is) (last j c (as_part (piece_of c)) (unit_part j c (as_part (piece_of c)) is.unit)) }

more_is : (word : List ℕ) (first : Clause) (others : List Clause) → more_joined word (map piece_of (first ∷ others)) ≡ keyword word ∷ joined word (map piece_of (first ∷ others))
more_is word first others = refl

many_parts : (j : Join) (c : Clause) (cs : List Clause) → Prints c → PrintParts j cs → PrintParts j (c ∷ cs)
many_parts j c cs is are =
    let word = joint_word j in
    let behind : more_joined word (map piece_of cs) ≡ keyword word ∷ joined word (map piece_of cs) = ap (λ xs. more_joined word (map piece_of xs)) are.cons ∙ ap (λ xs. keyword word ∷ joined word (map piece_of xs)) (sym are.cons) in
    let all : as_part (piece_of c) ++ (keyword word ∷ joined word (map piece_of cs)) ≡ joined word (map piece_of (c ∷ cs)) = ap (λ ts. as_part (piece_of c) ++ ts) (sym behind) in
    record {
      first = c;
      others = cs;
      cons = refl;
      good = subst AreGood all (good_append (as_part (piece_of c)) (keyword word ∷ joined word (map piece_of cs)) is.part (joint_good j (joined word (map piece_of cs)) are.good));
      spelled = subst (AreParts j (c ∷ cs)) all (more j c cs (as_part (piece_of c)) (keyword word) (joined word (map piece_of cs)) (unit_part j c (as_part (piece_of c)) is.unit) (joint_joins j) are.spelled);
    }

group_prints : (j : Join) (cs : List Clause) → 2 ≤ length cs → PrintParts j cs → Prints (group j cs)
group_prints j cs two are =
    let tokens = joined (joint_word j) (map piece_of cs) in
    let whole = joined_clause j (group j cs) tokens (several j cs tokens two are.spelled) in
    by_piece (group j cs) (group_piece (joint_word j) (map piece_of cs)) (piece_of-group j cs) are.good (in_parentheses tokens are.good) (enclosed (group j cs) tokens whole) whole

mutual
  pub prints_joined : (j : Join) (c : Clause) (tokens : List Token) → IsJoined j c tokens → list_all is_fit tokens ≡ true → Prints c
  prints_joined _ _ _ (alone j c tokens is) fit = prints_part j c tokens is fit
  prints_joined _ _ _ (several j cs tokens two are) fit = group_prints j cs two (prints_parts j cs tokens are fit)

  prints_parts : (j : Join) (cs : List Clause) (tokens : List Token) → AreParts j cs tokens → list_all is_fit tokens ≡ true → PrintParts j cs
  prints_parts _ _ _ (last j c tokens is) fit = one_part j c (prints_part j c tokens is fit)
  prints_parts _ _ _ (more j c cs front token back is joint are) fit =
      let parts = fit_append front (token ∷ back) fit in
      many_parts j c cs (prints_part j c front is parts.0) (prints_parts j cs back are (fit_parts token back parts.1).1)

  prints_part : (j : Join) (c : Clause) (tokens : List Token) → IsPart j c tokens → list_all is_fit tokens ≡ true → Prints c
  prints_part _ _ _ (xors c tokens is) fit = prints_joined join.Xor c tokens is fit
  prints_part _ _ _ (ands c tokens is) fit = prints_joined join.And c tokens is fit
  prints_part _ _ _ (nots c tokens is) fit = prints_nots c tokens is fit

  prints_nots : (c : Clause) (tokens : List Token) → IsNots c tokens → list_all is_fit tokens ≡ true → Prints c
  prints_nots _ _ (negated c token tokens e is) fit =
      let part = prints_nots c tokens is (fit_parts token tokens fit).1 in
      by_unit (clause.Not c) (keyword (codes "not") ∷ as_part (piece_of c)) (piece_of-not c) (word_first (codes "not") _ (refl, refl) part.part) (negated c (keyword (codes "not")) (as_part (piece_of c)) refl part.unit)
  prints_nots _ _ (enclosed c tokens is) fit = prints_joined join.Or c tokens is (fit_append tokens (closing ∷ []) fit).0
  prints_nots _ _ (condition a tokens is) fit =
      let printed = prints_atom a tokens is fit in
      by_unit (clause.One a) (atom_tokens a) (piece_of-one a) printed.good (condition a (atom_tokens a) printed.spelled)
