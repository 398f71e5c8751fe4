-- Each clause is found.
use Rattle.std.proofs.Common.{◌≡◌, ℕ, zero, suc, ◌+◌, ◌-◌, ◌≤◌, ◌<◌, Bool, true, false, List, [], ◌∷◌, ◌++◌, length, length-append, map, refl, sym, ap, subst, ◌∙◌, inl, inr, append_assoc, append-nil, arith, eqb}
use Rattle.std.specs.Prelude.{Option, Some, None, codes}
use Rattle.std.specs.List.{prefix_len}
use Rattle.std.proofs.lemmas.Bool.{or_cases}
use Rattle.std.proofs.lemmas.Bool.Decides.{nat_tests}
use Rattle.fb_types.specs.Names.{column_name}
use Rattle.where_grammar.specs.declared.clause.Atom.{Atom}
use Rattle.where_grammar.specs.declared.clause.Clause.{Clause}
use Rattle.where_grammar.specs.declared.clause.Clause.TheVariants as clause
use Rattle.where_grammar.specs.declared.clause.Join.{Join}
use Rattle.where_grammar.specs.declared.clause.Join.TheVariants as join
use Rattle.where_grammar.specs.declared.token.Sign.TheVariants as sign
use Rattle.where_grammar.specs.declared.token.Token.{Token}
use Rattle.where_grammar.specs.declared.token.Token.TheVariants as t
use Rattle.where_grammar.specs.Nesting.{is_close, is_crowded, is_not, is_open, is_sign, is_word}
use Rattle.where_grammar.specs.Grammar.{AreParts, IsAtom, IsClause, IsJoined, IsNots, IsPart, alone, ands, behind_commas, between, closing, compared, condition, doubled, enclosed, exists, group, joins, last, like, more, negated, nots, numbers, opening, other, same, several, texts, turned_round, xors}
use Rattle.where_grammar.specs.Parsing.{At, atom_at, clause_of, clause_within, grouped, joined_at, nots_at, op_in, part_at, parts_within, whole}
use Rattle.where_grammar.proofs.TokenTests.{not_keyword, not_none, sign_told, word_told}
use Rattle.where_grammar.proofs.Conditions.{NoOp, atom_again}
use Rattle.where_grammar.proofs.Clauses.{Finds, clause_told, denied, grouped_two, nots_none, nots_step, part_told}

-- ---- joints

-- the token joins neither at this level nor at a tighter one
abbrev pub IsLoose : Join → Token → Type 0
IsLoose join.And token = joins join.And token ≡ false
IsLoose join.Xor token = (joins join.And token ≡ false) × (joins join.Xor token ≡ false)
IsLoose join.Or token = (joins join.And token ≡ false) × (joins join.Xor token ≡ false) × (joins join.Or token ≡ false)

-- what stands behind parts of this level ends them
abbrev pub Ends : Join → List Token → Type 0
Ends j [] = Unit {0}
Ends j (token ∷ tokens) = (op_in token ≡ None) × IsLoose j token

-- and what ends one part
abbrev PartEnds : Join → List Token → Type 0
PartEnds join.Or rest = Ends join.Xor rest
PartEnds join.Xor rest = Ends join.And rest
PartEnds join.And rest = NoOp rest

no_op : (token : Token) (tokens : List Token) → op_in token ≡ None → NoOp (token ∷ tokens)
no_op token tokens none = rw none refl

ends_part : (j : Join) (rest : List Token) → Ends j rest → PartEnds j rest
ends_part join.Or [] ends = tt
ends_part join.Or (token ∷ tokens) ends = (ends.0, (ends.1.0, ends.1.1))
ends_part join.Xor [] ends = tt
ends_part join.Xor (token ∷ tokens) ends = (ends.0, ends.1.0)
ends_part join.And [] ends = refl
ends_part join.And (token ∷ tokens) ends = no_op token tokens ends.0

loose_here : (j : Join) (token : Token) → IsLoose j token → joins j token ≡ false
loose_here join.Or token loose = loose.2
loose_here join.Xor token loose = loose.1
loose_here join.And token loose = loose

-- what is known of a joint
record JointFacts (j : Join) (token : Token) : Type 0 where
  no_open : is_open token ≡ false
  no_close : is_close token ≡ false
  ends : (tokens : List Token) → PartEnds j (token ∷ tokens)

abbrev JointAt : Join → Token → Type 0
JointAt j token = JointFacts j token

joint_facts : (j : Join) (token : Token) → joins j token ≡ true → JointFacts j token
joint_facts join.Or token e =
    elim (or_cases (is_word (codes "or") token) (is_sign sign.Or token) e) [
      | inl h ↦ subst (JointAt join.Or) (sym (word_told (codes "or") token h)) (record { no_open = refl; no_close = refl; ends = λ ts. (refl, (refl, refl)) })
      | inr h ↦ subst (JointAt join.Or) (sym (sign_told sign.Or token h)) (record { no_open = refl; no_close = refl; ends = λ ts. (refl, (refl, refl)) })
    ]
joint_facts join.Xor token e = subst (JointAt join.Xor) (sym (word_told (codes "xor") token e)) (record { no_open = refl; no_close = refl; ends = λ ts. (refl, refl) })
joint_facts join.And token e =
    elim (or_cases (is_word (codes "and") token) (is_sign sign.And token) e) [
      | inl h ↦ subst (JointAt join.And) (sym (word_told (codes "and") token h)) (record { no_open = refl; no_close = refl; ends = λ ts. refl })
      | inr h ↦ subst (JointAt join.And) (sym (sign_told sign.And token h)) (record { no_open = refl; no_close = refl; ends = λ ts. refl })
    ]

no_more : (j : Join) (part : At Clause) (n : ℕ) (rest : List Token) → Ends j rest → parts_within j part n rest ≡ Some ([], rest)
no_more j part n [] ends = refl
no_more j part zero (token ∷ tokens) ends = refl
no_more j part (suc n) (token ∷ tokens) ends = let loose : joins j token ≡ false = loose_here j token ends.1 in rw loose refl

-- ---- room

crowd_plain : (token : Token) (tokens : List Token) (room : ℕ) → is_open token ≡ false → is_close token ≡ false → is_crowded room (token ∷ tokens) ≡ is_crowded room tokens
crowd_plain token tokens room no_open no_close = rw (no_open, no_close) refl

record Opened (room : ℕ) (tokens : List Token) : Type 0 where
  left : ℕ
  room_is : room ≡ suc left
  free : is_crowded left tokens ≡ false

opened : (room : ℕ) (tokens : List Token) → is_crowded room (opening ∷ tokens) ≡ false → Opened room tokens
opened zero tokens free = absurd cc
opened (suc left) tokens free =
    let some : eqb (suc left) 0 ≡ false = grind (arith, nat_tests) in
    let less : suc left - 1 ≡ left = omega arith in
    record { left = left; room_is = refl; free = rw (some, less) at free }

crowd_closed : (left : ℕ) (tokens : List Token) → is_crowded left (closing ∷ tokens) ≡ is_crowded (suc left) tokens
crowd_closed left tokens = let one : left + 1 ≡ suc left = omega arith in rw one refl

crowd_items : {A : Type 0} (make : A → Token) → ((x : A) → is_open (make x) ≡ false) → ((x : A) → is_close (make x) ≡ false) → (xs : List A) (room : ℕ) (rest : List Token) → is_crowded room (behind_commas (map make xs) ++ rest) ≡ is_crowded room rest
crowd_items make no_open no_close [] room rest = refl
crowd_items make no_open no_close (x ∷ xs) room rest =
    crowd_plain (make x) (behind_commas (map make xs) ++ rest) room (no_open x) (no_close x) ∙ crowd_items make no_open no_close xs room rest

-- a list in parentheses
crowd_list : {A : Type 0} (make : A → Token) → ((x : A) → is_open (make x) ≡ false) → ((x : A) → is_close (make x) ≡ false) → (first : A) (xs : List A) (room : ℕ) (rest : List Token)
    → is_crowded room (opening ∷ make first ∷ ((behind_commas (map make xs) ++ closing ∷ []) ++ rest)) ≡ false → is_crowded room rest ≡ false
crowd_list make no_open no_close first xs room rest free =
    let items = behind_commas (map make xs) in
    let cut : (items ++ closing ∷ []) ++ rest ≡ items ++ (closing ∷ rest) = append_assoc items (closing ∷ []) rest in
    let o = opened room (make first ∷ ((items ++ closing ∷ []) ++ rest)) free in
    let inside : is_crowded o.left ((items ++ closing ∷ []) ++ rest) ≡ false = sym (crowd_plain (make first) ((items ++ closing ∷ []) ++ rest) o.left (no_open first) (no_close first)) ∙ o.free in
    ap (λ n. is_crowded n rest) o.room_is ∙ (sym (crowd_closed o.left rest) ∙ (sym (crowd_items make no_open no_close xs o.left (closing ∷ rest)) ∙ (ap (is_crowded o.left) (sym cut) ∙ inside)))

crowd_atom : (a : Atom) (tokens : List Token) → IsAtom a tokens → (room : ℕ) (rest : List Token) → is_crowded room (tokens ++ rest) ≡ false → is_crowded room rest ≡ false
crowd_atom _ _ (compared word name by value named) room rest free = free
crowd_atom _ _ (turned_round word name by value named) room rest free = free
crowd_atom _ _ (doubled word name left right low high named) room rest free = free
crowd_atom _ _ (between word name low high named) room rest free = free
crowd_atom _ _ (numbers word name first xs named) room rest free = crowd_list t.Number (λ x. refl) (λ x. refl) first xs room rest free
crowd_atom _ _ (same word name text named) room rest free = free
crowd_atom _ _ (other word name text named) room rest free = free
crowd_atom _ _ (texts word name first xs named) room rest free = crowd_list t.Text (λ x. refl) (λ x. refl) first xs room rest free
crowd_atom _ _ (like word name pattern named) room rest free = free
crowd_atom _ _ (exists word name named) room rest free =
    let o = opened room (t.Word word ∷ closing ∷ rest) free in
    ap (λ n. is_crowded n rest) o.room_is ∙ (sym (crowd_closed o.left rest) ∙ o.free)

-- a `not` opens and closes nothing
not_plain : (token : Token) (tokens : List Token) (room : ℕ) → is_not token ≡ true → is_crowded room (token ∷ tokens) ≡ is_crowded room tokens
not_plain token tokens room e =
    elim (or_cases (is_word (codes "not") token) (is_sign sign.Not token) e) [
      | inl h ↦ subst (λ x. is_crowded room (x ∷ tokens) ≡ is_crowded room tokens) (sym (word_told (codes "not") token h)) refl
      | inr h ↦ subst (λ x. is_crowded room (x ∷ tokens) ≡ is_crowded room tokens) (sym (sign_told sign.Not token h)) refl
    ]

-- behind a clause there is as much room as before
mutual
  pub crowd_joined : (j : Join) (c : Clause) (tokens : List Token) → IsJoined j c tokens → (room : ℕ) (rest : List Token) → is_crowded room (tokens ++ rest) ≡ false → is_crowded room rest ≡ false
  crowd_joined _ _ _ (alone j c tokens is) room rest free = crowd_part j c tokens is room rest free
  crowd_joined _ _ _ (several j cs tokens two are) room rest free = crowd_parts j cs tokens are room rest free

  crowd_parts : (j : Join) (cs : List Clause) (tokens : List Token) → AreParts j cs tokens → (room : ℕ) (rest : List Token) → is_crowded room (tokens ++ rest) ≡ false → is_crowded room rest ≡ false
  crowd_parts _ _ _ (last j c tokens is) room rest free = crowd_part j c tokens is room rest free
  crowd_parts _ _ _ (more j c cs front token back is joint are) room rest free =
      let cut : (front ++ (token ∷ back)) ++ rest ≡ front ++ (token ∷ (back ++ rest)) = append_assoc front (token ∷ back) rest in
      let f = joint_facts j token joint in
      let behind = crowd_part j c front is room (token ∷ (back ++ rest)) (ap (is_crowded room) (sym cut) ∙ free) in
      crowd_parts j cs back are room rest (sym (crowd_plain token (back ++ rest) room f.no_open f.no_close) ∙ behind)

  crowd_part : (j : Join) (c : Clause) (tokens : List Token) → IsPart j c tokens → (room : ℕ) (rest : List Token) → is_crowded room (tokens ++ rest) ≡ false → is_crowded room rest ≡ false
  crowd_part _ _ _ (xors c tokens is) room rest free = crowd_joined join.Xor c tokens is room rest free
  crowd_part _ _ _ (ands c tokens is) room rest free = crowd_joined join.And c tokens is room rest free
  crowd_part _ _ _ (nots c tokens is) room rest free = crowd_nots c tokens is room rest free

  crowd_nots : (c : Clause) (tokens : List Token) → IsNots c tokens → (room : ℕ) (rest : List Token) → is_crowded room (tokens ++ rest) ≡ false → is_crowded room rest ≡ false
  crowd_nots _ _ (negated c token tokens e is) room rest free = crowd_nots c tokens is room rest (sym (not_plain token (tokens ++ rest) room e) ∙ free)
  crowd_nots _ _ (enclosed c tokens is) room rest free =
      let cut : (tokens ++ closing ∷ []) ++ rest ≡ tokens ++ (closing ∷ rest) = append_assoc tokens (closing ∷ []) rest in
      let o = opened room ((tokens ++ closing ∷ []) ++ rest) free in
      let inside = crowd_joined join.Or c tokens is o.left (closing ∷ rest) (ap (is_crowded o.left) (sym cut) ∙ o.free) in
      ap (λ n. is_crowded n rest) o.room_is ∙ (sym (crowd_closed o.left rest) ∙ inside)
  crowd_nots _ _ (condition a tokens is) room rest free = crowd_atom a tokens is room rest free

-- ---- conditions begin with no `not` and no `(`

record Begins (tokens : List Token) : Type 0 where
  first : Token
  others : List Token
  cons : tokens ≡ first ∷ others
  no_not : is_not first ≡ false
  no_open : is_open first ≡ false

named_begins : (word name : List ℕ) (others : List Token) → column_name word ≡ Some name → Begins (t.Word word ∷ others)
named_begins word name others named = record { first = t.Word word; others = others; cons = refl; no_not = rw (not_keyword word name (codes "not") named not_none) refl; no_open = refl }

atom_begins : (a : Atom) (tokens : List Token) → IsAtom a tokens → Begins tokens
atom_begins _ _ (compared word name by value named) = named_begins word name _ named
atom_begins _ _ (turned_round word name by value named) = record { first = _; others = _; cons = refl; no_not = refl; no_open = refl }
atom_begins _ _ (doubled word name left right low high named) = record { first = _; others = _; cons = refl; no_not = refl; no_open = refl }
atom_begins _ _ (between word name low high named) = named_begins word name _ named
atom_begins _ _ (numbers word name first xs named) = named_begins word name _ named
atom_begins _ _ (same word name text named) = named_begins word name _ named
atom_begins _ _ (other word name text named) = named_begins word name _ named
atom_begins _ _ (texts word name first xs named) = named_begins word name _ named
atom_begins _ _ (like word name pattern named) = named_begins word name _ named
atom_begins _ _ (exists word name named) = record { first = _; others = _; cons = refl; no_not = refl; no_open = refl }

unit_condition : (inner : At Clause) (first : Token) (others : List Token) (a : Atom) (rest : List Token) → is_not first ≡ false → is_open first ≡ false → atom_at (first ∷ others) ≡ Some (a, rest) → nots_at inner (first ∷ others) ≡ Some (clause.One a, rest)
unit_condition inner first others a rest no_not no_open found =
    let none : prefix_len is_not (first ∷ others) ≡ 0 = rw no_not refl in
    nots_none inner (first ∷ others) none ∙ rw (no_open, found) refl

condition_again : (inner : At Clause) (a : Atom) (tokens rest : List Token) → IsAtom a tokens → NoOp rest → nots_at inner (tokens ++ rest) ≡ Some (clause.One a, rest)
condition_again inner a tokens rest is none =
    let b = atom_begins a tokens is in
    let cons : tokens ++ rest ≡ b.first ∷ (b.others ++ rest) = ap (λ ts. ts ++ rest) b.cons in
    ap (nots_at inner) cons ∙ unit_condition inner b.first (b.others ++ rest) a rest b.no_not b.no_open (ap atom_at (sym cons) ∙ atom_again a tokens is rest none)

-- ---- clauses

enclosed_again : (inner : At Clause) (tokens : List Token) (c : Clause) (rest : List Token) → inner tokens ≡ Some (c, closing ∷ rest) → nots_at inner (opening ∷ tokens) ≡ Some (c, rest)
enclosed_again inner tokens c rest e = nots_none inner (opening ∷ tokens) refl ∙ rw e refl

-- parts as the function reads them: the first, and those behind joints
record AreRead (j : Join) (part : At Clause) (cs : List Clause) (tokens rest : List Token) : Type 0 where
  first : Clause
  others : List Clause
  tail : List Token
  cons : cs ≡ first ∷ others
  head : part tokens ≡ Some (first, tail)
  behind : (n : ℕ) → length tail ≤ n → parts_within j part n tail ≡ Some (others, rest)

one_read : (j : Join) (part : At Clause) (c : Clause) (tokens rest : List Token) → part tokens ≡ Some (c, rest) → Ends j rest → AreRead j part (c ∷ []) tokens rest
one_read j part c tokens rest e ends = record { first = c; others = []; tail = rest; cons = refl; head = e; behind = λ n few. no_more j part n rest ends }

joint_read : (j : Join) (part : At Clause) (n : ℕ) (token : Token) (tokens tail rest : List Token) (first : Clause) (others : List Clause) → joins j token ≡ true → part tokens ≡ Some (first, tail) → parts_within j part n tail ≡ Some (others, rest)
    → parts_within j part (suc n) (token ∷ tokens) ≡ Some (first ∷ others, rest)
joint_read j part n token tokens tail rest first others joint head behind = rw (joint, head, behind) refl

behind_again : (j : Join) (part : At Clause) → Finds part (IsPart j) → (token : Token) (tokens rest : List Token) (cs : List Clause) → joins j token ≡ true → AreRead j part cs tokens rest → (n : ℕ) → length (token ∷ tokens) ≤ n → parts_within j part n (token ∷ tokens) ≡ Some (cs, rest)
behind_again j part finds token tokens rest cs joint are zero few = absurd (omega arith)
behind_again j part finds token tokens rest cs joint are (suc n) few =
    let cut = finds tokens (are.first, are.tail) are.head in
    let size : length tokens ≡ length cut.front + length are.tail = ap length cut.cut ∙ length-append cut.front are.tail in
    joint_read j part n token tokens are.tail rest are.first are.others joint are.head (are.behind n (omega arith)) ∙ ap (λ xs. Some (xs, rest)) (sym are.cons)

more_read : (j : Join) (part : At Clause) → Finds part (IsPart j) → (c : Clause) (cs : List Clause) (all : List Token) (token : Token) (tokens rest : List Token) → part all ≡ Some (c, token ∷ tokens) → joins j token ≡ true → AreRead j part cs tokens rest → AreRead j part (c ∷ cs) all rest
more_read j part finds c cs all token tokens rest e joint are =
    record { first = c; others = cs; tail = token ∷ tokens; cons = refl; head = e; behind = behind_again j part finds token tokens rest cs joint are }

alone_again : (j : Join) (part : At Clause) (c : Clause) (tokens rest : List Token) → part tokens ≡ Some (c, rest) → Ends j rest → joined_at j part tokens ≡ Some (c, rest)
alone_again j part c tokens rest e ends = rw (e, no_more j part (length rest) rest ends) refl

joined_by : (j : Join) (part : At Clause) (first : Clause) (others : List Clause) (tokens tail rest : List Token) → part tokens ≡ Some (first, tail) → parts_within j part (length tail) tail ≡ Some (others, rest) → joined_at j part tokens ≡ Some (grouped j first others, rest)
joined_by j part first others tokens tail rest head behind = rw (head, behind) refl

several_again : (j : Join) (part : At Clause) (cs : List Clause) (tokens rest : List Token) → 2 ≤ length cs → AreRead j part cs tokens rest → joined_at j part tokens ≡ Some (group j cs, rest)
several_again j part cs tokens rest two are =
    let first = are.first in
    let size : 2 ≤ length (first ∷ are.others) = subst (λ xs. 2 ≤ length xs) are.cons two in
    joined_by j part first are.others tokens are.tail rest are.head (are.behind (length are.tail) (omega arith)) ∙ (ap (λ c. Some (c, rest)) (grouped_two j first are.others size) ∙ ap (λ xs. Some (group j xs, rest)) (sym are.cons))

abbrev part_of : Join → ℕ → At Clause
part_of j room = part_at j (clause_within room)

finds_part : (j : Join) (room : ℕ) → Finds (part_of j room) (IsPart j)
finds_part j room = part_told j (clause_within room) (clause_told room)

mutual
  pub joined_again : (j : Join) (c : Clause) (tokens : List Token) → IsJoined j c tokens → (room : ℕ) (rest : List Token) → Ends j rest → is_crowded room (tokens ++ rest) ≡ false → joined_at j (part_at j (clause_within room)) (tokens ++ rest) ≡ Some (c, rest)
  joined_again _ _ _ (alone j c tokens is) room rest ends free = alone_again j (part_of j room) c (tokens ++ rest) rest (part_again j c tokens is room rest (ends_part j rest ends) free) ends
  joined_again _ _ _ (several j cs tokens two are) room rest ends free = several_again j (part_of j room) cs (tokens ++ rest) rest two (parts_again j cs tokens are room rest ends free)

  parts_again : (j : Join) (cs : List Clause) (tokens : List Token) → AreParts j cs tokens → (room : ℕ) (rest : List Token) → Ends j rest → is_crowded room (tokens ++ rest) ≡ false → AreRead j (part_at j (clause_within room)) cs (tokens ++ rest) rest
  parts_again _ _ _ (last j c tokens is) room rest ends free = one_read j (part_of j room) c (tokens ++ rest) rest (part_again j c tokens is room rest (ends_part j rest ends) free) ends
  parts_again _ _ _ (more j c cs front token back is joint are) room rest ends free =
      let cut : (front ++ (token ∷ back)) ++ rest ≡ front ++ (token ∷ (back ++ rest)) = append_assoc front (token ∷ back) rest in
      let f = joint_facts j token joint in
      let here : is_crowded room (front ++ (token ∷ (back ++ rest))) ≡ false = ap (is_crowded room) (sym cut) ∙ free in
      let behind = crowd_part j c front is room (token ∷ (back ++ rest)) here in
      let found = part_again j c front is room (token ∷ (back ++ rest)) (f.ends (back ++ rest)) here in
      let others = parts_again j cs back are room rest ends (sym (crowd_plain token (back ++ rest) room f.no_open f.no_close) ∙ behind) in
      more_read j (part_of j room) (finds_part j room) c cs ((front ++ (token ∷ back)) ++ rest) token (back ++ rest) rest (ap (part_of j room) cut ∙ found) joint others

  part_again : (j : Join) (c : Clause) (tokens : List Token) → IsPart j c tokens → (room : ℕ) (rest : List Token) → PartEnds j rest → is_crowded room (tokens ++ rest) ≡ false → part_at j (clause_within room) (tokens ++ rest) ≡ Some (c, rest)
  part_again _ _ _ (xors c tokens is) room rest ends free = joined_again join.Xor c tokens is room rest ends free
  part_again _ _ _ (ands c tokens is) room rest ends free = joined_again join.And c tokens is room rest ends free
  part_again _ _ _ (nots c tokens is) room rest ends free = nots_again c tokens is room rest ends free

  nots_again : (c : Clause) (tokens : List Token) → IsNots c tokens → (room : ℕ) (rest : List Token) → NoOp rest → is_crowded room (tokens ++ rest) ≡ false → nots_at (clause_within room) (tokens ++ rest) ≡ Some (c, rest)
  nots_again _ _ (negated c token tokens e is) room rest none free =
      nots_step (clause_within room) token (tokens ++ rest) e ∙ ap denied (nots_again c tokens is room rest none (sym (not_plain token (tokens ++ rest) room e) ∙ free))
  nots_again _ _ (enclosed c tokens is) room rest none free =
      let cut : (tokens ++ closing ∷ []) ++ rest ≡ tokens ++ (closing ∷ rest) = append_assoc tokens (closing ∷ []) rest in
      let o = opened room ((tokens ++ closing ∷ []) ++ rest) free in
      let inside = joined_again join.Or c tokens is o.left (closing ∷ rest) (refl, (refl, refl, refl)) (ap (is_crowded o.left) (sym cut) ∙ o.free) in
      let found : clause_within room ((tokens ++ closing ∷ []) ++ rest) ≡ Some (c, closing ∷ rest) = ap (λ n. clause_within n ((tokens ++ closing ∷ []) ++ rest)) o.room_is ∙ (ap (clause_within (suc o.left)) cut ∙ inside) in
      enclosed_again (clause_within room) ((tokens ++ closing ∷ []) ++ rest) c rest found
  nots_again _ _ (condition a tokens is) room rest none free = condition_again (clause_within room) a tokens rest is none

-- ---- the whole list

level : (n m : ℕ) (tokens : List Token) → m ≡ suc n → clause_within m tokens ≡ joined_at join.Or (part_at join.Or (clause_within n)) tokens
level n m tokens e = ap (λ k. clause_within k tokens) e

pub clause_of-again : (tokens : List Token) (c : Clause) → IsClause c tokens → is_crowded 64 tokens ≡ false → clause_of tokens ≡ Some c
unfolding clause_of
clause_of-again tokens c is free =
    let cut : tokens ++ [] ≡ tokens = append-nil tokens in
    let found = joined_again join.Or c tokens is 64 [] tt (ap (is_crowded 64) cut ∙ free) in
    ap whole (level 64 65 tokens (omega arith) ∙ (ap (joined_at join.Or (part_at join.Or (clause_within 64))) (sym cut) ∙ found))

-- no more are open than there are tokens
crowd_step : (token : Token) (tokens : List Token) (room : ℕ) (opens closes : Bool) → is_open token ≡ opens → is_close token ≡ closes → length tokens < room → ((n : ℕ) → length tokens ≤ n → is_crowded n tokens ≡ false) → is_crowded room (token ∷ tokens) ≡ false
crowd_step token tokens room true closes e f few free = let some : eqb room 0 ≡ false = grind (arith, nat_tests) in rw (e, some) (free (room - 1) (omega arith))
crowd_step token tokens room false true e f few free = rw (e, f) (free (room + 1) (omega arith))
crowd_step token tokens room false false e f few free = rw (e, f) (free room (omega arith))

never_crowded : (tokens : List Token) (room : ℕ) → length tokens ≤ room → is_crowded room tokens ≡ false
never_crowded [] room few = refl
never_crowded (token ∷ tokens) room few = crowd_step token tokens room (is_open token) (is_close token) refl refl (omega arith) (never_crowded tokens)

same_clause : (c d : Clause) (rest : List Token) → ◌≡◌ {A = Option (Clause × List Token)} (Some (c, rest)) (Some (d, rest)) → c ≡ d
same_clause c d rest e = let same : ◌≡◌ {A = Clause × List Token} (c, rest) (d, rest) = cc in ap (λ f. f.0) same

-- tokens are at most one clause
pub one_clause : (tokens : List Token) (c d : Clause) → IsClause c tokens → IsClause d tokens → c ≡ d
one_clause tokens c d is also =
    let room = length tokens in
    let cut : tokens ++ [] ≡ tokens = append-nil tokens in
    let free : is_crowded room (tokens ++ []) ≡ false = ap (is_crowded room) cut ∙ never_crowded tokens room (omega arith) in
    let first = joined_again join.Or c tokens is room [] tt free in
    let second = joined_again join.Or d tokens also room [] tt free in
    same_clause c d [] (sym first ∙ second)
