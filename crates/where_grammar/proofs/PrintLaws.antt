-- What the print of a clause is read as.
use Rattle.std.proofs.Common.{◌≡◌, ℕ, ◌≤◌, ◌<◌, Bool, true, false, cond, List, length, refl, sym, ap, subst, ◌∙◌, arith}
use Rattle.std.specs.Prelude.{Option, Some, None, is_some, Result, Ok, Err, nat_lt}
use Rattle.std.specs.List.{list_all, list_any}
use Rattle.std.proofs.lemmas.Bool.Decides.{nat_tests}
use Rattle.where_grammar.specs.declared.clause.Clause.{Clause}
use Rattle.where_grammar.specs.declared.clause.QueryKind.{QueryKind}
use Rattle.where_grammar.specs.declared.clause.QueryKind.TheVariants as kind
use Rattle.where_grammar.specs.declared.clause.Join.TheVariants as join
use Rattle.where_grammar.specs.declared.token.Placed.{Placed}
use Rattle.where_grammar.specs.Grammar.{IsClause}
use Rattle.where_grammar.specs.Nesting.{is_deep}
use Rattle.where_grammar.specs.Parsing.{bare, long_of}
use Rattle.where_grammar.specs.Printed.{IsGiven, clause_text, clause_tokens, is_fit, is_long_text, lists_too_much, reread}
use Rattle.where_grammar.specs.Tokens.{Spells}
use Rattle.where_grammar.specs.Language.{HasTokens, NoTokens, listed, read_by, read_where, spelled_by, stopped, too_deep, too_long}
use Rattle.where_grammar.proofs.TextLaws.{has_tokens, no_tokens}
use Rattle.where_grammar.proofs.ClauseLaws.{shallow_tokens}
use Rattle.where_grammar.proofs.Readings.{clause_of-again}
use Rattle.where_grammar.proofs.Writings.{AreSpelled, long_stops, within_spelled, written_spelled}
use Rattle.where_grammar.proofs.Prints.{Prints, prints_joined}
use Rattle.where_grammar.proofs.Longs.{long_clause}

refused : (text : List ℕ) (k : QueryKind) → NoTokens text k → read_where text ≡ Err k
unfolding read_where
refused text k none = ap read_by (no_tokens text k none)

listed_by : (c : Clause) (o : Option ℕ) (long : Bool) → is_some o ≡ long → listed o c ≡ cond long (Err kind.ListLength) (Ok c)
listed_by c None true e = absurd cc
listed_by c None false e = refl
listed_by c (Some at) true e = refl
listed_by c (Some at) false e = absurd cc

read_shallow : (c : Clause) (text : List ℕ) (ps : List Placed) → HasTokens text ps → IsClause c (bare ps) → read_where text ≡ cond (lists_too_much c) (Err kind.ListLength) (Ok c)
unfolding read_where
read_shallow c text ps has is =
    ap read_by (has_tokens text ps has) ∙ (ap (spelled_by ps) (clause_of-again (bare ps) c is (shallow_tokens (bare ps) has.shallow)) ∙ listed_by c (long_of ps) (lists_too_much c) (long_clause c ps is))

few : (text : List ℕ) → nat_lt 1048576 (length text) ≡ false → length text ≤ 1048576
few text e = grind (arith, nat_tests)

many : (text : List ℕ) → nat_lt 1048576 (length text) ≡ true → 1048576 < length text
many text e = grind (arith, nat_tests)

-- the print, and how its tokens are placed in it
record Printed (c : Clause) : Type 0 where
  prints : Prints c
  spelled : AreSpelled (length (clause_text c)) (clause_text c) (clause_tokens c)

abbrev Depths : Clause → Bool → Result Clause QueryKind
Depths c deep = cond deep (Err kind.Depth) (cond (lists_too_much c) (Err kind.ListLength) (Ok c))

placed_again : (c : Clause) (p : Printed c) → list_any is_long_text (clause_tokens c) ≡ false → Spells (clause_text c) p.spelled.placed
placed_again c p texts =
    let s = p.spelled in
    let fit : list_all is_fit (bare s.placed) ≡ true = ap (list_all is_fit) s.same ∙ p.prints.good.fit in
    let short : list_any is_long_text (bare s.placed) ≡ false = ap (list_any is_long_text) s.same ∙ texts in
    within_spelled (length (clause_text c)) (clause_text c) s.placed fit short s.spelled

at_depth : (c : Clause) (p : Printed c) (deep : Bool) → is_deep (clause_tokens c) ≡ deep → length (clause_text c) ≤ 1048576 → list_any is_long_text (clause_tokens c) ≡ false → read_where (clause_text c) ≡ Depths c deep
at_depth c p true e short texts = refused (clause_text c) kind.Depth (too_deep p.spelled.placed short (placed_again c p texts) (ap is_deep p.spelled.same ∙ e))
at_depth c p false e short texts =
    let s = p.spelled in
    let has : HasTokens (clause_text c) s.placed = record { fits = short; spelled = placed_again c p texts; shallow = ap is_deep s.same ∙ e } in
    read_shallow c (clause_text c) s.placed has (subst (IsClause c) (sym s.same) p.prints.whole)

abbrev Texts : Clause → Bool → Result Clause QueryKind
Texts c long = cond long (Err kind.TextLength) (Depths c (is_deep (clause_tokens c)))

at_texts : (c : Clause) (p : Printed c) (long : Bool) → list_any is_long_text (clause_tokens c) ≡ long → length (clause_text c) ≤ 1048576 → read_where (clause_text c) ≡ Texts c long
at_texts c p true e short =
    let s = p.spelled in
    let fit : list_all is_fit (bare s.placed) ≡ true = ap (list_all is_fit) s.same ∙ p.prints.good.fit in
    let long : list_any is_long_text (bare s.placed) ≡ true = ap (list_any is_long_text) s.same ∙ e in
    refused (clause_text c) kind.TextLength (stopped kind.TextLength short (long_stops (length (clause_text c)) (clause_text c) s.placed fit long s.spelled))
at_texts c p false e short = at_depth c p (is_deep (clause_tokens c)) refl short e

at_length : (c : Clause) (p : Printed c) (long : Bool) → nat_lt 1048576 (length (clause_text c)) ≡ long → read_where (clause_text c) ≡ cond long (Err kind.Length) (Texts c (list_any is_long_text (clause_tokens c)))
at_length c p true e = refused (clause_text c) kind.Length (too_long (many (clause_text c) e))
at_length c p false e = at_texts c p (list_any is_long_text (clause_tokens c)) refl (few (clause_text c) e)

pub read_again : (c : Clause) → IsGiven c → read_where (clause_text c) ≡ reread c
read_again c given =
    let prints = prints_joined join.Or c given.0 given.1 given.2 in
    let spelled = written_spelled (length (clause_text c)) true (clause_tokens c) prints.good.plain in
    at_length c (record { prints = prints; spelled = spelled }) (nat_lt 1048576 (length (clause_text c))) refl
