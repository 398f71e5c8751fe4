-- A clause has one plan, whose truth is the clause's, or a first refusal.
use Rattle.std.proofs.Common.{◌≡◌, ◌<◌, ℕ, zero, suc, Bool, true, false, cond, not, ◌&&◌, List, [], ◌∷◌, ◌++◌, map, length, take, get_or, ◌+◌, refl, sym, ap, subst, ◌∙◌, ℤ, ◌≤ℤ◌, append-nil, arith}
use Rattle.std.specs.Prelude.{Option, Some, None, Result, Ok, Err, IfOk, IfErr, is_some, is_none, slice_get, slice_index_or, option_map}
use Rattle.std.specs.Option.{option_and_then}
use Rattle.std.specs.List.{AllByRecursion, list_any, list_all}
use Rattle.std.proofs.lemmas.Int.{ints}
use Rattle.std.proofs.lemmas.Grind.{common_steps}
use Rattle.answers.specs.Answers.{Answers, Tells}
use Rattle.fb_types.specs.Cells.{CellFits, RecordFits}
use Rattle.fb_types.specs.Schemas.{place_of}
use Rattle.fb_types.specs.Types.{ends_of}
use Rattle.fb_types.specs.declared.cells.Cell.{Cell}
use Rattle.fb_types.specs.declared.cells.Cell.TheVariants as cell
use Rattle.fb_types.specs.declared.schemas.Column.{Column}
use Rattle.fb_types.specs.declared.types.ColType.{ColType}
use Rattle.binning.specs.declared.span_lists.Span.{Span}
use Rattle.binning.specs.Spans.{has, in_span}
use Rattle.where_grammar.specs.declared.clause.Atom.{Atom}
use Rattle.where_grammar.specs.declared.clause.Atom.TheVariants as condition
use Rattle.where_grammar.specs.declared.clause.Clause.{Clause}
use Rattle.where_grammar.specs.declared.clause.Clause.TheVariants as clause
use Rattle.where_grammar.specs.declared.clause.Clause.TheVariants.{rolls-Or, rolls-Xor, rolls-And, rolls-Not, rolls-One}
use Rattle.where_grammar.specs.declared.clause.Clause.TheOpen.{Clause-F}
use Rattle.where_grammar.specs.declared.clause.Clause.TheViews.{out-Clause, out-roll-Clause}
use Rattle.where_grammar.specs.declared.clause.QueryKind.{QueryKind}
use Rattle.where_grammar.specs.declared.clause.QueryKind.TheVariants.{Unknown, WrongType}
use Rattle.where_grammar.specs.Holds.{atom_holds, cell_named, column_of, holds, is_met, is_there, number_passes, odd_many}
use Rattle.where_grammar.proofs.Parts.{holds-one, holds-not, holds-xor}
use Rattle.where_plan.specs.declared.faults.NameFault.{NameFault}
use Rattle.where_plan.specs.declared.faults.NameFault.TheVariants.{Bad, OutOfMemory}
use Rattle.where_plan.specs.declared.plan.PlanAtom.{PlanAtom}
use Rattle.where_plan.specs.declared.plan.PlanAtom.TheVariants as atom
use Rattle.where_plan.specs.declared.plan.Plan.{Plan}
use Rattle.where_plan.specs.declared.plan.Plan.TheVariants as plan
use Rattle.where_plan.specs.declared.sorts.Sort.{Sort}
use Rattle.where_plan.specs.declared.sorts.Sort.TheVariants.{Number, Text, Any}
use Rattle.where_plan.specs.Sorts.{column_named, sort_of, suits}
use Rattle.where_plan.specs.SpansOf.{AreSpansOf, number_meets, span}
use Rattle.where_plan.specs.Plans.{ArePlans, FitsColumn, FitsSchema, IsAtomPlan, IsClausePlan, IsOnAny, IsOnNumbers, IsOnWords, IsPlan, all_of, any_of, atoms_of, denied, joined, no_parts, odd_of, one_more, single}
use Rattle.where_plan.specs.PlanHolds.{cell_at, is_asked_for, plan_atom_holds, plan_holds}
use Rattle.where_plan.specs.Refusals.{atom_refusal, clause_refusal, first_some, refusal, refusal_of}
use Rattle.where_plan.proofs.FoldLemmas.{atoms_of-all, atoms_of-and, atoms_of-not, atoms_of-one, atoms_of-or, atoms_of-xor, clause_refusal-and, clause_refusal-not, clause_refusal-one, clause_refusal-or, clause_refusal-xor, holds-and, holds-or, plan_holds-all, plan_holds-and, plan_holds-not, plan_holds-one, plan_holds-or, plan_holds-xor}
use Rattle.where_plan.proofs.SpanSets.{one_list}

-- ---- conditions

-- the two ways in which a condition on the column of a type is answered
pub suited : (columns : List Column) (a : Atom) (col : ℕ) (ty : ColType) → column_named columns (column_of a) ≡ Some (col, ty) → atom_refusal columns a ≡ cond (suits (sort_of a) ty) None (Some (WrongType (column_of a)))
suited columns a col ty named = rw named refl

pub unnamed : (columns : List Column) (a : Atom) → column_named columns (column_of a) ≡ None → atom_refusal columns a ≡ Some (Unknown (column_of a))
unnamed columns a named = rw named refl

suits_all : (columns : List Column) (a : Atom) (col : ℕ) (ty : ColType) (sort : Sort) → column_named columns (column_of a) ≡ Some (col, ty) → sort_of a ≡ sort → suits sort ty ≡ true → atom_refusal columns a ≡ None
suits_all columns a col ty sort named e fits = suited columns a col ty named ∙ ap (λ b. cond b None (Some (WrongType (column_of a)))) (ap (λ s. suits s ty) e ∙ fits)

pub atom_unrefused : (columns : List Column) (a : Atom) (p : PlanAtom) → IsAtomPlan columns a p → atom_refusal columns a ≡ None
atom_unrefused columns a (atom.Whole col spans) is = suits_all columns a col is.ty Number is.named is.sort (ap is_some is.ends)
atom_unrefused columns a (atom.Word col kept) is = suits_all columns a col is.ty Text is.named is.sort (ap is_none is.ends)
atom_unrefused columns a (atom.Exists col) is = suits_all columns a col is.ty Any is.named is.sort refl

-- ---- a clause that has a plan isn't refused

mutual
  pub unrefused : (columns : List Column) (c : Clause) (p : Plan) → IsClausePlan columns c p → clause_refusal columns c ≡ None
  unrefused columns _ _ (any_of parts plans are) = clause_refusal-or columns parts ∙ parts_unrefused columns parts plans are
  unrefused columns _ _ (odd_of parts plans are) = clause_refusal-xor columns parts ∙ parts_unrefused columns parts plans are
  unrefused columns _ _ (all_of parts plans are) = clause_refusal-and columns parts ∙ parts_unrefused columns parts plans are
  unrefused columns _ _ (denied part planned is) = clause_refusal-not columns part ∙ unrefused columns part planned is
  unrefused columns _ _ (single a p is) = clause_refusal-one columns a ∙ atom_unrefused columns a p is

  pub parts_unrefused : (columns : List Column) (cs : List Clause) (ps : List Plan) → ArePlans columns cs ps → first_some (map (clause_refusal columns) cs) ≡ None
  parts_unrefused columns _ _ no_parts = refl
  parts_unrefused columns _ _ (one_more c cs p ps is are) = rw (unrefused columns c p is) (parts_unrefused columns cs ps are)

-- ---- one part more

pub plans_pushed : (columns : List Column) (cs : List Clause) (ps : List Plan) (c : Clause) (p : Plan) → ArePlans columns cs ps → IsClausePlan columns c p → ArePlans columns (cs ++ c ∷ []) (ps ++ p ∷ [])
plans_pushed columns _ _ c p no_parts is = one_more c [] p [] is no_parts
plans_pushed columns _ _ c p (one_more d cs q ps has are) is = one_more d (cs ++ c ∷ []) q (ps ++ p ∷ []) has (plans_pushed columns cs ps c p are is)

taken_more : {A : Type 0} (xs : List A) (i : ℕ) (x : A) → i < length xs → x ≡ get_or xs i x → take (i + 1) xs ≡ take i xs ++ x ∷ []
taken_more xs i x h e = grind (arith, common_steps)

pub plans_step : (columns : List Column) (cs : List Clause) (ps qs : List Plan) (i : ℕ) (c : Clause) (p : Plan) → i < length cs → c ≡ get_or cs i c → ArePlans columns (take i cs) ps → IsClausePlan columns c p → qs ≡ ps ++ p ∷ [] → ArePlans columns (take (i + 1) cs) qs
plans_step columns cs ps qs i c p h e are is more =
    subst (λ x. ArePlans columns x qs) (sym (taken_more cs i c h e)) (subst (ArePlans columns (take i cs ++ c ∷ [])) (sym more) (plans_pushed columns (take i cs) ps c p are is))

-- the first part that is refused tells the refusal of all
behind_none : {B : Type 0} (o : Option B) (front all : List (Option B)) (k : B) → first_some (o ∷ front) ≡ None → (first_some front ≡ None → first_some all ≡ Some k) → first_some (o ∷ all) ≡ Some k
behind_none None front all k none h = h none
behind_none (Some y) front all k none h = absurd cc

first_at : {A B : Type 0} (R : A → Option B) (xs : List A) (i : ℕ) (d : A) (k : B) → first_some (map R (take i xs)) ≡ None → i < length xs → R (get_or xs i d) ≡ Some k → first_some (map R xs) ≡ Some k
first_at R [] i d k none h e = absurd (omega arith)
first_at R (x ∷ xs) zero d k none h e = ap (λ o. first_some (o ∷ map R xs)) e
first_at R (x ∷ xs) (suc i) d k none h e = behind_none (R x) (map R (take i xs)) (map R xs) k none (λ n. first_at R xs i d k n (omega arith) e)

pub part_refused : (columns : List Column) (cs : List Clause) (ps : List Plan) (i : ℕ) (c : Clause) (e : NameFault) → i < length cs → c ≡ get_or cs i c → ArePlans columns (take i cs) ps → Tells refusal (λ kind. clause_refusal columns c ≡ Some kind) e
    → Tells refusal (λ kind. first_some (map (clause_refusal columns) cs) ≡ Some kind) e
part_refused columns cs ps i c (Bad kind) h same are told =
    first_at (clause_refusal columns) cs i c kind (parts_unrefused columns (take i cs) ps are) h (ap (clause_refusal columns) (sym same) ∙ told)
part_refused columns cs ps i c OutOfMemory h same are told = tt

pub tells_same : (x y : Option QueryKind) (e : NameFault) → x ≡ y → Tells refusal (λ kind. y ≡ Some kind) e → Tells refusal (λ kind. x ≡ Some kind) e
tells_same x y e same h = subst (λ z. Tells refusal (λ kind. z ≡ Some kind) e) (sym same) h

module _ (columns : List Column) (c : Clause) where
  pub or_planned : (parts : List Clause) (plans : List Plan) → c ≡ clause.Or parts → ArePlans columns parts plans → IsClausePlan columns c (plan.Or plans)
  or_planned parts plans e are = subst (λ x. IsClausePlan columns x (plan.Or plans)) (sym e) (any_of parts plans are)

  pub xor_planned : (parts : List Clause) (plans : List Plan) → c ≡ clause.Xor parts → ArePlans columns parts plans → IsClausePlan columns c (plan.Xor plans)
  xor_planned parts plans e are = subst (λ x. IsClausePlan columns x (plan.Xor plans)) (sym e) (odd_of parts plans are)

  pub and_planned : (parts : List Clause) (plans : List Plan) → c ≡ clause.And parts → ArePlans columns parts plans → IsClausePlan columns c (plan.And plans)
  and_planned parts plans e are = subst (λ x. IsClausePlan columns x (plan.And plans)) (sym e) (all_of parts plans are)

  pub not_planned : (part : Clause) (p q : Plan) → c ≡ clause.Not part → q ≡ p → IsClausePlan columns part p → IsClausePlan columns c (plan.Not q)
  not_planned part p q e f is = subst (λ x. IsClausePlan columns x (plan.Not q)) (sym e) (denied part q (subst (IsClausePlan columns part) (sym f) is))

  pub one_planned : (a : Atom) (p : PlanAtom) → c ≡ clause.One a → IsAtomPlan columns a p → IsClausePlan columns c (plan.One p)
  one_planned a p e is = subst (λ x. IsClausePlan columns x (plan.One p)) (sym e) (single a p is)

-- ---- one plan

-- the plans that the parts of a clause allow
abbrev Allows : List Column → Clause-F Clause → Plan → Type 0
Allows columns (Clause-F.Or parts) p = (plans : List Plan) × (ArePlans columns parts plans × (p ≡ plan.Or plans))
Allows columns (Clause-F.Xor parts) p = (plans : List Plan) × (ArePlans columns parts plans × (p ≡ plan.Xor plans))
Allows columns (Clause-F.And parts) p = (plans : List Plan) × (ArePlans columns parts plans × (p ≡ plan.And plans))
Allows columns (Clause-F.Not part) p = (planned : Plan) × (IsClausePlan columns part planned × (p ≡ plan.Not planned))
Allows columns (Clause-F.One a) p = (planned : PlanAtom) × (IsAtomPlan columns a planned × (p ≡ plan.One planned))

out-or : (parts : List Clause) → out-Clause (clause.Or parts) ≡ Clause-F.Or parts
out-or parts = ap out-Clause (sym (rolls-Or parts)) ∙ out-roll-Clause (Clause-F.Or parts)

out-xor : (parts : List Clause) → out-Clause (clause.Xor parts) ≡ Clause-F.Xor parts
out-xor parts = ap out-Clause (sym (rolls-Xor parts)) ∙ out-roll-Clause (Clause-F.Xor parts)

out-and : (parts : List Clause) → out-Clause (clause.And parts) ≡ Clause-F.And parts
out-and parts = ap out-Clause (sym (rolls-And parts)) ∙ out-roll-Clause (Clause-F.And parts)

out-not : (part : Clause) → out-Clause (clause.Not part) ≡ Clause-F.Not part
out-not part = ap out-Clause (sym (rolls-Not part)) ∙ out-roll-Clause (Clause-F.Not part)

out-one : (a : Atom) → out-Clause (clause.One a) ≡ Clause-F.One a
out-one a = ap out-Clause (sym (rolls-One a)) ∙ out-roll-Clause (Clause-F.One a)

allowed : (columns : List Column) (c : Clause) (p : Plan) → IsClausePlan columns c p → Allows columns (out-Clause c) p
allowed columns _ _ (any_of parts plans are) = subst (λ x. Allows columns x (plan.Or plans)) (sym (out-or parts)) (plans, (are, refl))
allowed columns _ _ (odd_of parts plans are) = subst (λ x. Allows columns x (plan.Xor plans)) (sym (out-xor parts)) (plans, (are, refl))
allowed columns _ _ (all_of parts plans are) = subst (λ x. Allows columns x (plan.And plans)) (sym (out-and parts)) (plans, (are, refl))
allowed columns _ _ (denied part planned is) = subst (λ x. Allows columns x (plan.Not planned)) (sym (out-not part)) (planned, (is, refl))
allowed columns _ _ (single a p is) = subst (λ x. Allows columns x (plan.One p)) (sym (out-one a)) (p, (is, refl))

some_same : {A : Type 0} (x y : A) → Some x ≡ Some y → x ≡ y
some_same x y e = cc

whole_same : (columns : List Column) (a : Atom) (c d : ℕ) (xs ys : List Span) → IsOnNumbers columns a c xs → IsOnNumbers columns a d ys → atom.Whole c xs ≡ atom.Whole d ys
whole_same columns a c d xs ys f g =
    let named : (c, f.ty) ≡ (d, g.ty) = some_same (c, f.ty) (d, g.ty) (sym f.named ∙ g.named) in
    let col : c ≡ d = ap (λ (x : ℕ × ColType). x.0) named in
    let ty : f.ty ≡ g.ty = ap (λ (x : ℕ × ColType). x.1) named in
    let ends : (f.least, f.greatest) ≡ (g.least, g.greatest) = some_same (f.least, f.greatest) (g.least, g.greatest) (sym f.ends ∙ (ap ends_of ty ∙ g.ends)) in
    let numbers : AreSpansOf (span g.least g.greatest) (number_meets a) xs = subst (λ (x : ℤ × ℤ). AreSpansOf (span x.0 x.1) (number_meets a) xs) ends f.numbers in
    ap (λ x. atom.Whole x xs) col ∙ ap (λ zs. atom.Whole d zs) (one_list (span g.least g.greatest) (number_meets a) xs ys numbers g.numbers)

col_same : (columns : List Column) (a : Atom) (c d : ℕ) (s t : ColType) → column_named columns (column_of a) ≡ Some (c, s) → column_named columns (column_of a) ≡ Some (d, t) → c ≡ d
col_same columns a c d s t f g = ap (λ (x : ℕ × ColType). x.0) (some_same (c, s) (d, t) (sym f ∙ g))

other_sort : {A : Type 0} (a : Atom) (s t : Sort) → sort_of a ≡ s → sort_of a ≡ t → (s ≡ t → A) → A
other_sort a s t e f h = h (sym e ∙ f)

same_atom : (columns : List Column) (a : Atom) (p q : PlanAtom) → IsAtomPlan columns a p → IsAtomPlan columns a q → p ≡ q
same_atom columns a (atom.Whole c xs) (atom.Whole d ys) f g = whole_same columns a c d xs ys f g
same_atom columns a (atom.Whole c xs) (atom.Word d b) f g = other_sort a Number Text f.sort g.sort (λ e. absurd cc)
same_atom columns a (atom.Whole c xs) (atom.Exists d) f g = other_sort a Number Any f.sort g.sort (λ e. absurd cc)
same_atom columns a (atom.Word c b) (atom.Whole d ys) f g = other_sort a Text Number f.sort g.sort (λ e. absurd cc)
same_atom columns a (atom.Word c b) (atom.Word d k) f g =
    ap (λ x. atom.Word x b) (col_same columns a c d f.ty g.ty f.named g.named) ∙ ap (λ x. atom.Word d x) (f.same ∙ sym g.same)
same_atom columns a (atom.Word c b) (atom.Exists d) f g = other_sort a Text Any f.sort g.sort (λ e. absurd cc)
same_atom columns a (atom.Exists c) (atom.Whole d ys) f g = other_sort a Any Number f.sort g.sort (λ e. absurd cc)
same_atom columns a (atom.Exists c) (atom.Word d k) f g = other_sort a Any Text f.sort g.sort (λ e. absurd cc)
same_atom columns a (atom.Exists c) (atom.Exists d) f g = ap atom.Exists (col_same columns a c d f.ty g.ty f.named g.named)

mutual
  pub same_plan : (columns : List Column) (c : Clause) (p q : Plan) → IsClausePlan columns c p → IsClausePlan columns c q → p ≡ q
  same_plan columns _ _ q (any_of parts plans are) is =
      let h : Allows columns (Clause-F.Or parts) q = subst (λ x. Allows columns x q) (out-or parts) (allowed columns (clause.Or parts) q is) in
      ap plan.Or (same_plans columns parts plans h.0 are h.1.0) ∙ sym h.1.1
  same_plan columns _ _ q (odd_of parts plans are) is =
      let h : Allows columns (Clause-F.Xor parts) q = subst (λ x. Allows columns x q) (out-xor parts) (allowed columns (clause.Xor parts) q is) in
      ap plan.Xor (same_plans columns parts plans h.0 are h.1.0) ∙ sym h.1.1
  same_plan columns _ _ q (all_of parts plans are) is =
      let h : Allows columns (Clause-F.And parts) q = subst (λ x. Allows columns x q) (out-and parts) (allowed columns (clause.And parts) q is) in
      ap plan.And (same_plans columns parts plans h.0 are h.1.0) ∙ sym h.1.1
  same_plan columns _ _ q (denied part planned has) is =
      let h : Allows columns (Clause-F.Not part) q = subst (λ x. Allows columns x q) (out-not part) (allowed columns (clause.Not part) q is) in
      ap plan.Not (same_plan columns part planned h.0 has h.1.0) ∙ sym h.1.1
  same_plan columns _ _ q (single a p has) is =
      let h : Allows columns (Clause-F.One a) q = subst (λ x. Allows columns x q) (out-one a) (allowed columns (clause.One a) q is) in
      ap plan.One (same_atom columns a p h.0 has h.1.0) ∙ sym h.1.1

  same_plans : (columns : List Column) (cs : List Clause) (ps qs : List Plan) → ArePlans columns cs ps → ArePlans columns cs qs → ps ≡ qs
  same_plans columns _ _ _ no_parts no_parts = refl
  same_plans columns _ _ _ (one_more c cs p ps is are) (one_more _ _ q qs also too) =
      ap (λ x. x ∷ ps) (same_plan columns c p q is also) ∙ ap (λ xs. q ∷ xs) (same_plans columns cs ps qs are too)

pub one_plan : (columns : List Column) (asked : Option Clause) (p q : Plan) → IsPlan columns asked p → IsPlan columns asked q → p ≡ q
one_plan columns None p q f g = f ∙ sym g
one_plan columns (Some c) p q f g = same_plan columns c p q f g

-- ---- the truth of a plan

-- what is known of the column of a name
record Named (columns : List Column) (name : List ℕ) (col : ℕ) (ty : ColType) : Type 0 where
  place : place_of columns name ≡ Some col
  column : Column
  get : slice_get columns col ≡ Some column
  type : column.ty ≡ ty

named_by : (columns : List Column) (name : List ℕ) (o : Option ℕ) (col : ℕ) (ty : ColType) → place_of columns name ≡ o
    → option_and_then {U = ℕ × ColType} (λ at. option_map {U = ℕ × ColType} (λ column. (at, column.ty)) (slice_get columns at)) o ≡ Some (col, ty) → Named columns name col ty
named_by columns name None col ty e h = absurd cc
named_by columns name (Some at) col ty e h = by (slice_get columns at) refl h
  where
    by : (got : Option Column) → slice_get columns at ≡ got → option_map {U = ℕ × ColType} (λ column. (at, column.ty)) got ≡ Some (col, ty) → Named columns name col ty
    by None g k = absurd cc
    by (Some column) g k =
        let pair : (at, column.ty) ≡ (col, ty) = some_same (at, column.ty) (col, ty) k in
        let same : at ≡ col = ap (λ (x : ℕ × ColType). x.0) pair in
        record { place = e ∙ ap Some same; column = column; get = ap (slice_get columns) (sym same) ∙ g; type = ap (λ (x : ℕ × ColType). x.1) pair }

named_told : (columns : List Column) (name : List ℕ) (col : ℕ) (ty : ColType) → column_named columns name ≡ Some (col, ty) → Named columns name col ty
named_told columns name col ty h = named_by columns name (place_of columns name) col ty refl h

-- each cell fits the column in its place
abbrev EachFits : List Column → List Cell → Type 0
EachFits columns cells = (col : ℕ) (column : Column) → slice_get columns col ≡ Some column → CellFits (cell_at cells col) column.ty

fits_at : (cells : List Cell) (front more : List Column) → RecordFits cells front → EachFits (front ++ more) cells
fits_at [] [] more fits col column get = tt
fits_at [] (c ∷ front) more fits col column get = absurd fits
fits_at (cell ∷ cells) [] more fits col column get = absurd fits
fits_at (cell ∷ cells) (c ∷ front) more fits zero column get = let same : c ≡ column = some_same c column get in subst (λ x. CellFits cell x.ty) same fits.0
fits_at (cell ∷ cells) (c ∷ front) more fits (suc col) column get = fits_at cells front more fits.1 col column get

cell_of : (columns : List Column) (cells : List Cell) (name : List ℕ) (col : ℕ) (ty : ColType) → Named columns name col ty → cell_named columns cells name ≡ cell_at cells col
cell_of columns cells name col ty n = rw n.place refl

null_unmet : (a : Atom) → is_met a cell.Null ≡ false
null_unmet (condition.Compare name by value) = refl
null_unmet (condition.Double name left low right high) = refl
null_unmet (condition.Between name low high) = refl
null_unmet (condition.Numbers name list) = refl
null_unmet (condition.Same name text) = refl
null_unmet (condition.Other name text) = refl
null_unmet (condition.Texts name list) = refl
null_unmet (condition.Like name pattern) = refl
null_unmet (condition.Exists name) = refl

word_unmet : (a : Atom) (word : List ℕ) → sort_of a ≡ Number → is_met a (cell.Word word) ≡ false
word_unmet (condition.Compare name by value) word e = refl
word_unmet (condition.Double name left low right high) word e = refl
word_unmet (condition.Between name low high) word e = refl
word_unmet (condition.Numbers name list) word e = refl
word_unmet (condition.Same name text) word e = absurd cc
word_unmet (condition.Other name text) word e = absurd cc
word_unmet (condition.Texts name list) word e = absurd cc
word_unmet (condition.Like name pattern) word e = absurd cc
word_unmet (condition.Exists name) word e = absurd cc

there_met : (a : Atom) (c : Cell) → sort_of a ≡ Any → is_there c ≡ is_met a c
there_met (condition.Compare name by value) c e = absurd cc
there_met (condition.Double name left low right high) c e = absurd cc
there_met (condition.Between name low high) c e = absurd cc
there_met (condition.Numbers name list) c e = absurd cc
there_met (condition.Same name text) c e = absurd cc
there_met (condition.Other name text) c e = absurd cc
there_met (condition.Texts name list) c e = absurd cc
there_met (condition.Like name pattern) c e = absurd cc
there_met (condition.Exists name) c e = refl

inside : (n least greatest : ℤ) → least ≤ℤ n → n ≤ℤ greatest → in_span n (span least greatest) ≡ true
inside n least greatest h k = grind (arith, ints)

fits_ends : (ty : ColType) (n least greatest : ℤ) → CellFits (cell.Whole n) ty → ends_of ty ≡ Some (least, greatest) → in_span n (span least greatest) ≡ true
fits_ends ty n least greatest fits e = let h : (least ≤ℤ n) × (n ≤ℤ greatest) = rw e at fits in inside n least greatest h.0 h.1

and_true : (a b : Bool) → a ≡ true → (a && b) ≡ b
and_true a b e = rw e refl

numbers_met : (a : Atom) (c : Cell) (ty : ColType) (least greatest : ℤ) (spans : List Span) → sort_of a ≡ Number → CellFits c ty → ends_of ty ≡ Some (least, greatest) → AreSpansOf (span least greatest) (number_meets a) spans
    → number_passes (has spans) c ≡ is_met a c
numbers_met a cell.Null ty least greatest spans sort fits ends are = sym (null_unmet a)
numbers_met a (cell.Whole n) ty least greatest spans sort fits ends are =
    are.numbers n ∙ and_true (in_span n (span least greatest)) (number_meets a n) (fits_ends ty n least greatest fits ends)
numbers_met a (cell.Word word) ty least greatest spans sort fits ends are = sym (word_unmet a word sort)

atom_truth : (columns : List Column) (cells : List Cell) → EachFits columns cells → (a : Atom) (p : PlanAtom) → IsAtomPlan columns a p → plan_atom_holds p cells ≡ atom_holds a columns cells
atom_truth columns cells fits a (atom.Whole col spans) is =
    let n = named_told columns (column_of a) col is.ty is.named in
    let fit : CellFits (cell_at cells col) is.ty = subst (λ ty. CellFits (cell_at cells col) ty) n.type (fits col n.column n.get) in
    numbers_met a (cell_at cells col) is.ty is.least is.greatest spans is.sort fit is.ends is.numbers
    ∙ ap (is_met a) (sym (cell_of columns cells (column_of a) col is.ty n))
atom_truth columns cells fits a (atom.Word col kept) is =
    ap (λ k. is_met k (cell_at cells col)) is.same
    ∙ ap (is_met a) (sym (cell_of columns cells (column_of a) col is.ty (named_told columns (column_of a) col is.ty is.named)))
atom_truth columns cells fits a (atom.Exists col) is =
    there_met a (cell_at cells col) is.sort
    ∙ ap (is_met a) (sym (cell_of columns cells (column_of a) col is.ty (named_told columns (column_of a) col is.ty is.named)))

mutual
  clause_truth : (columns : List Column) (cells : List Cell) → EachFits columns cells → (c : Clause) (p : Plan) → IsClausePlan columns c p → plan_holds p cells ≡ holds c columns cells
  clause_truth columns cells fits _ _ (any_of parts plans are) =
      plan_holds-or cells plans ∙ (ap (list_any (λ b. b)) (parts_truth columns cells fits parts plans are) ∙ sym (holds-or columns cells parts))
  clause_truth columns cells fits _ _ (odd_of parts plans are) =
      plan_holds-xor cells plans ∙ (ap odd_many (parts_truth columns cells fits parts plans are) ∙ sym (holds-xor parts columns cells))
  clause_truth columns cells fits _ _ (all_of parts plans are) =
      plan_holds-and cells plans ∙ (ap (list_all (λ b. b)) (parts_truth columns cells fits parts plans are) ∙ sym (holds-and columns cells parts))
  clause_truth columns cells fits _ _ (denied part planned is) =
      plan_holds-not cells planned ∙ (ap not (clause_truth columns cells fits part planned is) ∙ sym (holds-not part columns cells))
  clause_truth columns cells fits _ _ (single a p is) =
      plan_holds-one cells p ∙ (atom_truth columns cells fits a p is ∙ sym (holds-one a columns cells))

  parts_truth : (columns : List Column) (cells : List Cell) → EachFits columns cells → (cs : List Clause) (ps : List Plan) → ArePlans columns cs ps → map (λ p. plan_holds p cells) ps ≡ map (λ c. holds c columns cells) cs
  parts_truth columns cells fits _ _ no_parts = refl
  parts_truth columns cells fits _ _ (one_more c cs p ps is are) =
      ap (λ b. b ∷ map (λ p. plan_holds p cells) ps) (clause_truth columns cells fits c p is)
      ∙ ap (λ bs. holds c columns cells ∷ bs) (parts_truth columns cells fits cs ps are)

plan_truth : (columns : List Column) (asked : Option Clause) (planned : Plan) (cells : List Cell) → IsPlan columns asked planned → EachFits columns cells → plan_holds planned cells ≡ is_asked_for asked columns cells
plan_truth columns None planned cells is fits = ap (λ p. plan_holds p cells) is ∙ plan_holds-all cells
plan_truth columns (Some c) planned cells is fits = clause_truth columns cells fits c planned is

pub front_truth : (front more : List Column) (asked : Option Clause) (planned : Plan) (cells : List Cell) → IsPlan (front ++ more) asked planned → RecordFits cells front → plan_holds planned cells ≡ is_asked_for asked (front ++ more) cells
front_truth front more asked planned cells is fits = plan_truth (front ++ more) asked planned cells is (fits_at cells front more fits)

pub whole_truth : (columns : List Column) (asked : Option Clause) (planned : Plan) (cells : List Cell) → IsPlan columns asked planned → RecordFits cells columns → plan_holds planned cells ≡ is_asked_for asked columns cells
whole_truth columns asked planned cells is fits = plan_truth columns asked planned cells is (subst (λ xs. EachFits xs cells) (append-nil columns) (fits_at cells columns [] fits))

-- ---- answers

pub has_no_refusal : (columns : List Column) (asked : Option Clause) (p : Plan) → IsPlan columns asked p → refusal_of columns asked ≡ None
has_no_refusal columns None p is = refl
has_no_refusal columns (Some c) p is = unrefused columns c p is

-- the two sides of what a call answers: a plan, or the first refusal
abbrev Finds : List Column → Option Clause → Result Plan NameFault → Type 0
Finds columns asked (Ok p) = IsPlan columns asked p
Finds columns asked (Err e) = Tells refusal (λ kind. refusal_of columns asked ≡ Some kind) e

answers_plan : (columns : List Column) (asked : Option Clause) (r : Result Plan NameFault) (p : Plan) → Finds columns asked r → IsPlan columns asked p → Answers refusal r (Ok p)
answers_plan columns asked (Ok q) p h is = ap Ok (one_plan columns asked p q is h)
answers_plan columns asked (Err (Bad kind)) p h is = let none = has_no_refusal columns asked p is in absurd (no_some kind (sym none ∙ h))
  where
    no_some : (k : QueryKind) → ◌≡◌ {A = Option QueryKind} None (Some k) → ⊥
    no_some k e = cc
answers_plan columns asked (Err OutOfMemory) p h is = tt

answers_refusal : (columns : List Column) (asked : Option Clause) (r : Result Plan NameFault) (kind : QueryKind) → Finds columns asked r → refusal_of columns asked ≡ Some kind → Answers {T = Plan} refusal r (Err kind)
answers_refusal columns asked (Ok q) kind h e = let none = has_no_refusal columns asked q h in absurd (no_some kind (sym none ∙ e))
  where
    no_some : (k : QueryKind) → ◌≡◌ {A = Option QueryKind} None (Some k) → ⊥
    no_some k e = cc
answers_refusal columns asked (Err (Bad k)) kind h e = ap Err (some_same kind k (sym e ∙ h))
answers_refusal columns asked (Err OutOfMemory) kind h e = tt

finds : (columns : List Column) (asked : Option Clause) (r : Result Plan NameFault) → IfOk r (IsPlan columns asked) → IfErr r (Tells refusal (λ kind. refusal_of columns asked ≡ Some kind)) → Finds columns asked r
finds columns asked (Ok p) h k = h
finds columns asked (Err e) h k = k

pub answers_plan_in : (columns : List Column) (asked : Option Clause) (r : Result Plan NameFault) (p : Plan) → IfOk r (IsPlan columns asked) → IfErr r (Tells refusal (λ kind. refusal_of columns asked ≡ Some kind)) → IsPlan columns asked p → Answers refusal r (Ok p)
answers_plan_in columns asked r p h k is = answers_plan columns asked r p (finds columns asked r h k) is

pub answers_refusal_in : (columns : List Column) (asked : Option Clause) (r : Result Plan NameFault) (kind : QueryKind) → IfOk r (IsPlan columns asked) → IfErr r (Tells refusal (λ kind. refusal_of columns asked ≡ Some kind)) → refusal_of columns asked ≡ Some kind
    → Answers {T = Plan} refusal r (Err kind)
answers_refusal_in columns asked r kind h k e = answers_refusal columns asked r kind (finds columns asked r h k) e

-- ---- plans fit their schema

all_append : {A : Type 0} (P : A → Type 0) (xs ys : List A) → AllByRecursion P xs → AllByRecursion P ys → AllByRecursion P (xs ++ ys)
all_append P [] ys h k = k
all_append P (x ∷ xs) ys h k = (h.0, all_append P xs ys h.1 k)

there_is : (columns : List Column) (name : List ℕ) (col : ℕ) (ty : ColType) → column_named columns name ≡ Some (col, ty) → option_map (λ column. column.ty) (slice_get columns col) ≡ Some ty
there_is columns name col ty named =
    let n = named_told columns name col ty named in
    ap (option_map (λ column. column.ty)) n.get ∙ ap Some n.type

atom_fits : (columns : List Column) (a : Atom) (p : PlanAtom) → IsAtomPlan columns a p → FitsColumn columns p
atom_fits columns a (atom.Whole col spans) is = record { ty = is.ty; there = there_is columns (column_of a) col is.ty is.named; suited = ap is_some is.ends; kept = tt }
atom_fits columns a (atom.Word col kept) is = record { ty = is.ty; there = there_is columns (column_of a) col is.ty is.named; suited = ap is_none is.ends; kept = ap sort_of is.same ∙ is.sort }
atom_fits columns a (atom.Exists col) is = record { ty = is.ty; there = there_is columns (column_of a) col is.ty is.named; suited = refl; kept = tt }

mutual
  plan_fits : (columns : List Column) (c : Clause) (p : Plan) → IsClausePlan columns c p → FitsSchema columns p
  plan_fits columns _ _ (any_of parts plans are) = subst (AllByRecursion (FitsColumn columns)) (sym (atoms_of-or plans)) (plans_fit columns parts plans are)
  plan_fits columns _ _ (odd_of parts plans are) = subst (AllByRecursion (FitsColumn columns)) (sym (atoms_of-xor plans)) (plans_fit columns parts plans are)
  plan_fits columns _ _ (all_of parts plans are) = subst (AllByRecursion (FitsColumn columns)) (sym (atoms_of-and plans)) (plans_fit columns parts plans are)
  plan_fits columns _ _ (denied part planned is) = subst (AllByRecursion (FitsColumn columns)) (sym (atoms_of-not planned)) (plan_fits columns part planned is)
  plan_fits columns _ _ (single a p is) = subst (AllByRecursion (FitsColumn columns)) (sym (atoms_of-one p)) (atom_fits columns a p is, tt)

  plans_fit : (columns : List Column) (cs : List Clause) (ps : List Plan) → ArePlans columns cs ps → AllByRecursion (FitsColumn columns) (joined (map atoms_of ps))
  plans_fit columns _ _ no_parts = tt
  plans_fit columns _ _ (one_more c cs p ps is are) = all_append (FitsColumn columns) (atoms_of p) (joined (map atoms_of ps)) (plan_fits columns c p is) (plans_fit columns cs ps are)

asked_fits : (columns : List Column) (asked : Option Clause) (p : Plan) → IsPlan columns asked p → FitsSchema columns p
asked_fits columns None p is = subst (FitsSchema columns) (sym is) (subst (AllByRecursion (FitsColumn columns)) (sym atoms_of-all) tt)
asked_fits columns (Some c) p is = plan_fits columns c p is

pub fits_given : (columns : List Column) (asked : Option Clause) (r : Result Plan NameFault) → IfOk r (IsPlan columns asked) → IfOk r (FitsSchema columns)
fits_given columns asked (Ok p) is = asked_fits columns asked p is
fits_given columns asked (Err e) is = tt

pub all_fits : (columns : List Column) → FitsSchema columns plan.All
all_fits columns = asked_fits columns None plan.All refl
