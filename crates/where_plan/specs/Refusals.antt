-- The first condition, from left to right, that doesn't fit the schema.
use Rattle.std.specs.Prelude.{◌≡◌, ℕ, if◌then◌else◌, List, [], ◌∷◌, Option, Some, None, Result, IfErr}
use Rattle.answers.specs.Answers.{Tells}
use Rattle.fb_types.specs.declared.schemas.Column.{Column}
use Rattle.fb_types.specs.declared.types.ColType.{ColType}
use Rattle.where_grammar.specs.declared.clause.Atom.{Atom}
use Rattle.where_grammar.specs.declared.clause.Clause.{Clause}
use Rattle.where_grammar.specs.declared.clause.Clause.TheOpen.{Clause-F}
use Rattle.where_grammar.specs.declared.clause.Clause.TheFolds.{fold-Clause}
use Rattle.where_grammar.specs.declared.clause.QueryKind.{QueryKind}
use Rattle.where_grammar.specs.declared.clause.QueryKind.TheVariants.{Unknown, WrongType}
use Rattle.where_grammar.specs.Holds.{column_of}
use Rattle.where_plan.specs.declared.faults.NameFault.{NameFault}
use Rattle.where_plan.specs.declared.faults.NameFault.TheVariants.{Bad, OutOfMemory}
use Rattle.where_plan.specs.declared.sorts.Sort.{Sort}
use Rattle.where_plan.specs.Sorts.{sort_of, suits, column_named}

-- the schema has no column of the condition's name, or one of another sort
abbrev pub atom_refusal : List Column → Atom → Option QueryKind
atom_refusal columns condition = refusal_at (column_named columns (column_of condition))
  where
    refusal_at : Option (ℕ × ColType) → Option QueryKind
    refusal_at None = Some (Unknown (column_of condition))
    refusal_at (Some found) = if suits (sort_of condition) found.1 then None else Some (WrongType (column_of condition))

-- the first that is there
abbrev pub first_some : {A : Type 0} → List (Option A) → Option A
first_some [] = None
first_some (None ∷ rest) = first_some rest
first_some (Some x ∷ rest) = Some x

abbrev pub refusal_by_parts : List Column → Clause-F (Option QueryKind) → Option QueryKind
refusal_by_parts columns (Clause-F.Or parts) = first_some parts
refusal_by_parts columns (Clause-F.Xor parts) = first_some parts
refusal_by_parts columns (Clause-F.And parts) = first_some parts
refusal_by_parts columns (Clause-F.Not part) = part
refusal_by_parts columns (Clause-F.One condition) = atom_refusal columns condition

-- the refusal of the clause's first condition that doesn't fit
abbrev pub clause_refusal : List Column → Clause → Option QueryKind
clause_refusal columns asked = fold-Clause (Option QueryKind) (refusal_by_parts columns) asked

abbrev pub refusal_of : List Column → Option Clause → Option QueryKind
refusal_of columns None = None
refusal_of columns (Some asked) = clause_refusal columns asked

-- the refusal that a fault tells of a clause; want of memory tells none
abbrev pub refusal : NameFault → Option QueryKind
refusal (Bad kind) = Some kind
refusal OutOfMemory = None

-- a refusal that is answered is this one
abbrev pub TellsRefusal : {T : Type 0} → Option QueryKind → Result T NameFault → Type 0
TellsRefusal told result = IfErr result (Tells refusal (λ kind. told ≡ Some kind))
