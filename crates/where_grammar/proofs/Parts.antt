-- The truth of a clause from that of its parts.
use Rattle.std.proofs.Common.{◌≡◌, Bool, not, ◌&&◌, ◌||◌, List, [], ◌∷◌, map, refl, sym, ap, ◌∙◌}
use Rattle.std.specs.List.{list_all, list_any}
use Rattle.fb_types.specs.declared.cells.Cell.{Cell}
use Rattle.fb_types.specs.declared.schemas.Column.{Column}
use Rattle.where_grammar.specs.declared.clause.Atom.{Atom}
use Rattle.where_grammar.specs.declared.clause.Clause.{Clause}
use Rattle.where_grammar.specs.declared.clause.Clause.TheVariants as clause
use Rattle.where_grammar.specs.declared.clause.Clause.TheVariants.{rolls-Or, rolls-Xor, rolls-And, rolls-Not, rolls-One}
use Rattle.where_grammar.specs.declared.clause.Clause.TheOpen.{Clause-F}
use Rattle.where_grammar.specs.declared.clause.Clause.TheFolds.{fold-Clause, fold-roll-Clause}
use Rattle.where_grammar.specs.Holds.{atom_holds, odd_many, holds_by_parts, holds}

any_mapped : {X : Type 0} (f : X → Bool) (xs : List X) → list_any (λ b. b) (map f xs) ≡ list_any f xs
any_mapped f [] = refl
any_mapped f (x ∷ xs) = ap (λ b. f x || b) (any_mapped f xs)

all_mapped : {X : Type 0} (f : X → Bool) (xs : List X) → list_all (λ b. b) (map f xs) ≡ list_all f xs
all_mapped f [] = refl
all_mapped f (x ∷ xs) = ap (λ b. f x && b) (all_mapped f xs)

pub holds-one : (condition : Atom) (columns : List Column) (cells : List Cell) → holds (clause.One condition) columns cells ≡ atom_holds condition columns cells
holds-one condition columns cells =
    let step = holds_by_parts columns cells in
    ap (fold-Clause Bool step) (sym (rolls-One condition)) ∙ fold-roll-Clause Bool step (Clause-F.One condition)

pub holds-not : (part : Clause) (columns : List Column) (cells : List Cell) → holds (clause.Not part) columns cells ≡ not (holds part columns cells)
holds-not part columns cells =
    let step = holds_by_parts columns cells in
    ap (fold-Clause Bool step) (sym (rolls-Not part)) ∙ fold-roll-Clause Bool step (Clause-F.Not part)

pub holds-or : (parts : List Clause) (columns : List Column) (cells : List Cell) → holds (clause.Or parts) columns cells ≡ list_any (λ part. holds part columns cells) parts
holds-or parts columns cells =
    let step = holds_by_parts columns cells in
    ap (fold-Clause Bool step) (sym (rolls-Or parts)) ∙ (fold-roll-Clause Bool step (Clause-F.Or parts) ∙ any_mapped (λ part. holds part columns cells) parts)

pub holds-and : (parts : List Clause) (columns : List Column) (cells : List Cell) → holds (clause.And parts) columns cells ≡ list_all (λ part. holds part columns cells) parts
holds-and parts columns cells =
    let step = holds_by_parts columns cells in
    ap (fold-Clause Bool step) (sym (rolls-And parts)) ∙ (fold-roll-Clause Bool step (Clause-F.And parts) ∙ all_mapped (λ part. holds part columns cells) parts)

pub holds-xor : (parts : List Clause) (columns : List Column) (cells : List Cell) → holds (clause.Xor parts) columns cells ≡ odd_many (map (λ part. holds part columns cells) parts)
holds-xor parts columns cells =
    let step = holds_by_parts columns cells in
    ap (fold-Clause Bool step) (sym (rolls-Xor parts)) ∙ fold-roll-Clause Bool step (Clause-F.Xor parts)
