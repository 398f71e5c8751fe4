-- Records of one column, on which the truth of conditions is computed.
use Rattle.std.specs.Prelude.{Bool, List, [], ◌∷◌, map, pos, codes}
use Rattle.fb_types.specs.declared.types.ColType.TheVariants.{Int}
use Rattle.fb_types.specs.declared.schemas.Column.{Column}
use Rattle.fb_types.specs.declared.cells.Cell.{Cell}
use Rattle.fb_types.specs.declared.cells.Cell.TheVariants.{Null, Whole, Word}
use Rattle.where_grammar.specs.declared.clause.Atom.{Atom}
use Rattle.where_grammar.specs.Holds.{atom_holds}

-- the one column, named `a`
unfoldable pub columns : List Column
columns = record { name = codes "a"; ty = Int } ∷ []

-- the cells of a record each: null, 2, 3 and 4
unfoldable pub numbers : List Cell
numbers = Null ∷ Whole (pos 2) ∷ Whole (pos 3) ∷ Whole (pos 4) ∷ []

-- null, `w`, `w5` and `x`
unfoldable pub words : List Cell
words = Null ∷ Word (codes "w") ∷ Word (codes "w5") ∷ Word (codes "x") ∷ []

-- the truth of a condition on a record of each cell
unfoldable pub truths : Atom → List Cell → List Bool
truths condition cells = map (λ cell. atom_holds condition columns (cell ∷ [])) cells
