-- When a clause holds of a record.
use Rattle.std.specs.Prelude.{ℕ, Bool, true, false, not, ◌&&◌, List, [], ◌∷◌, Option, Some, None, ℤ, int_lt, int_le, slice_index_or}
use Rattle.std.specs.List.{list_all, list_any}
use Rattle.std.specs.Ordering.{int_eq}
use Rattle.std.specs.Str.{bytes_eq}
use Rattle.fb_types.specs.declared.cells.Cell.{Cell}
use Rattle.fb_types.specs.declared.cells.Cell.TheVariants.{Null, Whole, Word}
use Rattle.fb_types.specs.declared.schemas.Column.{Column}
use Rattle.fb_types.specs.Schemas.{place_of}
use Rattle.where_grammar.specs.declared.clause.Op.{Op}
use Rattle.where_grammar.specs.declared.clause.Op.TheVariants as op
use Rattle.where_grammar.specs.declared.clause.Atom.{Atom}
use Rattle.where_grammar.specs.declared.clause.Atom.TheVariants as atom
use Rattle.where_grammar.specs.declared.clause.Clause.{Clause}
use Rattle.where_grammar.specs.declared.clause.Clause.TheOpen.{Clause-F}
use Rattle.where_grammar.specs.declared.clause.Clause.TheFolds.{fold-Clause}
use Rattle.patterns.specs.Like.{like}

-- the cell in the column of that name, null where the schema has none
abbrev pub cell_named : List Column → List Cell → List ℕ → Cell
cell_named columns cells name = cell_in_place (place_of columns name)
  where
    cell_in_place : Option ℕ → Cell
    cell_in_place None = Null
    cell_in_place (Some place) = slice_index_or cells place Null

-- ---- conditions on one cell

abbrev pub number_passes : (ℤ → Bool) → Cell → Bool
number_passes test Null = false
number_passes test (Whole number) = test number
number_passes test (Word word) = false

abbrev pub word_passes : (List ℕ → Bool) → Cell → Bool
word_passes test Null = false
word_passes test (Whole number) = false
word_passes test (Word word) = test word

abbrev pub is_there : Cell → Bool
is_there Null = false
is_there (Whole number) = true
is_there (Word word) = true

-- a number stands so to a limit
abbrev pub compares : Op → ℤ → ℤ → Bool
compares op.Less number limit = int_lt number limit
compares op.LessEq number limit = int_le number limit
compares op.Greater number limit = int_lt limit number
compares op.GreaterEq number limit = int_le limit number
compares op.Equal number limit = int_eq number limit
compares op.Differs number limit = not (int_eq number limit)

-- the column that a condition speaks of
abbrev pub column_of : Atom → List ℕ
column_of (atom.Compare name by value) = name
column_of (atom.Double name left low right high) = name
column_of (atom.Between name low high) = name
column_of (atom.Numbers name list) = name
column_of (atom.Same name text) = name
column_of (atom.Other name text) = name
column_of (atom.Texts name list) = name
column_of (atom.Like name pattern) = name
column_of (atom.Exists name) = name

-- the truth of a condition on the cell of its column; on a null cell each is false
abbrev pub is_met : Atom → Cell → Bool
is_met (atom.Compare name by value) = number_passes (λ n. compares by n value)
is_met (atom.Double name left low right high) = number_passes (λ n. compares left n low && compares right n high)
is_met (atom.Between name low high) = number_passes (λ n. int_le low n && int_le n high)
is_met (atom.Numbers name list) = number_passes (λ n. list_any (int_eq n) list)
is_met (atom.Same name text) = word_passes (λ word. bytes_eq word text)
is_met (atom.Other name text) = word_passes (λ word. not (bytes_eq word text))
is_met (atom.Texts name list) = word_passes (λ word. list_any (bytes_eq word) list)
is_met (atom.Like name pattern) = word_passes (like pattern)
is_met (atom.Exists name) = is_there

abbrev pub atom_holds : Atom → List Column → List Cell → Bool
atom_holds condition columns cells = is_met condition (cell_named columns cells (column_of condition))

-- ---- clauses

-- an odd number of them are true
abbrev pub odd_many : List Bool → Bool
odd_many [] = false
odd_many (true ∷ parts) = not (odd_many parts)
odd_many (false ∷ parts) = odd_many parts

-- the truth of a clause from that of its parts
abbrev pub holds_by_parts : List Column → List Cell → Clause-F Bool → Bool
holds_by_parts columns cells (Clause-F.Or parts) = list_any (λ part. part) parts
holds_by_parts columns cells (Clause-F.Xor parts) = odd_many parts
holds_by_parts columns cells (Clause-F.And parts) = list_all (λ part. part) parts
holds_by_parts columns cells (Clause-F.Not part) = not part
holds_by_parts columns cells (Clause-F.One condition) = atom_holds condition columns cells

-- the clause holds of the record with these cells, under the schema with these columns
abbrev pub holds : Clause → List Column → List Cell → Bool
holds clause columns cells = fold-Clause Bool (holds_by_parts columns cells) clause
