-- Which columns a condition fits.
use Rattle.std.specs.Prelude.{ℕ, Bool, true, is_some, is_none, List, Option, slice_get, option_map}
use Rattle.std.specs.Option.{option_and_then}
use Rattle.fb_types.specs.declared.schemas.Column.{Column}
use Rattle.fb_types.specs.declared.types.ColType.{ColType}
use Rattle.fb_types.specs.Schemas.{place_of}
use Rattle.fb_types.specs.Types.{ends_of}
use Rattle.where_grammar.specs.declared.clause.Atom.{Atom}
use Rattle.where_grammar.specs.declared.clause.Atom.TheVariants as atom
use Rattle.where_plan.specs.declared.sorts.Sort.{Sort}
use Rattle.where_plan.specs.declared.sorts.Sort.TheVariants.{Number, Text, Any}

abbrev pub sort_of : Atom → Sort
sort_of (atom.Compare name by value) = Number
sort_of (atom.Double name left low right high) = Number
sort_of (atom.Between name low high) = Number
sort_of (atom.Numbers name list) = Number
sort_of (atom.Same name text) = Text
sort_of (atom.Other name text) = Text
sort_of (atom.Texts name list) = Text
sort_of (atom.Like name pattern) = Text
sort_of (atom.Exists name) = Any

-- a condition on numbers fits columns of whole numbers, one on texts category and text columns
abbrev pub suits : Sort → ColType → Bool
suits Number ty = is_some (ends_of ty)
suits Text ty = is_none (ends_of ty)
suits Any ty = true

-- the place and the type of the column of that name
abbrev pub column_named : List Column → List ℕ → Option (ℕ × ColType)
column_named columns name = option_and_then (λ col. option_map (λ column. (col, column.ty)) (slice_get columns col)) (place_of columns name)
