-- A schema text, put together and read again.
use Rattle.std.proofs.Common.{◌≡◌, ℕ, ◌+◌, ◌<◌, List, [], ◌∷◌, ◌++◌, length, get_or, take, map, refl, sym, arith, append_assoc}
use Rattle.std.specs.List.{join_with_byte}
use Rattle.std.proofs.lemmas.List.{take_more, map-append, length-map, length-take-le}
use Rattle.fb_types.specs.declared.schemas.Column.{Column}
use Rattle.fb_types.specs.SchemaText.{column_text, separator_before}

join-append : (xs : List (List ℕ)) (x : List ℕ) → join_with_byte 44 (xs ++ x ∷ []) ≡ (join_with_byte 44 xs ++ separator_before (length xs)) ++ x
join-append [] x = refl
join-append (y ∷ []) x = sym (append_assoc y (44 ∷ []) x)
join-append (y ∷ z ∷ ys) x = let step = join-append (z ∷ ys) x in rw step (simp append_assoc)

-- one column more
pub join_step : (columns : List Column) (at : ℕ) (column : Column) → at < length columns → column ≡ get_or columns at column → join_with_byte 44 (map column_text (take (at + 1) columns)) ≡ (join_with_byte 44 (map column_text (take at columns)) ++ separator_before at) ++ column_text column
join_step columns at column within is =
    let before : length (map column_text (take at columns)) ≡ at = omega (arith, length-map (take at columns) column_text, length-take-le at columns (omega arith)) in
    let step = join-append (map column_text (take at columns)) (column_text column) in
    rw (take_more columns at column within, ← is, map-append column_text (take at columns) (column ∷ []), step, before) refl
