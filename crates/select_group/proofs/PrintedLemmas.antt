-- The text of rows grows by that of the next one.
use Rattle.std.proofs.Common.{◌≡◌, ℕ, ◌+◌, ◌<◌, List, [], ◌∷◌, ◌++◌, length, get_or, map, take, refl, sym, ap, ◌∙◌, append_assoc, append-nil}
use Rattle.std.proofs.lemmas.List.{take_more}
use Rattle.csv.specs.Writing.{default_writer, row_text}
use Rattle.fb_types.specs.declared.cells.Cell.{Cell}
use Rattle.select_group.specs.Printed.{cell_text, rows_text}

rows_push : (rows : List (List Cell)) (row : List Cell) → rows_text (rows ++ row ∷ []) ≡ rows_text rows ++ row_text default_writer (map cell_text row)
rows_push [] row = append-nil (row_text default_writer (map cell_text row))
rows_push (r ∷ rows) row =
    ap (λ text. row_text default_writer (map cell_text r) ++ text) (rows_push rows row) ∙ sym (append_assoc (row_text default_writer (map cell_text r)) (rows_text rows) (row_text default_writer (map cell_text row)))

pub text_grows : (rows : List (List Cell)) (i : ℕ) (d : List Cell) → i < length rows → rows_text (take (i + 1) rows) ≡ rows_text (take i rows) ++ row_text default_writer (map cell_text (get_or rows i d))
text_grows rows i d less = ap rows_text (take_more rows i d less) ∙ rows_push (take i rows) (get_or rows i d)

pub text_joins : (rows more : List (List Cell)) → rows_text (rows ++ more) ≡ rows_text rows ++ rows_text more
text_joins [] more = refl
text_joins (r ∷ rows) more =
    ap (λ text. row_text default_writer (map cell_text r) ++ text) (text_joins rows more) ∙ sym (append_assoc (row_text default_writer (map cell_text r)) (rows_text rows) (rows_text more))
