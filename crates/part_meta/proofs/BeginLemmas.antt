-- What was read of a part's text begins one.
use Rattle.std.proofs.Common.{◌≡◌, ℕ, ◌-◌, ◌*◌, ◌<◌, ◌≤◌, List, [], ◌∷◌, ◌++◌, length, refl, sym, ap, ◌∙◌, arith, append_assoc, lit≤, lit<}
use Rattle.std.specs.List.{flat_map}
use Rattle.std.proofs.lemmas.List.{append-nil, length_push, length-append}
use Rattle.std.proofs.lemmas.List.Concat.{flat_map-append}
use Rattle.fb_types.specs.declared.schemas.Column.{Column}
use Rattle.fb_types.specs.declared.types.ColType.TheVariants.{Int}
use Rattle.part_meta.specs.PartText.{IsPart, column_begin_line, column_end_line, column_lines, count_line, header_begin_line, header_end_line, name_line, number_line, part_lines, rows_line, type_line, most_rows}
use Rattle.part_meta.specs.PartFront.{AreColumns, IsBody, IsFront, IsHead, IsOpen, Takes, body_lines, front_lines, head_lines, open_lines}
use Rattle.part_meta.specs.declared.part.PartMeta.{PartMeta}
use Rattle.part_meta.specs.declared.part_reading.Head.{Head}
use Rattle.part_meta.specs.declared.part_reading.Body.{Body}
use Rattle.part_meta.specs.declared.part_reading.Open.{Open}
use Rattle.part_meta.specs.declared.part_reading.Open.TheVariants as open_
use Rattle.part_meta.specs.declared.part_reading.PartFront.{PartFront}
use Rattle.part_meta.specs.declared.part_reading.PartFront.TheVariants as front
use Rattle.part_meta.proofs.FreshLemmas.{AreColumns-none, AreColumns-push, Grows, grow, new_name}
use Rattle.part_meta.proofs.PartLemmas.{BeginsPart}

abbrev headed : ℕ → ℕ → ℕ → List (List ℕ) → List (List ℕ)
headed number rows count rest = header_begin_line ∷ number_line number ∷ rows_line rows ∷ count_line count ∷ header_end_line ∷ rest

-- a part with these columns and more
record Whole (head : Head) (columns : List Column) : Type 0 where
  part : PartMeta
  valid : IsPart part
  more : List Column
  spelled : part_lines part ≡ headed head.number head.rows head.count (flat_map column_lines columns ++ flat_map column_lines more)

made_whole : (head : Head) (columns : List Column) → IsHead head → Grows columns head.count → Whole head columns
made_whole head columns valid g = record {
  part = record { number = head.number; rows = head.rows; schema = columns ++ g.more };
  valid = record {
    number = valid.number;
    some = valid.some_rows;
    few = valid.few_rows;
    schema = record { some = omega (arith, g.long, valid.some); few = omega (arith, g.long, valid.few); named = g.are.named; distinct = g.are.distinct };
  };
  more = g.more;
  spelled = ap (λ n. headed head.number head.rows n (flat_map column_lines (columns ++ g.more))) g.long
      ∙ ap (λ t. headed head.number head.rows head.count t) (flat_map-append column_lines columns g.more);
}

whole : (head : Head) (columns : List Column) → IsHead head → AreColumns columns → length columns ≤ head.count → Whole head columns
whole head columns valid are fits = made_whole head columns valid (grow (head.count - length columns) columns head.count are (omega arith) valid.few)

begins_head : (head : Head) → IsHead head → BeginsPart (head_lines head)
begins_head head valid =
    let w = whole head [] valid AreColumns-none (omega arith) in
    record { value = w.part; valid = w.valid; rest = header_end_line ∷ flat_map column_lines w.more; spelled = w.spelled }

begins_body : (body : Body) → IsBody body → length body.columns.items ≤ body.head.count → BeginsPart (body_lines body ++ [])
begins_body body valid fits =
    let w = whole body.head body.columns.items valid.head valid.columns fits in
    record {
      value = w.part;
      valid = w.valid;
      rest = flat_map column_lines w.more;
      spelled = w.spelled ∙ ap (λ t. t ++ flat_map column_lines w.more) (sym (append-nil (body_lines body)));
    }

-- and with a further column, of which some lines were read
begins_column : (body : Body) → IsBody body → (column : Column) → Takes body column.name → (read rest : List (List ℕ)) → column_lines column ≡ read ++ rest → BeginsPart (body_lines body ++ read)
begins_column body valid column takes read rest cut =
    let columns = body.columns.items in
    let w = whole body.head (columns ++ column ∷ []) valid.head (AreColumns-push columns column valid.columns takes.named takes.new) (omega (arith, length_push columns column, takes.room)) in
    let more = flat_map column_lines w.more in
    let lines : flat_map column_lines (columns ++ column ∷ []) ≡ flat_map column_lines columns ++ (read ++ rest) =
    flat_map-append column_lines columns (column ∷ []) ∙ ap (λ t. flat_map column_lines columns ++ t) (append-nil (column_lines column) ∙ cut) in
    let regrouped : (flat_map column_lines columns ++ (read ++ rest)) ++ more ≡ (flat_map column_lines columns ++ read) ++ (rest ++ more) = simp append_assoc in
    record {
      value = w.part;
      valid = w.valid;
      rest = rest ++ more;
      spelled = w.spelled ∙ ap (λ t. headed body.head.number body.head.rows body.head.count (t ++ more)) lines
          ∙ ap (λ t. headed body.head.number body.head.rows body.head.count t) regrouped;
    }

begins_begun : (body : Body) → IsBody body → length body.columns.items < body.head.count → BeginsPart (body_lines body ++ column_begin_line ∷ [])
begins_begun body valid room =
    let n = new_name body.columns.items (omega (arith, valid.head.few)) in
    let column : Column = record { name = n.name; ty = Int } in
    begins_column body valid column (record { room = room; named = n.named; new = n.new })
    (column_begin_line ∷ []) (name_line n.name ∷ type_line Int ∷ column_end_line ∷ []) refl

begins_in_columns : (body : Body) (o : Open) → IsBody body → IsOpen body o → BeginsPart (front_lines (front.InColumns body o))
begins_in_columns body open_.Nothing valid fits = begins_body body valid fits
begins_in_columns body open_.Begun valid room = begins_begun body valid room
begins_in_columns body (open_.Named name) valid takes =
    begins_column body valid (record { name = name; ty = Int }) takes (column_begin_line ∷ name_line name ∷ []) (type_line Int ∷ column_end_line ∷ []) refl
begins_in_columns body (open_.Typed column) valid takes =
    begins_column body valid column takes (column_begin_line ∷ name_line column.name ∷ type_line column.ty ∷ []) (column_end_line ∷ []) refl

-- the smallest part of a number and of rows
small_head : ℕ → ℕ → Head
small_head number rows = record { number = number; rows = rows; count = 1 }

small : (number rows : ℕ) → number < 4096 → 1 ≤ rows → rows ≤ most_rows → IsHead (small_head number rows)
unfolding small_head
small number rows a b c = record { number = a; some_rows = b; few_rows = c; some = lit≤ tt; few = lit≤ tt }

begins_rows : (number rows : ℕ) → number < 4096 → 1 ≤ rows → rows ≤ most_rows → BeginsPart (header_begin_line ∷ number_line number ∷ rows_line rows ∷ [])
unfolding small_head
begins_rows number rows a b c =
    let begun = begins_head (small_head number rows) (small number rows a b c) in
    record { value = begun.value; valid = begun.valid; rest = count_line 1 ∷ begun.rest; spelled = begun.spelled }

pub begins_front : (f : PartFront) → IsFront f → BeginsPart (front_lines f)
begins_front front.Nothing valid =
    let b = begins_rows 0 1 (lit< tt) (lit≤ tt) (lit≤ tt) in record { value = b.value; valid = b.valid; rest = header_begin_line ∷ number_line 0 ∷ rows_line 1 ∷ b.rest; spelled = b.spelled }
begins_front front.Begun valid =
    let b = begins_rows 0 1 (lit< tt) (lit≤ tt) (lit≤ tt) in record { value = b.value; valid = b.valid; rest = number_line 0 ∷ rows_line 1 ∷ b.rest; spelled = b.spelled }
begins_front (front.Numbered number) valid =
    let b = begins_rows number 1 valid (lit≤ tt) (lit≤ tt) in record { value = b.value; valid = b.valid; rest = rows_line 1 ∷ b.rest; spelled = b.spelled }
begins_front (front.Counted number rows) valid = begins_rows number rows valid.0 valid.1 valid.2
begins_front (front.Headed head) valid = begins_head head valid
begins_front (front.InColumns body o) valid = begins_in_columns body o valid.0 valid.1

-- ---- and is short

length_columns : (columns : List Column) → length (flat_map column_lines columns) ≡ length columns * 4
length_columns [] = refl
length_columns (c ∷ cs) = omega (arith, length_columns cs)

open_is_short : (o : Open) → length (open_lines o) ≤ 3
open_is_short open_.Nothing = lit≤ tt
open_is_short open_.Begun = lit≤ tt
open_is_short (open_.Named name) = lit≤ tt
open_is_short (open_.Typed column) = lit≤ tt

few_columns : (body : Body) (o : Open) → IsBody body → IsOpen body o → length body.columns.items ≤ 255
few_columns body open_.Nothing valid fits = omega (arith, valid.head.few)
few_columns body open_.Begun valid room = omega (arith, valid.head.few)
few_columns body (open_.Named name) valid takes = omega (arith, valid.head.few, takes.room)
few_columns body (open_.Typed column) valid takes = omega (arith, valid.head.few, takes.room)

pub front_is_short : (f : PartFront) → IsFront f → length (front_lines f) ≤ 1028
front_is_short front.Nothing valid = lit≤ tt
front_is_short front.Begun valid = lit≤ tt
front_is_short (front.Numbered number) valid = lit≤ tt
front_is_short (front.Counted number rows) valid = lit≤ tt
front_is_short (front.Headed head) valid = lit≤ tt
front_is_short (front.InColumns body o) valid =
    omega (arith, length-append (flat_map column_lines body.columns.items) (open_lines o), length_columns body.columns.items, open_is_short o, few_columns body o valid.0 valid.1)
