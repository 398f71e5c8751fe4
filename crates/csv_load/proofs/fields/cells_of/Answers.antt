-- At each turn the columns and the fields that are left begin with those of the turn.
use Rattle.std.proofs.Common.{◌≡◌, ◌<◌, ◌+◌, ◌∷◌, [], ◌++◌, ◌∙◌, List, ℕ, Option, Some, None, add-one, ap, drop-cons, suc, arith, drop, get_or, length, refl, sym, take}
use Rattle.std.proofs.lemmas.List.{take_more}
use Rattle.std.proofs.lemmas.Result.{err_from_is_err_and}
use Rattle.std.specs.Option.{IsSome, option_map}
use Rattle.csv.specs.Records.{field_at, fields_of}
use Rattle.fb_types.specs.declared.schemas.Column.{Column}
use Rattle.csv_load.proofs.FieldFacts.{RecordFits-push, come-all, come-more, come-stops, drop-field, fault-at, record_cells-count}
use Rattle.csv_load.proofs.fields.cells_of.Goals as goal

-- the field that `get` gave is that at the place
got : (fields : List (List ℕ)) (i : ℕ) (field : List ℕ) → i < length fields → Some field ≡ field_at fields i → drop i fields ≡ field ∷ drop (i + 1) fields
got fields i field h e =
    let at = drop-field fields i h in
    let same : Some field ≡ Some at.0 = e ∙ at.1 in
    let is : field ≡ at.0 = cc in
    rw is at.2

there : {A : Type 0} (now : A → List ℕ) (o : Option A) (fields : List (List ℕ)) (i : ℕ) → i < length fields → option_map now o ≡ field_at fields i → IsSome o
there now None fields i h e =
    let at = drop-field fields i h in
    let not : None ≡ Some at.0 = e ∙ at.1 in cc
there now (Some x) fields i h e = refl

column_at : (columns : List Column) (i : ℕ) (column : Column) → i < length columns → column ≡ get_or columns i column → drop i columns ≡ column ∷ drop (i + 1) columns
column_at columns i column h e = rw (add-one) (drop-cons columns i column h ∙ ap (λ x. x ∷ drop (suc i) columns) (sym e))

pub returns-then-len-columns-clause-fault : goal.returns-then-len-columns-clause-fault
returns-then-len-columns-clause-fault c =
    rw (c.min.ensures, c.len-then-len-columns.ensures)
    (record_cells-count c.args.columns.now (fields_of c.args.row.now) (λ e. c.if-len-columns.true (c.len.ensures ∙ e)))

pub unwrap-field-requires : goal.unwrap-field-requires
unwrap-field-requires c =
    there _ _ (fields_of c.args.row.now) c.loop-index.index (omega arith) c.get.ensures.value

pub returns-in_err-cell_of-clause-fault : goal.returns-in_err-cell_of-clause-fault
returns-in_err-cell_of-clause-fault c =
    let p = err_from_is_err_and c.from_residual-in_err-cell_of.result c.from_residual-in_err-cell_of.ensures.1 in
    let columns = c.args.columns.now in
    let fields = fields_of c.args.row.now in
    rw (p.1, p.2)
    (fault-at _ (c.loop-index.index + 1) _ _
    (λ why e. come-stops columns fields c.loop-index.index c.loop-index.cells.items c.index-columns-index.result c.unwrap-field.result.now why
    (column_at columns c.loop-index.index c.index-columns-index.result c.loop-index-test.true c.index-columns-index.is)
    (got fields c.loop-index.index c.unwrap-field.result.now (omega arith) (rw c.unwrap-field.ensures at c.get.ensures.value))
    (sym c.len.ensures ∙ c.if-len-columns.false) e c.loop-index.invariant.split)
    c.in_err-cell_of.ensures.fault)

pub loop-index-preserved : goal.loop-index-preserved
loop-index-preserved c =
    let columns = c.args.columns.now in
    let fields = fields_of c.args.row.now in
    let i = c.loop-index.index in
    let column = c.index-columns-index.result in
    let cell = c.in_ok-cell_of.ensures in
    let more : take (i + 1) columns ≡ take i columns ++ column ∷ [] =
    take_more columns i column c.loop-index-test.true ∙ ap (λ x. take i columns ++ x ∷ []) (sym c.index-columns-index.is) in
    record {
      split = rw c.in_ok-push.ensures.items
          (come-more columns fields i c.loop-index.cells.items column c.unwrap-field.result.now _
          (column_at columns i column c.loop-index-test.true c.index-columns-index.is)
          (got fields i c.unwrap-field.result.now (omega arith) (rw c.unwrap-field.ensures at c.get.ensures.value))
          cell.cell c.loop-index.invariant.split);
      fits = rw (c.in_ok-push.ensures.items, more)
          (RecordFits-push c.loop-index.cells.items (take i columns) _ column c.loop-index.invariant.fits cell.fits);
    }

pub returns-clause-cells : goal.returns-clause-cells
returns-clause-cells c =
    come-all c.args.columns.now (fields_of c.args.row.now) c.loop-index.index c.loop-index.cells.items
    (sym c.len.ensures ∙ c.if-len-columns.false) c.loop-index-test.false c.loop-index.invariant.split
