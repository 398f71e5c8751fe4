use Rattle.std.proofs.Common.{◌∷◌, ◌+◌, ◌++◌, [], ℕ, List, Bor, drop, map, ap, sym, ◌∙◌, arith}
use Rattle.std.proofs.lemmas.Result.{err_from_is_err_and}
use Rattle.ibis_build.specs.Columns.{columns_behind, listed_columns}
use Rattle.ibis_build.proofs.ColumnLemmas.{piece-refused, piece-taken, pieces-end}
use Rattle.ibis_build.proofs.columns.listed_columns.Goals as goal

pub returns-in_err-col-clause-stop : goal.returns-in_err-col-clause-stop
returns-in_err-col-clause-stop c =
    let p = err_from_is_err_and c.from_residual-in_err-col.result c.from_residual-in_err-col.ensures.1 in
    let schema = c.args.schema.now in
    let xs = c.deref-piece-items.result.now in
    let k = c.loop-piece.piece-index in
    let so-far = c.loop-piece.invariant
    ∙ ap (λ (b : List ℕ). columns_behind schema b (drop k (map {B = List ℕ} (λ (p : Bor (List ℕ)). p.now) xs))) (sym c.deref.ensures.value) in
    rw (p.1, p.2)
    (piece-refused schema c.deref.result.now xs k (listed_columns schema c.args.list.now) so-far (record { ref_ptr = (0, 0); now = [] })
    c.in_err-col.field-0.0 (omega (arith, c.loop-piece-test.true)) c.in_err-col.ensures.stop)

pub loop-piece-preserved : goal.loop-piece-preserved
loop-piece-preserved c =
    let schema = c.args.schema.now in
    let xs = c.deref-piece-items.result.now in
    let k = c.loop-piece.piece-index in
    let so-far = c.loop-piece.invariant
    ∙ ap (λ (b : List ℕ). columns_behind schema b (drop k (map {B = List ℕ} (λ (p : Bor (List ℕ)). p.now) xs))) (sym c.deref.ensures.value) in
    piece-taken schema c.deref.result.now xs k (listed_columns schema c.args.list.now) so-far (record { ref_ptr = (0, 0); now = [] })
    c.in_ok-col.col (omega (arith, c.loop-piece-test.true)) c.in_ok-col.ensures.ok
    ∙ ap (λ (b : List ℕ). columns_behind schema b (drop (k + 1) (map {B = List ℕ} (λ (p : Bor (List ℕ)). p.now) xs)))
    (ap (λ (b : List ℕ). b ++ c.in_ok-col.col ∷ []) c.deref.ensures.value ∙ sym c.in_ok-add.ensures)

pub returns-clause-ok : goal.returns-clause-ok
returns-clause-ok c =
    pieces-end c.args.schema.now c.loop-piece.cols.items c.deref-piece-items.result.now c.loop-piece.piece-index
    (listed_columns c.args.schema.now c.args.list.now) c.loop-piece.invariant (omega (arith, c.loop-piece-test.false))
