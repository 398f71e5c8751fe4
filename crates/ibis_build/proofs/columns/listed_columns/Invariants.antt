use Rattle.std.proofs.Common.{◌≡◌, ℕ, List, drop, map}
use Rattle.ibis_build.specs.Columns.{columns_behind, listed_columns}
use Rattle.ibis_build.proofs.columns.listed_columns.Given as goal

abbrev pub invariant-loop-piece : goal.invariant-loop-piece
invariant-loop-piece l =
    listed_columns l.schema l.list ≡ columns_behind l.schema l.cols.items (drop l.piece-index (map {B = List ℕ} (λ piece. piece.now) l.piece-items))
