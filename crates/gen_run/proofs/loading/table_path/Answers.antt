use Rattle.std.proofs.Common.{arith}
use Rattle.gen_run.specs.Made.{table_path}
use Rattle.gen_run.proofs.PathLemmas.{table_named}
use Rattle.gen_run.proofs.loading.table_path.Goals as goal

pub returns-in_err-path-clause-valid : goal.returns-in_err-path-clause-valid
returns-in_err-path-clause-valid c = table_named 200 64 (omega arith) (omega arith)

pub returns-clause-valid : goal.returns-clause-valid
returns-clause-valid c = table_named 200 64 (omega arith) (omega arith)

pub unreachable-requires : goal.unreachable-requires
unfolding table_path
unreachable-requires c =
    let there = c.in_ok-path.ensures.named.1 (table_named 300 80 (omega arith) (omega arith)) in
    let none = rw c.in-None.is at there in
    cc
