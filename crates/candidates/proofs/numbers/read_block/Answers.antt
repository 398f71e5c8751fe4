use Rattle.std.proofs.Common.{◌*◌, ap, ◌∙◌}
use Rattle.column_file.specs.Values.{values_bytes, width_in}
use Rattle.column_file.proofs.ValuesLemmas.{length-values_bytes}
use Rattle.candidates.proofs.FaultLemmas.{cause_done, column_cause, numbers_stop, same_fault, store_of_column}
use Rattle.candidates.proofs.numbers.read_block.Goals as goal

pub returns-in-Ok-clause-cause : goal.returns-in-Ok-clause-cause
returns-in-Ok-clause-cause g c = cause_done _ _ _ _ c.in-Ok.ensures.cause

pub returns-in-Err-clause-cause : goal.returns-in-Err-clause-cause
returns-in-Err-clause-cause g c = column_cause _ _ c.in-Err.fault c.in-Err.ensures.cause

pub returns-in-Err-clause-stop : goal.returns-in-Err-clause-stop
returns-in-Err-clause-stop g c =
    numbers_stop (g.S.Store.files c.args.store.now) c.args.column.now _ c.in-Err.fault c.in-Err.ensures.stop
    (λ bytes told long. same_fault c.in-Err.fault _ (c.in-Err.ensures.whole bytes told long))

pub returns-in-Err-clause-whole : goal.returns-in-Err-clause-whole
returns-in-Err-clause-whole g c = λ numbers has.
    let ty = c.args.column.now.ty in
    store_of_column c.in-Err.fault
    (same_fault c.in-Err.fault _ (c.in-Err.ensures.whole (values_bytes ty numbers) has.told (length-values_bytes ty numbers ∙ ap (λ n. n * width_in ty) has.rows)))
