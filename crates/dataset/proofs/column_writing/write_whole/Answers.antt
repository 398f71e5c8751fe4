use Rattle.std.proofs.Common.{[], ◌∷◌, ℤ, List, map, subst, ◌∙◌}
use Rattle.fb_outside.specs.Puts.{PutsAll, PutsFront}
use Rattle.fb_outside.proofs.PutLemmas.{PutsInOrder-then, PutsInOrder-err, PutsFront-more}
use Rattle.wah_words.specs.Bytes.{spelling}
use Rattle.column_file.specs.Values.{values_bytes}
use Rattle.part_meta.specs.declared.names.FileKind.TheVariants as file
use Rattle.world.specs.Cells.{is_present, number_of}
use Rattle.dataset.specs.WrittenColumns.{file_in}
use Rattle.dataset.proofs.column_writing.write_whole.Goals as goal

pub returns-in_err-put_numbers-clause-files : goal.returns-in_err-put_numbers-clause-files
returns-in_err-put_numbers-clause-files g c =
    let part = c.args.part.now in
    let mask = file_in part file.Mask (spelling (map is_present part.cells)) in
    let numbers = file_in part file.Values (values_bytes part.column.ty (map number_of part.cells)) in
    PutsInOrder-err (numbers ∷ mask ∷ []) c.from_residual-in_err-put_numbers.result _ _ c.from_residual-in_err-put_numbers.ensures.0
    (PutsFront-more (numbers ∷ []) (mask ∷ []) _ _
    (subst (λ (ns : List ℤ). PutsFront (file_in part file.Values (values_bytes part.column.ty ns) ∷ []) (g.S.Store.files c.args.store.now) (g.S.Store.files c.put_numbers.new.store))
    (c.deref.ensures.value ∙ c.in_ok-numbers.ensures.numbers) c.in_err-put_numbers.ensures.files))

pub returns-clause-files : goal.returns-clause-files
returns-clause-files g c =
    let part = c.args.part.now in
    let mask = file_in part file.Mask (spelling (map is_present part.cells)) in
    let numbers = file_in part file.Values (values_bytes part.column.ty (map number_of part.cells)) in
    PutsInOrder-then (numbers ∷ []) (mask ∷ []) c.put_mask.result _ _ _
    (subst (λ (ns : List ℤ). PutsAll (file_in part file.Values (values_bytes part.column.ty ns) ∷ []) (g.S.Store.files c.args.store.now) (g.S.Store.files c.put_numbers.new.store))
    (c.deref.ensures.value ∙ c.in_ok-numbers.ensures.numbers) c.in_ok-put_numbers.ensures.files)
    c.put_mask.ensures.files
