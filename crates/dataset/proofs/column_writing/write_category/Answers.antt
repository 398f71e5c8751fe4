use Rattle.std.proofs.Common.{◌≡◌, [], ◌∷◌, ℕ, List, map, ap, subst, ◌∙◌}
use Rattle.fb_outside.specs.Puts.{PutsAll, PutsFront, PutsInOrder}
use Rattle.fb_outside.proofs.PutLemmas.{PutsAll-append, PutsInOrder-then, PutsInOrder-err, PutsFront-append, PutsFront-more}
use Rattle.wah_words.specs.Bytes.{spelling}
use Rattle.column_file.specs.Values.{values_bytes}
use Rattle.part_meta.specs.declared.names.FileKind.TheVariants as file
use Rattle.text_column.specs.DictionaryFile.{dictionary_bytes}
use Rattle.fb_types.specs.declared.types.ColType.TheVariants.{Category}
use Rattle.world.specs.Cells.{code_of, dictionary_of, is_present}
use Rattle.dataset.specs.WrittenColumns.{file_in}
use Rattle.dataset.proofs.column_writing.write_category.Goals as goal

pub returns-in_err-put_numbers-clause-files : goal.returns-in_err-put_numbers-clause-files
returns-in_err-put_numbers-clause-files g c =
    let part = c.args.part.now in
    let old = g.S.Store.files c.args.store.now in
    let mid = g.S.Store.files c.put_numbers.new.store in
    let numbers = file_in part file.Values (values_bytes Category (map (code_of (dictionary_of part.cells)) part.cells)) in
    let mask = file_in part file.Mask (spelling (map is_present part.cells)) in
    let words = file_in part file.Words (dictionary_bytes (dictionary_of part.cells)) in
    let codes : values_bytes part.column.ty c.deref.result.now ≡ values_bytes Category (map (code_of (dictionary_of part.cells)) part.cells) =
    ap (λ ty. values_bytes ty c.deref.result.now) c.requires ∙ ap (values_bytes Category) (c.deref.ensures.value ∙ c.in_ok-codes.ensures.codes) in
    PutsInOrder-err (numbers ∷ mask ∷ words ∷ []) c.from_residual-in_err-put_numbers.result _ _ c.from_residual-in_err-put_numbers.ensures.0
    (PutsFront-more (numbers ∷ []) (mask ∷ words ∷ []) _ _
    (subst (λ (bs : List ℕ). PutsFront (file_in part file.Values bs ∷ []) old mid) codes c.in_err-put_numbers.ensures.files))

pub returns-in_err-put_mask-clause-files : goal.returns-in_err-put_mask-clause-files
returns-in_err-put_mask-clause-files g c =
    let part = c.args.part.now in
    let old = g.S.Store.files c.args.store.now in
    let mid = g.S.Store.files c.put_numbers.new.store in
    let numbers = file_in part file.Values (values_bytes Category (map (code_of (dictionary_of part.cells)) part.cells)) in
    let mask = file_in part file.Mask (spelling (map is_present part.cells)) in
    let words = file_in part file.Words (dictionary_bytes (dictionary_of part.cells)) in
    let codes : values_bytes part.column.ty c.deref.result.now ≡ values_bytes Category (map (code_of (dictionary_of part.cells)) part.cells) =
    ap (λ ty. values_bytes ty c.deref.result.now) c.requires ∙ ap (values_bytes Category) (c.deref.ensures.value ∙ c.in_ok-codes.ensures.codes) in
    PutsInOrder-err (numbers ∷ mask ∷ words ∷ []) c.from_residual-in_err-put_mask.result _ _ c.from_residual-in_err-put_mask.ensures.0
    (PutsFront-append (numbers ∷ []) (mask ∷ words ∷ []) _ _ _
    (subst (λ (bs : List ℕ). PutsAll (file_in part file.Values bs ∷ []) old mid) codes c.in_ok-put_numbers.ensures.files)
    (PutsFront-more (mask ∷ []) (words ∷ []) _ _ c.in_err-put_mask.ensures.files))

pub returns-clause-files : goal.returns-clause-files
returns-clause-files g c =
    let part = c.args.part.now in
    let old = g.S.Store.files c.args.store.now in
    let mid = g.S.Store.files c.put_numbers.new.store in
    let numbers = file_in part file.Values (values_bytes Category (map (code_of (dictionary_of part.cells)) part.cells)) in
    let mask = file_in part file.Mask (spelling (map is_present part.cells)) in
    let words = file_in part file.Words (dictionary_bytes (dictionary_of part.cells)) in
    let codes : values_bytes part.column.ty c.deref.result.now ≡ values_bytes Category (map (code_of (dictionary_of part.cells)) part.cells) =
    ap (λ ty. values_bytes ty c.deref.result.now) c.requires ∙ ap (values_bytes Category) (c.deref.ensures.value ∙ c.in_ok-codes.ensures.codes) in
    PutsInOrder-then (numbers ∷ mask ∷ []) (words ∷ []) c.put_bytes.result _ _ _
    (PutsAll-append (numbers ∷ []) (mask ∷ []) _ _ _
    (subst (λ (bs : List ℕ). PutsAll (file_in part file.Values bs ∷ []) old mid) codes c.in_ok-put_numbers.ensures.files)
    c.in_ok-put_mask.ensures.files)
    (subst (λ (bs : List ℕ). PutsInOrder (file_in part file.Words bs ∷ []) c.put_bytes.result (g.S.Store.files c.put_mask.new.store) (g.S.Store.files c.put_bytes.new.store))
    (c.deref-2.ensures.value ∙ c.in_ok-words.ensures ∙ ap dictionary_bytes c.in_ok-codes.ensures.words) c.put_bytes.ensures.files)
