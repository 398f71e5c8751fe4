use Rattle.std.proofs.Common.{◌≡◌, [], ◌∷◌, ℕ, List, map, subst, ◌∙◌}
use Rattle.fb_outside.specs.Puts.{PutsAll, PutsFront, PutsInOrder}
use Rattle.fb_outside.proofs.PutLemmas.{PutsAll-append, PutsInOrder-then, PutsInOrder-err, PutsFront-append, PutsFront-more}
use Rattle.wah_words.specs.Bytes.{spelling}
use Rattle.part_meta.specs.declared.names.FileKind.TheVariants as file
use Rattle.text_column.specs.Texts.{starts_bytes, starts_of, text_file}
use Rattle.world.specs.Cells.{is_present, texts_of}
use Rattle.dataset.specs.WrittenColumns.{file_in}
use Rattle.dataset.proofs.column_writing.write_text.Goals as goal

pub returns-in_err-put_bytes-clause-files : goal.returns-in_err-put_bytes-clause-files
returns-in_err-put_bytes-clause-files g c =
    let part = c.args.part.now in
    let old = g.S.Store.files c.args.store.now in
    let mid = g.S.Store.files c.put_bytes.new.store in
    let text = file_in part file.Values (text_file (texts_of part.cells)) in
    let mask = file_in part file.Mask (spelling (map is_present part.cells)) in
    let starts = file_in part file.Starts (starts_bytes (starts_of (texts_of part.cells))) in
    let bytes : c.deref.result.now ≡ text_file (texts_of part.cells) =
    c.deref.ensures.value ∙ c.finish-text.ensures.text (texts_of part.cells) c.in_ok-texts_of.ensures in
    PutsInOrder-err (text ∷ mask ∷ starts ∷ []) c.from_residual-in_err-put_bytes.result _ _ c.from_residual-in_err-put_bytes.ensures.0
    (PutsFront-more (text ∷ []) (mask ∷ starts ∷ []) _ _
    (subst (λ (bs : List ℕ). PutsFront (file_in part file.Values bs ∷ []) old mid) bytes c.in_err-put_bytes.ensures.files))

pub returns-in_err-put_mask-clause-files : goal.returns-in_err-put_mask-clause-files
returns-in_err-put_mask-clause-files g c =
    let part = c.args.part.now in
    let old = g.S.Store.files c.args.store.now in
    let mid = g.S.Store.files c.put_bytes.new.store in
    let text = file_in part file.Values (text_file (texts_of part.cells)) in
    let mask = file_in part file.Mask (spelling (map is_present part.cells)) in
    let starts = file_in part file.Starts (starts_bytes (starts_of (texts_of part.cells))) in
    let bytes : c.deref.result.now ≡ text_file (texts_of part.cells) =
    c.deref.ensures.value ∙ c.finish-text.ensures.text (texts_of part.cells) c.in_ok-texts_of.ensures in
    PutsInOrder-err (text ∷ mask ∷ starts ∷ []) c.from_residual-in_err-put_mask.result _ _ c.from_residual-in_err-put_mask.ensures.0
    (PutsFront-append (text ∷ []) (mask ∷ starts ∷ []) _ _ _
    (subst (λ (bs : List ℕ). PutsAll (file_in part file.Values bs ∷ []) old mid) bytes c.in_ok-put_bytes.ensures.files)
    (PutsFront-more (mask ∷ []) (starts ∷ []) _ _ c.in_err-put_mask.ensures.files))

pub returns-clause-files : goal.returns-clause-files
returns-clause-files g c =
    let part = c.args.part.now in
    let old = g.S.Store.files c.args.store.now in
    let mid = g.S.Store.files c.put_bytes.new.store in
    let text = file_in part file.Values (text_file (texts_of part.cells)) in
    let mask = file_in part file.Mask (spelling (map is_present part.cells)) in
    let starts = file_in part file.Starts (starts_bytes (starts_of (texts_of part.cells))) in
    let bytes : c.deref.result.now ≡ text_file (texts_of part.cells) =
    c.deref.ensures.value ∙ c.finish-text.ensures.text (texts_of part.cells) c.in_ok-texts_of.ensures in
    PutsInOrder-then (text ∷ mask ∷ []) (starts ∷ []) c.put_bytes-2.result _ _ _
    (PutsAll-append (text ∷ []) (mask ∷ []) _ _ _
    (subst (λ (bs : List ℕ). PutsAll (file_in part file.Values bs ∷ []) old mid) bytes c.in_ok-put_bytes.ensures.files)
    c.in_ok-put_mask.ensures.files)
    (subst (λ (bs : List ℕ). PutsInOrder (file_in part file.Starts bs ∷ []) c.put_bytes-2.result (g.S.Store.files c.put_mask.new.store) (g.S.Store.files c.put_bytes-2.new.store))
    (c.deref-2.ensures.value ∙ c.finish-text.ensures.starts (texts_of part.cells) c.in_ok-texts_of.ensures) c.put_bytes-2.ensures.files)
