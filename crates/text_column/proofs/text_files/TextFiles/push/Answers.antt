use Rattle.std.proofs.Common.{◌++◌, Result, Ok, Err, OnOk, ap, sym, ◌∙◌, length}
use Rattle.std.specs.Int.{w64, to_le_bytes}
use Rattle.text_column.proofs.TextLemmas.{text_pushed, starts_pushed}
use Rattle.text_column.proofs.text_files.TextFiles.push.Goals as goal

on_ok : {A E : Type 0} (r : Result A E) (P Q : Type 0) → (P → Q) → OnOk r P → OnOk r Q
on_ok (Ok x) P Q f h = f h
on_ok (Err e) P Q f h = h

pub returns : goal.returns
returns c = λ texts h.
    let text = c.in_ok-extend_from_slice.ensures.items ∙ ap (λ b. b ++ c.args.text.now) h.text ∙ sym (text_pushed texts c.args.text.now) in
    on_ok c.push_u64.result _ _ (λ pushed. record {
      text = text;
      starts = pushed ∙ ap (λ b. b ++ to_le_bytes w64 (length c.as_slice.result.now)) h.starts
          ∙ sym (starts_pushed texts c.args.text.now (length c.as_slice.result.now) (ap length (c.as_slice.ensures.value ∙ text)));
    }) c.push_u64.ensures.ok
