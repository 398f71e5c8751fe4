-- A column whose text file has texts.
use Rattle.std.proofs.Common.{◌≡◌, ℕ, List, Option, length, get_or, slice_index, ap, sym, ◌∙◌, arith}
use Rattle.fb_outside.specs.Files.{Files}
use Rattle.text_column.specs.Texts.{starts_of, text_file}
use Rattle.text_column.specs.declared.text_ref.TextRef.{TextRef}
use Rattle.text_column.proofs.TextLemmas.{last_start, length-starts}
use Rattle.candidates.specs.Texts.{HasTexts}

-- it has one a row
pub text_rows : (files : Option Files) (opened : TextRef) (texts : List (List ℕ)) → HasTexts files opened texts → length texts ≡ opened.rows
text_rows files opened texts has = omega (arith, opened.counted, ap length has.starts, length-starts 0 texts)

-- and its file ends where the last start says
pub text_length : (files : Option Files) (opened : TextRef) (texts : List (List ℕ)) → HasTexts files opened texts
    → length (text_file texts) ≡ slice_index opened.starts.items opened.rows
text_length files opened texts has =
    sym (last_start texts) ∙ ap (λ k. get_or (starts_of texts) k 0) (text_rows files opened texts has) ∙ ap (λ l. get_or l opened.rows 0) (sym has.starts)
