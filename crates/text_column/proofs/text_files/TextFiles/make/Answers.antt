use Rattle.std.proofs.Common.{◌++◌, ap, sym, ◌∙◌}
use Rattle.std.specs.Int.{w64, to_le_bytes}
use Rattle.text_column.proofs.TextLemmas.{first_start}
use Rattle.text_column.proofs.text_files.TextFiles.make.Goals as goal

pub returns : goal.returns
returns c = record {
  text = c.new.ensures.items;
  starts = c.in_ok-push_u64.ensures.ok ∙ ap (λ b. b ++ to_le_bytes w64 0) c.new-starts.ensures.items ∙ sym first_start;
}
