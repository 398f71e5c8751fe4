use Rattle.std.proofs.Common.{◌++◌, decimal, string_bytes}
use lib.Chars.{codes}
use Rattle.part_meta.specs.CatalogText.{part_line}
use Rattle.part_meta.specs.Lines.{line}
use Rattle.part_meta.proofs.LineLemmas.{lines-step}
use Rattle.part_meta.proofs.catalog.number_lines.Goals as goal

pub loop-part-preserved : goal.loop-part-preserved
unfolding part_line
loop-part-preserved c =
    lines-step (line (codes "next " ++ decimal c.args.next)) c.args.parts.now c.loop-part.part-index (string_bytes c.loop-part.lines) (string_bytes c.push_line-in-loop-part.new.lines)
    c.loop-part-test.true c.loop-part.invariant c.in_ok-push_line-2.ensures
