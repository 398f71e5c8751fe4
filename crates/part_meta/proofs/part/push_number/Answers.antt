use Rattle.std.proofs.Common.{append_assoc, codes}
use Rattle.part_meta.specs.PartText.{number_line}
use Rattle.part_meta.proofs.part.push_number.Goals as goal

pub returns : goal.returns
unfolding number_line
returns c =
    rw (c.in_ok-extend_from_slice-2.ensures.items, c.in_ok-extend_from_slice.ensures.items, c.digit.ensures, c.digit-2.ensures, c.digit-3.ensures, c.digit-4.ensures)
    (append_assoc c.args.text.now.items (codes "Name = p") _)
