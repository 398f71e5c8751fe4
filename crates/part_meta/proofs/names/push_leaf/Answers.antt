use Rattle.std.proofs.Common.{append_assoc, refl}
use Rattle.part_meta.proofs.PieceLemmas.{leaf_is}
use Rattle.part_meta.proofs.names.push_leaf.Goals as goal

pub returns : goal.returns
returns c =
    rw (c.in_ok-extend_from_slice-2.ensures.items, c.in_ok-extend_from_slice.ensures.items, c.as_bytes.ensures.value, c.suffix.ensures, leaf_is c.args.kind c.args.name.now c.requires, append_assoc) refl
