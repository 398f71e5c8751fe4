use Rattle.std.proofs.Common.{append_assoc, refl}
use Rattle.part_meta.specs.FileNames.{part_folder}
use Rattle.part_meta.proofs.names.push_folder.Goals as goal

pub returns : goal.returns
unfolding part_folder
returns c =
    rw (c.in_ok-extend_from_slice-2.ensures.items, c.in_ok-extend_from_slice.ensures.items, c.as_bytes.ensures.value, c.as_str.ensures.bytes, c.digit.ensures, c.digit-2.ensures, c.digit-3.ensures, c.digit-4.ensures, append_assoc) refl
