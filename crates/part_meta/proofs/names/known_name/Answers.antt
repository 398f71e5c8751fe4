use Rattle.part_meta.proofs.PieceLemmas.{name_is_utf8}
use Rattle.part_meta.proofs.names.known_name.Goals as goal

pub unreachable-requires : goal.unreachable-requires
unreachable-requires c = c.in_default.ensures.cases.0 (name_is_utf8 300 80 c.args.text.now c.requires)
