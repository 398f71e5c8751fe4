use Rattle.std.proofs.Common.{subst, sym}
use Rattle.std.specs.Str.{IsUtf8}
use Rattle.fb_types.proofs.NameFacts.{name_is_text}
use Rattle.fb_types.proofs.names.ColName.as_str.Goals as goal

pub unreachable-requires : goal.unreachable-requires
unreachable-requires c =
    c.in-Err.ensures.cases.0 (subst IsUtf8 (sym c.bytes.ensures.value) (name_is_text c.args.self.now c.bytes.ensures.named))
