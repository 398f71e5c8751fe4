use Rattle.enc_two_level.proofs.GroupsLemmas.{part_long}
use Rattle.enc_two_level.proofs.groups.joined.Goals as goal
use Rattle.std.proofs.Common.{◌-◌}

pub or_many-requires-clause-same : goal.or_many-requires-clause-same
or_many-requires-clause-same g c = part_long c.args.rows (c.args.end - c.args.begin) c.args.begin c.args.bins.now c.requires.long
