use Rattle.std.proofs.Common.{◌≤◌, length}
use Rattle.world.proofs.PieceLemmas.{All-new_parts, piece-size, pieces-all}
use Rattle.world.proofs.the_parts_of_a_load.Goals as goal

pub returns-clause-all : goal.returns-clause-all
returns-clause-all c = pieces-all

pub returns-clause-each : goal.returns-clause-each
returns-clause-each c next per_part records some =
    All-new_parts (λ part. (1 ≤ length part.records) × (length part.records ≤ per_part)) next per_part records
    (λ place there. piece-size per_part records place some there)
