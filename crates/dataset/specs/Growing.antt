-- A dataset on the way to one with the new parts, and back.
use Rattle.std.specs.Prelude.{◌-◌, ℕ, List, ◌++◌, length, take}
use Rattle.part_meta.specs.declared.part.PartMeta.{PartMeta}
use Rattle.dataset.specs.declared.content.Dataset.{Dataset}

-- with one part more, the number that the next part gets being as it was
abbrev pub with_parts : Dataset → List PartMeta → Dataset
with_parts dataset parts = record dataset { parts = dataset.parts ++ parts }

-- without the last so many parts, and with this number for the next part
abbrev pub without_parts : Dataset → (next count : ℕ) → Dataset
without_parts dataset next count = record dataset { next = next; parts = take (length dataset.parts - count) dataset.parts }
