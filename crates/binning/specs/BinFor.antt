-- The bin of a group.
use Rattle.std.specs.Prelude.{ℕ, ◌==◌, List, map, pos, slice_index_or}
use Rattle.binning.specs.declared.groups.Group.{Group}
use Rattle.binning.specs.declared.gathering.Bin.{Bin}

abbrev pub no_group : Group
no_group = record { key = pos 0; least = pos 0; greatest = pos 0 }

-- the least and the greatest value of the group at a place, and the rows that have this place
abbrev pub bin_for : List Group → List ℕ → ℕ → Bin
bin_for groups places place = record {
  least = (slice_index_or groups place no_group).least;
  greatest = (slice_index_or groups place no_group).greatest;
  rows = map (λ p. p == place) places;
}
