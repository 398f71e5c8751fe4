-- A list of truth values as plain groups of 31, and what is or-ed into it.
use Rattle.std.specs.Prelude.{◌≡◌, ℕ, ◌+◌, ◌-◌, ◌*◌, ◌^◌, ◌<◌, ◌≤◌, Bool, false, List, ◌++◌, All, length, replicate}
use Rattle.std.specs.List.{flat_map}
use Rattle.wah_words.specs.declared.run.Run.{Run}
use Rattle.wah_words.specs.declared.run.Run.TheVariants as runs
use Rattle.wah_words.specs.Limits.{most_bits}
use Rattle.wah_words.specs.Places.{places}
use Rattle.wah_logic.specs.Logic.{each_place, or}

-- the values of whole groups, and of a rest after them
unfoldable pub group_values : List ℕ → ℕ → ℕ → List Bool
group_values whole rest tail = flat_map (places 31) whole ++ places rest tail

-- Each group has 31 values, the rest fewer.
pub record AreGroups (whole : List ℕ) (rest tail : ℕ) : Type 0 where
  pub groups : All (λ g. g < 2 ^ 31) whole
  pub few : rest < 31
  pub fits : tail < 2 ^ rest
  pub within : 31 * length whole + rest ≤ most_bits

-- these values from a place on, and false before and after, of so many in all
abbrev pub alone_at : ℕ → List Bool → ℕ → List Bool
alone_at place values len = replicate place false ++ (values ++ replicate (len - place - length values) false)

-- the list with these values or-ed in from a place on
unfoldable pub or_at : ℕ → List Bool → List Bool → List Bool
or_at place values v = each_place or v (alone_at place values (length v))

-- Where a run of a list of this length can stand: whole groups inside it, a tail at its end.
abbrev pub StandsAt : ℕ → Run → ℕ → Type 0
StandsAt group (runs.Fill bit groups) len = 31 * (group + groups) ≤ len
StandsAt group (runs.Literal word) len = 31 * (group + 1) ≤ len
StandsAt group (runs.Tail bits count) len = 31 * group + count ≡ len

-- the group after a run
abbrev pub group_after : ℕ → Run → ℕ
group_after group (runs.Fill bit groups) = group + groups
group_after group (runs.Literal word) = group + 1
group_after group (runs.Tail bits count) = group
