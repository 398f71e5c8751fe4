-- Runs whose values a vector can have.
use Rattle.std.specs.Prelude.{◌*◌, ◌^◌, ◌<◌, ◌≤◌}
use Rattle.wah_words.specs.Limits.{most_bits}
use Rattle.wah_words.specs.declared.run.Run.{Run}
use Rattle.wah_words.specs.declared.run.Run.TheVariants as runs

-- a fill is no longer than a vector, and no number has a place above its values
abbrev pub Fits : Run → Type 0
Fits (runs.Fill bit groups) = 31 * groups ≤ most_bits
Fits (runs.Literal word) = word < 2147483648
Fits (runs.Tail bits count) = (count < 31) × (bits < 2 ^ count)
