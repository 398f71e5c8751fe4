-- The limit of vectors.
use Rattle.std.specs.Prelude.{ℕ}

-- the most bits of a vector
abbrev pub most_bits : ℕ
most_bits = 4194304
