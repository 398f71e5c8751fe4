-- The limits of queries.
use Rattle.std.specs.Prelude.{ℕ}

-- the most bytes of a query
abbrev pub most_bytes : ℕ
most_bytes = 1048576

-- the most bytes of a text in quotes
abbrev pub most_text : ℕ
most_text = 65535

-- the most items of a list
abbrev pub most_items : ℕ
most_items = 4096

-- the most open parentheses
abbrev pub most_open : ℕ
most_open = 64

-- the most `not`s in a row
abbrev pub most_nots : ℕ
most_nots = 16
