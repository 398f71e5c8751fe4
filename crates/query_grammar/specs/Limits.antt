-- The limits of queries, beside those of clauses.
use Rattle.std.specs.Prelude.{ℕ}

-- the most items of a select list, and of an order
abbrev pub most_items : ℕ
most_items = 255

-- the greatest limit
abbrev pub most_rows : ℕ
most_rows = 999999999999999999
