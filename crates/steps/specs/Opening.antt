-- What a blank is for.
use Rattle.std.specs.Prelude.{ℕ}

-- the ledger's name, and in how many parts it is shared out
pub record Opening : Type 0 where
  pub name : ℕ
  pub parts : ℕ
