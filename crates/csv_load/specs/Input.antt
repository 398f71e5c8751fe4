-- What reading an input to its end takes from the source. `old` and `new` are what the source has left before and after.
use Rattle.std.specs.Prelude.{◌≡◌, ◌+◌, ◌<◌, ◌≤◌, ℕ, List, length, Option}
use Rattle.fb_outside.specs.Streams.{Takes}
use Rattle.csv_load.specs.declared.input.InputFault.{InputFault}
use Rattle.csv_load.specs.declared.input.InputFault.TheVariants.{ReadFault, TooLong, OutOfMemory}

-- how many bytes at most are asked of a source at a time
abbrev pub block_bytes : ℕ
block_bytes = 65536

-- some bytes were taken, and this holds of their number
pub record TakesSome (old new : Option (List ℕ)) (P : ℕ → Type 0) : Type 0 where
  pub came : List ℕ
  pub taken : Takes old new came
  pub count : P (length came)

-- An input is too long where more than the limit came, and then no more than a block past the limit was taken.
-- Else no more than the limit came until then.
abbrev pub Explains : ℕ → ℕ → Option (List ℕ) → Option (List ℕ) → InputFault → Type 0
Explains limit block old new (TooLong told) = (told ≡ limit) × TakesSome old new (λ n. (limit < n) × (n ≤ limit + block))
Explains limit block old new ReadFault = TakesSome old new (λ n. n ≤ limit)
Explains limit block old new OutOfMemory = TakesSome old new (λ n. n ≤ limit)
