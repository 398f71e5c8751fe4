-- What a cursor has still to give, and what one call of `advance` gives.
use Rattle.std.specs.Prelude.{◌≡◌, ℕ, ◌+◌, ◌*◌, ◌^◌, ◌<◌, Bool, List, [], ◌++◌, replicate, count_by, Option, None, Some}
use Rattle.wah_words.specs.declared.run.Run.{Run}
use Rattle.wah_words.specs.declared.run.Run.TheVariants as runs
use Rattle.wah_words.specs.Places.{places}
use Rattle.wah_words.specs.Spelling.{Word, literal, fill}

-- the values still to come, and the number of words still to look at
pub record Left : Type 0 where
  pub values : List Bool
  pub words : ℕ

-- the values of a run
abbrev pub run_values : Run → List Bool
run_values (runs.Fill bit groups) = replicate (31 * groups) bit
run_values (runs.Literal word) = places 31 word
run_values (runs.Tail bits count) = places count bits

-- What is known of each kind of run: a fill has a group, a literal is mixed, a tail is the last and has 1 to 30 values.
abbrev pub IsRun : Run → Left → Type 0
IsRun (runs.Fill bit groups) after = 0 < groups
IsRun (runs.Literal word) after = (0 < word) × (word < 2147483647)
IsRun (runs.Tail bits count) after = (0 < count) × (count < 31) × (bits < 2 ^ count) × (after.values ≡ []) × (after.words ≡ 0)

-- A run is the front of what was left, one word less is to look at; None exactly at the end, and nothing changes there.
abbrev pub Comes : Left → Option Run → Left → Type 0
Comes old None new = (old.values ≡ []) × (old.words ≡ 0) × (new ≡ old)
Comes old (Some run) new = (old.values ≡ run_values run ++ new.values) × (old.words ≡ new.words + 1) × IsRun run new

-- How many values of the next word are true: so many less are left, and one word less is to look at.
abbrev pub Counts : Left → Option ℕ → Left → Type 0
Counts old None new = (old.values ≡ []) × (old.words ≡ 0) × (new ≡ old)
Counts old (Some n) new = (count_by (λ b. b) old.values ≡ n + count_by (λ b. b) new.values) × (old.words ≡ new.words + 1)

-- the run of a regular word
abbrev pub run_of_word : Word → Run
run_of_word (literal g) = runs.Literal g
run_of_word (fill b n) = runs.Fill b n
