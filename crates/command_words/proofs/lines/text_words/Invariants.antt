-- The words that were read and those ahead are those of the whole text, whatever it goes on with.
use Rattle.std.proofs.Common.{◌≡◌, ◌++◌, ℕ, List}
use lib.Utf8.{encodes}
use Rattle.command_words.specs.Ahead.{ahead, all_words, between}
use Rattle.command_words.proofs.lines.text_words.Given as goal

abbrev pub invariant-loop-c : goal.invariant-loop-c
invariant-loop-c l = (rest : List ℕ) → all_words l.words.items l.place rest ≡ ahead between (encodes l.yielded ++ rest)
