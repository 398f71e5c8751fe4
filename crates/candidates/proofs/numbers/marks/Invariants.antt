use Rattle.std.proofs.Common.{◌≡◌, ◌<◌, ◌^◌, map, take}
use Rattle.wah_words.specs.Places.{places}
use Rattle.binning.specs.Spans.{has}
use Rattle.candidates.proofs.numbers.marks.Given as goal

abbrev pub invariant-loop-number : goal.invariant-loop-number
invariant-loop-number l = record {
  marks : places l.number-index l.word ≡ map (has l.spans) (take l.number-index l.numbers);
  fits : l.word < 2 ^ l.number-index;
}
