use Rattle.std.proofs.Common.{◌≡◌, ◌-◌, [], length}
use Rattle.text_column.specs.DictionaryFile.{words_in}
use Rattle.text_column.proofs.dictionary_file.words_of.Given as goal

abbrev pub invariant-loop : goal.invariant-loop
invariant-loop l = record {
  known : length l.words ≡ l.counter;
  left : words_in l.count ([], l.bytes) ≡ words_in (l.count - l.counter) (l.words, l.rest);
}
