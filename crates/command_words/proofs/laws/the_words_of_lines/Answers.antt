use Rattle.std.proofs.Common.{refl}
use Rattle.std.specs.Str.{chars, is_utf8}
use lib.Utf8.{encode}
use Rattle.command_words.specs.Lines.{text_words}
use Rattle.command_words.proofs.laws.the_words_of_lines.Goals as goal

pub returns : goal.returns
unfolding is_utf8 text_words chars encode
returns c = record {
  quoted = refl;
  touching = refl;
  blank = refl;
  comment = refl;
  unclosed = refl;
  bytes = refl;
}
