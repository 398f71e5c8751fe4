use Rattle.std.proofs.Common.{append-nil, refl}
use Rattle.std.proofs.lemmas.List.{map-append}
use Rattle.command_words.specs.Ahead.{ahead}
use Rattle.command_words.proofs.lines.finish.Goals as goal

pub returns-in-Between : goal.returns-in-Between
unfolding ahead
returns-in-Between c = rw (c.in-Between.is, append-nil) refl

pub returns-in_ok-push-in-InWord : goal.returns-in_ok-push-in-InWord
unfolding ahead
returns-in_ok-push-in-InWord c = rw (c.in-InWord.is, c.in_ok-push-in-InWord.ensures.items, map-append) refl

pub returns-in-InQuotes : goal.returns-in-InQuotes
unfolding ahead
returns-in-InQuotes c = rw c.in-InQuotes.is refl
