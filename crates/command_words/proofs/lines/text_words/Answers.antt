use Rattle.std.proofs.Common.{◌≡◌, ◌∙◌, ◌++◌, [], append-nil, ap, sym}
use Rattle.std.proofs.lemmas.Iterator.{YieldsList-from_chars}
use Rattle.std.proofs.lemmas.Iterator.Consumers.{YieldsList-end}
use Rattle.std.proofs.lemmas.List.{map-id}
use Rattle.std.proofs.lemmas.Str.{encodes-chars}
use lib.Utf8.{encode, encodes}
use Rattle.command_words.specs.Ahead.{ahead, all_words, between}
use Rattle.command_words.specs.Lines.{text_words}
use Rattle.command_words.proofs.AheadLemmas.{none_read, one_char}
use Rattle.command_words.proofs.WordsLemmas.{ahead-text_words}
use Rattle.command_words.proofs.lines.text_words.Goals as goal

pub loop-c-init : goal.loop-c-init
loop-c-init c = λ rest. none_read _ rest c.new-words.ensures.items

pub loop-c-preserved : goal.loop-c-preserved
loop-c-preserved c = λ rest.
    sym (c.in_ok-place.ensures rest) ∙ c.loop-c.invariant (encode c.in-Some.c ++ rest)
    ∙ ap (ahead between) (one_char c.loop-c.yielded c.in-Some.c rest)

pub returns : goal.returns
returns c =
    let text = c.args.text.now in
    let end = YieldsList-end (YieldsList-from_chars text c.utf8.text cc) c.loop-c.yielded _ c.loop-c.yielded_by _ _ c.in-None.is c.next.ensures.steps in
    let all : encodes c.loop-c.yielded ≡ text = ap encodes (sym (map-id c.loop-c.yielded) ∙ end.0) ∙ encodes-chars text c.utf8.text in
    let same : all_words c.loop-c.words.items c.loop-c.place [] ≡ text_words text =
    c.loop-c.invariant [] ∙ ap (ahead between) (append-nil (encodes c.loop-c.yielded) ∙ all) ∙ ahead-text_words text in
    rw same at c.finish.ensures
