use Rattle.std.proofs.Common.{◌∙◌, ◌<◌, ◌^◌, ◌+◌, sym, arith, refl}
use Rattle.std.proofs.lemmas.List.Elements.{All-push}
use Rattle.command_words.proofs.PlaceLemmas.{is_value-more, is_value-none, plain-here, plain-value, word_at-map}
use Rattle.command_words.proofs.given.plain_places_of.Goals as goal
use Rattle.command_words.proofs.given.plain_places_of.Goals.{then-not-at_value+in_ok-push, else-not-at_value, then-not-at_value-2, else-not-at_value-2}

pub loop-place-init : goal.loop-place-init
loop-place-init c = record {
  places = c.new-places.ensures.items;
  at_value = sym (is_value-none _ _);
  within = rw c.new-places.ensures.items (λ k d h. absurd (omega arith));
}

pub loop-place-preserved : goal.loop-place-preserved
loop-place-preserved c =
    let before = c.loop-place.invariant in
    record {
      places = elim c.if-not-at_value.branch [
        | then-not-at_value+in_ok-push w ↦
            rw (w.places-is, w.in_ok-push.ensures.items, before.places)
            (sym (plain-here _ _ _ (sym before.at_value ∙ w.if-not-at_value.true)))
        | else-not-at_value w ↦
            rw (w.places-is, before.places) (sym (plain-value _ _ _ (sym before.at_value ∙ w.if-not-at_value.false)))
      ];
      at_value = elim c.if-not-at_value-2.branch [
        | then-not-at_value-2 w ↦
            let word = word_at-map c.args.words.now c.loop-place.place c.index-words-place.result c.loop-place-test.true c.index-words-place.is in
            rw (w.at_value-is, w.spells_any-at_value.ensures, w.as_str.ensures.value, is_value-more, ← before.at_value, w.if-not-at_value-2.true, word) refl
        | else-not-at_value-2 w ↦ rw (w.at_value-is, is_value-more, ← before.at_value, w.if-not-at_value-2.false) refl
      ];
      within = elim c.if-not-at_value.branch [
        | then-not-at_value+in_ok-push w ↦
            let next : c.loop-place.place + 1 < 2 ^ 64 = omega arith in
            rw (w.places-is, w.in_ok-push.ensures.items) (All-push (λ place. place + 1 < 2 ^ 64) _ _ before.within next)
        | else-not-at_value w ↦ rw w.places-is before.within
      ];
    }
