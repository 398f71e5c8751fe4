use Rattle.std.proofs.Common.{◌≡◌, ◌+◌, ◌*◌, ◌∷◌, [], ◌++◌, take, ap, ◌∙◌, arith}
use Rattle.wah_words.specs.Spelling.{words_of}
use Rattle.index_file.specs.Places.{places_from}
use Rattle.index_file.proofs.PlacesLemmas.{few_words, places_pushed}
use Rattle.index_file.proofs.places.places_behind.Goals as goal

pub loop-bitmap-preserved : goal.loop-bitmap-preserved
loop-bitmap-preserved c =
    let pushed = places_pushed c.args.start c.args.bitmaps.now c.loop-bitmap.bitmap-index c.bitmap-item.result c.loop-bitmap.at c.loop-bitmap-test.true c.bitmap-item.is
    c.loop-bitmap.invariant.ends in
    let few = few_words c.bitmap-item.result c.words.ensures.limit in
    let words : c.from.result ≡ words_of c.bitmap-item.result = cc in
    let next : c.loop-bitmap.at + (8 + 4 * c.from.result) ≡ c.loop-bitmap.at + (8 + 4 * words_of c.bitmap-item.result) = ap (λ n. c.loop-bitmap.at + (8 + 4 * n)) words in
    record {
      items = c.in_ok-push-2.ensures.items ∙ ap (λ b. b ++ (c.loop-bitmap.at + (8 + 4 * c.from.result)) ∷ []) c.loop-bitmap.invariant.items
          ∙ ap (λ n. places_from c.args.start (take c.loop-bitmap.bitmap-index c.args.bitmaps.now) ++ n ∷ []) next ∙ pushed.1;
      ends = next ∙ pushed.0;
      small = let before = c.loop-bitmap.invariant.small in omega arith;
    }
