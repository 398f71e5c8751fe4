use Rattle.std.proofs.Common.{◌≡◌, ◌++◌, ◌∷◌, [], Bool, List, get_or, map, take, pos, to_z, of_z, arith, sym, ap, ◌∙◌}
use Rattle.std.specs.Int.{w128}
use Rattle.std.proofs.lemmas.Int.{ints, to_z-of_z}
use Rattle.std.proofs.lemmas.List.{map_more}
use Rattle.wah_words.proofs.PlacesLemmas.{places-push}
use Rattle.binning.specs.Spans.{has}
use Rattle.candidates.proofs.PlaceLemmas.{bit_fits, bit_small, no_places, small_word}
use Rattle.candidates.proofs.numbers.marks.Goals as goal

pub overflow_mul-word : goal.overflow_mul-word
overflow_mul-word c =
    let small = small_word c.loop-number.word c.loop-number.number-index c.loop-number.invariant.fits (omega arith) in
    record { fits = omega (arith, small) }

pub overflow_add-word : goal.overflow_add-word
overflow_add-word c =
    let small = small_word c.loop-number.word c.loop-number.number-index c.loop-number.invariant.fits (omega arith) in
    record { fits = bit_small c.loop-number.word _ small }

pub loop-number-preserved : goal.loop-number-preserved
loop-number-preserved c =
    let numbers = c.args.numbers.now in
    let i = c.loop-number.number-index in
    let inv = c.loop-number.invariant in
    let test = has c.args.spans.now in
    let number = get_or numbers i (pos 0) in
    let same : to_z w128 (of_z w128 number) ≡ number = search (arith, ints, to_z-of_z) in
    record {
      marks = places-push i c.loop-number.word c.has.result inv.fits
          ∙ ap (λ (bits : List Bool). bits ++ c.has.result ∷ []) inv.marks
          ∙ ap (λ (b : Bool). map test (take i numbers) ++ b ∷ []) (c.has.ensures ∙ ap test same)
          ∙ sym (map_more test numbers i (pos 0) (omega arith));
      fits = bit_fits c.loop-number.word i c.has.result inv.fits;
    }

pub loop-number-init : goal.loop-number-init
loop-number-init c = record { marks = no_places 0; fits = omega arith }
