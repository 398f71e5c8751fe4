use Rattle.std.proofs.Common.{◌++◌, ◌∷◌, [], Bool, List, map, take, drop, arith, sym, ap, ◌∙◌}
use Rattle.wah_words.proofs.PlacesLemmas.{places-push}
use Rattle.world.specs.Cells.{is_present}
use Rattle.dataset.proofs.CellLemmas.{group_more, bit_fits, bit_small, no_places, small_group}
use Rattle.dataset.proofs.gathering.group_of.Goals as goal

pub overflow_mul-group : goal.overflow_mul-group
overflow_mul-group c =
    let small = small_group c.loop-row.group c.loop-row.row c.loop-row.invariant.fits (omega arith) in
    record { fits = omega (arith, small) }

pub overflow_add-group : goal.overflow_add-group
overflow_add-group c =
    let small = small_group c.loop-row.group c.loop-row.row c.loop-row.invariant.fits (omega arith) in
    record { fits = bit_small c.loop-row.group c.is_present.result small }

pub loop-row-preserved : goal.loop-row-preserved
loop-row-preserved c =
    let part = c.args.part.now in
    let row = c.loop-row.row in
    let inv = c.loop-row.invariant in
    record {
      places = places-push row c.loop-row.group c.is_present.result inv.fits
          ∙ ap (λ (bits : List Bool). bits ++ c.is_present.result ∷ []) inv.places
          ∙ ap (λ (b : Bool). map is_present (take row (drop c.args.first part.cells)) ++ b ∷ []) c.is_present.ensures
          ∙ sym (group_more part.cells c.args.first row (omega arith));
      fits = bit_fits c.loop-row.group row c.is_present.result inv.fits;
    }

pub loop-row-init : goal.loop-row-init
loop-row-init c = record { places = no_places 0; fits = omega arith }
