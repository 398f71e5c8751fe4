use Rattle.std.proofs.Common.{◌≡◌, ◌<◌, length, map, get_or, Bor, List, [], ℕ, Ok, Err, ap, sym, arith, ◌∷◌, length-append}
use Rattle.std.proofs.lemmas.List.{get_or-map, length-map}
use Rattle.fb_types.specs.SchemaText.{column_or_fault, name_in, type_in}
use Rattle.fb_types.proofs.EachFacts.{walk_ends, walk_from, walk_step, walk_stops}
use Rattle.fb_types.proofs.schema_text.columns.Goals as goal

within_bytes : (items : List (Bor (List ℕ))) (at : ℕ) → at < length items → at < length (map {B = List ℕ} (λ item. item.now) items)
within_bytes items at within = omega (arith, length-map {B = List ℕ} items (λ item. item.now))

at_bytes : (items : List (Bor (List ℕ))) (at : ℕ) (d : Bor (List ℕ)) → at < length items → (get_or items at d).now ≡ get_or (map {B = List ℕ} (λ item. item.now) items) at (get_or items at d).now
at_bytes items at d within = sym (get_or-map (λ item. item.now) items at d (get_or items at d).now within)

pub loop-at-init : goal.loop-at-init
loop-at-init c = record { count = ap length c.in_ok-columns.ensures.items; read = walk_from c.in_ok-columns.columns.items c.in_ok-columns.ensures.items }

pub returns-in-Err-clause-bad : goal.returns-in-Err-clause-bad
returns-in-Err-clause-bad c =
    let items = c.args.items.now in
    let at = c.loop-at.at in
    let item = get_or items at (record { ref_ptr = (0, 0); now = [] }) in
    let said : column_or_fault (map (λ column. column.name) c.loop-at.columns.items) (name_in item.now) (type_in item.now) ≡ Err c.in-Err.kind =
    rw (← c.deref.ensures.value, ← c.in_ok-column.ensures) c.in-Err.is in
    walk_stops (map (λ item. item.now) items) at item.now c.loop-at.columns.items c.in-Err.kind
    (within_bytes items at c.loop-at-test.true) (at_bytes items at (record { ref_ptr = (0, 0); now = [] }) c.loop-at-test.true) c.loop-at.invariant.count c.loop-at.invariant.read said

pub loop-at-preserved : goal.loop-at-preserved
loop-at-preserved c =
    let items = c.args.items.now in
    let at = c.loop-at.at in
    let item = get_or items at (record { ref_ptr = (0, 0); now = [] }) in
    let said : column_or_fault (map (λ column. column.name) c.loop-at.columns.items) (name_in item.now) (type_in item.now) ≡ Ok c.in-Ok.column =
    rw (← c.deref.ensures.value, ← c.in_ok-column.ensures) c.in-Ok.is in
    let grown = c.in_ok-add-in-Ok.ensures in
    record {
      count = omega (arith, ap length grown, length-append c.loop-at.columns.items (c.in-Ok.column ∷ []), c.loop-at.invariant.count);
      read = rw grown (walk_step (map (λ item. item.now) items) at item.now c.loop-at.columns.items c.in-Ok.column
          (within_bytes items at c.loop-at-test.true) (at_bytes items at (record { ref_ptr = (0, 0); now = [] }) c.loop-at-test.true) c.loop-at.invariant.read said);
    }

pub returns-clause-ok : goal.returns-clause-ok
returns-clause-ok c =
    let items = c.args.items.now in
    walk_ends (map (λ item. item.now) items) c.loop-at.at c.loop-at.columns.items
    (omega (arith, c.loop-at-test.false, length-map {B = List ℕ} items (λ item. item.now))) c.loop-at.invariant.read
