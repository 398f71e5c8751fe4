use Rattle.std.proofs.Common.{◌≡◌, ◌+◌, ◌-◌, ◌*◌, ◌/◌, ◌<◌, ◌≤◌, ◌++◌, length, take, drop, get_or, sym, ap, ◌∙◌, arith, length-drop}
use Rattle.std.proofs.lemmas.List.{take_all, get_or-drop}
use Rattle.std.proofs.Math.Seq.{take-add}
use Rattle.wah_iter.specs.Rows.{rows_of}
use Rattle.wah_iter.proofs.RowLaws.{rows_none}
use Rattle.wah_iter.proofs.PackLaws.{rising_after, rest_is, group_room}
use Rattle.wah_iter.proofs.packing.from_rows.Goals.{then-rows-groups, else-rows-groups}
use Rattle.wah_iter.proofs.packing.from_rows.Goals as goal

pub loop-done-init : goal.loop-done-init
loop-done-init c =
    let none = ap length c.in_ok-out.ensures.empty in
    record {
      within = omega arith;
      rows = rows_none c.in_ok-out.out.values c.in_ok-out.ensures.empty;
      aligned = rw none (omega arith);
      short = omega (arith, none);
      next = λ h. omega (arith, none);
      room = elim c.if-rows-groups.branch [
        | then-rows-groups w ↦ omega (arith, w.room-is, c.in_ok-out.ensures.room)
        | else-rows-groups w ↦ omega (arith, w.room-is, c.in_ok-out.ensures.room)
      ];
    }

pub push_group-done-requires-clause-rising : goal.push_group-done-requires-clause-rising
push_group-done-requires-clause-rising c =
    rw (rest_is c.loop-done.done c.args.rows.now) (rising_after c.loop-done.done c.args.rows.now c.requires.rising)

pub push_rest-requires-clause-rising : goal.push_rest-requires-clause-rising
push_rest-requires-clause-rising c =
    rw (rest_is c.loop-done.done c.args.rows.now) (rising_after c.loop-done.done c.args.rows.now c.requires.rising)

pub loop-done-preserved : goal.loop-done-preserved
loop-done-preserved c =
    let i = c.loop-done.invariant in
    let rows = c.args.rows.now in
    let d = c.loop-done.done in
    let n = c.push_group-done.result in
    let done = d + n in
    let new = c.push_group-done.new.out.values in
    let first : get_or (drop d rows) 0 0 ≡ get_or rows d 0 = get_or-drop d rows 0 0 ∙ (let e : d + 0 ≡ d = omega arith in ap (λ k. get_or rows k 0) e) in
    let grown = rw (rest_is d rows) at c.push_group-done.ensures.rows in
    let long = rw (rest_is d rows, first) at c.push_group-done.ensures.length in
    let within = rw (rest_is d rows, length-drop d rows) at c.push_group-done.ensures.within in
    let past = rw (rest_is d rows, length-drop d rows, get_or-drop d rows n 0) at c.push_group-done.ensures.past in
    let spare = rw (rest_is d rows, first) at c.push_group-done.ensures.spare in
    let left : length rows - d - n ≡ length rows - done = omega arith in
    let groups : length new / 31 ≡ get_or rows d 0 / 31 + 1 = omega (arith, long) in
    record {
      within = omega (arith, within, i.within);
      rows = grown ∙ ap (λ l. l ++ take n (drop d rows)) i.rows ∙ sym (take-add d n rows);
      aligned = omega (arith, long);
      short = omega (arith, long, c.if-rows-done.true);
      next = λ h. past (omega (arith, h));
      room = rw (groups, ← left) (group_room (length rows - d) n (c.args.len / 31) (length c.loop-done.out.values / 31) (get_or rows d 0 / 31) c.loop-done.out.spare c.push_group-done.new.out.spare i.room spare (omega (arith, i.next c.loop-done-test.true)) c.if-rows-done.true c.push_group-done.ensures.some (omega (arith, within)));
    }
