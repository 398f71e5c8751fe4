use Rattle.std.proofs.Common.{◌≡◌, ℕ, ◌-◌, ◌%◌, ◌++◌, ◌∷◌, [], List, take, drop, refl, sym, ap, subst, ◌∙◌, arith, append_assoc}
use Rattle.fb_outside.specs.Reads.{Look}
use Rattle.fb_outside.proofs.ReadLemmas.{AddsOnly-same, AddsOnly-trans, AddsOnly-weaken}
use Rattle.candidates.specs.Blocks.{blocks_of_run}
use Rattle.candidates.specs.Reads.{AddsAll, IsPartLook, reads_of}
use Rattle.candidates.proofs.BlockLemmas.{block_more, no_blocks, whole_again}
use Rattle.candidates.proofs.FoundLemmas.{tests_more}
use Rattle.candidates.proofs.ReadLemmas.{adds_blocks, adds_none}
use Rattle.candidates.proofs.WalkLemmas.{part_grows, takes_none}
use Rattle.candidates.proofs.walk.test_run.Goals as goal

pub loop-at-init : goal.loop-at-init
loop-at-init g c =
    let files = g.S.Store.files c.args.store.now in
    let old = g.S.Store.reads c.args.store.now in
    let values = c.args.values.now in
    record {
      unfailed = refl;
      kept = refl;
      room = c.requires.block;
      rows = refl;
      begins = omega arith;
      ends = omega (arith, c.requires.some);
      place = c.requires.place;
      found = λ all has. takes_none c.args.found.now.bits all c.args.first;
      reads = AddsOnly-same _ _ _ refl;
      whole = λ more. omega arith;
      each = subst (λ (bs : List (ℕ × ℕ)). AddsAll files old old (reads_of (g.R.Rows.look values) (g.R.Rows.takes_read values) bs)) (sym (no_blocks c.args.first)) (adds_none files old);
    }

pub returns-in_err-test-clause-reads : goal.returns-in_err-test-clause-reads
returns-in_err-test-clause-reads g c =
    let look = g.R.Rows.look c.args.values.now in
    let inv = c.loop-at.invariant in
    let end = c.block_end-end in
    AddsOnly-trans (IsPartLook look c.args.first c.args.past) _ _ _ inv.reads
    (AddsOnly-weaken (λ (read : Look). read ≡ look (c.loop-at.at, end.result)) (IsPartLook look c.args.first c.args.past) _ _
    (λ read is. part_grows look c.args.first c.args.past c.loop-at.at end.result read inv.begins end.ensures.some end.ensures.few end.ensures.within is) c.test.ensures.reads)

pub loop-at-preserved : goal.loop-at-preserved
loop-at-preserved g c =
    let files = g.S.Store.files c.args.store.now in
    let old = g.S.Store.reads c.args.store.now in
    let mid = g.S.Store.reads c.loop-at.store in
    let now = g.S.Store.reads c.test.new.store in
    let values = c.args.values.now in
    let look = g.R.Rows.look values in
    let takes = g.R.Rows.takes_read values in
    let inv = c.loop-at.invariant in
    let first = c.args.first in
    let at = c.loop-at.at in
    let end = c.block_end-end.result in
    let some = c.block_end-end.ensures.some in
    let few = c.block_end-end.ensures.few in
    let within = c.block_end-end.ensures.within in
    let aligned = inv.whole (omega (arith, c.loop-at-test.true)) in
    record {
      unfailed = (rw c.in_ok-test.was at c.test.ensures.cause).told (λ e. e) ∙ inv.unfailed;
      kept = c.test.ensures.files ∙ inv.kept;
      room = c.test.ensures.block ∙ inv.room;
      rows = c.test.ensures.rows ∙ inv.rows;
      begins = omega (arith, inv.begins, some);
      ends = within;
      place = c.in_ok-test.ensures.seen;
      found = λ all has.
          c.in_ok-test.ensures.found all (subst (λ files. g.R.Rows.tests values files all) (sym inv.kept) has)
          ∙ ap (λ l. l ++ take (end - at) (drop at all)) (inv.found all has)
          ∙ append_assoc c.args.found.now.bits (take (at - first) (drop first all)) (take (end - at) (drop at all))
          ∙ ap (λ l. c.args.found.now.bits ++ l) (tests_more all first at end inv.begins (omega (arith, some)));
      reads = AddsOnly-trans (IsPartLook look first c.args.past) old mid now inv.reads
          (AddsOnly-weaken (λ (read : Look). read ≡ look (at, end)) (IsPartLook look first c.args.past) mid now
          (λ read is. part_grows look first c.args.past at end read inv.begins some few within is) c.test.ensures.reads);
      whole = λ more.
          let P : ℕ → Type 0 = λ n. (n - first) % 4096 ≡ 0 in
          subst P (sym (c.block_end-end.ensures.full more)) (whole_again first at inv.begins aligned);
      each = adds_blocks files old mid now look takes (blocks_of_run (first, at)) ((at, end) ∷ []) (blocks_of_run (first, end))
          (block_more first at end inv.begins aligned some few) inv.each
          (subst (λ files. AddsAll files mid now (reads_of look takes ((at, end) ∷ []))) inv.kept c.in_ok-test.ensures.each);
    }
