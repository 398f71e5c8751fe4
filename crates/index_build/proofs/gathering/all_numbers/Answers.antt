use Rattle.std.proofs.Common.{◌≡◌, ◌+◌, ℤ, ◌++◌, List, length, take, drop, refl, ap, sym, subst, ◌∙◌, arith}
use Rattle.std.proofs.lemmas.List.{length-append, length-drop, length-take}
use Rattle.fb_outside.proofs.ReadLemmas.{AddsOnly-same, AddsOnly-trans}
use Rattle.index_build.specs.Index.{AreRead}
use Rattle.index_build.proofs.ReadingLemmas.{more_read, none_read, taken_whole}
use Rattle.index_build.proofs.gathering.all_numbers.Goals as goal

pub returns-in_err-read_block-clause-reads : goal.returns-in_err-read_block-clause-reads
returns-in_err-read_block-clause-reads g c = AddsOnly-trans _ _ _ _ c.loop-at.invariant.reads c.read_block.ensures.reads

pub returns-in_err-extend_from_slice-clause-reads : goal.returns-in_err-extend_from_slice-clause-reads
returns-in_err-extend_from_slice-clause-reads g c = AddsOnly-trans _ _ _ _ c.loop-at.invariant.reads c.read_block.ensures.reads

pub loop-at-preserved : goal.loop-at-preserved
loop-at-preserved g c =
    let n = c.block_rows-rows.result in
    let size : length (take n c.loop-at.block) ≡ n = omega (arith, length-take n c.loop-at.block, c.loop-at.invariant.room, c.block_rows-rows.ensures.few) in
    let read : length c.read_block.new.block ≡ n = c.read_block.ensures.room ∙ size in
    let same : take n (c.read_block.new.block ++ drop n c.loop-at.block) ≡ c.read_block.new.block = taken_whole c.read_block.new.block (drop n c.loop-at.block) n read in
    let all = c.loop-at.all.items in
    let block = c.read_block.new.block in
    let grown : c.extend_from_slice.new.self.items ≡ all ++ block = c.in_ok-extend_from_slice.ensures.items ∙ ap (λ xs. all ++ xs) same in
    record {
      unfailed = (rw c.in_ok-read_block.was at c.read_block.ensures.cause).told (λ e. cc) ∙ c.loop-at.invariant.unfailed;
      kept = c.read_block.ensures.files ∙ c.loop-at.invariant.kept;
      reads = AddsOnly-trans _ _ _ _ c.loop-at.invariant.reads c.read_block.ensures.reads;
      room = omega (arith, length-append {A = ℤ}, length-drop {A = ℤ}, read, c.loop-at.invariant.room, c.block_rows-rows.ensures.few);
      within = omega (arith, c.block_rows-rows.ensures.within, c.loop-at-test.true);
      numbers = subst (λ (xs : List ℤ). AreRead (g.S.Store.files c.args.store.now) c.args.column.now (c.loop-at.at + n) xs) (sym grown)
          (more_read _ _ c.args.column.now c.loop-at.at n all block c.loop-at.invariant.kept c.loop-at.invariant.numbers read c.in_ok-read_block.ensures.fit
          (λ values has. c.in_ok-read_block.ensures.numbers values has ∙ ap (λ k. take k (drop c.loop-at.at values)) size));
    }

pub loop-at-init : goal.loop-at-init
loop-at-init g c =
    record {
      unfailed = refl;
      kept = refl;
      reads = AddsOnly-same _ _ _ refl;
      room = refl;
      within = omega arith;
      numbers = rw c.in_ok-all.ensures.items (none_read (g.S.Store.files c.args.store.now) c.args.column.now);
    }
