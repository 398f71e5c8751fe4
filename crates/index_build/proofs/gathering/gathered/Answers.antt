use Rattle.std.proofs.Common.{◌≡◌, ◌+◌, ◌-◌, ℤ, ◌++◌, List, Option, length, take, drop, refl, [], ap, sym, subst, ◌∙◌, arith}
use Rattle.std.specs.List.{AllByRecursion}
use Rattle.std.proofs.lemmas.List.{length-append, length-drop, length-take}
use Rattle.fb_outside.proofs.ReadLemmas.{AddsOnly-same, AddsOnly-trans}
use Rattle.binning.specs.Bins.{cells}
use Rattle.binning.specs.Gathered.{Gathered}
use Rattle.binning.specs.Spans.{IsInRange}
use Rattle.index_build.proofs.ReadingLemmas.{all_in_range, cells_more, more_read, none_read, taken_whole}
use Rattle.index_build.proofs.gathering.gathered.Goals as goal

pub returns-in_err-read_block-clause-reads : goal.returns-in_err-read_block-clause-reads
returns-in_err-read_block-clause-reads g c = AddsOnly-trans _ _ _ _ c.loop-at.invariant.reads c.read_block.ensures.reads

pub returns-in_err-present-clause-reads : goal.returns-in_err-present-clause-reads
returns-in_err-present-clause-reads g c = AddsOnly-trans _ _ _ _ c.loop-at.invariant.reads c.read_block.ensures.reads

pub returns-in_err-gatherer-clause-reads : goal.returns-in_err-gatherer-clause-reads
returns-in_err-gatherer-clause-reads g c = AddsOnly-trans _ _ _ _ c.loop-at.invariant.reads c.read_block.ensures.reads

pub add-requires-clause-within : goal.add-requires-clause-within
add-requires-clause-within g c =
    let n = c.block_rows-rows.result in
    let size : length (take n c.loop-at.block) ≡ n = omega (arith, length-take n c.loop-at.block, c.loop-at.invariant.room, c.block_rows-rows.ensures.few) in
    let same = taken_whole c.read_block.new.block (drop n c.loop-at.block) n (c.read_block.ensures.room ∙ size) in
    subst (λ (vs : List ℤ). AllByRecursion IsInRange vs) (sym same)
    (all_in_range c.args.column.now.ty c.read_block.new.block c.requires.width c.in_ok-read_block.ensures.fit)

pub loop-at-preserved : goal.loop-at-preserved
loop-at-preserved g c =
    let n = c.block_rows-rows.result in
    let size : length (take n c.loop-at.block) ≡ n = omega (arith, length-take n c.loop-at.block, c.loop-at.invariant.room, c.block_rows-rows.ensures.few) in
    let read : length c.read_block.new.block ≡ n = c.read_block.ensures.room ∙ size in
    let same : take n (c.read_block.new.block ++ drop n c.loop-at.block) ≡ c.read_block.new.block = taken_whole c.read_block.new.block (drop n c.loop-at.block) n read in
    record {
      unfailed = (rw c.in_ok-read_block.was at c.read_block.ensures.cause).told (λ e. cc) ∙ c.loop-at.invariant.unfailed;
      kept = c.read_block.ensures.files ∙ c.loop-at.invariant.kept;
      reads = AddsOnly-trans _ _ _ _ c.loop-at.invariant.reads c.read_block.ensures.reads;
      room = omega (arith, length-append {A = ℤ}, length-drop {A = ℤ}, read, c.loop-at.invariant.room, c.block_rows-rows.ensures.few);
      within = omega (arith, c.block_rows-rows.ensures.within, c.loop-at-test.true);
      rule = c.in_ok-gatherer.ensures.rule ∙ c.loop-at.invariant.rule;
      rows = c.in_ok-gatherer.ensures.rows ∙ omega (arith, c.loop-at.invariant.rows, ap length same, read);
      numbers = c.loop-at.invariant.numbers ++ c.read_block.new.block;
      read = more_read _ _ c.args.column.now c.loop-at.at n c.loop-at.invariant.numbers c.read_block.new.block c.loop-at.invariant.kept c.loop-at.invariant.read read
          c.in_ok-read_block.ensures.fit (λ values has. c.in_ok-read_block.ensures.numbers values has ∙ ap (λ k. take k (drop c.loop-at.at values)) size);
      gathers =
          let at = c.loop-at.at in
          let mask = c.args.column.now.mask in
          let numbers = c.loop-at.invariant.numbers in
          let front : length (take at mask) ≡ length numbers =
          omega (arith, length-take at mask, c.requires.mask, c.loop-at.invariant.read.number, c.loop-at.invariant.within) in
          let count : at + n - at ≡ n = omega arith in
          let part : c.in_ok-present.present ≡ take n (drop at mask) = c.in_ok-present.ensures.part ∙ ap (λ k. take k (drop at mask)) count in
          let block = take n (c.read_block.new.block ++ drop n c.loop-at.block) in
          let joined : cells (take at mask) numbers ++ cells c.in_ok-present.present block ≡ cells (take (at + n) mask) (numbers ++ c.read_block.new.block) =
          ap (λ column. cells (take at mask) numbers ++ column)
          (ap (λ m. cells m block) part ∙ ap (cells (take n (drop at mask))) same) ∙ cells_more mask numbers c.read_block.new.block at n front in
          subst (λ (column : List (Option ℤ)). Gathered c.in_ok-gatherer.gatherer column) joined
          (c.in_ok-gatherer.ensures.gathered (cells (take at mask) numbers) c.loop-at.invariant.gathers);
    }

pub loop-at-init : goal.loop-at-init
loop-at-init g c =
    record {
      unfailed = refl;
      kept = refl;
      reads = AddsOnly-same _ _ _ refl;
      room = refl;
      within = omega arith;
      rule = c.make-gatherer.ensures.rule;
      rows = c.make-gatherer.ensures.rows;
      numbers = [];
      read = none_read (g.S.Store.files c.args.store.now) c.args.column.now;
      gathers = c.make-gatherer.ensures.gathered;
    }
