use Rattle.std.proofs.Common.{◌≡◌, ◌∙◌, ℕ, List, ap, get_or}
use Rattle.std.proofs.lemmas.Result.{err_from_is_err_and}
use Rattle.part_meta.specs.PartText.{IsPart}
use Rattle.fb_outside.proofs.ReadLemmas.{AddsOnly-trans}
use Rattle.dataset.specs.Opened.{IsTextLook}
use Rattle.dataset.proofs.LookLemmas.{next_listed}
use Rattle.dataset.proofs.PartsLemmas.{next_number, next_read, next_unread, next_valid}
use Rattle.dataset.proofs.opening.read_parts.Goals as goal

pub returns-in_err-part-clause-reads : goal.returns-in_err-part-clause-reads
returns-in_err-part-clause-reads g c =
    AddsOnly-trans (IsTextLook c.args.dir.now) _ _ _ c.loop-number.invariant.reads c.read_part.ensures.reads

pub returns-in_err-part-clause-unread : goal.returns-in_err-part-clause-unread
returns-in_err-part-clause-unread g c =
    let p = err_from_is_err_and c.from_residual.result c.from_residual.ensures.1 in
    rw (p.1, p.2)
    (next_unread _ _ c.args.dir.now c.args.catalog.now c.loop-number.parts c.loop-number.number-index _ c.in_err-part.field-0.0
    c.loop-number.invariant.kept
    (rw c.as_slice-number-items.ensures at c.loop-number-test.true)
    (ap (λ (listed : List ℕ). get_or listed c.loop-number.number-index 0) c.as_slice-number-items.ensures)
    c.loop-number.invariant.numbers c.loop-number.invariant.read c.in_err-part.ensures.unread)

pub returns-in_err-push-clause-reads : goal.returns-in_err-push-clause-reads
returns-in_err-push-clause-reads g c =
    AddsOnly-trans (IsTextLook c.args.dir.now) _ _ _ c.loop-number.invariant.reads c.read_part.ensures.reads

pub loop-number-preserved : goal.loop-number-preserved
loop-number-preserved g c =
    record {
      unfailed = c.in_ok-part.ensures.cause.told (λ e. cc) ∙ c.loop-number.invariant.unfailed;
      kept = c.read_part.ensures.files ∙ c.loop-number.invariant.kept;
      reads = AddsOnly-trans (IsTextLook c.args.dir.now) _ _ _ c.loop-number.invariant.reads c.read_part.ensures.reads;
      listed = next_listed _ _ c.args.dir.now c.args.catalog.now c.loop-number.number-index _ _ _ _ c.loop-number.invariant.kept
          (rw c.as_slice-number-items.ensures at c.loop-number-test.true)
          (ap (λ (listed : List ℕ). get_or listed c.loop-number.number-index 0) c.as_slice-number-items.ensures)
          c.loop-number.invariant.listed c.read_part.ensures.whole;
      numbers = next_number c.loop-number.parts c.push.new.self c.in_ok-part.part c.args.catalog.now.parts c.loop-number.number-index _
          c.in_ok-push.ensures.ok c.loop-number.invariant.numbers
          (rw c.as_slice-number-items.ensures at c.loop-number-test.true) c.in_ok-part.ensures.number
          (ap (λ (listed : List ℕ). get_or listed c.loop-number.number-index 0) c.as_slice-number-items.ensures);
      valid = next_valid (λ part. IsPart part × (part.schema ≡ c.args.catalog.now.schema)) c.loop-number.parts c.push.new.self c.in_ok-part.part
          c.in_ok-push.ensures.ok c.loop-number.invariant.valid c.in_ok-part.ensures.valid;
      read = next_read _ _ c.args.dir.now c.args.catalog.now.schema c.loop-number.parts c.push.new.self c.in_ok-part.part
          c.loop-number.invariant.kept c.in_ok-push.ensures.ok c.loop-number.invariant.read c.in_ok-part.ensures.read c.in_ok-part.ensures.valid.1;
    }

pub returns-in_err-part-clause-listed : goal.returns-in_err-part-clause-listed
returns-in_err-part-clause-listed g c =
    next_listed _ _ c.args.dir.now c.args.catalog.now c.loop-number.number-index _ _ _ _ c.loop-number.invariant.kept
    (rw c.as_slice-number-items.ensures at c.loop-number-test.true)
    (ap (λ (listed : List ℕ). get_or listed c.loop-number.number-index 0) c.as_slice-number-items.ensures)
    c.loop-number.invariant.listed c.read_part.ensures.whole

pub returns-in_err-push-clause-listed : goal.returns-in_err-push-clause-listed
returns-in_err-push-clause-listed g c =
    next_listed _ _ c.args.dir.now c.args.catalog.now c.loop-number.number-index _ _ _ _ c.loop-number.invariant.kept
    (rw c.as_slice-number-items.ensures at c.loop-number-test.true)
    (ap (λ (listed : List ℕ). get_or listed c.loop-number.number-index 0) c.as_slice-number-items.ensures)
    c.loop-number.invariant.listed c.read_part.ensures.whole
