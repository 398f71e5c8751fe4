use Rattle.std.proofs.Common.{◌+◌, ◌<◌, ℕ, All, List, [], ◌∷◌, append-nil, length, refl, ap, sym, subst, ◌∙◌}
use Rattle.std.proofs.lemmas.Result.{err_from_is_err_and}
use Rattle.wah_logic.specs.Logic.{groups_and_rest}
use Rattle.index_spec.specs.Members.{needed}
use Rattle.binning.specs.Encodings.{levels, vectors}
use Rattle.enc_two_level.specs.Named.{named}
use Rattle.bin_answers.specs.Fetched.{needed_by}
use Rattle.bin_answers.proofs.FetchLemmas.{fetches_yet}
use Rattle.bin_answers.proofs.IndexLemmas.{fetched_of, has_groups, levels_few, needed_below, numbers_are, run_steps}
use Rattle.bin_answers.proofs.open_index.OpenIndex.rows_of.Goals as goal

pub needs-requires-clause-groups : goal.needs-requires-clause-groups
needs-requires-clause-groups g c = has_groups (named c.of-encoding.result) c.args.self.now.head.spec c.of-encoding.ensures c.args.self.now.head.given

pub eval-requires-clause-groups : goal.eval-requires-clause-groups
eval-requires-clause-groups g c = has_groups (named c.of-encoding.result) c.args.self.now.head.spec c.of-encoding.ensures c.args.self.now.head.given

pub returns-in_err-numbers-clause-reads : goal.returns-in_err-numbers-clause-reads
returns-in_err-numbers-clause-reads g c =
    let p = err_from_is_err_and c.from_residual.result c.from_residual.ensures.1 in
    rw p.1 (fetches_yet _ _ _ c.args.self.now.head (needed_by c.args.self.now.head (c.args.run ∷ [])) refl (λ e. absurd cc))

pub fetch_all-requires : goal.fetch_all-requires
fetch_all-requires g c =
    let head = c.args.self.now.head in
    let these =
    numbers_are (named c.of-encoding.result) head.spec c.as_slice.result.now head.bins c.args.run.first c.args.run.past c.deref.result.now c.in_ok-numbers.numbers.items c.deref.ensures.value
    c.in_ok-numbers.ensures c.of-encoding.ensures c.as_slice.ensures in
    subst (λ (ns : List ℕ). All (λ k. k + 1 < length head.offsets) ns) (sym these)
    (needed_below head.spec (length head.bins) (length head.offsets) c.args.run.first c.args.run.past head.given head.counted c.requires.order c.requires.within)

pub returns-in_err-rows-clause-steps : goal.returns-in_err-rows-clause-steps
returns-in_err-rows-clause-steps g c =
    let head = c.args.self.now.head in
    let these =
    numbers_are (named c.of-encoding.result) head.spec c.as_slice.result.now head.bins c.args.run.first c.args.run.past c.deref.result.now c.in_ok-numbers.numbers.items c.deref.ensures.value
    c.in_ok-numbers.ensures c.of-encoding.ensures c.as_slice.ensures in
    let count = ap length c.deref-2.ensures.value ∙ c.in_ok-fetched.ensures.count ∙ ap length (these ∙ sym (append-nil (needed head.spec.encoding (length head.bins) c.args.run.first c.args.run.past))) in
    run_steps (groups_and_rest (length c.args.self.now.mask)) (levels (named c.of-encoding.result)) (length c.deref-2.result.now) _ _ _ (levels_few (named c.of-encoding.result)) count c.eval.ensures.steps

pub returns-clause-steps : goal.returns-clause-steps
returns-clause-steps g c =
    let head = c.args.self.now.head in
    let these =
    numbers_are (named c.of-encoding.result) head.spec c.as_slice.result.now head.bins c.args.run.first c.args.run.past c.deref.result.now c.in_ok-numbers.numbers.items c.deref.ensures.value
    c.in_ok-numbers.ensures c.of-encoding.ensures c.as_slice.ensures in
    let count = ap length c.deref-2.ensures.value ∙ c.in_ok-fetched.ensures.count ∙ ap length (these ∙ sym (append-nil (needed head.spec.encoding (length head.bins) c.args.run.first c.args.run.past))) in
    run_steps (groups_and_rest (length c.args.self.now.mask)) (levels (named c.of-encoding.result)) (length c.deref-2.result.now) _ _ _ (levels_few (named c.of-encoding.result)) count c.eval.ensures.steps

pub returns-clause-rows : goal.returns-clause-rows
returns-clause-rows g c = λ bins h.
    c.in_ok-rows.ensures.union (vectors bins)
    (fetched_of _ c.args.self.now.head c.args.self.now.mask bins (named c.of-encoding.result) (length c.as_slice.result.now) c.args.run.first c.args.run.past c.deref-2.result.now c.deref.result.now h
    c.of-encoding.ensures (ap length c.as_slice.ensures) (c.deref-2.ensures.value ∙ c.in_ok-fetched.ensures.bitmaps bins h) (c.deref.ensures.value ∙ c.in_ok-numbers.ensures))
