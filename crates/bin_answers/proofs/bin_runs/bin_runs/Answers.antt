use Rattle.std.proofs.Common.{◌≡◌, ◌<◌, ◌≤◌, ℕ, pos, All, List, length, ap, sym, subst, ◌∙◌, arith}
use Rattle.std.proofs.lemmas.List.{length-map, take_all}
use Rattle.binning.specs.Against.{against}
use Rattle.index_file.specs.declared.edge.Edge.{Edge}
use Rattle.bin_answers.specs.BinRuns.{runs_from, runs_of}
use Rattle.bin_answers.specs.Bins.{edges_say}
use Rattle.bin_answers.specs.declared.bin_runs.BinRun.{BinRun}
use Rattle.bin_answers.proofs.EdgeLemmas.{edge_ordered, runs_with}
use Rattle.bin_answers.proofs.RunLemmas.{runs_within}
use Rattle.bin_answers.proofs.bin_runs.bin_runs.Goals as goal

pub loop-place-init : goal.loop-place-init
unfolding runs_from
loop-place-init c = c.new-runs.ensures.items

pub answer_of-answer-requires : goal.answer_of-answer-requires
answer_of-answer-requires c =
    let none : Edge = record { least = pos 0; greatest = pos 0 } in
    edge_ordered c.args.bins.now c.requires.ordered c.loop-place.place none (omega (arith, c.loop-place-test.true))

pub loop-place-preserved : goal.loop-place-preserved
loop-place-preserved c =
    let none : Edge = record { least = pos 0; greatest = pos 0 } in
    runs_with c.args.bins.now c.args.spans.now c.loop-place.place none c.loop-place.runs.items _ c.answer_of-answer.result (omega (arith, c.loop-place-test.true)) c.loop-place.invariant
    c.in_ok-extend.ensures c.answer_of-answer.ensures

pub returns-clause-within : goal.returns-clause-within
returns-clause-within c =
    let edges = c.args.bins.now in
    let spans = c.args.spans.now in
    let size : length (edges_say edges spans) ≡ length edges = length-map edges (λ (edge : Edge). against edge.least edge.greatest spans) in
    let are = c.loop-place.invariant ∙ ap (λ (es : List Edge). runs_of (edges_say es spans)) (take_all c.loop-place.place edges (omega (arith, c.loop-place-test.false))) in
    subst (λ (rs : List BinRun). All (λ r. (r.first < r.past) × (r.past ≤ length edges)) rs) (sym are)
    (subst (λ (n : ℕ). All (λ r. (r.first < r.past) × (r.past ≤ n)) (runs_of (edges_say edges spans))) size (runs_within (edges_say edges spans)))
