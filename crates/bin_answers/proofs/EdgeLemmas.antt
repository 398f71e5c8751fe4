-- The bins of an index one by one, and the runs of one bin more.
use Rattle.std.proofs.Common.{◌≡◌, ℕ, zero, suc, ◌+◌, ◌<◌, ℤ, ◌≤ℤ◌, List, [], ◌∷◌, None, length, map, take, get_or, sym, ap, ◌∙◌, arith}
use Rattle.std.proofs.lemmas.List.{length-map, length-take, map-append}
use Rattle.index_file.specs.Order.{AreAbove, AreInOrder, first_out_of_order}
use Rattle.index_file.specs.declared.edge.Edge.{Edge}
use Rattle.index_file.proofs.OrderLemmas.{order_of}
use Rattle.binning.specs.Against.{against}
use Rattle.binning.specs.declared.against_bins.Three.{Three}
use Rattle.binning.specs.declared.span_lists.Span.{Span}
use Rattle.bin_answers.specs.BinRuns.{runs_of, with_bin}
use Rattle.bin_answers.specs.Bins.{edges_say}
use Rattle.bin_answers.specs.declared.bin_runs.BinRun.{BinRun}
use Rattle.bin_answers.proofs.FetchLemmas.{taken_more}
use Rattle.bin_answers.proofs.RunLemmas.{runs_of-more}

above_ordered : (before : ℤ) (edges : List Edge) → AreAbove before edges → (k : ℕ) (d : Edge) → k < length edges → (get_or edges k d).least ≤ℤ (get_or edges k d).greatest
above_ordered before [] h k d l = absurd (omega arith)
above_ordered before (e ∷ es) h zero d l = h.1
above_ordered before (e ∷ es) h (suc k) d l = above_ordered e.greatest es h.2 k d (omega arith)

in_order : (edges : List Edge) → AreInOrder edges → (k : ℕ) (d : Edge) → k < length edges → (get_or edges k d).least ≤ℤ (get_or edges k d).greatest
in_order [] h k d l = absurd (omega arith)
in_order (e ∷ es) h zero d l = h.0
in_order (e ∷ es) h (suc k) d l = above_ordered e.greatest es h.1 k d (omega arith)

-- the least value of each bin is at most its greatest
pub edge_ordered : (edges : List Edge) → first_out_of_order edges ≡ None → (k : ℕ) (d : Edge) → k < length edges → (get_or edges k d).least ≤ℤ (get_or edges k d).greatest
edge_ordered edges h = in_order edges (order_of edges h)

-- the runs of one bin more
pub runs_with : (edges : List Edge) (spans : List Span) (i : ℕ) (d : Edge) (runs now : List BinRun) (answer : Three) → i < length edges
    → runs ≡ runs_of (edges_say (take i edges) spans) → now ≡ with_bin runs i answer → answer ≡ against (get_or edges i d).least (get_or edges i d).greatest spans
    → now ≡ runs_of (edges_say (take (i + 1) edges) spans)
runs_with edges spans i d runs now answer l h e is =
    let says = λ (x : Edge). against x.least x.greatest spans in
    let edge = get_or edges i d in
    let before = edges_say (take i edges) spans in
    let count : length before ≡ i = length-map (take i edges) says ∙ omega (arith, length-take i edges, l) in
    e ∙ ap (λ rs. with_bin rs i answer) h ∙ ap (λ a. with_bin (runs_of before) i a) is ∙ ap (λ n. with_bin (runs_of before) n (says edge)) (sym count)
    ∙ sym (runs_of-more before (says edge)) ∙ ap runs_of (sym (ap (map says) (taken_more edges i d l) ∙ map-append says (take i edges) (edge ∷ [])))
