use Rattle.std.proofs.Common.{◌≡◌, ◌<◌, ◌≤◌, ℕ, List, All, length, refl, ap, sym, subst, ◌∙◌}
use Rattle.std.proofs.lemmas.Result.{err_from_is_err_and}
use Rattle.wah_logic.specs.Logic.{groups_and_rest, union}
use Rattle.binning.specs.declared.against_bins.Three.TheVariants.{Unknown, Yes}
use Rattle.binning.specs.declared.span_lists.Span.{Span}
use Rattle.three_valued.specs.Rows.{answers_of}
use Rattle.index_file.specs.declared.edge.Edge.{Edge}
use Rattle.bin_answers.specs.BinRuns.{runs_of}
use Rattle.bin_answers.specs.Bins.{edges_say, rows_of_runs}
use Rattle.bin_answers.specs.Fetched.{AreFaultless, needed_by, needed_on, runs_on}
use Rattle.bin_answers.specs.declared.bin_runs.BinRun.{BinRun}
use Rattle.bin_answers.proofs.FetchLemmas.{bins_outside, fetches_less, fetches_yet, stop_memory}
use Rattle.bin_answers.proofs.IndexLemmas.{found_steps, head_below, head_within, settled_steps, stop_runs}
use Rattle.bin_answers.proofs.RowLemmas.{answers_long, bins_answer}
use Rattle.bin_answers.proofs.open_index.OpenIndex.settle.Goals as goal

-- the runs that are found are those of the bins
abbrev found_runs : (edges seen : List Edge) (spans : List Span) (runs items : List BinRun) → runs ≡ items → items ≡ runs_of (edges_say seen spans) → seen ≡ edges → runs ≡ runs_of (edges_say edges spans)
found_runs edges seen spans runs items e h k = e ∙ h ∙ ap (λ (l : List Edge). runs_of (edges_say l spans)) k

pub returns-clause-exact : goal.returns-clause-exact
returns-clause-exact g c =
    let same = found_runs c.args.self.now.head.bins _ c.args.spans.now _ _ c.deref.ensures.value c.in_ok-runs.ensures.runs c.as_slice.ensures in
    subst (λ (rs : List BinRun). AreFaultless (g.S.Store.files c.args.store.now) c.args.self.now.head (needed_by c.args.self.now.head rs)) same c.in_ok-found.ensures.exact

pub returns-clause-reads : goal.returns-clause-reads
returns-clause-reads g c =
    let head = c.args.self.now.head in
    let same = found_runs head.bins _ c.args.spans.now _ _ c.deref.ensures.value c.in_ok-runs.ensures.runs c.as_slice.ensures in
    fetches_less _ _ _ _ _ head _ (needed_on head c.args.spans.now) (ap (needed_by head) (sym same)) (λ e. refl) c.in_ok-found.ensures.reads

pub returns-clause-length : goal.returns-clause-length
returns-clause-length g c =
    let rows = c.len.ensures.length in
    let is : c.in_ok-answers.answers ≡ answers_of (union (length c.args.self.now.mask) c.in_ok-found.found.definite.items) (union (length c.args.self.now.mask) c.in_ok-found.found.unknown.items) =
    c.in_ok-answers.ensures.answers ∙ ap (λ (n : ℕ). answers_of (union n c.in_ok-found.found.definite.items) (union n c.in_ok-found.found.unknown.items)) rows in
    answers_long (length c.args.self.now.mask) c.in_ok-answers.answers c.in_ok-found.found.definite.items c.in_ok-found.found.unknown.items is c.in_ok-found.ensures.definite_long
    c.in_ok-found.ensures.unknown_long

pub returns-clause-answers : goal.returns-clause-answers
returns-clause-answers g c = λ bins h.
    (let head = c.args.self.now.head in
    let rows = length c.args.self.now.mask in
    let same = found_runs head.bins _ c.args.spans.now _ _ c.deref.ensures.value c.in_ok-runs.ensures.runs c.as_slice.ensures in
    let found = c.in_ok-found.found in
    c.in_ok-answers.ensures.answers
    ∙ ap (λ (n : ℕ). answers_of (union n found.definite.items) (union n found.unknown.items)) c.len.ensures.length
    ∙ bins_answer rows c.args.spans.now head.bins bins found.definite.items found.unknown.items h.ends h.apart
    (c.in_ok-found.ensures.definite bins h ∙ ap (rows_of_runs rows bins Yes) same)
    (c.in_ok-found.ensures.unknown bins h ∙ ap (rows_of_runs rows bins Unknown) same))

pub rows_of_all-requires : goal.rows_of_all-requires
rows_of_all-requires g c =
    let head = c.args.self.now.head in
    let same = found_runs head.bins _ c.args.spans.now _ _ c.deref.ensures.value c.in_ok-runs.ensures.runs c.as_slice.ensures in
    subst (λ (rs : List BinRun). All (λ r. (r.first < r.past) × (r.past ≤ length head.bins)) rs) (sym same) (head_within head c.args.spans.now)

pub returns-clause-steps : goal.returns-clause-steps
returns-clause-steps g c =
    let head = c.args.self.now.head in
    let spans = c.args.spans.now in
    let same = found_runs head.bins _ spans _ _ c.deref.ensures.value c.in_ok-runs.ensures.runs c.as_slice.ensures in
    settled_steps head _ (runs_on head spans) (length c.args.self.now.mask) c.len.result _ _ _ _ _ same c.len.ensures.length c.in_ok-found.ensures.count c.in_ok-found.ensures.steps
    c.in_ok-answers.ensures.steps

pub returns-in_err-answers-clause-steps : goal.returns-in_err-answers-clause-steps
returns-in_err-answers-clause-steps g c =
    let head = c.args.self.now.head in
    let spans = c.args.spans.now in
    let same = found_runs head.bins _ spans _ _ c.deref.ensures.value c.in_ok-runs.ensures.runs c.as_slice.ensures in
    settled_steps head _ (runs_on head spans) (length c.args.self.now.mask) c.len.result _ _ _ _ _ same c.len.ensures.length c.in_ok-found.ensures.count c.in_ok-found.ensures.steps
    c.in_err-answers.ensures.steps

pub returns-in_err-found-clause-steps : goal.returns-in_err-found-clause-steps
returns-in_err-found-clause-steps g c =
    let head = c.args.self.now.head in
    let spans = c.args.spans.now in
    let same = found_runs head.bins _ spans _ _ c.deref.ensures.value c.in_ok-runs.ensures.runs c.as_slice.ensures in
    found_steps head _ (runs_on head spans) (groups_and_rest (length c.args.self.now.mask)) _ _ same c.in_err-found.ensures.steps

pub returns-in_err-runs-clause-exact : goal.returns-in_err-runs-clause-exact
returns-in_err-runs-clause-exact g c =
    let p = err_from_is_err_and c.from_residual.result c.from_residual.ensures.1 in
    rw p.1 (stop_memory _ c.args.self.now.head (needed_on c.args.self.now.head c.args.spans.now) p.0 p.2)

pub returns-in_err-runs-clause-reads : goal.returns-in_err-runs-clause-reads
returns-in_err-runs-clause-reads g c =
    let p = err_from_is_err_and c.from_residual.result c.from_residual.ensures.1 in
    rw p.1 (fetches_yet _ _ _ c.args.self.now.head (needed_on c.args.self.now.head c.args.spans.now) refl (λ e. absurd cc))

pub returns-in_err-found-clause-exact : goal.returns-in_err-found-clause-exact
returns-in_err-found-clause-exact g c =
    let p = err_from_is_err_and c.from_residual-in_err-found.result c.from_residual-in_err-found.ensures.1 in
    let head = c.args.self.now.head in
    let spans = c.args.spans.now in
    let same = found_runs head.bins _ spans _ _ c.deref.ensures.value c.in_ok-runs.ensures.runs c.as_slice.ensures in
    rw (p.1, p.2) (stop_runs _ head _ (runs_on head spans) _ same c.in_err-found.ensures.exact)

pub returns-in_err-found-clause-reads : goal.returns-in_err-found-clause-reads
returns-in_err-found-clause-reads g c =
    let p = err_from_is_err_and c.from_residual-in_err-found.result c.from_residual-in_err-found.ensures.1 in
    let head = c.args.self.now.head in
    let spans = c.args.spans.now in
    let same = found_runs head.bins _ spans _ _ c.deref.ensures.value c.in_ok-runs.ensures.runs c.as_slice.ensures in
    rw p.1 (fetches_less _ _ _ _ _ head _ (needed_on head spans) (ap (needed_by head) (sym same)) (λ e. absurd cc) c.in_err-found.ensures.reads)

pub returns-in_err-found-clause-whole : goal.returns-in_err-found-clause-whole
returns-in_err-found-clause-whole g c =
    let p = err_from_is_err_and c.from_residual-in_err-found.result c.from_residual-in_err-found.ensures.1 in
    let head = c.args.self.now.head in
    let spans = c.args.spans.now in
    let same = found_runs head.bins _ spans _ _ c.deref.ensures.value c.in_ok-runs.ensures.runs c.as_slice.ensures in
    rw (p.1, p.2)
    (λ bins h. bins_outside _ head c.args.self.now.mask bins (needed_on head spans) _ h (head_below head spans head.given head.counted) (stop_runs _ head _ (runs_on head spans) _ same c.in_err-found.ensures.exact))

pub returns-in_err-answers-clause-exact : goal.returns-in_err-answers-clause-exact
returns-in_err-answers-clause-exact g c =
    let p = err_from_is_err_and c.from_residual-in_err-answers.result c.from_residual-in_err-answers.ensures.1 in
    rw p.1 (stop_memory _ c.args.self.now.head (needed_on c.args.self.now.head c.args.spans.now) p.0 p.2)

pub returns-in_err-answers-clause-reads : goal.returns-in_err-answers-clause-reads
returns-in_err-answers-clause-reads g c =
    let p = err_from_is_err_and c.from_residual-in_err-answers.result c.from_residual-in_err-answers.ensures.1 in
    let head = c.args.self.now.head in
    let spans = c.args.spans.now in
    let same = found_runs head.bins _ spans _ _ c.deref.ensures.value c.in_ok-runs.ensures.runs c.as_slice.ensures in
    rw p.1 (fetches_less _ _ _ _ _ head _ (needed_on head spans) (ap (needed_by head) (sym same)) (λ e. absurd cc) c.in_ok-found.ensures.reads)
