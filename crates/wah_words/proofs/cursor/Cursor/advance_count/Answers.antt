use Rattle.std.proofs.Common.{◌-◌, length, take, drop, get_or, ap, sym, ◌∙◌, subst, Some, None}
use Rattle.wah_words.specs.Left.{Counts, run_of_word}
use Rattle.wah_words.specs.Bytes.{decoded}
use Rattle.wah_words.specs.declared.run.Run.TheVariants.{Tail}
use Rattle.wah_words.proofs.CursorLemmas.{left, comes_first, comes_tail, comes_none}
use Rattle.wah_words.proofs.OnesLemmas.{ones-places, counts_run}
use Rattle.wah_words.proofs.cursor.Cursor.advance_count.Goals as goal

pub returns-in-len1-up-clause-counts : goal.returns-in-len1-up-clause-counts
returns-in-len1-up-clause-counts g c =
    let s = c.self.inside in
    let xs = s.regular.now in
    let new = left (take (length xs - 1) (drop 1 xs)) s.active s.count in
    let comes = comes_first xs s.active s.count 0 c.self.invariant c.in-len1-up.len_at_least in
    subst (λ o. Counts o (Some c.ones_in-count.result) new) c.self.view_is (counts_run (left xs s.active s.count) (run_of_word (decoded (get_or xs 0 0))) new c.ones_in-count.result comes c.ones_in-count.ensures)

pub returns-else-self-eq0-clause-counts : goal.returns-else-self-eq0-clause-counts
returns-else-self-eq0-clause-counts g c =
    let s = c.self.inside in
    let xs = s.regular.now in
    let new = left xs 0 0 in
    let comes = comes_tail xs s.active s.count c.self.invariant c.in-empty.len_below c.if-self-eq0.false in
    subst (λ o. Counts o (Some c.from-count.result) new) c.self.view_is (counts_run (left xs s.active s.count) (Tail s.active s.count) new c.from-count.result comes (c.from-count.ensures ∙ sym (ones-places s.count s.active c.self.invariant.active_fits)))

pub returns-then-self-eq0-clause-counts : goal.returns-then-self-eq0-clause-counts
returns-then-self-eq0-clause-counts g c =
    let s = c.self.inside in
    subst (λ o. Counts o None o) c.self.view_is (comes_none s.regular.now s.active s.count c.in-empty.len_below c.if-self-eq0.true)
