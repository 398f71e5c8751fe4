use Rattle.std.proofs.Common.{◌-◌, length, take, drop, get_or, ap, sym, ◌∙◌, subst, Some, None}
use Rattle.wah_words.specs.Spelling.{words_of}
use Rattle.wah_words.specs.Left.{Comes, run_of_word}
use Rattle.wah_words.specs.Bytes.{decoded}
use Rattle.wah_words.specs.declared.run.Run.TheVariants.{Tail}
use Rattle.wah_words.proofs.CursorLemmas.{left, words_left, comes_first, comes_tail, comes_none}
use Rattle.wah_words.proofs.cursor.Cursor.advance.Goals as goal

pub returns-in-len1-up-clause-comes : goal.returns-in-len1-up-clause-comes
returns-in-len1-up-clause-comes g c =
    let s = c.self.inside in
    let xs = s.regular.now in
    let comes = comes_first xs s.active s.count 0 c.self.invariant c.in-len1-up.len_at_least in
    rw c.run_of-run.ensures (subst (λ o. Comes o (Some (run_of_word (decoded (get_or xs 0 0)))) (left (take (length xs - 1) (drop 1 xs)) s.active s.count)) c.self.view_is comes)

pub returns-else-self-eq0-clause-comes : goal.returns-else-self-eq0-clause-comes
returns-else-self-eq0-clause-comes g c =
    let s = c.self.inside in
    subst (λ o. Comes o (Some (Tail s.active s.count)) (left s.regular.now 0 0)) c.self.view_is (comes_tail s.regular.now s.active s.count c.self.invariant c.in-empty.len_below c.if-self-eq0.false)

pub returns-then-self-eq0-clause-comes : goal.returns-then-self-eq0-clause-comes
returns-then-self-eq0-clause-comes g c =
    let s = c.self.inside in
    subst (λ o. Comes o None o) c.self.view_is (comes_none s.regular.now s.active s.count c.in-empty.len_below c.if-self-eq0.true)

pub returns-in-len1-up-clause-words : goal.returns-in-len1-up-clause-words
returns-in-len1-up-clause-words g c = ap (λ o. o.words) (sym c.self.view_is) ∙ words_left c.self.inside.regular.now c.self.inside.active c.self.inside.count c.self.invariant ∙ ap (λ o. words_of o.values) c.self.view_is

pub returns-else-self-eq0-clause-words : goal.returns-else-self-eq0-clause-words
returns-else-self-eq0-clause-words g c = ap (λ o. o.words) (sym c.self.view_is) ∙ words_left c.self.inside.regular.now c.self.inside.active c.self.inside.count c.self.invariant ∙ ap (λ o. words_of o.values) c.self.view_is

pub returns-then-self-eq0-clause-words : goal.returns-then-self-eq0-clause-words
returns-then-self-eq0-clause-words g c = ap (λ o. o.words) (sym c.self.view_is) ∙ words_left c.self.inside.regular.now c.self.inside.active c.self.inside.count c.self.invariant ∙ ap (λ o. words_of o.values) c.self.view_is
