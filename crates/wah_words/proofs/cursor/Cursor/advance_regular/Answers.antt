use Rattle.std.proofs.Common.{get_or, subst, Some}
use Rattle.wah_words.specs.Left.{Comes, run_of_word}
use Rattle.wah_words.specs.Bytes.{decoded}
use Rattle.wah_words.proofs.CursorLemmas.{left, some_word, comes_split}
use Rattle.wah_words.proofs.cursor.Cursor.advance_regular.Goals as goal

pub split_at-requires : goal.split_at-requires
split_at-requires g c =
    let s = c.self.inside in
    some_word s.regular.now s.active s.count c.self.invariant (rw (← c.self.view_is) at c.requires)

pub returns-clause-comes : goal.returns-clause-comes
returns-clause-comes g c =
    let s = c.self.inside in
    let xs = s.regular.now in
    let some = some_word xs s.active s.count c.self.invariant (rw (← c.self.view_is) at c.requires) in
    let comes = comes_split xs c.split_at.result.0.now c.split_at.result.1.now s.active s.count 0 c.self.invariant some c.split_at.ensures.front c.split_at.ensures.back in
    rw c.run_of.ensures (subst (λ o. Comes o (Some (run_of_word (decoded (get_or c.split_at.result.0.now 0 0)))) (left c.split_at.result.1.now s.active s.count)) c.self.view_is comes)
