use Rattle.std.proofs.Common.{◌∙◌, sym, ap, arith}
use Rattle.wah_iter.proofs.RunLaws.{runs_left_end, runs_ended, run_last, before_later}
use Rattle.wah_iter.specs.Walks.{runs_left}
use Rattle.wah_iter.proofs.walks.RowRuns.advance.Goals as goal

pub returns-then-not-find_one-clause-comes : goal.returns-then-not-find_one-clause-comes
returns-then-not-find_one-clause-comes g c =
    let p = c.find_one.new.piece in
    let none = c.find_one.ensures.none c.if-not-find_one.true in
    let all = runs_left_end p.word p.base p.next p.end c.find_one.new.cursor.values none.0 none.1 none.2 in
    (runs_ended _ _ _ (ap (λ a. a.runs) c.self.view_is) c.find_one.ensures.runs all, all)

pub returns-else-find_one-clause-comes : goal.returns-else-find_one-clause-comes
returns-else-find_one-clause-comes g c =
    let p = c.find_one-in-loop-self.new.piece in
    let none = c.find_one-in-loop-self.ensures.none c.if-find_one.false in
    let all = runs_left_end p.word p.base p.next p.end c.find_one-in-loop-self.new.cursor.values none.0 none.1 none.2 in
    run_last c.take_run-first.result.0 c.loop-self.past _ _ _ c.loop-self.invariant.runs c.find_one-in-loop-self.ensures.runs all

pub returns-after-loop-self-clause-comes : goal.returns-after-loop-self-clause-comes
returns-after-loop-self-clause-comes g c =
    let p = c.loop-self.self-inside.piece in
    let i = c.loop-self.invariant in
    sym i.runs ∙ before_later c.take_run-first.result.0 c.loop-self.past (runs_left p.word p.base p.next p.end c.loop-self.self-inside.cursor.values) (i.apart (omega (arith, c.loop-self-test.false)))
