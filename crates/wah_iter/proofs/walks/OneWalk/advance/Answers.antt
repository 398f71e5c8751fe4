use Rattle.std.proofs.Common.{ap}
use Rattle.wah_iter.proofs.WalkLaws.{left_end, ended}
use Rattle.wah_iter.proofs.walks.OneWalk.advance.Goals as goal

pub returns-else-find_one-clause-comes : goal.returns-else-find_one-clause-comes
returns-else-find_one-clause-comes g c =
    let p = c.find_one.new.piece in
    let none = c.find_one.ensures.none c.if-find_one.false in
    let all = left_end p.word p.base p.next p.end c.find_one.new.cursor.values none.0 none.1 none.2 in
    (ended _ _ _ (ap (λ a. a.rows) c.self.view_is) c.find_one.ensures.rows all, all)
