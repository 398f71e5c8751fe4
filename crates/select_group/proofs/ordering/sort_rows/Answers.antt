use Rattle.std.proofs.Common.{rules}
use Rattle.select_group.proofs.Orders.{sorted_by_closure}
use Rattle.std.proofs.lemmas.Result.{on_ok_weaker}
use Rattle.select_group.proofs.ordering.sort_rows.Goals as goal

pub returns : goal.returns
returns c = on_ok_weaker _ (λ up. sorted_by_closure c.args.order.now c.args.rows.now.items c.sort_by.new.self.items (λ a r f' k. search rules) up c.sort_by.ensures.stable) c.sort_by.ensures.sorted
