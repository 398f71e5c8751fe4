use Rattle.select_group.specs.Order.{comes_before}
use Rattle.select_group.proofs.Orders.{rows_ranked}
use Rattle.select_group.proofs.Stable.{sorted_filter, sorted_in_order}
use Rattle.select_group.proofs.laws.the_order_of_rows.Goals as goal

pub returns : goal.returns
returns c = record {
  in_order = λ order rows. sorted_in_order (comes_before order) (rows_ranked order) rows;
  stable = λ order rows x. sorted_filter (comes_before order) (rows_ranked order) x rows;
}
