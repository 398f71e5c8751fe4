use Rattle.index_file.proofs.OrderLemmas.{of_order, order_of}
use Rattle.index_file.proofs.laws.bins_in_order.Goals as goal

pub returns : goal.returns
returns c = λ edges. (λ h. order_of edges h, λ h. of_order edges h)
