use Rattle.interleave.proofs.Order.{once_in_order}
use Rattle.interleave.proofs.laws.once_in_order.Goals as goal

pub returns : goal.returns
returns c = once_in_order
