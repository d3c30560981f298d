use Rattle.interleave.proofs.Order.{taken_in_order}
use Rattle.interleave.proofs.laws.taken_in_order.Goals as goal

pub returns : goal.returns
returns c = taken_in_order
