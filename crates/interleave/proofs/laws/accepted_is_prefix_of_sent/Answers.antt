use Rattle.interleave.proofs.Order.{accepted_is_prefix_of_sent}
use Rattle.interleave.proofs.laws.accepted_is_prefix_of_sent.Goals as goal

pub returns : goal.returns
returns c = accepted_is_prefix_of_sent
