use Rattle.interleave.proofs.Order.{error_at_most}
use Rattle.interleave.proofs.laws.error_at_most_after_the_close.Goals as goal

pub returns : goal.returns
returns c = error_at_most
