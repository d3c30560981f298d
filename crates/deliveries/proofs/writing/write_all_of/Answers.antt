use Rattle.std.proofs.Common.{rules}
use Rattle.deliveries.proofs.Written.{appends_more}
use Rattle.deliveries.proofs.writing.write_all_of.Goals as goal

pub loop-count-preserved : goal.loop-count-preserved
loop-count-preserved g c = (search rules, appends_more _ _ _ _ _ _ c.loop-count.invariant.1 c.in-Ok.ensures.bytes)
