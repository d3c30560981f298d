use Rattle.std.proofs.Common.{sym, ap, ◌∙◌}
use Rattle.roster.specs.LookBack.{state_after, state}
use Rattle.transactions.proofs.Replay.{replay, state_step}
use Rattle.transactions.proofs.transaction.Transaction.state_of.Goals as goal

pub loop-deed-preserved : goal.loop-deed-preserved
loop-deed-preserved c =
    let n = c.args.channel.now in
    c.in_ok-reshape.ensures ∙ ap (state_after c.deed-item.result n) c.loop-deed.invariant
    ∙ sym (replay (λ fs. state fs n) (λ k e. state_after e n k)
    (state_step n) c.args.self.now.base c.deref-deed-items.result.now c.loop-deed.deed-index c.deed-item.result
    c.loop-deed-test.true c.deed-item.is)
