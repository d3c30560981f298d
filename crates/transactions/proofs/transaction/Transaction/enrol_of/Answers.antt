use Rattle.std.proofs.Common.{sym, ap, ◌∙◌}
use Rattle.roster.specs.LookBack.{enrol, enrol_after}
use Rattle.transactions.proofs.Replay.{replay, enrol_step}
use Rattle.transactions.proofs.transaction.Transaction.enrol_of.Goals as goal

pub loop-deed-preserved : goal.loop-deed-preserved
loop-deed-preserved c =
    let s = c.args.session in
    c.enroll-enrol.ensures ∙ ap (enrol_after s c.deed-item.result) c.loop-deed.invariant
    ∙ sym (replay (λ fs. enrol fs s) (λ a e. enrol_after s e a)
    (enrol_step s) c.args.self.now.base c.deref-deed-items.result.now c.loop-deed.deed-index c.deed-item.result
    c.loop-deed-test.true c.deed-item.is)
