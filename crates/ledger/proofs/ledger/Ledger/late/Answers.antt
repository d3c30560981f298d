use Rattle.std.proofs.Common.{ap, ◌∙◌}
use Rattle.ledger.specs.Ledger.{late}
use Rattle.ledger.proofs.Pinging.{late_is_lowest}
use Rattle.ledger.proofs.ledger.Ledger.late.Goals as goal

pub returns : goal.returns
returns over c =
    let a = c.self.inside in let is = c.late.ensures in
    is.late ∙ late_is_lowest over.O.Outbox.sent a.journal a.roster.settings a.roster.facts a.seats a.outboxes.boxes
    a.plan a.busy c.self.invariant.kept a.last_heard c.self.invariant.since is.once c.args.moment
    ∙ ap (λ m. late m.history c.args.moment) c.self.view_is
