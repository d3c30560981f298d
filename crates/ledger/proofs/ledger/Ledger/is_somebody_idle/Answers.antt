use Rattle.std.proofs.Common.{ap, sym, ◌∙◌}
use Rattle.ledger.specs.Ledger.{to_ping}
use Rattle.ledger.proofs.Pinging.{idle_some, idle_none}
use Rattle.ledger.proofs.ledger.Ledger.is_somebody_idle.Goals as goal

pub returns-clause-yes : goal.returns-clause-yes
returns-clause-yes over c =
    let a = c.self.inside in let is = c.is_somebody_due.ensures in
    λ e none.
    idle_some over.O.Outbox.sent a.journal a.roster.settings a.roster.facts a.seats a.outboxes.boxes a.plan a.busy
    c.self.invariant.kept a.last_heard c.self.invariant.since is.once c.args.moment (is.yes e)
    (ap (λ m. to_ping m.history c.args.moment) c.self.view_is ∙ none)

pub returns-clause-no : goal.returns-clause-no
returns-clause-no over c =
    let a = c.self.inside in let is = c.is_somebody_due.ensures in
    λ e.
    sym (ap (λ m. to_ping m.history c.args.moment) c.self.view_is)
    ∙ idle_none over.O.Outbox.sent a.journal a.roster.settings a.roster.facts a.seats a.outboxes.boxes a.plan
    a.busy c.self.invariant.kept a.last_heard c.self.invariant.since is.once c.args.moment (is.no e)
