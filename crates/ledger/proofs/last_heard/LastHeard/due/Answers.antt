use Rattle.std.proofs.Common.{sym, ◌∙◌}
use Rattle.chronicle.specs.Idle.{PING_AFTER}
use Rattle.ledger.specs.LastHeard.{is_due}
use Rattle.ledger.proofs.Picking.{seen_enough, not_yet_due}
use Rattle.ledger.proofs.last_heard.LastHeard.due.Goals as goal

pub returns-then-not-is_before-clause-due : goal.returns-then-not-is_before-clause-due
returns-then-not-is_before-clause-due c =
    let seats = c.args.seats.now in
    let moment = c.args.moment in let order = c.requires in let now = c.args.self.now in
    seen_enough (is_due seats moment) PING_AFTER moment order.0 now c.loop-number.rest c.next_back.new.self
    c.loop-number.due.items (c.in-Some.number.now, c.in-Some.since.now) (not_yet_due seats moment)
    order.1 c.loop-number.invariant c.in-Some.ensures.steps (sym c.is_before.ensures ∙ c.if-not-is_before.true)
