use Rattle.std.proofs.Common.{◌≡◌, true, [], ap, sym, ◌∙◌}
use Rattle.chronicle.specs.Idle.{PING_AFTER}
use Rattle.ledger.specs.LastHeard.{is_before, is_due}
use Rattle.ledger.specs.Seats.{hears}
use Rattle.ledger.proofs.Picking.{seen_enough, seen_some, due_passes, not_yet_due}
use Rattle.ledger.proofs.last_heard.LastHeard.is_somebody_due.Goals as goal

pub returns-then-not-is_before-clause-no : goal.returns-then-not-is_before-clause-no
returns-then-not-is_before-clause-no c =
    let seats = c.args.seats.now in
    let moment = c.args.moment in let order = c.requires in let now = c.args.self.now in
    λ e. sym (seen_enough (is_due seats moment) PING_AFTER moment order.0 now c.loop-number.rest
    c.next_back.new.self [] (c.in-Some.number.now, c.in-Some.since.now) (not_yet_due seats moment)
    order.1 c.loop-number.invariant c.in-Some.ensures.steps (sym c.is_before.ensures ∙ c.if-not-is_before.true))

pub returns-then-not-since-clause-yes : goal.returns-then-not-since-clause-yes
returns-then-not-since-clause-yes c =
    let seats = c.args.seats.now in
    let moment = c.args.moment in
    let now = c.args.self.now in let number = c.in-Some.number.now in let since = c.in-Some.since.now in
    let idle : is_before since PING_AFTER moment ≡ true = sym c.is_before.ensures ∙ c.if-not-is_before.false in
    let open_ : hears seats number ≡ true = ap (hears seats) (sym c.new.ensures) ∙ sym c.is_listening.ensures
    ∙ c.if-is_listening.true in
    let passes : is_due seats moment (number, since)
    ≡ true = due_passes seats moment (number, since) idle open_ c.if-not-since.true in
    λ e. seen_some (is_due seats moment) now c.loop-number.rest c.next_back.new.self []
    (number, since) c.loop-number.invariant c.in-Some.ensures.steps passes
