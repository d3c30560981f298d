use Rattle.std.proofs.Common.{not, ap, sym, ◌∙◌}
use Rattle.ledger.proofs.Mapped.{hears_found, hears_missed}
use Rattle.ledger.proofs.seats.Seats.listening_at.Goals as goal

pub returns-in_default : goal.returns-in_default
returns-in_default c = let a = c.self.inside in
    hears_missed a.seats.entries a.opened c.args.self.now c.self.view_is c.args.session c.in_default.ensures

pub returns-then-seat : goal.returns-then-seat
returns-then-seat c =
    let a = c.self.inside in
    sym (ap not c.if-seat.true)
    ∙ hears_found a.seats.entries a.opened c.args.self.now c.self.view_is c.args.session c.in-Some.seat.now
    c.self.invariant.opened c.in-Some.ensures

pub returns-else-seat : goal.returns-else-seat
returns-else-seat c =
    let a = c.self.inside in
    sym (ap not c.if-seat.false)
    ∙ hears_found a.seats.entries a.opened c.args.self.now c.self.view_is c.args.session c.in-Some.seat.now
    c.self.invariant.opened c.in-Some.ensures
