use Rattle.std.proofs.Common.{ap, ◌∙◌}
use Rattle.ledger.specs.Seats.{stands}
use Rattle.ledger.proofs.Mapped.{seat_found, seat_missed}
use Rattle.ledger.proofs.seats.Seats.seat.Goals as goal

pub returns-in_err-seat-clause-none : goal.returns-in_err-seat-clause-none
returns-in_err-seat-clause-none c =
    let a = c.self.inside in
    λ none. seat_missed a.seats.entries a.opened c.args.self.now c.self.view_is c.args.session c.in_err-seat.ensures

pub returns-clause-some : goal.returns-clause-some
returns-clause-some c =
    let a = c.self.inside in let x = c.in_ok-seat.seat.now in
    let is = seat_found a.seats.entries a.opened c.args.self.now c.self.view_is c.args.session x
    c.self.invariant.opened c.in_ok-seat.ensures in
    (is.0, c.seat_as_it_is.ensures.same ∙ is.1)

pub returns-clause-stands : goal.returns-clause-stands
returns-clause-stands c = ap stands c.seat_as_it_is.ensures.same ∙ c.seat_as_it_is.ensures.stands
