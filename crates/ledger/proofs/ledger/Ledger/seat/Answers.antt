use Rattle.std.proofs.Common.{arith, refl, ◌≡◌, true, false, sym, ap, ◌∙◌, subst}
use Rattle.ledger.specs.declared.seat.Seat.{Seat}
use Rattle.ledger.specs.Ledger.{is_here, IsKnown}
use Rattle.ledger.specs.Seats.{stands, IsSeat, IsSeated, seat_at}
use Rattle.ledger.proofs.KeptSteps.{shown}
use Rattle.ledger.proofs.ledger.Ledger.seat.Goals as goal

pub returns-clause-known : goal.returns-clause-known
returns-clause-known over c =
    let a = c.self.inside in
    let i = c.self.invariant.kept in
    let s = c.args.session in let h = a.journal.history in let seat = c.in_ok-seat.seat in
    let it = c.in_ok-seat.ensures.some.0 in
    let at = c.in_ok-seat.ensures.some.1 in
    let many = i.sound.sessions in let places = i.places in let to = it.opened in
    let here : is_here a.outboxes.boxes s ≡ true = sym (i.each_seat s it.from_1 it.opened).kept ∙ ap stands (sym at)
    ∙ c.in_ok-seat.ensures.stands in
    let known : IsKnown (shown a.journal a.roster.settings a.outboxes.boxes a.plan a.busy) s =
    record { from_1 = it.from_1; opened = (omega arith); here = here } in
    let says : IsSeat seat true h s = subst (λ (x : Seat). IsSeat x true h s) (sym at)
    (subst (λ b. IsSeat (seat_at a.seats s) b h s) here (i.each_seat s it.from_1 it.opened)) in
    subst (λ m. IsKnown m s × IsSeat seat true m.history s) c.self.view_is (known, says)

pub returns-in_err-seat-clause-unknown : goal.returns-in_err-seat-clause-unknown
returns-in_err-seat-clause-unknown over c =
    let a = c.self.inside in let i = c.self.invariant.kept in let s = c.args.session in
    λ none known.
    let is : IsKnown (shown a.journal a.roster.settings a.outboxes.boxes a.plan a.busy) s = subst
    (λ m. IsKnown m s) (sym c.self.view_is) known in
    let to = is.opened in
    let many = i.sound.sessions in
    let places = i.places in let seated : IsSeated a.seats s = record { from_1 = is.from_1; opened = (omega arith) } in
    let f : false ≡ true = ap stands (sym (c.in_err-seat.ensures.none refl seated))
    ∙ (i.each_seat s seated.from_1 seated.opened).kept ∙ is.here in
    cc
