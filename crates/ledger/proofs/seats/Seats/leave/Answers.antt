use Rattle.std.proofs.Common.{ℕ, ◌-◌, true, Some, slice_set, refl, ap, sym, ◌∙◌, subst}
use Rattle.std.specs.VecDeque.{deque_capacity}
use Rattle.indexmap.specs.IndexMap.{with_value_at}
use Rattle.ledger.specs.declared.seat.Seat.{Seat}
use Rattle.ledger.specs.Seats.{IsSeated, AreSeats}
use Rattle.ledger.proofs.Counted.{next_seat, left_kept, left_counted}
use Rattle.ledger.proofs.Mapped.{IsChanged, place_found, place_missed, place_changed, seat_found}
use Rattle.ledger.proofs.Mapped.{seat_stays, seats_counted, seats_set, kept_set}
use Rattle.ledger.proofs.seats.Seats.leave.Goals as goal

pub unreachable-requires-in_default-get_index_mut : goal.unreachable-requires-in_default-get_index_mut
unreachable-requires-in_default-get_index_mut c = place_missed c.self.inside.seats.entries c.args.session
    c.in-Some.place c.in-Some.ensures.there c.in_default-get_index_mut.ensures.value

pub unreachable-requires : goal.unreachable-requires
unreachable-requires c =
    let a = c.self.inside in
    let it = next_seat c.args.self.now c.args.session c.requires.next in
    let seated : IsSeated c.args.self.now c.args.session = record { from_1 = it.0; opened = it.1 } in
    seat_stays a.seats.entries a.opened c.args.self.now c.self.view_is c.args.session seated it.3
    (sym (c.in_default.ensures.absent refl))

pub overflow_sub-self : goal.overflow_sub-self
overflow_sub-self c =
    let a = c.self.inside in
    let rows = c.args.self.now in
    let most = deque_capacity a.to_sweep in let it = next_seat rows c.args.session c.requires.next in
    left_kept rows a.held a.to_sweep.items most (seats_counted a.seats.entries a.opened rows c.self.view_is a.held
    a.to_sweep.items most c.self.invariant) c.args.session it.1 it.0 it.2 it.3

pub invariant_of-self : goal.invariant_of-self
invariant_of-self c =
    let a = c.self.inside in
    let s = c.args.session in
    let x = c.in-Some-get_index_mut.seat.now in
    let rows = c.args.self.now in let most = deque_capacity a.to_sweep in let it = next_seat rows s c.requires.next in
    let w : Seat = record { shut = x.shut; gone = true; accepted = x.accepted } in
    let now = (with_value_at a.seats c.in-Some.place w).entries in
    let is = seat_found a.seats.entries a.opened rows c.self.view_is s x c.self.invariant.opened
    (place_found a.seats s c.in-Some.place c.in-Some.ensures.there x c.in-Some-get_index_mut.ensures.value) in
    let written : IsChanged a.seats.entries now s (Some w) =
    place_changed a.seats s c.in-Some.place c.in-Some.ensures.there x c.in-Some-get_index_mut.ensures.value w
    c.in-Some-get_index_mut.ensures.unique in
    subst (λ (m : ℕ). AreSeats now a.opened (a.held - 1) c.pop_front.new.self.items m)
    (sym c.pop_front.ensures.capacity)
    (kept_set a.seats.entries a.opened rows c.self.view_is now s (Some w) written
    (a.held - 1) c.pop_front.new.self.items most c.self.invariant.opened is.0
    (left_counted rows a.held a.to_sweep.items most (seats_counted a.seats.entries a.opened rows c.self.view_is
    a.held a.to_sweep.items most c.self.invariant) s x w c.pop_front.new.self.items
    it.0 it.1 is.1 (ap (λ (y : Seat). y.shut) is.1 ∙ it.2)
    (ap (λ (y : Seat). y.gone) is.1 ∙ it.3) refl c.requires.next c.pop_front.ensures.rest))

pub returns : goal.returns
returns c =
    let a = c.self.inside in
    let s = c.args.session in let x = c.in-Some-get_index_mut.seat.now in let rows = c.args.self.now in
    let w : Seat = record { shut = x.shut; gone = true; accepted = x.accepted } in
    let now = (with_value_at a.seats c.in-Some.place w).entries in
    let is = seat_found a.seats.entries a.opened rows c.self.view_is s x c.self.invariant.opened
    (place_found a.seats s c.in-Some.place c.in-Some.ensures.there x c.in-Some-get_index_mut.ensures.value) in
    let written : IsChanged a.seats.entries now s (Some w) =
    place_changed a.seats s c.in-Some.place c.in-Some.ensures.there x c.in-Some-get_index_mut.ensures.value w
    c.in-Some-get_index_mut.ensures.unique in
    seats_set a.seats.entries a.opened rows c.self.view_is now s (Some w) written is.0
    ∙ ap (λ (y : Seat). slice_set rows (s - 1) (record { shut = y.shut; gone = true; accepted = y.accepted })) is.1
