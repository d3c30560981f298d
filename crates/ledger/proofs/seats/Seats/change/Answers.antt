use Rattle.std.proofs.Common.{arith, ℕ, ◌-◌, ◌+◌, ◌<◌, ◌^◌, subst, Some, length, slice_set, refl, ap, sym, ◌∙◌}
use Rattle.std.specs.VecDeque.{deque_capacity}
use Rattle.indexmap.specs.IndexMap.{with_value_at}
use Rattle.ledger.specs.declared.seat.Seat.{Seat}
use Rattle.ledger.specs.Seats.{at_its_place}
use Rattle.ledger.proofs.Counted.{ends_says, ends_not, unchanged, shut_kept, shut_room}
use Rattle.ledger.proofs.Counted.{shut_counted, list_up, list_absent}
use Rattle.ledger.proofs.Listed.{placed_more}
use Rattle.ledger.proofs.Mapped.{IsChanged, place_found, place_missed, place_changed, seat_found}
use Rattle.ledger.proofs.Mapped.{seat_stands, seats_counted, seats_set, kept_set}
use Rattle.ledger.proofs.seats.Seats.change.Goals as goal

pub unreachable-requires-in_default-get_index_mut : goal.unreachable-requires-in_default-get_index_mut
unreachable-requires-in_default-get_index_mut c = place_missed c.self.inside.seats.entries c.args.session
    c.in-Some.place c.in-Some.ensures.there c.in_default-get_index_mut.ensures.value

pub unreachable-requires : goal.unreachable-requires
unreachable-requires c =
    let a = c.self.inside in
    seat_stands a.seats.entries a.opened c.args.self.now c.self.view_is c.args.session c.requires.seated
    c.requires.stands (sym (c.in_default.ensures.absent refl))

pub overflow_add-seat : goal.overflow_add-seat
overflow_add-seat c =
    let a = c.self.inside in
    let s = c.args.session in let x = c.in-Some-get_index_mut.seat.now in
    let is = seat_found a.seats.entries a.opened c.args.self.now c.self.view_is s x c.self.invariant.opened
    (place_found a.seats s c.in-Some.place c.in-Some.ensures.there x c.in-Some-get_index_mut.ensures.value) in
    let few = subst (λ (y : Seat). y.accepted + c.args.more < 2 ^ 64) (sym is.1) c.requires.few in omega (arith, few)

pub overflow_sub-self : goal.overflow_sub-self
overflow_sub-self c =
    let a = c.self.inside in
    let s = c.args.session in
    let x = c.in-Some-get_index_mut.seat.now in let rows = c.args.self.now in let most = deque_capacity a.to_sweep in
    let is = seat_found a.seats.entries a.opened rows c.self.view_is s x c.self.invariant.opened
    (place_found a.seats s c.in-Some.place c.in-Some.ensures.there x c.in-Some-get_index_mut.ensures.value) in
    let e = ends_says c.args.shut x.shut x.gone (sym c.ends-is_end.ensures ∙ c.if-not-is_end.false) in
    shut_kept rows a.held a.to_sweep.items most (seats_counted a.seats.entries a.opened rows c.self.view_is a.held
    a.to_sweep.items most c.self.invariant) s x is.0.from_1 is.0.opened is.1 e.1 e.2

pub add_in_order-requires-clause-order : goal.add_in_order-requires-clause-order
add_in_order-requires-clause-order c =
    let a = c.self.inside in let rows = c.args.self.now in let most = deque_capacity a.to_sweep in
    list_up rows a.held a.to_sweep.items most
    (seats_counted a.seats.entries a.opened rows c.self.view_is a.held a.to_sweep.items most c.self.invariant)

pub add_in_order-requires-clause-absent : goal.add_in_order-requires-clause-absent
add_in_order-requires-clause-absent c =
    let a = c.self.inside in
    let s = c.args.session in
    let x = c.in-Some-get_index_mut.seat.now in let rows = c.args.self.now in let most = deque_capacity a.to_sweep in
    let is = seat_found a.seats.entries a.opened rows c.self.view_is s x c.self.invariant.opened
    (place_found a.seats s c.in-Some.place c.in-Some.ensures.there x c.in-Some-get_index_mut.ensures.value) in
    let e = ends_says c.args.shut x.shut x.gone (sym c.ends-is_end.ensures ∙ c.if-not-is_end.false) in
    λ i l at. list_absent rows a.held a.to_sweep.items most
    (seats_counted a.seats.entries a.opened rows c.self.view_is a.held a.to_sweep.items most c.self.invariant) s
    x is.1 e.1 e.2 i l (at ∙ c.number-number.ensures)

pub add_in_order-requires-clause-room : goal.add_in_order-requires-clause-room
add_in_order-requires-clause-room c =
    let a = c.self.inside in
    let s = c.args.session in
    let x = c.in-Some-get_index_mut.seat.now in let rows = c.args.self.now in let most = deque_capacity a.to_sweep in
    let is = seat_found a.seats.entries a.opened rows c.self.view_is s x c.self.invariant.opened
    (place_found a.seats s c.in-Some.place c.in-Some.ensures.there x c.in-Some-get_index_mut.ensures.value) in
    let e = ends_says c.args.shut x.shut x.gone (sym c.ends-is_end.ensures ∙ c.if-not-is_end.false) in
    shut_room rows a.held a.to_sweep.items most (seats_counted a.seats.entries a.opened rows c.self.view_is a.held
    a.to_sweep.items most c.self.invariant) s x is.0.from_1 is.0.opened is.1 e.1 e.2

pub invariant_of-self : goal.invariant_of-self
invariant_of-self c =
    let a = c.self.inside in
    let s = c.args.session in
    let x = c.in-Some-get_index_mut.seat.now in let rows = c.args.self.now in let most = deque_capacity a.to_sweep in
    let w : Seat = record { shut = c.args.shut; gone = x.gone; accepted = x.accepted + c.args.more } in
    let now = (with_value_at a.seats c.in-Some.place w).entries in
    let is = seat_found a.seats.entries a.opened rows c.self.view_is s x c.self.invariant.opened
    (place_found a.seats s c.in-Some.place c.in-Some.ensures.there x c.in-Some-get_index_mut.ensures.value) in
    let written : IsChanged a.seats.entries now s (Some w) =
    place_changed a.seats s c.in-Some.place c.in-Some.ensures.there x c.in-Some-get_index_mut.ensures.value w
    c.in-Some-get_index_mut.ensures.unique in
    let same = ends_not c.args.shut x.shut x.gone (sym c.ends-is_end.ensures ∙ c.if-not-is_end.true)
    (λ e. c.requires.stays (ap (λ (y : Seat). y.shut) (sym is.1) ∙ e)) in
    kept_set a.seats.entries a.opened rows c.self.view_is now s
    (Some w) written a.held a.to_sweep.items most c.self.invariant.opened is.0
    (unchanged rows a.held a.to_sweep.items most (seats_counted a.seats.entries a.opened rows c.self.view_is a.held
    a.to_sweep.items most c.self.invariant) s x w is.0.from_1 is.0.opened is.1 same.0 same.1 same.2)

pub returns-then-not-is_end : goal.returns-then-not-is_end
returns-then-not-is_end c =
    let a = c.self.inside in
    let s = c.args.session in let x = c.in-Some-get_index_mut.seat.now in let rows = c.args.self.now in
    let w : Seat = record { shut = c.args.shut; gone = x.gone; accepted = x.accepted + c.args.more } in
    let now = (with_value_at a.seats c.in-Some.place w).entries in
    let is = seat_found a.seats.entries a.opened rows c.self.view_is s x c.self.invariant.opened
    (place_found a.seats s c.in-Some.place c.in-Some.ensures.there x c.in-Some-get_index_mut.ensures.value) in
    let written : IsChanged a.seats.entries now s (Some w) =
    place_changed a.seats s c.in-Some.place c.in-Some.ensures.there x c.in-Some-get_index_mut.ensures.value w
    c.in-Some-get_index_mut.ensures.unique in
    seats_set a.seats.entries a.opened rows c.self.view_is now s (Some w) written is.0
    ∙ ap (λ (y : Seat). slice_set rows (s - 1)
    (record { shut = c.args.shut; gone = y.gone; accepted = y.accepted + c.args.more })) is.1

pub invariant_of-self-2 : goal.invariant_of-self-2
invariant_of-self-2 c =
    let a = c.self.inside in
    let s = c.args.session in
    let x = c.in-Some-get_index_mut.seat.now in let rows = c.args.self.now in let most = deque_capacity a.to_sweep in
    let w : Seat = record { shut = c.args.shut; gone = x.gone; accepted = x.accepted + c.args.more } in
    let now = (with_value_at a.seats c.in-Some.place w).entries in
    let is = seat_found a.seats.entries a.opened rows c.self.view_is s x c.self.invariant.opened
    (place_found a.seats s c.in-Some.place c.in-Some.ensures.there x c.in-Some-get_index_mut.ensures.value) in
    let written : IsChanged a.seats.entries now s (Some w) =
    place_changed a.seats s c.in-Some.place c.in-Some.ensures.there x c.in-Some-get_index_mut.ensures.value w
    c.in-Some-get_index_mut.ensures.unique in
    let e = ends_says c.args.shut x.shut x.gone (sym c.ends-is_end.ensures ∙ c.if-not-is_end.false) in
    let added = c.add_in_order.ensures.added
    ∙ ap (λ (k : ℕ). at_its_place k a.to_sweep.items) c.number-number.ensures in
    kept_set a.seats.entries a.opened rows c.self.view_is now s (Some w) written (a.held - 1)
    c.add_in_order.new.numbers.items (deque_capacity c.add_in_order.new.numbers) c.self.invariant.opened is.0
    (shut_counted rows a.held a.to_sweep.items most
    (seats_counted a.seats.entries a.opened rows c.self.view_is a.held a.to_sweep.items most c.self.invariant) s
    (deque_capacity c.add_in_order.new.numbers) x w c.add_in_order.new.numbers.items
    is.0.from_1 is.0.opened is.1 e.1 e.2 e.0 e.2 added
    (ap length added ∙ placed_more s a.to_sweep.items) c.add_in_order.ensures.room)

pub returns : goal.returns
returns c =
    let a = c.self.inside in
    let s = c.args.session in let x = c.in-Some-get_index_mut.seat.now in let rows = c.args.self.now in
    let w : Seat = record { shut = c.args.shut; gone = x.gone; accepted = x.accepted + c.args.more } in
    let now = (with_value_at a.seats c.in-Some.place w).entries in
    let is = seat_found a.seats.entries a.opened rows c.self.view_is s x c.self.invariant.opened
    (place_found a.seats s c.in-Some.place c.in-Some.ensures.there x c.in-Some-get_index_mut.ensures.value) in
    let written : IsChanged a.seats.entries now s (Some w) =
    place_changed a.seats s c.in-Some.place c.in-Some.ensures.there x c.in-Some-get_index_mut.ensures.value w
    c.in-Some-get_index_mut.ensures.unique in
    seats_set a.seats.entries a.opened rows c.self.view_is now s (Some w) written is.0
    ∙ ap (λ (y : Seat). slice_set rows (s - 1)
    (record { shut = c.args.shut; gone = y.gone; accepted = y.accepted + c.args.more })) is.1
