use Rattle.std.proofs.Common.{arith, ℕ, ◌+◌, ◌≤◌, List, Some, cond, nat_eq, is_ok, ap, sym, ◌∙◌, subst}
use Rattle.std.proofs.lemmas.Grind.{common_steps}
use Rattle.std.specs.Map.{lookup}
use Rattle.std.specs.VecDeque.{deque_capacity}
use Rattle.ledger.specs.declared.seat.Seat.{Seat}
use Rattle.ledger.specs.Seats.{no_seat, AreSeats}
use Rattle.ledger.proofs.Counted.{one_more}
use Rattle.ledger.proofs.Mapped.{IsChanged, on_ok, seats_counted, seats_more, kept_more}
use Rattle.ledger.proofs.seats.Seats.open.Goals as goal

pub invariant_of-self-2 : goal.invariant_of-self-2
invariant_of-self-2 c =
    let a = c.self.inside in
    let rows = c.args.self.now in
    let most = deque_capacity c.reserve-2.new.self in
    let now = c.insert.new.self.entries in let k = c.number-number.result in
    let came : IsChanged a.seats.entries now k (Some no_seat) =
    λ q. (on_ok _ c.insert.result (ap is_ok c.unwrap.ensures) c.insert.ensures.updates).0 q ∙ ap
    (λ (es : List (ℕ × Seat)). cond (nat_eq k q) (Some no_seat) (lookup (nat_eq q) es))
    c.reserve.ensures.entries in
    let room : a.held + 2 ≤ most = let ok = c.in_ok-reserve-2.ensures.ok in grind (arith, common_steps) in
    let i = seats_counted a.seats.entries a.opened rows c.self.view_is a.held a.to_sweep.items
    (deque_capacity a.to_sweep) c.self.invariant in
    subst (λ (xs : List ℕ). AreSeats now k (a.held + 2) xs most) (sym c.reserve-2.ensures.items)
    (kept_more a.seats.entries a.opened rows c.self.view_is now k (Some no_seat) came
    (a.held + 2) a.to_sweep.items most c.self.invariant.opened (c.number-number.ensures ∙ c.requires.next)
    (one_more rows a.held a.to_sweep.items _ i most room))

pub returns-clause-ok : goal.returns-clause-ok
returns-clause-ok c =
    let a = c.self.inside in let now = c.insert.new.self.entries in let k = c.number-number.result in
    let came : IsChanged a.seats.entries now k (Some no_seat) =
    λ q. (on_ok _ c.insert.result (ap is_ok c.unwrap.ensures) c.insert.ensures.updates).0 q ∙ ap
    (λ (es : List (ℕ × Seat)). cond (nat_eq k q) (Some no_seat) (lookup (nat_eq q) es))
    c.reserve.ensures.entries in
    seats_more a.seats.entries a.opened c.args.self.now c.self.view_is now k (Some no_seat) came
    (c.number-number.ensures ∙ c.requires.next)
