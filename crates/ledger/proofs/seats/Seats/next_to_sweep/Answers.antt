use Rattle.std.proofs.Common.{ℕ, List, length, Some, slice_get, ap, sym, ◌∙◌}
use Rattle.std.specs.VecDeque.{deque_capacity}
use Rattle.roster.specs.LookBack.{numbers}
use Rattle.ledger.specs.Seats.{sweeps}
use Rattle.ledger.proofs.Listed.{first_picked, head_some, head_none}
use Rattle.ledger.proofs.Mapped.{seats_counted}
use Rattle.ledger.proofs.seats.Seats.next_to_sweep.Goals as goal

pub returns-in-Some : goal.returns-in-Some
returns-in-Some c =
    let a = c.self.inside in let rows = c.args.self.now in let item = c.in-Some.ensures.item in
    let i = seats_counted a.seats.entries a.opened rows c.self.view_is a.held a.to_sweep.items
    (deque_capacity a.to_sweep) c.self.invariant in
    ap (λ (k : ℕ). Some k) c.new.ensures ∙ sym (head_some a.to_sweep.items c.in-Some.number.now item.3.0 item.1)
    ∙ ap (λ (xs : List ℕ). slice_get xs 0) i.listed
    ∙ sym (first_picked (sweeps rows) (numbers 1 (length rows)))

pub returns-in-None : goal.returns-in-None
returns-in-None c =
    let a = c.self.inside in let rows = c.args.self.now in let item = c.in-None.ensures.item in
    let i = seats_counted a.seats.entries a.opened rows c.self.view_is a.held a.to_sweep.items
    (deque_capacity a.to_sweep) c.self.invariant in
    sym (head_none a.to_sweep.items item.3) ∙ ap (λ (xs : List ℕ). slice_get xs 0) i.listed
    ∙ sym (first_picked (sweeps rows) (numbers 1 (length rows)))
