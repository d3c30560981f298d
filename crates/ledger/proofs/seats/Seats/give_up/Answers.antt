use Rattle.std.proofs.Common.{None}
use Rattle.std.specs.VecDeque.{deque_capacity}
use Rattle.ledger.proofs.Counted.{given_counted}
use Rattle.ledger.proofs.Mapped.{IsChanged, seats_counted, seats_set, kept_set}
use Rattle.ledger.proofs.seats.Seats.give_up.Goals as goal

pub invariant_of-self : goal.invariant_of-self
invariant_of-self c =
    let a = c.self.inside in
    let s = c.args.session in
    let rows = c.args.self.now in let most = deque_capacity a.to_sweep in let now = c.take_out.new.map.entries in
    let taken : IsChanged a.seats.entries now s None = c.take_out.ensures.others in
    kept_set a.seats.entries a.opened rows c.self.view_is now s None taken a.held a.to_sweep.items most
    c.self.invariant.opened c.requires.seated
    (given_counted rows a.held a.to_sweep.items most (seats_counted a.seats.entries a.opened rows c.self.view_is
    a.held a.to_sweep.items most c.self.invariant) s c.requires.seated c.requires.gone)

pub returns : goal.returns
returns c =
    let a = c.self.inside in let s = c.args.session in let now = c.take_out.new.map.entries in
    let taken : IsChanged a.seats.entries now s None = c.take_out.ensures.others in
    seats_set a.seats.entries a.opened c.args.self.now c.self.view_is now s None taken c.requires.seated
