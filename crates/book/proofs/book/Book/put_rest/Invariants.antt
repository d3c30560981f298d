use Rattle.std.proofs.Common.{◌≡◌, length}
use Rattle.ledger.specs.Ledger.{Shown, IsPutAll, IsOut}
use Rattle.book.specs.Flushes.{ListsChanged}
use Rattle.book.proofs.book.Book.put_rest.Given as goal

-- what puts the rest puts the whole, the plan is the one that is out, and whoever got something is told
abbrev pub invariant-loop : goal.invariant-loop
invariant-loop g l = record {
  rest : (k : Shown g.row.O.Denot) → IsPutAll g.O.Outbox.accepts g.O.Outbox.refuses l.self l.self.plan k
      → IsPutAll g.O.Outbox.accepts g.O.Outbox.refuses l.fn.self l.fn.self.plan k;
  out : IsOut l.self l.plan;
  number : l.plan.number ≡ l.fn.plan.number;
  session : l.plan.session ≡ l.fn.plan.session;
  next : l.plan.next ≡ l.fn.plan.next;
  flushes : ListsChanged l.fn.flushes l.flushes l.fn.self.outboxes l.self.outboxes;
}

abbrev pub decreases-loop : goal.decreases-loop
decreases-loop g l = length l.self.plan
