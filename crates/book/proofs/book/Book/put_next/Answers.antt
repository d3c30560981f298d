use Rattle.book.proofs.Ties.{put_ties}
use Rattle.book.proofs.book.Book.put_next.Goals as goal

pub invariant_of-self : goal.invariant_of-self
invariant_of-self g c =
    let a = c.self.inside in
    let i = c.self.invariant in
    let k = c.put_next.new.self in
    let put = c.put_next.ensures.put in (
      i.0,
      put_ties g.O.Outbox.accepts g.O.Outbox.refuses g.O.Outbox.name g.met.O.StableName.stays a.ledger k a.ledger.plan
          c.put_next.result a.register.rows put i.1,
    )
