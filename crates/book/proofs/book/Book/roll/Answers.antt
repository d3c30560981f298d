use Rattle.book.proofs.Since.{rolls_ties}
use Rattle.book.proofs.book.Book.roll.Goals as goal

pub invariant_of-self : goal.invariant_of-self
invariant_of-self g c =
    let a = c.self.inside in (
      c.self.invariant.0,
      rolls_ties g.O.Outbox.name a.ledger c.roll.new.self a.register.rows c.roll.result
          c.roll.ensures.ok c.roll.ensures.err c.self.invariant.1,
    )
