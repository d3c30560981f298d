use Rattle.std.proofs.Common.{sym, subst}
use Rattle.ledger.specs.Ledger.{IsOut}
use Rattle.book.specs.Tied.{IsTied}
use Rattle.book.proofs.Ties.{out_tick, sweep_ties}
use Rattle.book.proofs.book.Book.finish_tick.Goals as goal

pub invariant_of-self : goal.invariant_of-self
invariant_of-self g c =
    let a = c.self.inside in
    let out : IsOut a.ledger c.args.tick = subst (λ m. IsOut m c.args.tick) (sym c.self.view_is) c.requires.out in
    let none = out_tick a.ledger c.args.tick c.sound.ensures.legal out c.requires.tick in (
      c.self.invariant.0,
      subst (λ m. IsTied g.O.Outbox.name m a.register.rows) (sym c.finish.ensures.book)
          (sweep_ties g.O.Outbox.name a.ledger a.register.rows none c.self.invariant.1),
    )
