use Rattle.std.proofs.Common.{◌≡◌, [], None, sym, subst}
use Rattle.chronicle.specs.declared.record.Kind.TheVariants.{Ticked}
use Rattle.ledger.specs.Ledger.{Out, IsOut, MayTick, after_begin, to_ping}
use Rattle.book.specs.Tied.{IsTied}
use Rattle.book.proofs.Outcomes.{by_answer}
use Rattle.book.proofs.Ties.{tick_ties}
use Rattle.book.proofs.book.Book.begin_tick.Goals as goal

pub invariant_of-self : goal.invariant_of-self
invariant_of-self g c =
    let a = c.self.inside in
    let i = c.self.invariant in
    let k = c.begin_tick.new.self in
    let name = g.O.Outbox.name in
    by_answer c.begin_tick.result (λ (p : Out). (k ≡ after_begin a.ledger Ticked c.args.moment) × IsOut k p
    × (p.session ≡ 0) × (p.next ≡ None))
    ((to_ping a.ledger.history c.args.moment ≡ []) × (k ≡ a.ledger)) (MayTick a.ledger c.args.moment) (k ≡ a.ledger)
    c.begin_tick.ensures.some c.begin_tick.ensures.none c.begin_tick.ensures.may c.begin_tick.ensures.err
    (λ p some may. (
      i.0,
      subst (λ m. IsTied name m a.register.rows) (sym some.0)
          (tick_ties name a.ledger c.args.moment a.register.rows may.idle i.1),
    ))
    (λ none may. (i.0, subst (λ m. IsTied name m a.register.rows) (sym none.1) i.1))
    (λ is. (i.0, subst (λ m. IsTied name m a.register.rows) (sym is) i.1))
