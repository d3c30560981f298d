use Rattle.std.proofs.Common.{◌≡◌, Some, None, sym, subst}
use Rattle.chronicle.specs.declared.record.Kind.TheVariants.{Gone}
use Rattle.ledger.specs.Ledger.{Out, IsOut, MaySweep, after_begin, to_sweep}
use Rattle.book.specs.Tied.{IsTied}
use Rattle.book.proofs.Outcomes.{by_answer}
use Rattle.book.proofs.Ties.{gone_ties}
use Rattle.book.proofs.book.Book.begin_sweep.Goals as goal

pub invariant_of-self : goal.invariant_of-self
invariant_of-self g c =
    let a = c.self.inside in
    let i = c.self.invariant in
    let k = c.begin_sweep.new.self in
    let name = g.O.Outbox.name in
    by_answer c.begin_sweep.result (λ (p : Out). (to_sweep a.ledger.history ≡ Some p.session)
    × (k ≡ after_begin a.ledger (Gone p.session) c.args.moment) × IsOut k p × (p.next ≡ None))
    ((to_sweep a.ledger.history ≡ None) × (k ≡ a.ledger)) (MaySweep a.ledger c.args.moment) (k ≡ a.ledger)
    c.begin_sweep.ensures.some c.begin_sweep.ensures.none c.begin_sweep.ensures.may c.begin_sweep.ensures.err
    (λ p some may. (
      i.0,
      subst (λ m. IsTied name m a.register.rows) (sym some.1)
          (gone_ties name a.ledger p.session c.args.moment a.register.rows may.idle i.1),
    ))
    (λ none may. (i.0, subst (λ m. IsTied name m a.register.rows) (sym none.1) i.1))
    (λ is. (i.0, subst (λ m. IsTied name m a.register.rows) (sym is) i.1))
