use Rattle.std.proofs.Common.{◌≡◌, sym, subst}
use Rattle.chronicle.specs.declared.record.Kind.TheVariants.{Hung}
use Rattle.ledger.specs.Ledger.{MayHang, IsDone}
use Rattle.book.specs.Tied.{IsTied}
use Rattle.book.proofs.Outcomes.{by_result}
use Rattle.book.proofs.Ties.{hung_done_ties}
use Rattle.book.proofs.book.Book.hang.Goals as goal

pub invariant_of-self : goal.invariant_of-self
invariant_of-self g c =
    let a = c.self.inside in
    let i = c.self.invariant in
    let k = c.hang.new.self in
    let s = c.args.session in
    let w = c.args.why in
    by_result c.hang.result (IsDone g.O.Outbox.accepts g.O.Outbox.refuses a.ledger (Hung s w) c.args.moment k)
    (MayHang a.ledger s c.args.moment) (k ≡ a.ledger) c.hang.ensures.ok c.hang.ensures.may c.hang.ensures.err
    (λ done may. (
      i.0,
      hung_done_ties g.O.Outbox.name g.O.Outbox.accepts g.O.Outbox.refuses g.met.O.StableName.stays a.ledger k s w
          c.args.moment a.register.rows may.idle done i.1,
    ))
    (λ is. (i.0, subst (λ m. IsTied g.O.Outbox.name m a.register.rows) (sym is) i.1))
