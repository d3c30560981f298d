use Rattle.std.proofs.Common.{◌≡◌, sym, subst}
use Rattle.chronicle.specs.declared.record.Kind.TheVariants.{Said}
use Rattle.book.specs.Turn.{BatonView}
use Rattle.ledger.specs.Ledger.{MayBegin, after_begin}
use Rattle.book.specs.Reaping.{turn_of}
use Rattle.book.specs.Outcomes.{IsLineBegun}
use Rattle.book.specs.Tied.{IsTied}
use Rattle.book.proofs.Outcomes.{by_result}
use Rattle.book.proofs.Ties.{said_ties}
use Rattle.book.proofs.book.Book.begin_read.Goals as goal

pub invariant_of-self : goal.invariant_of-self
invariant_of-self g c =
    let a = c.self.inside in
    let i = c.self.invariant in
    let k = c.begin.new.self in
    let b = c.baton.inside.turn in
    let p = c.args.line.now in
    by_result c.begin.result (k ≡ after_begin a.ledger (Said b.session b.next p) c.args.moment) (MayBegin a.ledger b
    c.args.moment) (k ≡ a.ledger) c.begin.ensures.ok c.begin.ensures.may c.begin.ensures.err
    (λ is may. (
      i.0,
      subst (λ m. IsTied g.O.Outbox.name m a.register.rows) (sym is)
          (said_ties g.O.Outbox.name a.ledger b.session b.next p c.args.moment a.register.rows may.idle i.1),
    ))
    (λ is. (i.0, subst (λ m. IsTied g.O.Outbox.name m a.register.rows) (sym is) i.1))

pub returns-clause-begun : goal.returns-clause-begun
returns-clause-begun g c =
    let k = c.begin.new.self in
    let b = c.baton.inside.turn in
    let p = c.args.line.now in
    let begun = c.begin.ensures in
    subst (λ (t : BatonView). IsLineBegun c.args.self.now k (turn_of t) p c.args.moment c.begin.result) c.baton.view_is
    (subst (λ m. IsLineBegun m k b p c.args.moment c.begin.result) c.self.view_is (record {
      ok = begun.ok;
      out = begun.out;
      line = begun.line;
      may = begun.may;
      refusal = begun.refusal;
      err = begun.err;
    }))
