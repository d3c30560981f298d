use Rattle.std.proofs.Common.{length, ap, sym, ◌∙◌, subst, arith}
use Rattle.chronicle.specs.History.{shut}
use Rattle.ledger.specs.Ledger.{Shown, IsPutAll, newest_missed}
use Rattle.book.specs.Reaping.{newest_said}
use Rattle.book.proofs.Ties.{line_said}
use Rattle.book.proofs.Turns.{turn_is}
use Rattle.book.proofs.book.Book.line_read.Goals as goal

pub returns-clause-outcome : goal.returns-clause-outcome
returns-clause-outcome g c =
    let m = c.args.self.now in
    let b = c.args.baton.now in
    let p = c.args.line.now in
    let k = c.put_rest.new.self in
    let began = c.in_ok-plan.ensures.begun in
    let put = c.put_rest.ensures in
    let done = c.finish.ensures in
    let now = c.finish.new.self.history in
    let longer = done.number ∙ sym put.out.number ∙ put.number ∙ began.out.number
    ∙ ap (λ (x : Shown g.row.O.Denot). length x.history) began.ok in
    record {
      ok = (
        k,
        subst (λ (x : Shown g.row.O.Denot). IsPutAll g.O.Outbox.accepts g.O.Outbox.refuses x x.plan k) began.ok
            put.put,
        done.book,
      );
      baton = turn_is c.finish.new.baton b p now (newest_said k.history b.session) done.session done.next done.grown
          (line_said g.O.Outbox.accepts g.O.Outbox.refuses m c.begin_read.new.self k b.session b.next p c.args.moment
          began.ok put.put)
          done.front;
      accepted = done.accepted;
      may = began.may;
      number = omega arith;
      missed = done.missed ∙ ap (λ (x : Shown g.row.O.Denot). newest_missed x.history) (sym done.book);
      shut = done.shut ∙ ap (λ (x : Shown g.row.O.Denot). shut x.history b.session) (sym done.book);
      refusal = tt;
      err = tt;
    }
