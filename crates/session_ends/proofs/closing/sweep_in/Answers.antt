use Rattle.std.proofs.Common.{sym, subst}
use Rattle.book.specs.Ends.{Puttings}
use Rattle.book.specs.Ledger.{Shown}
use Rattle.session_ends.specs.Sweeping.{Sweeps}
use Rattle.session_ends.proofs.closing.sweep_in.Goals as goal

pub returns-clause-sweeps : goal.returns-clause-sweeps
returns-clause-sweeps g c =
    let answer = c.sweep_with_flushes-answer.result in let moment = c.later-moment.result in
    subst (λ (x : Shown Puttings). Sweeps x c.of-after.result.value moment answer) (sym c.of-before.ensures)
    (subst (λ (x : Shown Puttings). Sweeps c.args.hall.now x moment answer) (sym c.of-after.ensures)
    c.sweep_with_flushes-answer.ensures.outcome)
