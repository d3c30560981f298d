use Rattle.std.proofs.Common.{sym, subst}
use Rattle.session_ends.specs.Ends.{Puttings}
use Rattle.session_ends.specs.Ledger.{Shown}
use Rattle.session_io.specs.Beating.{Ticks}
use Rattle.session_io.proofs.keepalive.tick_once.Goals as goal

pub returns-clause-ticks : goal.returns-clause-ticks
returns-clause-ticks g c =
    let answer = c.tick_with_flushes-answer.result in let moment = c.args.moment in
    subst (λ (x : Shown Puttings). Ticks x c.of-after.result.value moment answer) (sym c.of-before.ensures)
    (subst (λ (x : Shown Puttings). Ticks c.args.hall.now x moment answer) (sym c.of-after.ensures)
    c.tick_with_flushes-answer.ensures.outcome)
