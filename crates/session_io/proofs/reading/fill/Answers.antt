use Rattle.session_io.proofs.LinesRead.{fills_in, fills_nothing, reads_none}
use Rattle.session_io.proofs.reading.fill.Goals as goal

pub returns-then-has_lines-clause-fills : goal.returns-then-has_lines-clause-fills
returns-then-has_lines-clause-fills g c = fills_nothing (g.I.Read.remaining c.args.input.now) c.args.intake.now

pub returns-in-Ok-clause-fills : goal.returns-in-Ok-clause-fills
returns-in-Ok-clause-fills g c =
    let known = g.I.Read.remaining in
    fills_in (known c.args.input.now) (known c.take_in.new.input) c.args.intake.now c.take_in.new.self
    (c.has_lines.ensures.0 c.if-has_lines.false) c.in-Ok.ensures.ok

pub returns-in-Err-clause-lines : goal.returns-in-Err-clause-lines
returns-in-Err-clause-lines g c = λ done.
    let known = g.I.Read.remaining in
    reads_none (known c.args.input.now) (known c.take_in.new.input) c.args.intake.now c.take_in.new.self
    done c.in-Err.unread.all (c.has_lines.ensures.0 c.if-has_lines.false) c.in-Err.ensures.none
    c.in-Err.ensures.all c.in-Err.ensures.some
