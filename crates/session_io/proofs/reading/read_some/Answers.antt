use Rattle.std.proofs.Common.{true, take, drop, ap, ◌++◌, ◌∙◌}
use Rattle.session_io.proofs.LinesRead.{does_none, does_pieces, does_read, fills_nothing}
use Rattle.session_io.proofs.reading.read_some.Goals as goal

pub returns-then-is_much-clause-lines : goal.returns-then-is_much-clause-lines
returns-then-is_much-clause-lines g c =
    let known = g.I.Read.remaining c.args.input.now in
    let was = c.args.intake.now in
    let old = c.args.baton.now.pieces in
    does_read known known was was was old old true (fills_nothing known was) (does_none was old)

pub returns-clause-lines : goal.returns-clause-lines
returns-clause-lines g c =
    let known = g.I.Read.remaining in
    let count = c.do_lines-count in
    let old = c.args.baton.now.pieces in
    let mid = c.fill.new.intake in
    let now = c.put_back.new.self in
    does_read (known c.args.input.now) (known c.fill.new.input) c.args.intake.now mid now old count.new.baton.pieces
    c.took_after.result.all c.in-Ok.ensures.fills
    (does_pieces mid now old count.new.baton.pieces c.took_after.result.all count.result.done
    (count.ensures.front ∙ ap (λ l. old ++ take count.result.done l) c.take_lines-lines.ensures.lines)
    (λ e. c.put_back.ensures.lines ∙ count.ensures.left (c.took_after.ensures.refused e)
    ∙ ap (λ l. drop count.result.done l) c.take_lines-lines.ensures.lines)
    (c.put_back.ensures.kept ∙ c.take_lines-lines.ensures.kept))
