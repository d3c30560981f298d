use Rattle.std.proofs.Common.{◌++◌, take, ap, sym, ◌∙◌, append-nil}
use Rattle.crew.proofs.LinesRead.{front_of}
use Rattle.crew.proofs.working.work.Goals as goal

pub returns-in_default-clause-front : goal.returns-in_default-clause-front
returns-in_default-clause-front g c = front_of c.args.baton.pieces c.args.baton.pieces c.args.pieces.now 0
    (sym (append-nil c.args.baton.pieces))

pub returns-clause-front : goal.returns-clause-front
returns-clause-front g c =
    let does = c.do_lines-count in
    let old = c.args.baton.pieces in
    front_of old does.new.baton.pieces c.args.pieces.now does.result.done (does.ensures.front
    ∙ ap (λ lines. old ++ take does.result.done lines) c.in-Ok.ensures)
