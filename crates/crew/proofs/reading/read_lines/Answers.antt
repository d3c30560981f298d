use Rattle.std.proofs.Common.{◌≡◌, Bool, true, false, [], ap, ◌∙◌, subst}
use Rattle.line_grammar.specs.Lines.{left_by}
use Rattle.session_io.specs.Doing.{DoesRead, is_left}
use Rattle.crew.proofs.LinesRead.{begins, ends_by, ends_whole, goes_on, not_left, not_over}
use Rattle.crew.proofs.reading.read_lines.Goals as goal

pub returns-in_default-clause-lines : goal.returns-in_default-clause-lines
returns-in_default-clause-lines g c =
    let known = g.I.Read.remaining c.args.input.now in
    let old = c.args.baton.now.pieces in
    ends_whole known known old old (left_by []) false (begins known old)

pub returns-in-Over-clause-lines : goal.returns-in-Over-clause-lines
returns-in-Over-clause-lines g c =
    let known = g.I.Read.remaining in
    let took = c.read_some-took in
    ends_by (known c.args.input.now) (known c.loop.input)
    (known took.new.input) c.args.baton.now.pieces c.loop.baton.pieces took.new.baton.pieces c.loop.intake
    took.new.intake took.result.all c.loop.invariant.done c.loop.invariant.none
    (λ all. took.ensures.none_left all (ap is_left c.in-Over.is)) took.ensures.lines

pub loop-preserved : goal.loop-preserved
loop-preserved g c =
    let known = g.I.Read.remaining in
    let took = c.read_some-took in
    let all : took.result.all ≡ true = took.ensures.goes_on (not_over took.result.next c.in-More.is) in
    let none : took.new.intake.pieces
    ≡ [] = took.ensures.none_left all (not_left took.result.next took.ensures.much) in
    let read = subst (λ (b : Bool). DoesRead (known c.loop.input) (known took.new.input) c.loop.intake
    took.new.intake c.loop.baton.pieces took.new.baton.pieces b) all took.ensures.lines in
    record {
      done = goes_on (known c.args.input.now) (known c.loop.input)
          (known took.new.input) c.args.baton.now.pieces c.loop.baton.pieces took.new.baton.pieces c.loop.intake
          took.new.intake c.loop.invariant.done c.loop.invariant.none none read;
      none = none;
      session = took.ensures.session ∙ c.loop.invariant.session;
    }
