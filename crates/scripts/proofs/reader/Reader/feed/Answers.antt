use Rattle.std.proofs.lemmas.Grind.{common_steps}
use Rattle.std.proofs.Common.{◌<◌, ◌∙◌, length, arith}
use Rattle.std.proofs.lemmas.Result.{err_from_is_err_and}
use Rattle.scripts.specs.Lines.{check_ahead}
use Rattle.scripts.specs.Printed.{PrintsAhead}
use Rattle.scripts.proofs.Faults.{at_octet, octet_on}
use Rattle.scripts.proofs.Caused.{writes_from}
use Rattle.scripts.proofs.Printing.{one_on}
use Rattle.scripts.specs.Stages.{head_of}
use Rattle.scripts.proofs.reader.Reader.feed.Goals as goal

pub returns-in_err-take_octet-clause-fault : goal.returns-in_err-take_octet-clause-fault
returns-in_err-take_octet-clause-fault g c =
    let at : c.loop-octet.octet-index < length c.args.block.now = grind (arith, common_steps) in
    let p = err_from_is_err_and c.from_residual.result c.from_residual.ensures.1 in
    rw (p.1, p.2) (at_octet c.args.block.now c.loop-octet.octet-index
    (check_ahead (head_of c.args.self.now.stage) c.args.self.now.ended c.args.self.now.line.items)
    (check_ahead (head_of c.loop-octet.self.stage) c.loop-octet.self.ended c.loop-octet.self.line.items) _ at
    c.loop-octet.invariant.ahead c.in_err-take_octet.ensures.fault)

pub loop-octet-preserved : goal.loop-octet-preserved
loop-octet-preserved g c =
    let at : c.loop-octet.octet-index < length c.args.block.now = grind (arith, common_steps) in
    record {
      ready = c.in_ok-take_octet.ensures.ready;
      same = c.in_ok-take_octet.ensures.same ∙ c.loop-octet.invariant.same;
      ended = omega (arith, c.in_ok-take_octet.ensures.ended);
      ahead = octet_on c.args.block.now c.loop-octet.octet-index
          (check_ahead (head_of c.args.self.now.stage) c.args.self.now.ended c.args.self.now.line.items)
          (check_ahead (head_of c.loop-octet.self.stage) c.loop-octet.self.ended c.loop-octet.self.line.items)
          (check_ahead (head_of c.take_octet.new.self.stage) c.take_octet.new.self.ended
          c.take_octet.new.self.line.items) at c.loop-octet.invariant.ahead c.in_ok-take_octet.ensures.ahead;
      printed = one_on c.args.block.now c.loop-octet.octet-index (PrintsAhead c.args.self.now.stage
          c.args.self.now.line.items) (PrintsAhead c.loop-octet.self.stage c.loop-octet.self.line.items)
          (PrintsAhead c.take_octet.new.self.stage c.take_octet.new.self.line.items) _ _ _ at
          c.loop-octet.invariant.printed c.in_ok-take_octet.ensures.printed;
    }

pub returns-in_err-take_octet-clause-cause : goal.returns-in_err-take_octet-clause-cause
returns-in_err-take_octet-clause-cause g c =
    let p = err_from_is_err_and c.from_residual.result c.from_residual.ensures.1 in
    rw (p.1, p.2) (writes_from _ _ _ _ c.loop-octet.invariant.same c.in_err-take_octet.ensures.cause)
