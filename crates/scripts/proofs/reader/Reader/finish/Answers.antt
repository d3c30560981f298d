use Rattle.std.proofs.lemmas.Result.{err_from_is_err_and}
use Rattle.scripts.specs.Stages.{head_of}
use Rattle.scripts.proofs.Faults.{at_end, good_at_end, fault_at_end}
use Rattle.scripts.proofs.Caused.{unasked_writes}
use Rattle.scripts.proofs.Printing.{last_line}
use Rattle.scripts.proofs.reader.Reader.finish.Goals as goal

pub returns-clause-good : goal.returns-clause-good
returns-clause-good g c =
    good_at_end c.set_up.result (head_of c.args.self.now.stage) (head_of c.end_line.new.self.stage)
    c.args.self.now.ended _ c.args.self.now.line.items c.in_ok-end_line.ensures.ahead c.set_up.ensures.good

pub returns-clause-fault : goal.returns-clause-fault
returns-clause-fault g c =
    fault_at_end c.set_up.result (head_of c.args.self.now.stage) (head_of c.end_line.new.self.stage)
    c.args.self.now.ended _ c.args.self.now.line.items c.in_ok-end_line.ensures.ahead c.set_up.ensures.fault

pub returns-in_err-end_line-clause-fault : goal.returns-in_err-end_line-clause-fault
returns-in_err-end_line-clause-fault g c =
    let p = err_from_is_err_and c.from_residual.result c.from_residual.ensures.1 in
    rw (p.1, p.2) (at_end (head_of c.args.self.now.stage) c.args.self.now.ended c.args.self.now.line.items _
    c.in_err-end_line.ensures.fault)

pub returns-clause-printed : goal.returns-clause-printed
returns-clause-printed g c =
    last_line c.set_up.result c.args.self.now.stage c.end_line.new.self.stage c.args.self.now.line.items _ _
    c.in_ok-end_line.ensures.printed

pub returns-clause-cause : goal.returns-clause-cause
returns-clause-cause g c = unasked_writes c.set_up.result _ _ c.set_up.ensures.unasked
