use Rattle.std.proofs.Common.{◌≡◌, Some, ap, sym, ◌∙◌}
use Rattle.scripts.specs.Script.{step_of}
use Rattle.scripts.specs.Stages.{head_of}
use Rattle.scripts.proofs.Faults.{after_step, at_step}
use Rattle.scripts.proofs.Caused.{unasked_writes}
use Rattle.scripts.proofs.Printing as printing
use Rattle.scripts.proofs.reader.Reader.end_line.Goals as goal

pub returns-clause-ahead : goal.returns-clause-ahead
returns-clause-ahead g c =
    let read : step_of c.args.self.now.line.items ≡ Some c.in-Ok.step = ap step_of (sym c.deref.ensures.value)
    ∙ c.in-Ok.ensures.ok in
    after_step c.step.result (head_of c.args.self.now.stage) (head_of c.step.new.self.stage) _ _
    c.args.self.now.line.items c.in-Ok.step read c.step.ensures.ended c.step.ensures.head c.step.ensures.set

pub returns-clause-fault : goal.returns-clause-fault
returns-clause-fault g c =
    let read : step_of c.args.self.now.line.items ≡ Some c.in-Ok.step = ap step_of (sym c.deref.ensures.value)
    ∙ c.in-Ok.ensures.ok in
    at_step c.step.result (head_of c.args.self.now.stage) _ c.args.self.now.line.items c.in-Ok.step read
    c.step.ensures.fault

pub returns-clause-printed : goal.returns-clause-printed
returns-clause-printed g c =
    let read : step_of c.args.self.now.line.items ≡ Some c.in-Ok.step = ap step_of (sym c.deref.ensures.value)
    ∙ c.in-Ok.ensures.ok in
    printing.after_step c.step.result c.args.self.now.stage c.step.new.self.stage c.args.self.now.line.items
    c.in-Ok.step _ _ read c.step.ensures.head c.step.ensures.performed

pub returns-in-Err-Bad-clause-cause : goal.returns-in-Err-Bad-clause-cause
returns-in-Err-Bad-clause-cause g c = unasked_writes c.header.result _ _ c.header.ensures.unasked
