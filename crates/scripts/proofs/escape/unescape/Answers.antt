use Rattle.std.proofs.lemmas.Grind.{common_steps}
use Rattle.std.proofs.Common.{◌<◌, length, IsErrOf, arith}
use Rattle.scripts.specs.declared.script.StepFault.TheVariants.{Bad}
use Rattle.scripts.proofs.Reading.{bad_octet}
use Rattle.scripts.proofs.escape.unescape.Goals as goal

pub returns-in_err-place-clause-bad : goal.returns-in_err-place-clause-bad
returns-in_err-place-clause-bad c = λ e.
    let at : c.loop-octet.octet-index < length c.args.text.now = grind (arith, common_steps) in
    let bad : IsErrOf c.next_place.result Bad = grind (arith, common_steps) in
    bad_octet _ _ _ _ at c.loop-octet.invariant.told
    (λ rest. let none = c.next_place.ensures.bad bad rest in grind (arith, common_steps, none))
