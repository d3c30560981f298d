use Rattle.std.proofs.lemmas.Grind.{common_steps}
use Rattle.std.proofs.Common.{◌≡◌, ◌<◌, ◌≤◌, length, get_or, None, arith, ◌∙◌}
use Rattle.std.proofs.lemmas.Bool.Decides.{nat_tests}
use Rattle.scripts.specs.Numbers.{with_digit}
use Rattle.scripts.proofs.Numbers.{stops, ends}
use Rattle.scripts.proofs.number.number.Goals as goal

pub returns-in_err-value : goal.returns-in_err-value
returns-in_err-value c =
    let at : c.loop-octet.octet-index < length c.args.text.now = grind (arith, common_steps) in
    let tried : with_digit c.loop-octet.value (get_or c.args.text.now c.loop-octet.octet-index 0)
    ≡ None = grind (arith, common_steps) in
    let none : c.from_residual.result ≡ None = grind (arith, common_steps) in
    none ∙ stops c.args.text.now c.loop-octet.octet-index c.loop-octet.value at c.loop-octet.invariant tried

pub returns : goal.returns
returns c =
    let some : 0 < length c.args.text.now = grind (arith, nat_tests) in
    let all : length c.args.text.now ≤ c.loop-octet.octet-index = grind (arith, nat_tests) in
    ends c.args.text.now c.loop-octet.octet-index c.loop-octet.value all some c.loop-octet.invariant
