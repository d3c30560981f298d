use Rattle.std.proofs.Common.{◌≡◌, drop}
use Rattle.scripts.proofs.Numbers.{read}
use Rattle.scripts.proofs.number.number.Given as goal

-- the digits so far and those that are left make the number
abbrev pub invariant-loop-octet : goal.invariant-loop-octet
invariant-loop-octet l = read l.value (drop l.octet-index l.text) ≡ read 0 l.text
