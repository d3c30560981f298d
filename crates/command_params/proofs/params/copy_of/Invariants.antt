use Rattle.std.proofs.Common.{◌≡◌, ◌++◌, length}
use Rattle.command_params.proofs.Copies.{params_left}
use Rattle.command_params.proofs.params.copy_of.Given as goal

abbrev pub invariant-loop-rest : goal.invariant-loop-rest
invariant-loop-rest l = l.texts.items ++ params_left l.rest ≡ l.fn.params

abbrev pub decreases-loop-rest : goal.decreases-loop-rest
decreases-loop-rest l = length (params_left l.rest)
