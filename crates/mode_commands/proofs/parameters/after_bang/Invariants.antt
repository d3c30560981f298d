use Rattle.std.proofs.Common.{◌≡◌, drop}
use Rattle.mode_commands.specs.Parameters.{after_bang}
use Rattle.mode_commands.proofs.parameters.after_bang.Given as goal

abbrev pub invariant-loop-place : goal.invariant-loop-place
invariant-loop-place l = after_bang (drop l.place l.mask) ≡ after_bang l.mask
