use Rattle.std.proofs.Common.{◌≡◌, drop}
use Rattle.mode_commands.specs.UserModes.{invisible_after}
use Rattle.mode_commands.proofs.user_modes.invisible_after.Given as goal

abbrev pub invariant-loop-change : goal.invariant-loop-change
invariant-loop-change l = invisible_after l.is (drop l.change-index l.changes) ≡ invisible_after l.fn.was l.changes
