use Rattle.std.proofs.Common.{◌≡◌, ◌++◌, drop}
use Rattle.mode_commands.specs.Lines.{params_of}
use Rattle.mode_commands.proofs.mode_lines.push_params.Given as goal

abbrev pub invariant-loop-change : goal.invariant-loop-change
invariant-loop-change l = l.params.items ++ params_of (drop l.change-index l.changes)
    ≡ l.fn.params.items ++ params_of l.changes
