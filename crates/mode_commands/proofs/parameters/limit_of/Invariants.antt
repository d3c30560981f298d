use Rattle.std.proofs.Common.{◌≡◌, ◌≤◌, drop}
use Rattle.mode_commands.specs.Parameters.{limit_from}
use Rattle.mode_commands.proofs.parameters.limit_of.Given as goal

abbrev pub invariant-loop-digit : goal.invariant-loop-digit
invariant-loop-digit l = record {
  bound : l.limit ≤ 65535;
  rest : limit_from l.limit (drop l.digit-index l.text) ≡ limit_from 0 l.text;
}
