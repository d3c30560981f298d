use Rattle.std.proofs.Common.{◌-◌, length}
use Rattle.line_grammar.proofs.Middles.{LeavesParameters}
use Rattle.line_grammar.proofs.grammar.read_parameters.Given as goal

abbrev pub invariant-loop-rest : goal.invariant-loop-rest
invariant-loop-rest l = LeavesParameters l.octets l.found.items l.rest

abbrev pub decreases-loop-rest : goal.decreases-loop-rest
decreases-loop-rest l = 14 - length l.found.items
