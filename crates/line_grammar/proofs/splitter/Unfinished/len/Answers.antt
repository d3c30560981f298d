use Rattle.std.proofs.Common.{arith}
use Rattle.line_grammar.proofs.Lengths.{length-bound}
use Rattle.line_grammar.proofs.splitter.Unfinished.len.Goals as goal

pub returns-clause-bound : goal.returns-clause-bound
returns-clause-bound c = omega (arith, length-bound c.self.inside.octets.items c.self.invariant.1, c.len.ensures)
