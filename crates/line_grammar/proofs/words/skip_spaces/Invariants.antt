use Rattle.std.proofs.Common.{◌≡◌, length}
use Rattle.line_grammar.specs.Reading.{without_spaces}
use Rattle.line_grammar.proofs.words.skip_spaces.Given as goal

abbrev pub invariant-loop-rest : goal.invariant-loop-rest
invariant-loop-rest l = without_spaces l.rest ≡ without_spaces l.octets

abbrev pub decreases-loop-rest : goal.decreases-loop-rest
decreases-loop-rest l = length l.rest
