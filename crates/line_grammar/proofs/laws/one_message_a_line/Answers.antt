use Rattle.line_grammar.proofs.Spelled.{one_message}
use Rattle.line_grammar.proofs.laws.one_message_a_line.Goals as goal

pub returns : goal.returns
returns c = one_message
