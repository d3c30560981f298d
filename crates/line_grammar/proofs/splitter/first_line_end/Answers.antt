use Rattle.line_grammar.specs.Lines.{is_line_end}
use Rattle.line_grammar.proofs.Found.{first_is_position}
use Rattle.line_grammar.proofs.splitter.first_line_end.Goals as goal

pub returns : goal.returns
returns c = first_is_position is_line_end c.args.octets.now c.memchr2.result c.memchr2.ensures
