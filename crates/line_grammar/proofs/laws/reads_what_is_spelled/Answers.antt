use Rattle.line_grammar.proofs.Spelled.{reads_is_reading, reading_is_reads}
use Rattle.line_grammar.proofs.laws.reads_what_is_spelled.Goals as goal

pub returns : goal.returns
returns c = λ line message. (reading_is_reads line message, reads_is_reading line message)
