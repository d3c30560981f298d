use Rattle.message_tags.proofs.ValueLemmas.{value-escaped}
use Rattle.message_tags.proofs.escaping.unescape_undoes_escape.Goals as goal

pub returns : goal.returns
returns c = value-escaped
