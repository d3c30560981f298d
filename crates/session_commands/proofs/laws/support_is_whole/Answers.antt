use Rattle.session_commands.proofs.Support.{whole}
use Rattle.session_commands.proofs.laws.support_is_whole.Goals as goal

pub returns : goal.returns
returns c = whole
