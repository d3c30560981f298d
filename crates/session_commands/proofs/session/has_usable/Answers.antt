use Rattle.std.proofs.Common.{◌∙◌}
use Rattle.session_commands.proofs.UserNames.{name_present}
use Rattle.session_commands.proofs.session.has_usable.Goals as goal

pub returns : goal.returns
returns c = c.has_user_octet.ensures ∙ name_present c.args.user.now
