use Rattle.std.proofs.Common.{ap, ◌∙◌}
use Rattle.roster.proofs.OwnChannels.{has, own_any}
use Rattle.roster.proofs.roster.Roster.is_on.Goals as goal

pub returns : goal.returns
returns c = c.has_name.ensures ∙ ap (has c.args.channel.now) c.channels_of.ensures
    ∙ own_any c.args.self.now.facts c.args.session c.args.channel.now
