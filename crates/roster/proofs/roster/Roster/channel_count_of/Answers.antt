use Rattle.std.proofs.Common.{length, ap, ◌∙◌}
use Rattle.roster.specs.Known.{Known}
use Rattle.roster.specs.LookBack.{channel_count}
use Rattle.roster.proofs.OwnChannels.{count_is}
use Rattle.roster.proofs.roster.Roster.channel_count_of.Goals as goal

pub returns : goal.returns
returns c =
    let r = c.self.inside in let s = c.args.session in
    ap length (c.names.ensures ∙ c.self.invariant.1.lists s) ∙ count_is r.channels.list r.facts.value
    c.self.invariant.0.channels s ∙ ap (λ (k : Known). channel_count k.facts s) c.self.view_is
