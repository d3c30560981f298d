use Rattle.std.proofs.Common.{length, sym, ap, ◌∙◌}
use Rattle.roster.specs.Known.{Known}
use Rattle.roster.specs.LookBack.{channels}
use Rattle.roster.proofs.ChannelNames.{names_of-length}
use Rattle.roster.proofs.roster.Roster.channel_count.Goals as goal

pub returns : goal.returns
returns c =
    let r = c.self.inside in
    c.len.ensures ∙ sym (ap (λ (k : Known). length (channels k.facts)) (sym c.self.view_is)
    ∙ ap length c.self.invariant.0.channels.channels ∙ names_of-length r.channels.list)
