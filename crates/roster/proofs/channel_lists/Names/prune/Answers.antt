use Rattle.std.proofs.Common.{ℕ, List, filter, rules, ap, ◌∙◌}
use Rattle.std.proofs.lemmas.Fn.{filter_same}
use Rattle.channel_state.specs.State.{among}
use Rattle.roster.specs.Row.{ChannelList}
use Rattle.roster.specs.Tables.{state_in}
use Rattle.roster.proofs.channel_lists.Names.prune.Goals as goal

pub returns-clause-notes : goal.returns-clause-notes
returns-clause-notes c =
    filter_same _ (λ (k : List ℕ). among c.args.session (state_in c.args.channels.now.list k).invited) _
    (λ x b f' k. search rules) _ _ c.retain.ensures.filtered
    ∙ ap (λ (m : ChannelList). filter
    (λ (k : List ℕ). among c.args.session (state_in c.args.channels.now.list k).invited) m.notes) c.self.view_is
