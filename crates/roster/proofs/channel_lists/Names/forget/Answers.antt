use Rattle.std.proofs.Common.{ℕ, List, not, rules, ap, ◌∙◌}
use Rattle.std.proofs.lemmas.Fn.{filter_same}
use Rattle.casemapping.specs.Fold.{is_same}
use Rattle.roster.specs.Row.{ChannelList}
use Rattle.roster.specs.LookBack.{without_name}
use Rattle.roster.proofs.channel_lists.Names.forget.Goals as goal

pub returns-clause-notes : goal.returns-clause-notes
returns-clause-notes c = filter_same _ (λ (m : List ℕ). not (is_same m c.args.name.now)) _
    (λ x b f' k. search rules) _ _ c.retain.ensures.filtered ∙ ap
    (λ (m : ChannelList). without_name c.args.name.now m.notes) c.self.view_is
