use Rattle.std.proofs.Common.{ℕ, List, not, filter, rules, ap, ◌∙◌}
use Rattle.std.proofs.lemmas.Fn.{filter_same}
use Rattle.casemapping.specs.Fold.{is_same}
use Rattle.channel_state.specs.Held.{Rows}
use Rattle.channel_state.proofs.masks.Masks.remove.Goals as goal

pub returns-clause-list : goal.returns-clause-list
returns-clause-list c = filter_same _ (λ (m : List ℕ). not (is_same m c.args.mask.now)) _
    (λ x b f' k. search rules) _ _ c.retain.ensures.filtered ∙ ap
    (λ (m : Rows). filter (λ (n : List ℕ). not (is_same n c.args.mask.now)) m.list) c.self.view_is
