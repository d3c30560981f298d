use Rattle.std.proofs.Common.{ℕ, not, ◌==◌, rules, ap, ◌∙◌}
use Rattle.channel_state.specs.State.{without}
use Rattle.channel_state.proofs.Kept.{retained}
use Rattle.roster.proofs.sessions.Sessions.remove.Goals as goal

pub returns : goal.returns
returns c = retained _ (λ (t : ℕ). not (t == c.args.session)) _
    (λ x b f' y k. search rules) _ _ c.retain.ensures.filtered ∙ ap (without c.args.session) c.self.view_is
