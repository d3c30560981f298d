use Rattle.std.proofs.Common.{◌≡◌, ℕ, not, ◌==◌, slice_get, Option, Some, IfSome, rules, ◌∙◌, subst}
use Rattle.channel_state.proofs.Kept.{retained}
use Rattle.channel_state.proofs.Once.{removed}
use Rattle.channel_state.proofs.members.take_out.Goals as goal

pub returns-in-Some-clause-items : goal.returns-in-Some-clause-items
returns-in-Some-clause-items c =
    let ts = c.args.sessions.now.items in let s = c.args.session in
    let at = subst (λ (p : Option ℕ). IfSome p (λ i. slice_get ts i ≡ Some s)) c.in-Some.is c.requires.place in
    c.remove.ensures.items ∙ removed c.in-Some.place s ts c.requires.once at

pub returns-in-None-clause-items : goal.returns-in-None-clause-items
returns-in-None-clause-items c = retained _ (λ (t : ℕ). not (t == c.args.session)) _
    (λ x b f' y k. search rules) _ _ c.retain.ensures.filtered
