use Rattle.std.proofs.Common.{◌≡◌, List, ℕ, Option, None, sym, subst, refl, ap, ◌∙◌}
use Rattle.interleave.specs.declared.event.Event.TheVariants as event
use Rattle.interleave.specs.declared.worker.Place.TheVariants.{Hand}
use Rattle.interleave.specs.Refusals.{own_refusal}
use Rattle.interleave.specs.Inbox.{Held, held_at, with_held, moved_to}
use Rattle.interleave.specs.Kept.{state_of, IsKept}
use Rattle.interleave.specs.State.{State}
use Rattle.interleave.specs.Steps.{step_pick}
use Rattle.interleave.proofs.Does.{may_pick}
use Rattle.interleave.proofs.play.Play.pick.Goals as goal

pub invariant_of-self : goal.invariant_of-self
invariant_of-self g c =
    let a = c.self.inside in
    let m = a.book in
    let boxes = a.inboxes.items in let jobs = a.jobs.items in let w = c.args.worker in let s = c.args.session in
    let free : own_refusal (state_of m a.sendq boxes jobs a.holder) (event.Pick w s) ≡ None = subst
    (λ (x : State). own_refusal x (event.Pick w s) ≡ None) (sym c.self.view_is) c.requires.free in
    let all = (may_pick m a.sendq boxes jobs a.holder w s free).picks c.self.invariant in
    subst (λ (bs : List Held). IsKept m a.sendq bs c.set_job.new.jobs.items a.holder) (sym c.move_to.ensures)
    (subst (λ (js : List (Option ℕ)). IsKept m a.sendq
    (with_held boxes s (moved_to (held_at boxes s) (Hand w))) js a.holder) (sym c.set_job.ensures) all.1)

pub returns : goal.returns
returns g c =
    let a = c.self.inside in
    let m = a.book in
    let boxes = a.inboxes.items in let jobs = a.jobs.items in let w = c.args.worker in let s = c.args.session in
    let free : own_refusal (state_of m a.sendq boxes jobs a.holder) (event.Pick w s) ≡ None = subst
    (λ (x : State). own_refusal x (event.Pick w s) ≡ None) (sym c.self.view_is) c.requires.free in
    let all = (may_pick m a.sendq boxes jobs a.holder w s free).picks c.self.invariant in (
      c.requires.free,
      (
        refl,
        ap (λ (bs : List Held). state_of m a.sendq bs c.set_job.new.jobs.items a.holder) c.move_to.ensures
            ∙ ap (λ (js : List (Option ℕ)). state_of m a.sendq
            (with_held boxes s (moved_to (held_at boxes s) (Hand w))) js a.holder) c.set_job.ensures
            ∙ all.0 ∙ ap (λ (x : State). step_pick x w s) c.self.view_is,
      ),
    )
