use Rattle.std.proofs.Common.{◌≡◌, List, ℕ, Option, Some, None, sym, subst, refl, ap, ◌∙◌}
use Rattle.interleave.specs.declared.event.Event.TheVariants as event
use Rattle.interleave.specs.declared.worker.Place.TheVariants.{Home}
use Rattle.interleave.specs.Refusals.{own_refusal}
use Rattle.interleave.specs.Inbox.{Held, held_at, with_held, moved_to}
use Rattle.interleave.specs.Kept.{state_of, IsKept}
use Rattle.interleave.specs.State.{State, job_of}
use Rattle.interleave.specs.Steps.{IsBack, back}
use Rattle.interleave.specs.declared.event.Note.TheVariants as note
use Rattle.interleave.proofs.Does.{may_give_back}
use Rattle.interleave.proofs.play.Play.back.Goals as goal

-- JOB
pub move_to-requires-clause-from_1 : goal.move_to-requires-clause-from_1
move_to-requires-clause-from_1 g c = let a = c.self.inside in
    let free : own_refusal (state_of a.book a.sendq a.inboxes.items a.jobs.items a.holder)
    (event.Back c.args.worker) ≡ None = subst (λ (x : State). own_refusal x (event.Back c.args.worker) ≡ None)
    (sym c.self.view_is) c.requires.free in
    let has : job_of (state_of a.book a.sendq a.inboxes.items a.jobs.items a.holder) c.args.worker
    ≡ Some c.in-Some.session = subst (λ (x : State). job_of x c.args.worker ≡ Some c.in-Some.session)
    (sym c.self.view_is) (sym c.job.ensures ∙ c.in-Some.is) in
    (may_give_back a.book a.sendq a.inboxes.items a.jobs.items a.holder c.args.worker c.in-Some.session
    c.self.invariant free has).session.above

pub move_to-requires-clause-opened : goal.move_to-requires-clause-opened
move_to-requires-clause-opened g c = let a = c.self.inside in
    let free : own_refusal (state_of a.book a.sendq a.inboxes.items a.jobs.items a.holder)
    (event.Back c.args.worker) ≡ None = subst (λ (x : State). own_refusal x (event.Back c.args.worker) ≡ None)
    (sym c.self.view_is) c.requires.free in
    let has : job_of (state_of a.book a.sendq a.inboxes.items a.jobs.items a.holder) c.args.worker
    ≡ Some c.in-Some.session = subst (λ (x : State). job_of x c.args.worker ≡ Some c.in-Some.session)
    (sym c.self.view_is) (sym c.job.ensures ∙ c.in-Some.is) in
    (may_give_back a.book a.sendq a.inboxes.items a.jobs.items a.holder c.args.worker c.in-Some.session
    c.self.invariant free has).session.below

pub invariant_of-self : goal.invariant_of-self
invariant_of-self g c =
    let a = c.self.inside in
    let m = a.book in
    let boxes = a.inboxes.items in let jobs = a.jobs.items in let w = c.args.worker in let s = c.in-Some.session in
    let free : own_refusal (state_of m a.sendq boxes jobs a.holder) (event.Back w)
    ≡ None = subst (λ (x : State). own_refusal x (event.Back w) ≡ None) (sym c.self.view_is) c.requires.free in
    let has : job_of (state_of m a.sendq boxes jobs a.holder) w ≡ Some s = subst
    (λ (x : State). job_of x w ≡ Some s) (sym c.self.view_is) (sym c.job.ensures ∙ c.in-Some.is) in
    let all = (may_give_back m a.sendq boxes jobs a.holder w s c.self.invariant free has).gives in
    subst (λ (bs : List Held). IsKept m a.sendq bs c.set_job.new.jobs.items a.holder) (sym c.move_to.ensures)
    (subst (λ (js : List (Option ℕ)). IsKept m a.sendq
    (with_held boxes s (moved_to (held_at boxes s) Home)) js a.holder) (sym c.set_job.ensures) all.1)

pub returns : goal.returns
returns g c =
    let a = c.self.inside in
    let m = a.book in
    let boxes = a.inboxes.items in let jobs = a.jobs.items in let w = c.args.worker in let s = c.in-Some.session in
    let free : own_refusal (state_of m a.sendq boxes jobs a.holder) (event.Back w)
    ≡ None = subst (λ (x : State). own_refusal x (event.Back w) ≡ None) (sym c.self.view_is) c.requires.free in
    let has : job_of (state_of m a.sendq boxes jobs a.holder) w ≡ Some s = subst
    (λ (x : State). job_of x w ≡ Some s) (sym c.self.view_is) (sym c.job.ensures ∙ c.in-Some.is) in
    let all = (may_give_back m a.sendq boxes jobs a.holder w s c.self.invariant free has).gives in
    let new : state_of m a.sendq c.move_to.new.inboxes.items c.set_job.new.jobs.items a.holder
    ≡ back c.args.self.now w s =
    ap (λ (bs : List Held). state_of m a.sendq bs c.set_job.new.jobs.items a.holder) c.move_to.ensures
    ∙ ap (λ (js : List (Option ℕ)). state_of m a.sendq
    (with_held boxes s (moved_to (held_at boxes s) Home)) js a.holder) c.set_job.ensures
    ∙ all.0 ∙ ap (λ (x : State). back x w s) c.self.view_is in (
      c.requires.free,
      subst (λ (o : Option ℕ). IsBack c.args.self.now w o note.Back (state_of m a.sendq c.move_to.new.inboxes.items
          c.set_job.new.jobs.items a.holder)) (sym (sym c.job.ensures ∙ c.in-Some.is)) (refl, new),
    )
