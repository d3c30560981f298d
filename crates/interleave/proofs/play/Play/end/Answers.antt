use Rattle.std.proofs.Common.{arith, ◌≡◌, ◌+◌, ◌-◌, slice_index_or, List, ℕ, Option}
use Rattle.std.proofs.Common.{Some, None, sym, subst, refl, ap, ◌∙◌}
use Rattle.std.proofs.lemmas.Grind.{common_steps}
use Rattle.interleave.specs.declared.event.Event.TheVariants as event
use Rattle.interleave.specs.Refusals.{own_refusal}
use Rattle.interleave.specs.Inbox.{Held, held_at, with_held, ended_at}
use Rattle.interleave.specs.Kept.{state_of, IsKept}
use Rattle.interleave.specs.State.{State, job_of}
use Rattle.interleave.specs.declared.play.Holder.{Holder}
use Rattle.std.specs.Prelude.{IsSome, IfSome}
use Rattle.chronicle.specs.History.{shut}
use Rattle.book.specs.Ledger.{Turn, newest_actor}
use Rattle.interleave.specs.declared.event.Note.TheVariants as note
use Rattle.interleave.specs.Steps.{step_end, IsEnd}
use Rattle.interleave.proofs.Ended.{line_is_shut}
use Rattle.interleave.proofs.Does.{MayEnd, may_end, ends_sweep, plan_goes, ends_line}
use Rattle.interleave.proofs.play.Play.end.Goals as goal

pub invariant_of-self : goal.invariant_of-self
invariant_of-self g c =
    let a = c.self.inside in
    let m = a.book in
    let boxes = a.inboxes.items in let jobs = a.jobs.items in let w = c.args.worker in let x = c.in-Some.field-0 in
    let free : own_refusal (state_of m a.sendq boxes jobs a.holder) (event.End w)
    ≡ None = subst (λ (y : State). own_refusal y (event.End w) ≡ None) (sym c.self.view_is) c.requires.free in
    let held : a.holder ≡ Some x = grind (arith, common_steps) in
    let may : MayEnd m a.sendq boxes jobs x w = may_end m a.sendq boxes jobs a.holder x w held c.self.invariant free in
    let none : slice_index_or jobs (w - 1) None ≡ None = grind (arith, common_steps) in
    let gone : c.take.new.self ≡ None = grind (arith, common_steps) in
    subst (λ (o : Option Holder). IsKept c.finish-done.new.book a.sendq boxes jobs o) (sym gone)
    (ends_sweep m c.finish-done.new.book a.sendq boxes jobs x w may none c.finish-done.ensures.book c.sound.ensures)

pub end-done-requires-clause-none : goal.end-done-requires-clause-none
end-done-requires-clause-none g c =
    let a = c.self.inside in
    let m = a.book in
    let boxes = a.inboxes.items in let jobs = a.jobs.items in let w = c.args.worker in let x = c.in-Some.field-0 in
    let free : own_refusal (state_of m a.sendq boxes jobs a.holder) (event.End w)
    ≡ None = subst (λ (y : State). own_refusal y (event.End w) ≡ None) (sym c.self.view_is) c.requires.free in
    let held : a.holder ≡ Some x = grind (arith, common_steps) in
    (may_end m a.sendq boxes jobs a.holder x w held c.self.invariant free).none

pub end-done-requires-clause-baton : goal.end-done-requires-clause-baton
end-done-requires-clause-baton g c =
    let a = c.self.inside in
    let m = a.book in
    let boxes = a.inboxes.items in
    let jobs = a.jobs.items in let w = c.args.worker in let x = c.in-Some.field-0 in let s = c.in-Some-job.session in
    let free : own_refusal (state_of m a.sendq boxes jobs a.holder) (event.End w)
    ≡ None = subst (λ (y : State). own_refusal y (event.End w) ≡ None) (sym c.self.view_is) c.requires.free in
    let held : a.holder ≡ Some x = grind (arith, common_steps) in
    let may : MayEnd m a.sendq boxes jobs x w = may_end m a.sendq boxes jobs a.holder x w held c.self.invariant free in
    let has : job_of (state_of m a.sendq boxes jobs a.holder) w ≡ Some s = subst
    (λ (y : State). job_of y w ≡ Some s) (sym c.self.view_is) (sym c.job-job.ensures ∙ c.in-Some-job.is) in
    let l = plan_goes m a.sendq boxes jobs x w s may has in
    subst IsSome (sym l.held) refl

pub end-done-requires-clause-line : goal.end-done-requires-clause-line
end-done-requires-clause-line g c =
    let a = c.self.inside in
    let m = a.book in
    let boxes = a.inboxes.items in
    let jobs = a.jobs.items in let w = c.args.worker in let x = c.in-Some.field-0 in let s = c.in-Some-job.session in
    let free : own_refusal (state_of m a.sendq boxes jobs a.holder) (event.End w)
    ≡ None = subst (λ (y : State). own_refusal y (event.End w) ≡ None) (sym c.self.view_is) c.requires.free in
    let held : a.holder ≡ Some x = grind (arith, common_steps) in
    let may : MayEnd m a.sendq boxes jobs x w = may_end m a.sendq boxes jobs a.holder x w held c.self.invariant free in
    let has : job_of (state_of m a.sendq boxes jobs a.holder) w ≡ Some s = subst
    (λ (y : State). job_of y w ≡ Some s) (sym c.self.view_is) (sym c.job-job.ensures ∙ c.in-Some-job.is) in
    let l = plan_goes m a.sendq boxes jobs x w s may has in
    subst (λ (o : Option Turn). IfSome o
    (λ turn. (x.plan.session ≡ turn.session) × (x.plan.next ≡ Some (turn.next + 1)))) (sym l.held) l.plan

pub invariant_of-self-2 : goal.invariant_of-self-2
invariant_of-self-2 g c =
    let a = c.self.inside in
    let m = a.book in
    let boxes = a.inboxes.items in
    let jobs = a.jobs.items in let w = c.args.worker in let x = c.in-Some.field-0 in let s = c.in-Some-job.session in
    let free : own_refusal (state_of m a.sendq boxes jobs a.holder) (event.End w)
    ≡ None = subst (λ (y : State). own_refusal y (event.End w) ≡ None) (sym c.self.view_is) c.requires.free in
    let held : a.holder ≡ Some x = grind (arith, common_steps) in
    let may : MayEnd m a.sendq boxes jobs x w = may_end m a.sendq boxes jobs a.holder x w held c.self.invariant free in
    let has : job_of (state_of m a.sendq boxes jobs a.holder) w ≡ Some s = subst
    (λ (y : State). job_of y w ≡ Some s) (sym c.self.view_is) (sym c.job-job.ensures ∙ c.in-Some-job.is) in
    let l = plan_goes m a.sendq boxes jobs x w s may has in
    let k = c.end-done.new.book in
    let all = ends_line m k a.sendq boxes jobs x w s may has l c.end-done.ensures.book c.sound-2.ensures in
    let gone : c.take.new.self ≡ None = grind (arith, common_steps) in
    let new : c.end-done.new.inboxes.items ≡ with_held boxes s (ended_at (held_at boxes s) l.turn) =
    rw l.held at c.end-done.ensures.inboxes in
    subst (λ (o : Option Holder). IsKept k a.sendq c.end-done.new.inboxes.items c.set_job.new.jobs.items o) (sym gone)
    (subst (λ (bs : List Held). IsKept k a.sendq bs c.set_job.new.jobs.items None) (sym new)
    (subst (λ (js : List (Option ℕ)). IsKept k a.sendq
    (with_held boxes s (ended_at (held_at boxes s) l.turn)) js None) (sym c.set_job.ensures) all.1))

pub returns : goal.returns
returns g c =
    let a = c.self.inside in
    let m = a.book in
    let boxes = a.inboxes.items in
    let jobs = a.jobs.items in let w = c.args.worker in let x = c.in-Some.field-0 in let s = c.in-Some-job.session in
    let free : own_refusal (state_of m a.sendq boxes jobs a.holder) (event.End w)
    ≡ None = subst (λ (y : State). own_refusal y (event.End w) ≡ None) (sym c.self.view_is) c.requires.free in
    let held : a.holder ≡ Some x = grind (arith, common_steps) in
    let may : MayEnd m a.sendq boxes jobs x w = may_end m a.sendq boxes jobs a.holder x w held c.self.invariant free in
    let has : job_of (state_of m a.sendq boxes jobs a.holder) w ≡ Some s = subst
    (λ (y : State). job_of y w ≡ Some s) (sym c.self.view_is) (sym c.job-job.ensures ∙ c.in-Some-job.is) in
    let l = plan_goes m a.sendq boxes jobs x w s may has in
    let k = c.end-done.new.book in let d = c.end-done.result in
    let all = ends_line m k a.sendq boxes jobs x w s may has l c.end-done.ensures.book c.sound-2.ensures in
    let gone : c.take.new.self ≡ None = grind (arith, common_steps) in
    let new : c.end-done.new.inboxes.items ≡ with_held boxes s (ended_at (held_at boxes s) l.turn) =
    rw l.held at c.end-done.ensures.inboxes in
    let st = state_of m a.sendq boxes jobs a.holder in
    let is_shut : d.shut ≡ shut m.history l.turn.session = rw l.held at c.end-done.ensures.shut in
    let actor : l.turn.session ≡ newest_actor m.history = sym l.plan.0 ∙ may.kept.holding.0.session in
    let state : state_of k a.sendq c.end-done.new.inboxes.items c.set_job.new.jobs.items c.take.new.self
    ≡ step_end st w (job_of st w) =
    ap (λ (o : Option Holder). state_of k a.sendq c.end-done.new.inboxes.items c.set_job.new.jobs.items o) gone
    ∙ ap (λ (bs : List Held). state_of k a.sendq bs c.set_job.new.jobs.items None) new
    ∙ ap (λ (js : List (Option ℕ)). state_of k a.sendq
    (with_held boxes s (ended_at (held_at boxes s) l.turn)) js None) c.set_job.ensures
    ∙ all.0 ∙ ap (λ (o : Option ℕ). step_end st w o) (sym has) in (
      c.requires.free,
      subst (λ (y : State). IsEnd y w (note.Done d)
          (state_of k a.sendq c.end-done.new.inboxes.items c.set_job.new.jobs.items c.take.new.self)) c.self.view_is (
            d,
            refl,
            c.end-done.ensures.number,
            c.end-done.ensures.missed,
            is_shut ∙ ap (shut m.history) actor
                ∙ line_is_shut m.history (l.turn.next + 1) (sym may.kept.holding.0.next ∙ l.plan.1),
            state,
          ),
    )
