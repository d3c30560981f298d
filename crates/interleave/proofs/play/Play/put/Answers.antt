use Rattle.std.proofs.Common.{arith, ◌≡◌, Some, None, sym, subst}
use Rattle.std.proofs.lemmas.Grind.{common_steps}
use Rattle.interleave.specs.declared.event.Event.TheVariants as event
use Rattle.interleave.specs.Refusals.{own_refusal}
use Rattle.interleave.specs.Kept.{state_of}
use Rattle.interleave.specs.State.{State}
use Rattle.interleave.proofs.Does.{puts}
use Rattle.interleave.proofs.play.Play.put.Goals as goal

pub invariant_of-self : goal.invariant_of-self
invariant_of-self g c =
    let a = c.self.inside in
    let m = a.book in
    let boxes = a.inboxes.items in let jobs = a.jobs.items in let w = c.args.worker in let x = c.in-Some.field-0 in
    let free : own_refusal (state_of m a.sendq boxes jobs a.holder) (event.Put w)
    ≡ None = subst (λ (y : State). own_refusal y (event.Put w) ≡ None) (sym c.self.view_is) c.requires.free in
    let held : a.holder ≡ Some x = grind (arith, common_steps) in
    let e = c.put_next_ring-step.ensures in
    puts m c.put_next_ring-step.new.self a.sendq boxes jobs a.holder x w c.put_next_ring-step.new.plan held
    c.self.invariant free e.put e.out e.session e.next c.sound.ensures
