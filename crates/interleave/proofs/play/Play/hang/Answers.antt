use Rattle.std.proofs.Common.{arith, ◌≡◌, None, sym, subst}
use Rattle.std.proofs.lemmas.Grind.{common_steps}
use Rattle.interleave.specs.declared.event.Event.TheVariants as event
use Rattle.interleave.specs.Refusals.{own_refusal}
use Rattle.interleave.specs.Kept.{state_of, IsKept}
use Rattle.interleave.specs.State.{State}
use Rattle.interleave.proofs.Kept.{hung_kept}
use Rattle.interleave.proofs.Does.{hangs}
use Rattle.interleave.proofs.play.Play.hang.Goals as goal
use Rattle.interleave.proofs.play.Play.hang.Goals.{in-Ok, in-Err}

pub invariant_of-self : goal.invariant_of-self
invariant_of-self g c =
    let a = c.self.inside in
    let m = a.book in
    let boxes = a.inboxes.items in let jobs = a.jobs.items in let w = c.args.worker in let s = c.args.session in
    let free : own_refusal (state_of m a.sendq boxes jobs a.holder) (event.Hang w s c.args.why c.args.moment)
    ≡ None = subst (λ (x : State). own_refusal x (event.Hang w s c.args.why c.args.moment) ≡ None)
    (sym c.self.view_is) c.requires.free in
    elim c.match-hung.branch [
      | in-Ok x ↦ hung_kept m c.hang_ring-hung.new.self a.sendq boxes jobs a.holder s c.args.why c.args.moment
          c.self.invariant (hangs m a.sendq boxes jobs a.holder w s c.args.why c.args.moment free)
          (grind (arith, common_steps)) c.sound.ensures
      | in-Err x ↦ let same : c.hang_ring-hung.new.self ≡ m = grind (arith, common_steps) in
          subst (λ n. IsKept n a.sendq boxes jobs a.holder) (sym same) c.self.invariant
    ]
