use Rattle.std.proofs.Common.{◌≡◌, None, refl, sym, subst}
use Rattle.interleave.specs.declared.event.Event.TheVariants as event
use Rattle.interleave.specs.Refusals.{own_refusal}
use Rattle.interleave.specs.Kept.{state_of}
use Rattle.interleave.specs.State.{State}
use Rattle.chronicle.specs.declared.record.Kind.TheVariants as kind
use Rattle.book.specs.Ledger as book
use Rattle.interleave.proofs.Kept.{silent_kept}
use Rattle.interleave.proofs.Does.{ticks}
use Rattle.interleave.proofs.play.Play.tick.Goals as goal

pub invariant_of-self : goal.invariant_of-self
invariant_of-self g c =
    let a = c.self.inside in
    let m = a.book in
    let boxes = a.inboxes.items in let jobs = a.jobs.items in let w = c.args.worker in let p = c.in-Ok-Some.plan in
    let free : own_refusal (state_of m a.sendq boxes jobs a.holder) (event.Tick w c.args.moment) ≡ None = subst
    (λ (x : State). own_refusal x (event.Tick w c.args.moment) ≡ None) (sym c.self.view_is) c.requires.free in
    let may = ticks m a.sendq boxes jobs a.holder w c.args.moment free in
    let some : (c.begin_tick-begun.new.self ≡ book.after_begin m kind.Ticked c.args.moment)
    × book.IsOut c.begin_tick-begun.new.self p × (p.session ≡ 0)
    × (p.next ≡ None) = rw c.in-Ok-Some.field-0-is at c.in-Ok-Some.ensures.begun.some in
    silent_kept m c.begin_tick-begun.new.self a.sendq boxes jobs a.holder w kind.Ticked c.args.moment p
    (λ t. refl) tt c.self.invariant may.0.worker may.0.there may.0.lock may.1 some.0 some.1 some.3 c.sound.ensures
