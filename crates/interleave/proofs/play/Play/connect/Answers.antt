use Rattle.std.proofs.Common.{arith, ◌≡◌, true, ◌∷◌, [], ◌++◌, ◌+◌, List, Some, None, sym, subst}
use Rattle.std.proofs.lemmas.Grind.{common_steps}
use Rattle.interleave.specs.declared.event.Event.TheVariants as event
use Rattle.interleave.specs.Refusals.{own_refusal}
use Rattle.interleave.specs.Inbox.{Held}
use Rattle.interleave.specs.Kept.{state_of, IsKept}
use Rattle.interleave.specs.State.{State}
use Rattle.chronicle.specs.History.{sessions}
use Rattle.book.specs.Ring.{empty_ring}
use Rattle.casemapping.specs.Names.{host_shape}
use Rattle.book.specs.Ledger as book
use Rattle.interleave.specs.State.{nothing_fed}
use Rattle.interleave.proofs.Kept.{connected_kept}
use Rattle.interleave.proofs.Does.{connects}
use Rattle.interleave.proofs.play.Play.connect.Goals as goal

pub invariant_of-self-in-Ok : goal.invariant_of-self-in-Ok
invariant_of-self-in-Ok g c =
    let a = c.self.inside in let m = a.book in let boxes = a.inboxes.items in let jobs = a.jobs.items in
    let free : own_refusal (state_of m a.sendq boxes jobs a.holder) (event.Connect c.args.host.now c.args.moment)
    ≡ None = subst (λ (x : State). own_refusal x (event.Connect c.args.host.now c.args.moment) ≡ None)
    (sym c.self.view_is) c.requires.free in
    let b = c.new-inbox.result in
    let all : c.push_reserved.new.self.items ≡ boxes ++ b ∷ [] = grind (arith, common_steps) in
    let fresh : b ≡ record {
      seen = nothing_fed;
      turn = Some (record { session = sessions m.history + 1; next = 0 });
    } = grind (arith, common_steps) in
    let is : c.open-opened.new.self ≡ book.after_open m c.in_ok-host.host c.args.moment (empty_ring a.sendq) = grind
    (arith, common_steps) in
    let shape : host_shape c.in_ok-host.host ≡ true = grind (arith, common_steps) in
    subst (λ (bs : List Held). IsKept c.open-opened.new.self a.sendq bs jobs a.holder) (sym all)
    (connected_kept m c.open-opened.new.self a.sendq boxes jobs a.holder b c.in_ok-host.host c.args.moment
    c.self.invariant (connects m a.sendq boxes jobs a.holder c.args.host.now c.args.moment free) shape fresh is
    c.sound.ensures).1
