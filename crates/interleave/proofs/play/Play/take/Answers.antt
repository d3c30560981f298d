use Rattle.std.proofs.Common.{◌≡◌, ℕ, slice_get, List, [], ◌∷◌, Option, Some, None, sym, subst, ap, ◌∙◌}
use Rattle.interleave.specs.declared.event.Event.TheVariants as event
use Rattle.interleave.specs.Refusals.{own_refusal}
use Rattle.interleave.specs.Inbox.{Held, held_at, with_held, with_seen}
use Rattle.deliveries.specs.declared.item.Item.{Item}
use Rattle.deliveries.specs.Items.{deliveries}
use Rattle.book.specs.Ledger.{outbox_at}
use Rattle.interleave.specs.Kept.{state_of, IsKept}
use Rattle.interleave.specs.State.{State}
use Rattle.deliveries.specs.declared.delivery.Delivery.{Delivery}
use Rattle.interleave.specs.Steps.{IsTake, step_take, with_taken}
use Rattle.interleave.specs.State.{queue_of}
use Rattle.interleave.specs.declared.event.Note.TheVariants as note
use Rattle.interleave.proofs.Kept.{took_kept, queue_here}
use Rattle.interleave.proofs.Does.{takes}
use Rattle.interleave.proofs.play.Play.take.Goals as goal

-- the first that is delivered is what the first item delivers
first_of : (q : List Item) (y : Item) → slice_get q 0 ≡ Some y → slice_get (deliveries q) 0 ≡ Some y.delivery
first_of [] y e = absurd (let f : None ≡ Some y = e in cc)
first_of (z ∷ q) y e = let f : Some z ≡ Some y = e in let zy : z ≡ y = cc in ap (λ (i : Item). Some i.delivery) zy

abbrev told : List Held → ℕ → Delivery → List Held
told boxes s x = with_held boxes s (with_seen (held_at boxes s) (with_taken (held_at boxes s).seen x))

pub invariant_of-self : goal.invariant_of-self
invariant_of-self g c =
    let a = c.self.inside in
    let m = a.book in
    let boxes = a.inboxes.items in
    let jobs = a.jobs.items in let s = c.args.session in let y = c.in-Ok.item in let x = y.delivery in
    let free : own_refusal (state_of m a.sendq boxes jobs a.holder) (event.Take s)
    ≡ None = subst (λ (x : State). own_refusal x (event.Take s) ≡ None) (sym c.self.view_is) c.requires.free in
    let in_ = takes m a.sendq boxes jobs a.holder s free in
    let front : slice_get (queue_of (state_of m a.sendq boxes jobs a.holder) s) 0
    ≡ Some x = ap (λ (xs : List Delivery). slice_get xs 0) (queue_here m a.sendq boxes jobs a.holder s in_.here)
    ∙ first_of (outbox_at m.outboxes s).queue y c.in-Ok.ensures.ok in
    subst (λ (bs : List Held). IsKept c.take-taken.new.self a.sendq bs jobs a.holder)
    (sym (c.tell_taken.ensures ∙ ap (told boxes s) c.delivery.ensures))
    (took_kept m c.take-taken.new.self a.sendq boxes jobs a.holder s x c.self.invariant in_.above in_.below in_.here
    front c.in-Ok.ensures.taken c.sound.ensures).1

pub returns-in-Ok : goal.returns-in-Ok
returns-in-Ok g c =
    let a = c.self.inside in
    let m = a.book in
    let boxes = a.inboxes.items in
    let jobs = a.jobs.items in let s = c.args.session in let y = c.in-Ok.item in let x = y.delivery in
    let free : own_refusal (state_of m a.sendq boxes jobs a.holder) (event.Take s)
    ≡ None = subst (λ (x : State). own_refusal x (event.Take s) ≡ None) (sym c.self.view_is) c.requires.free in
    let in_ = takes m a.sendq boxes jobs a.holder s free in
    let front : slice_get (queue_of (state_of m a.sendq boxes jobs a.holder) s) 0
    ≡ Some x = ap (λ (xs : List Delivery). slice_get xs 0) (queue_here m a.sendq boxes jobs a.holder s in_.here)
    ∙ first_of (outbox_at m.outboxes s).queue y c.in-Ok.ensures.ok in
    let all = took_kept m c.take-taken.new.self a.sendq boxes jobs a.holder s x c.self.invariant in_.above in_.below
    in_.here front c.in-Ok.ensures.taken c.sound.ensures in
    let new : state_of c.take-taken.new.self a.sendq c.tell_taken.new.inboxes.items jobs a.holder
    ≡ step_take c.args.self.now s x =
    ap (λ (bs : List Held). state_of c.take-taken.new.self a.sendq bs jobs a.holder) (c.tell_taken.ensures
    ∙ ap (told boxes s) c.delivery.ensures) ∙ all.0 ∙ ap (λ (y : State). step_take y s x) c.self.view_is in
    let first : slice_get (queue_of c.args.self.now s) 0 ≡ Some x = subst
    (λ (y : State). slice_get (queue_of y s) 0 ≡ Some x) c.self.view_is front in (
      c.requires.free,
      subst (λ (o : Option Delivery). IsTake c.args.self.now s o (note.Item c.into_delivery.result)
          (state_of c.take-taken.new.self a.sendq c.tell_taken.new.inboxes.items jobs a.holder)) (sym first)
          (ap (λ (d : Delivery). note.Item d) c.into_delivery.ensures, new),
    )
