use Rattle.std.proofs.Common.{arith, ◌≡◌, length, List, ℕ, Option, None, sym, subst, refl, ap, ◌∙◌}
use Rattle.std.proofs.lemmas.Grind.{common_steps}
use Rattle.interleave.specs.declared.event.Event.TheVariants as event
use Rattle.interleave.specs.Refusals.{own_refusal}
use Rattle.interleave.specs.Inbox.{Held, held_at, with_held, reaped_at}
use Rattle.interleave.specs.Kept.{state_of, IsKept}
use Rattle.interleave.specs.State.{State}
use Rattle.std.specs.Prelude.{OnOk, IfOk, IfErr}
use Rattle.std.proofs.lemmas.List.{length-map}
use Rattle.deliveries.specs.declared.delivery.Delivery.{Delivery}
use Rattle.deliveries.specs.declared.item.Item.{Item}
use Rattle.deliveries.specs.Items.{deliveries}
use Rattle.book.specs.Ledger.{MayReap, IsReapRefusal, outbox_at, after_reap}
use Rattle.interleave.specs.declared.event.Note.TheVariants as note
use Rattle.interleave.specs.State.{queue_of}
use Rattle.interleave.specs.declared.event.StepRefusal.{StepRefusal}
use Rattle.interleave.specs.declared.event.StepRefusal.TheVariants.{Book}
use Rattle.interleave.specs.declared.event.BookRefusal.TheVariants as by_book
use Rattle.interleave.specs.Refusals.{IsRefused}
use Rattle.interleave.specs.Steps.{IsDone, IsStep}
use Rattle.interleave.specs.Steps as steps
use Rattle.interleave.proofs.Kept.{turn_here, queue_here}
use Rattle.interleave.proofs.Does.{may_give_up}
use Rattle.interleave.proofs.play.Play.reap.Goals as goal
use Rattle.interleave.proofs.play.Play.reap.Goals.{in-Ok, in-Err}

pub invariant_of-self : goal.invariant_of-self
invariant_of-self g c =
    let a = c.self.inside in
    let m = a.book in let boxes = a.inboxes.items in let jobs = a.jobs.items in let s = c.args.session in
    let st = state_of m a.sendq boxes jobs a.holder in let k = c.reap-reaped.new.book in
    let free : own_refusal st (event.Reap s) ≡ None = subst (λ (x : State). own_refusal x (event.Reap s) ≡ None)
    (sym c.self.view_is) c.requires.free in
    let may = may_give_up m a.sendq boxes jobs a.holder s c.self.invariant free in
    let in_ = may.session in
    let held = turn_here m boxes s (held_at boxes s).seen.place c.self.invariant.turns in_.above in_.below
    in_.here refl in
    let waits : queue_of st s ≡ deliveries (outbox_at m.outboxes s).queue =
    queue_here m a.sendq boxes jobs a.holder s in_.here in
    let ok : OnOk c.reap-reaped.result (c.reap-reaped.new.inboxes.items ≡ with_held boxes s (reaped_at
    (held_at boxes s) (deliveries (outbox_at m.outboxes s).queue))) = rw held at c.reap-reaped.ensures.ok in
    let given : OnOk c.reap-reaped.result (k ≡ after_reap m s) = rw held at c.reap-reaped.ensures.book in
    elim c.match-reaped.branch [
      | in-Ok x ↦
          let new : c.reap-reaped.new.inboxes.items ≡ with_held boxes s (reaped_at (held_at boxes s)
          (deliveries (outbox_at m.outboxes s).queue)) = grind (arith, common_steps) in
          let gone : k ≡ after_reap m s = grind (arith, common_steps) in
          subst (λ (bs : List Held). IsKept k a.sendq bs jobs a.holder) (sym (new ∙ ap
          (λ (xs : List Delivery). with_held boxes s (reaped_at (held_at boxes s) xs)) (sym waits)))
          (may.gives k gone c.sound.ensures).1
      | in-Err x ↦
          let same : k ≡ m = grind (arith, common_steps) in
          let old : c.reap-reaped.new.inboxes.items ≡ boxes = grind (arith, common_steps) in
          subst (λ (bs : List Held). IsKept k a.sendq bs jobs a.holder) (sym old)
          (subst (λ n. IsKept n a.sendq boxes jobs a.holder) (sym same) c.self.invariant)
    ]

pub returns : goal.returns
returns g c =
    let a = c.self.inside in
    let m = a.book in let boxes = a.inboxes.items in let jobs = a.jobs.items in let s = c.args.session in
    let st = state_of m a.sendq boxes jobs a.holder in let k = c.reap-reaped.new.book in
    let free : own_refusal st (event.Reap s) ≡ None = subst (λ (x : State). own_refusal x (event.Reap s) ≡ None)
    (sym c.self.view_is) c.requires.free in
    let may = may_give_up m a.sendq boxes jobs a.holder s c.self.invariant free in
    let in_ = may.session in
    let held = turn_here m boxes s (held_at boxes s).seen.place c.self.invariant.turns in_.above in_.below
    in_.here refl in
    let waits : queue_of st s ≡ deliveries (outbox_at m.outboxes s).queue =
    queue_here m a.sendq boxes jobs a.holder s in_.here in
    let ok : OnOk c.reap-reaped.result (c.reap-reaped.new.inboxes.items ≡ with_held boxes s (reaped_at
    (held_at boxes s) (deliveries (outbox_at m.outboxes s).queue))) = rw held at c.reap-reaped.ensures.ok in
    let given : OnOk c.reap-reaped.result (k ≡ after_reap m s) = rw held at c.reap-reaped.ensures.book in
    let now = c.args.self.now in
    let count : IfOk c.reap-reaped.result (λ n. n ≡ length (outbox_at m.outboxes s).queue) =
    rw held at c.reap-reaped.ensures.left in
    let reaps : OnOk c.reap-reaped.result (MayReap m s) = rw held at c.reap-reaped.ensures.may in
    let refused : IfErr c.reap-reaped.result (λ e. IsReapRefusal m s e) = rw held at c.reap-reaped.ensures.refusal in
    elim c.match-reaped.branch [
      | in-Ok x ↦
          let n = x.in-Ok.count in
          let new : c.reap-reaped.new.inboxes.items ≡ with_held boxes s (reaped_at (held_at boxes s)
          (deliveries (outbox_at m.outboxes s).queue)) = grind (arith, common_steps) in
          let gone : k ≡ after_reap m s = grind (arith, common_steps) in
          let number : n ≡ length (outbox_at m.outboxes s).queue = grind (arith, common_steps) in
          let can : MayReap m s = grind (arith, common_steps) in
          let all = may.gives k gone c.sound.ensures in
          let state : state_of k a.sendq c.reap-reaped.new.inboxes.items jobs a.holder ≡ steps.step_reap st s =
          ap (λ (bs : List Held). state_of k a.sendq bs jobs a.holder) (new ∙ ap
          (λ (xs : List Delivery). with_held boxes s (reaped_at (held_at boxes s) xs)) (sym waits)) ∙ all.0 in
          subst (λ r. IsStep now (event.Reap s) r
          (state_of k a.sendq c.reap-reaped.new.inboxes.items jobs a.holder)) (sym x.result-is) (
            c.requires.free,
            subst (λ (y : State). IsDone y (event.Reap s) (note.Left n)
                (state_of k a.sendq c.reap-reaped.new.inboxes.items jobs a.holder)) c.self.view_is (
                  can,
                  ap (λ (j : ℕ). note.Left j) (number ∙ sym (length-map (outbox_at m.outboxes s).queue
                      (λ (y : Item). y.delivery)) ∙ ap length (sym waits)),
                  state,
                ),
          )
      | in-Err x ↦
          let e = x.in-Err.refusal in
          let same : k ≡ m = grind (arith, common_steps) in
          let old : c.reap-reaped.new.inboxes.items ≡ boxes = grind (arith, common_steps) in
          let why : IsReapRefusal m s e = grind (arith, common_steps) in
          let state : state_of k a.sendq c.reap-reaped.new.inboxes.items jobs a.holder ≡ now =
          ap (λ (bs : List Held). state_of k a.sendq bs jobs a.holder) old ∙ ap
          (λ n. state_of n a.sendq boxes jobs a.holder) same ∙ c.self.view_is in
          subst (λ r. IsStep now (event.Reap s) r
          (state_of k a.sendq c.reap-reaped.new.inboxes.items jobs a.holder)) (sym x.result-is) (
            subst (λ (o : Option StepRefusal). IsRefused now (event.Reap s) o (Book (by_book.Reap e)))
                (sym c.requires.free) (subst (λ (y : State). IsReapRefusal y.book s e) c.self.view_is why),
            state,
          )
    ]
