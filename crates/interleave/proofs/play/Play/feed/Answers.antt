use Rattle.std.proofs.Common.{arith, ◌≡◌, List, ℕ, None, sym, subst, ap, ◌∙◌}
use Rattle.std.proofs.lemmas.Grind.{common_steps}
use Rattle.interleave.specs.declared.event.Event.TheVariants as event
use Rattle.interleave.specs.Refusals.{own_refusal}
use Rattle.interleave.specs.Inbox.{Held, held_at, with_held}
use Rattle.interleave.specs.Kept.{state_of, IsKept}
use Rattle.interleave.specs.State.{State}
use Rattle.interleave.specs.Inbox.{IsRead}
use Rattle.interleave.specs.Steps.{IsFeed}
use Rattle.interleave.specs.declared.event.Note.TheVariants as note
use Rattle.interleave.proofs.Kept.{fed_lines, fed_kept}
use Rattle.interleave.proofs.Does.{feeds}
use Rattle.interleave.proofs.play.Play.feed.Goals as goal

pub invariant_of-self-2 : goal.invariant_of-self-2
invariant_of-self-2 g c =
    let a = c.self.inside in
    let m = a.book in let boxes = a.inboxes.items in let jobs = a.jobs.items in let s = c.args.session in
    let free : own_refusal (state_of m a.sendq boxes jobs a.holder) (event.Feed s c.args.octets.now)
    ≡ None = subst (λ (x : State). own_refusal x (event.Feed s c.args.octets.now) ≡ None)
    (sym c.self.view_is) c.requires.free in
    let in_ = feeds m a.sendq boxes jobs a.holder s c.args.octets.now free in
    let read : (b : Held) × IsRead (held_at boxes s) c.args.octets.now c.in_ok-read.read b
    × (c.feed.new.inboxes.items ≡ with_held boxes s b) = grind (arith, common_steps) in
    subst (λ (bs : List Held). IsKept m a.sendq bs jobs a.holder) (sym read.2) (fed_kept m a.sendq boxes jobs
    a.holder s c.args.octets.now c.in_ok-read.read read.0 c.self.invariant in_.above in_.below read.1).1

pub returns : goal.returns
returns g c =
    let a = c.self.inside in
    let m = a.book in let boxes = a.inboxes.items in let jobs = a.jobs.items in let s = c.args.session in
    let free : own_refusal (state_of m a.sendq boxes jobs a.holder) (event.Feed s c.args.octets.now)
    ≡ None = subst (λ (x : State). own_refusal x (event.Feed s c.args.octets.now) ≡ None)
    (sym c.self.view_is) c.requires.free in
    let in_ = feeds m a.sendq boxes jobs a.holder s c.args.octets.now free in
    let read : (b : Held) × IsRead (held_at boxes s) c.args.octets.now c.in_ok-read.read b
    × (c.feed.new.inboxes.items ≡ with_held boxes s b) = grind (arith, common_steps) in
    let all = fed_kept m a.sendq boxes jobs a.holder s c.args.octets.now c.in_ok-read.read read.0 c.self.invariant
    in_.above in_.below read.1 in
    let st = state_of m a.sendq boxes jobs a.holder in (
      c.requires.free,
      subst (λ (x : State). IsFeed x s c.args.octets.now (note.Read c.in_ok-read.read)
          (state_of m a.sendq c.feed.new.inboxes.items jobs a.holder)) c.self.view_is (
            read.1.added,
            fed_lines m a.sendq boxes jobs a.holder s c.args.octets.now c.in_ok-read.read read.0 read.1,
            ap (λ (n : ℕ). note.Read n) read.1.number,
            ap (λ (bs : List Held). state_of m a.sendq bs jobs a.holder) read.2 ∙ all.0,
          ),
    )
