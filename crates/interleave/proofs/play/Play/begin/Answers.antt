use Rattle.std.proofs.Common.{arith, ◌≡◌, ◌+◌, length, List, ℕ, Option, Some, None, sym, subst, refl, ap, ◌∙◌}
use Rattle.std.proofs.lemmas.Grind.{common_steps}
use Rattle.interleave.specs.declared.event.Event.TheVariants as event
use Rattle.interleave.specs.Refusals.{own_refusal, turn_of}
use Rattle.interleave.specs.Inbox.{Held, held_at, with_held}
use Rattle.interleave.specs.Kept.{state_of, IsKept}
use Rattle.interleave.specs.State.{Seen, State, job_of}
use Rattle.std.specs.Prelude.{IsSome, IfErr, Err}
use Rattle.interleave.specs.declared.event.Note.TheVariants as note
use Rattle.interleave.specs.declared.event.StepRefusal.{StepRefusal}
use Rattle.book.specs.Ledger.{Turn, MayBegin}
use Rattle.interleave.specs.Inbox.{IsBegun}
use Rattle.interleave.specs.Refusals.{IsLineRefused, IsBeginRefused, IsRefused}
use Rattle.interleave.specs.Steps.{step_begin, IsBegin, IsStep}
use Rattle.interleave.proofs.Kept.{job_is, turn_in_hand, pending_in_hand, begun_kept, seen_is}
use Rattle.interleave.proofs.Does.{begins}
use Rattle.interleave.proofs.play.Play.begin.Goals as goal

pub begin-requires-clause-from_1 : goal.begin-requires-clause-from_1
begin-requires-clause-from_1 g c =
    let a = c.self.inside in
    let m = a.book in
    let boxes = a.inboxes.items in let jobs = a.jobs.items in let w = c.args.worker in let s = c.in-Some.session in
    let st = state_of m a.sendq boxes jobs a.holder in
    let free : own_refusal st (event.Begin w c.args.moment) ≡ None = subst
    (λ (y : State). own_refusal y (event.Begin w c.args.moment) ≡ None) (sym c.self.view_is) c.requires.free in
    let may = begins m a.sendq boxes jobs a.holder w c.args.moment free in
    let has : job_of st w ≡ Some s = subst (λ (y : State). job_of y w ≡ Some s) (sym c.self.view_is)
    (sym c.job.ensures ∙ c.in-Some.is) in
    (job_is m a.sendq boxes jobs a.holder w s c.self.invariant.sound may.worker has).above

pub begin-requires-clause-opened : goal.begin-requires-clause-opened
begin-requires-clause-opened g c =
    let a = c.self.inside in
    let m = a.book in
    let boxes = a.inboxes.items in let jobs = a.jobs.items in let w = c.args.worker in let s = c.in-Some.session in
    let st = state_of m a.sendq boxes jobs a.holder in
    let free : own_refusal st (event.Begin w c.args.moment) ≡ None = subst
    (λ (y : State). own_refusal y (event.Begin w c.args.moment) ≡ None) (sym c.self.view_is) c.requires.free in
    let may = begins m a.sendq boxes jobs a.holder w c.args.moment free in
    let has : job_of st w ≡ Some s = subst (λ (y : State). job_of y w ≡ Some s) (sym c.self.view_is)
    (sym c.job.ensures ∙ c.in-Some.is) in
    (job_is m a.sendq boxes jobs a.holder w s c.self.invariant.sound may.worker has).below

pub begin-requires-clause-baton : goal.begin-requires-clause-baton
begin-requires-clause-baton g c =
    let a = c.self.inside in
    let m = a.book in
    let boxes = a.inboxes.items in let jobs = a.jobs.items in let w = c.args.worker in let s = c.in-Some.session in
    let st = state_of m a.sendq boxes jobs a.holder in
    let free : own_refusal st (event.Begin w c.args.moment) ≡ None = subst
    (λ (y : State). own_refusal y (event.Begin w c.args.moment) ≡ None) (sym c.self.view_is) c.requires.free in
    let may = begins m a.sendq boxes jobs a.holder w c.args.moment free in
    let has : job_of st w ≡ Some s = subst (λ (y : State). job_of y w ≡ Some s) (sym c.self.view_is)
    (sym c.job.ensures ∙ c.in-Some.is) in
    subst IsSome (sym (turn_in_hand m a.sendq boxes jobs a.holder w s c.self.invariant may.worker may.lock has)) refl

pub begin-requires-clause-hand : goal.begin-requires-clause-hand
begin-requires-clause-hand g c =
    let a = c.self.inside in
    let m = a.book in
    let boxes = a.inboxes.items in let jobs = a.jobs.items in let w = c.args.worker in let s = c.in-Some.session in
    let st = state_of m a.sendq boxes jobs a.holder in
    let free : own_refusal st (event.Begin w c.args.moment) ≡ None = subst
    (λ (y : State). own_refusal y (event.Begin w c.args.moment) ≡ None) (sym c.self.view_is) c.requires.free in
    let may = begins m a.sendq boxes jobs a.holder w c.args.moment free in
    let has : job_of st w ≡ Some s = subst (λ (y : State). job_of y w ≡ Some s) (sym c.self.view_is)
    (sym c.job.ensures ∙ c.in-Some.is) in
    pending_in_hand m a.sendq boxes jobs a.holder w s c.self.invariant may.worker may.lock has

pub invariant_of-self-2 : goal.invariant_of-self-2
invariant_of-self-2 g c =
    let a = c.self.inside in
    let m = a.book in
    let boxes = a.inboxes.items in let jobs = a.jobs.items in let w = c.args.worker in let s = c.in-Some.session in
    let st = state_of m a.sendq boxes jobs a.holder in
    let free : own_refusal st (event.Begin w c.args.moment) ≡ None = subst
    (λ (y : State). own_refusal y (event.Begin w c.args.moment) ≡ None) (sym c.self.view_is) c.requires.free in
    let may = begins m a.sendq boxes jobs a.holder w c.args.moment free in
    let has : job_of st w ≡ Some s = subst (λ (y : State). job_of y w ≡ Some s) (sym c.self.view_is)
    (sym c.job.ensures ∙ c.in-Some.is) in
    let b : (d : Held) × IsBegun (held_at boxes s) m w c.args.moment c.in_ok-plan.plan d c.begin.new.book
    × (c.begin.new.inboxes.items ≡ with_held boxes s d) = grind (arith, common_steps) in
    subst (λ (bs : List Held). IsKept c.begin.new.book a.sendq bs jobs
    (Some (record { worker = w; plan = c.in_ok-plan.plan }))) (sym b.2)
    (begun_kept m c.begin.new.book a.sendq boxes jobs a.holder w s c.args.moment c.in_ok-plan.plan b.0
    c.self.invariant may.worker may.there may.lock has b.1 c.sound.ensures).1

pub returns : goal.returns
returns g c =
    let a = c.self.inside in
    let m = a.book in
    let boxes = a.inboxes.items in let jobs = a.jobs.items in let w = c.args.worker in let s = c.in-Some.session in
    let st = state_of m a.sendq boxes jobs a.holder in
    let free : own_refusal st (event.Begin w c.args.moment) ≡ None = subst
    (λ (y : State). own_refusal y (event.Begin w c.args.moment) ≡ None) (sym c.self.view_is) c.requires.free in
    let may = begins m a.sendq boxes jobs a.holder w c.args.moment free in
    let has : job_of st w ≡ Some s = subst (λ (y : State). job_of y w ≡ Some s) (sym c.self.view_is)
    (sym c.job.ensures ∙ c.in-Some.is) in
    let p = c.in_ok-plan.plan in let k = c.begin.new.book in
    let b : (d : Held) × IsBegun (held_at boxes s) m w c.args.moment p d k
    × (c.begin.new.inboxes.items ≡ with_held boxes s d) = grind (arith, common_steps) in
    let all = begun_kept m k a.sendq boxes jobs a.holder w s c.args.moment p b.0 c.self.invariant may.worker
    may.there may.lock has b.1 c.sound.ensures in
    let held = turn_in_hand m a.sendq boxes jobs a.holder w s c.self.invariant may.worker may.lock has in
    let turn : b.1.turn ≡ turn_of m s = (let e : Some b.1.turn ≡ Some (turn_of m s) = sym b.1.baton ∙ held in cc) in
    let number : c.number-number.result ≡ length m.history + 1 = grind (arith, common_steps) in
    let state : state_of k a.sendq c.begin.new.inboxes.items jobs (Some (record { worker = w; plan = p }))
    ≡ step_begin st w s b.1.piece b.1.rest c.args.moment =
    ap (λ (bs : List Held). state_of k a.sendq bs jobs (Some (record { worker = w; plan = p }))) b.2 ∙ all.0 in (
      c.requires.free,
      subst (λ (y : State). IsBegin y w (job_of y w) c.args.moment (note.Record c.number-number.result) (state_of k
          a.sendq c.begin.new.inboxes.items jobs (Some (record { worker = w; plan = p })))) c.self.view_is
          (subst (λ (o : Option ℕ). IsBegin st w o c.args.moment (note.Record c.number-number.result) (state_of k
          a.sendq c.begin.new.inboxes.items jobs (Some (record { worker = w; plan = p })))) (sym has) (
            b.1.piece,
            b.1.rest,
            ap (λ (x : Seen). x.pending) (seen_is m a.sendq boxes jobs a.holder s) ∙ b.1.next,
            subst (λ (u : Turn). MayBegin m u c.args.moment) turn b.1.may,
            ap (λ (n : ℕ). note.Record n) number,
            state,
          )),
    )

pub returns-in_err-plan : goal.returns-in_err-plan
returns-in_err-plan g c =
    let a = c.self.inside in
    let m = a.book in
    let boxes = a.inboxes.items in let jobs = a.jobs.items in let w = c.args.worker in let s = c.in-Some.session in
    let st = state_of m a.sendq boxes jobs a.holder in
    let free : own_refusal st (event.Begin w c.args.moment) ≡ None = subst
    (λ (y : State). own_refusal y (event.Begin w c.args.moment) ≡ None) (sym c.self.view_is) c.requires.free in
    let may = begins m a.sendq boxes jobs a.holder w c.args.moment free in
    let has : job_of st w ≡ Some s = subst (λ (y : State). job_of y w ≡ Some s) (sym c.self.view_is)
    (sym c.job.ensures ∙ c.in-Some.is) in
    let now = c.args.self.now in let e = c.in_err-plan.field-0.0 in let k = c.begin.new.book in
    let held = turn_in_hand m a.sendq boxes jobs a.holder w s c.self.invariant may.worker may.lock has in
    let refused : IfErr c.begin.result (λ r. IsLineRefused m (turn_of m s) c.args.moment r) =
    rw held at c.begin.ensures.refusal in
    let is : c.from_residual.result ≡ Err e = grind (arith, common_steps) in
    let why : IsLineRefused m (turn_of m s) c.args.moment e = grind (arith, common_steps) in
    let same : k ≡ m = grind (arith, common_steps) in
    let old : c.begin.new.inboxes.items ≡ boxes = grind (arith, common_steps) in
    let state : state_of k a.sendq c.begin.new.inboxes.items jobs a.holder ≡ now =
    ap (λ (bs : List Held). state_of k a.sendq bs jobs a.holder) old ∙ ap
    (λ n. state_of n a.sendq boxes jobs a.holder) same ∙ c.self.view_is in
    subst (λ r. IsStep now (event.Begin w c.args.moment) r
    (state_of k a.sendq c.begin.new.inboxes.items jobs a.holder)) (sym is) (
      subst (λ (o : Option StepRefusal). IsRefused now (event.Begin w c.args.moment) o e) (sym c.requires.free)
          (subst (λ (y : State). IsBeginRefused y.book (job_of y w) c.args.moment e) c.self.view_is
          (subst (λ (o : Option ℕ). IsBeginRefused m o c.args.moment e) (sym has) why)),
      state,
    )
