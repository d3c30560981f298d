-- What each step does to what a play keeps, where it isn't refused.
use Rattle.std.proofs.Common.{◌≡◌, ℕ, ℤ, ◌+◌, ◌-◌, ◌<◌, ◌≤◌, true, List, [], ◌∷◌, length}
use Rattle.std.proofs.Common.{slice_index_or, slice_set, Option, Some, None, arith, refl, sym, subst}
use Rattle.chronicle.specs.declared.why.Why.{Why}
use Rattle.book.specs.Ring.{Waiting, put_into}
use Rattle.book.specs.Ledger.{Shown, Out, IsOut, is_here}
use Rattle.book.specs.Ledger as book
use Rattle.interleave.specs.declared.worker.Place.TheVariants.{Home, Hand}
use Rattle.interleave.specs.declared.play.Holder.{Holder}
use Rattle.interleave.specs.declared.event.Event.TheVariants as event
use Rattle.interleave.specs.declared.event.StepRefusal.{StepRefusal}
use Rattle.interleave.specs.State.{job_of, queue_of}
use Rattle.interleave.specs.Refusals.{own_refusal, no_worker, not_holding}
use Rattle.interleave.specs.declared.event.Note.{Note}
use Rattle.interleave.specs.declared.event.Note.TheVariants as note
use Rattle.interleave.specs.State.{State}
use Rattle.interleave.specs.Steps.{step_pick, step_end, back, step_tick, step_reap, IsTick}
use Rattle.interleave.specs.Inbox.{Held, held_at, with_held, moved_to, ended_at, reaped_at}
use Rattle.interleave.specs.Kept.{worker_of, state_of, IsKept}
use Rattle.interleave.proofs.Free.{IsIn, session_in, worker_in, unlocked, holding, idle, busy}
use Rattle.interleave.proofs.Free.{at_home, something_read, all_put, without_lock}
use Rattle.interleave.proofs.Kept.{IsJob, IsLinePlan, size, job_is, picked_kept, back_kept, reaped_kept}
use Rattle.interleave.proofs.Kept.{put_kept, sweep_ended_kept, line_plan, line_ended_kept}

-- of a session that is known
pub record IsInside (m : Shown Waiting) (boxes : List Held) (s : ℕ) : Type 0 where
  pub above : 0 < s
  pub below : s ≤ length boxes
  pub here : is_here m.outboxes s ≡ true

inside : (m : Shown Waiting) (sendq : ℕ) (boxes : List Held) (jobs : List (Option ℕ)) (holder : Option Holder)
    (s : ℕ) → IsIn (state_of m sendq boxes jobs holder) s → IsInside m boxes s
inside m sendq boxes jobs holder s i = let z = size boxes in let b = i.below in
    record { above = i.above; below = omega arith; here = i.here }

pub feeds : (m : Shown Waiting) (sendq : ℕ) (boxes : List Held) (jobs : List (Option ℕ)) (holder : Option Holder)
    (s : ℕ) (octets : List ℕ) → own_refusal (state_of m sendq boxes jobs holder) (event.Feed s octets) ≡ None
    → IsInside m boxes s
feeds m sendq boxes jobs holder s octets free = inside m sendq boxes jobs holder s
    (session_in (state_of m sendq boxes jobs holder) s None free).0

pub takes : (m : Shown Waiting) (sendq : ℕ) (boxes : List Held) (jobs : List (Option ℕ)) (holder : Option Holder)
    (s : ℕ) → own_refusal (state_of m sendq boxes jobs holder) (event.Take s) ≡ None → IsInside m boxes s
takes m sendq boxes jobs holder s free = inside m sendq boxes jobs holder s
    (session_in (state_of m sendq boxes jobs holder) s None free).0

-- a worker and a session that it may pick
pub record MayPick (m : Shown Waiting) (sendq : ℕ) (boxes : List Held) (jobs : List (Option ℕ))
    (holder : Option Holder) (w s : ℕ) : Type 0 where
  pub worker : 0 < w
  pub there : w ≤ length jobs
  pub session : IsInside m boxes s
  pub picks : IsKept m sendq boxes jobs holder
      → (state_of m sendq (with_held boxes s (moved_to (held_at boxes s) (Hand w)))
      (slice_set jobs (w - 1) (Some s)) holder ≡ step_pick (state_of m sendq boxes jobs holder) w s)
      × IsKept m sendq (with_held boxes s (moved_to (held_at boxes s) (Hand w)))
      (slice_set jobs (w - 1) (Some s)) holder

pub may_pick : (m : Shown Waiting) (sendq : ℕ) (boxes : List Held) (jobs : List (Option ℕ))
    (holder : Option Holder) (w s : ℕ) → own_refusal (state_of m sendq boxes jobs holder) (event.Pick w s) ≡ None
    → MayPick m sendq boxes jobs holder w s
may_pick m sendq boxes jobs holder w s free =
    let st = state_of m sendq boxes jobs holder in
    let a = worker_in st w _ free in
    let b = session_in st s _ a.2 in let c = idle st w _ b.1 in let d = at_home st s _ c.2 in
    let in_ = inside m sendq boxes jobs holder s b.0 in
    record {
      worker = a.0;
      there = a.1;
      session = in_;
      picks = λ i. picked_kept m sendq boxes jobs holder w s i a.0 a.1 in_.above in_.below in_.here c.1 d.0
          (something_read st s d.1);
    }

-- a worker who has a line and doesn't hold the lock
pub record MayGiveBack (m : Shown Waiting) (sendq : ℕ) (boxes : List Held) (jobs : List (Option ℕ))
    (holder : Option Holder) (w s : ℕ) : Type 0 where
  pub worker : 0 < w
  pub there : w ≤ length jobs
  pub job : job_of (state_of m sendq boxes jobs holder) w ≡ Some s
  pub session : IsJob m boxes holder w s
  pub gives : (state_of m sendq (with_held boxes s (moved_to (held_at boxes s) Home))
      (slice_set jobs (w - 1) None) holder ≡ back (state_of m sendq boxes jobs holder) w s)
      × IsKept m sendq (with_held boxes s (moved_to (held_at boxes s) Home)) (slice_set jobs (w - 1) None) holder

pub may_give_back : (m : Shown Waiting) (sendq : ℕ) (boxes : List Held) (jobs : List (Option ℕ))
    (holder : Option Holder) (w s : ℕ) → IsKept m sendq boxes jobs holder
    → own_refusal (state_of m sendq boxes jobs holder) (event.Back w) ≡ None
    → job_of (state_of m sendq boxes jobs holder) w ≡ Some s
    → MayGiveBack m sendq boxes jobs holder w s
may_give_back m sendq boxes jobs holder w s i free has =
    let st = state_of m sendq boxes jobs holder in
    let a = worker_in st w _ free in let b = busy st w _ a.2 in
    record {
      worker = a.0;
      there = a.1;
      job = has;
      session = job_is m sendq boxes jobs holder w s i.sound a.0 has;
      gives = back_kept m sendq boxes jobs holder w s i a.0 a.1 has (without_lock st w b.2);
    }

-- a worker, while nobody holds the lock
pub record IsUnlocked (jobs : List (Option ℕ)) (holder : Option Holder) (w : ℕ) : Type 0 where
  pub worker : 0 < w
  pub there : w ≤ length jobs
  pub lock : worker_of holder ≡ None

pub begins : (m : Shown Waiting) (sendq : ℕ) (boxes : List Held) (jobs : List (Option ℕ)) (holder : Option Holder)
    (w : ℕ) (moment : ℤ) → own_refusal (state_of m sendq boxes jobs holder) (event.Begin w moment) ≡ None
    → IsUnlocked jobs holder w
begins m sendq boxes jobs holder w moment free =
    let st = state_of m sendq boxes jobs holder in
    let a = worker_in st w _ free in let b = unlocked st _ a.2 in record { worker = a.0; there = a.1; lock = b.0 }

pub hangs : (m : Shown Waiting) (sendq : ℕ) (boxes : List Held)
    (jobs : List (Option ℕ)) (holder : Option Holder) (w s : ℕ) (why : Why) (moment : ℤ)
    → own_refusal (state_of m sendq boxes jobs holder) (event.Hang w s why moment) ≡ None → worker_of holder ≡ None
hangs m sendq boxes jobs holder w s why moment free = let st = state_of m sendq boxes jobs holder in
    (unlocked st _ (worker_in st w _ free).2).0

pub sweeps : (m : Shown Waiting) (sendq : ℕ) (boxes : List Held) (jobs : List (Option ℕ)) (holder : Option Holder)
    (w : ℕ) (moment : ℤ) → own_refusal (state_of m sendq boxes jobs holder) (event.Sweep w moment) ≡ None
    → IsUnlocked jobs holder w × (job_of (state_of m sendq boxes jobs holder) w ≡ None)
sweeps m sendq boxes jobs holder w moment free =
    let st = state_of m sendq boxes jobs holder in
    let a = worker_in st w _ free in
    let b = unlocked st _ a.2 in let c = idle st w _ b.1 in (record { worker = a.0; there = a.1; lock = b.0 }, c.0)

pub ticks : (m : Shown Waiting) (sendq : ℕ) (boxes : List Held) (jobs : List (Option ℕ)) (holder : Option Holder)
    (w : ℕ) (moment : ℤ) → own_refusal (state_of m sendq boxes jobs holder) (event.Tick w moment) ≡ None
    → IsUnlocked jobs holder w × (job_of (state_of m sendq boxes jobs holder) w ≡ None)
ticks m sendq boxes jobs holder w moment free = sweeps m sendq boxes jobs holder w moment free

-- where somebody is to be pinged
pub pings : (m k : State) (w : ℕ) (ts : List ℕ) (moment : ℤ) (n : Note) → (ts ≡ [] → ⊥) → book.HasRoom m.book
    → n ≡ note.Ticked (Some (length m.book.history + 1)) → k ≡ step_tick m w moment → IsTick m w ts moment n k
pings m k w [] moment n some room is new = absurd (some refl)
pings m k w (t ∷ ts) moment n some room is new = (room, is, new)

pub connects : (m : Shown Waiting) (sendq : ℕ) (boxes : List Held) (jobs : List (Option ℕ)) (holder : Option Holder)
    (host : List ℕ) (moment : ℤ) → own_refusal (state_of m sendq boxes jobs holder) (event.Connect host moment)
    ≡ None → worker_of holder ≡ None
connects m sendq boxes jobs holder host moment free = (unlocked (state_of m sendq boxes jobs holder) _ free).0

-- a session that no worker has a line of, while nobody holds the lock
pub record MayGiveUp (m : Shown Waiting) (sendq : ℕ) (boxes : List Held) (jobs : List (Option ℕ))
    (holder : Option Holder) (s : ℕ) : Type 0 where
  pub session : IsInside m boxes s
  pub gives : (k : Shown Waiting) → k ≡ book.after_reap m s → book.IsSound put_into k
      → (state_of k sendq (with_held boxes s (reaped_at (held_at boxes s) (queue_of
      (state_of m sendq boxes jobs holder) s))) jobs holder ≡ step_reap (state_of m sendq boxes jobs holder) s)
      × IsKept k sendq (with_held boxes s
      (reaped_at (held_at boxes s) (queue_of (state_of m sendq boxes jobs holder) s))) jobs holder

pub may_give_up : (m : Shown Waiting) (sendq : ℕ) (boxes : List Held) (jobs : List (Option ℕ))
    (holder : Option Holder) (s : ℕ) → IsKept m sendq boxes jobs holder
    → own_refusal (state_of m sendq boxes jobs holder) (event.Reap s) ≡ None → MayGiveUp m sendq boxes jobs holder s
may_give_up m sendq boxes jobs holder s i free =
    let st = state_of m sendq boxes jobs holder in
    let a = session_in st s _ free in let b = unlocked st _ a.1 in let c = at_home st s _ b.1 in
    let in_ = inside m sendq boxes jobs holder s a.0 in
    record {
      session = in_;
      gives = λ k e sound. reaped_kept m k sendq boxes jobs holder s i b.0 in_.above in_.below
          in_.here c.0 e sound;
    }

-- ---- who holds the lock

-- the worker who puts, or ends
pub record IsLockHeld (jobs : List (Option ℕ)) (x : Holder) (w : ℕ) : Type 0 where
  pub worker : 0 < w
  pub there : w ≤ length jobs
  pub holds : x.worker ≡ w

held_by : (m : Shown Waiting) (sendq : ℕ) (boxes : List Held) (jobs : List (Option ℕ)) (x : Holder)
    (w : ℕ) (later : Option StepRefusal) → no_worker (state_of m sendq boxes jobs (Some x)) w
    (not_holding (state_of m sendq boxes jobs (Some x)) w later) ≡ None → IsLockHeld jobs x w × (later ≡ None)
held_by m sendq boxes jobs x w later free =
    let st = state_of m sendq boxes jobs (Some x) in let a = worker_in st w _ free in let b = holding st w later a.2 in
    let e : Some x.worker ≡ Some w = b.0 in
    (record { worker = a.0; there = a.1; holds = cc }, b.1)

pub puts : (m k : Shown Waiting) (sendq : ℕ) (boxes : List Held) (jobs : List (Option ℕ))
    (holder : Option Holder) (x : Holder) (w : ℕ) (q : Out) → holder ≡ Some x → IsKept m sendq boxes jobs holder
    → own_refusal (state_of m sendq boxes jobs holder) (event.Put w) ≡ None
    → k ≡ book.put_next m m.plan → IsOut k q → q.session ≡ x.plan.session → q.next ≡ x.plan.next
    → book.IsSound put_into k → IsKept k sendq boxes jobs (Some (record { worker = w; plan = q }))
puts m k sendq boxes jobs holder x w q h i free e out session next sound =
    let j : IsKept m sendq boxes jobs (Some x) = subst (IsKept m sendq boxes jobs) h i in
    let f : own_refusal (state_of m sendq boxes jobs (Some x)) (event.Put w) ≡ None = subst
    (λ (o : Option Holder). own_refusal (state_of m sendq boxes jobs o) (event.Put w) ≡ None) h free in
    let l = (held_by m sendq boxes jobs x w _ f).0 in
    subst (λ (v : ℕ). IsKept k sendq boxes jobs (Some (record { worker = v; plan = q }))) l.holds
    (put_kept m k sendq boxes jobs x.worker x.plan q j e out session next sound)

-- all is put, and the lock can be given back
pub record MayEnd (m : Shown Waiting) (sendq : ℕ) (boxes : List Held) (jobs : List (Option ℕ)) (x : Holder)
    (w : ℕ) : Type 0 where
  pub lock : IsLockHeld jobs x w
  pub none : m.plan ≡ []
  pub kept : IsKept m sendq boxes jobs (Some x)

pub may_end : (m : Shown Waiting) (sendq : ℕ) (boxes : List Held) (jobs : List (Option ℕ))
    (holder : Option Holder) (x : Holder) (w : ℕ) → holder ≡ Some x → IsKept m sendq boxes jobs holder
    → own_refusal (state_of m sendq boxes jobs holder) (event.End w) ≡ None → MayEnd m sendq boxes jobs x w
may_end m sendq boxes jobs holder x w h i free =
    let st = state_of m sendq boxes jobs (Some x) in
    let f : own_refusal st (event.End w) ≡ None = subst
    (λ (o : Option Holder). own_refusal (state_of m sendq boxes jobs o) (event.End w) ≡ None) h free in
    let l = held_by m sendq boxes jobs x w _ f in
    record { lock = l.0; none = all_put st l.1; kept = subst (IsKept m sendq boxes jobs) h i }

pub ends_sweep : (m k : Shown Waiting) (sendq : ℕ) (boxes : List Held) (jobs : List (Option ℕ)) (x : Holder) (w : ℕ)
    → MayEnd m sendq boxes jobs x w → slice_index_or jobs (w - 1) None ≡ None → k ≡ book.after_end m
    → book.IsSound put_into k → IsKept k sendq boxes jobs None
ends_sweep m k sendq boxes jobs x w may none e sound =
    sweep_ended_kept m k sendq boxes jobs x.worker x.plan may.kept
    (subst (λ (v : ℕ). slice_index_or jobs (v - 1) None ≡ None) (sym may.lock.holds) none) e sound

pub plan_goes : (m : Shown Waiting) (sendq : ℕ) (boxes : List Held) (jobs : List (Option ℕ)) (x : Holder) (w s : ℕ)
    → MayEnd m sendq boxes jobs x w → slice_index_or jobs (w - 1) None ≡ Some s → IsLinePlan m boxes s x.plan
plan_goes m sendq boxes jobs x w s may has =
    line_plan m sendq boxes jobs x.worker s x.plan may.kept (subst (λ (v : ℕ). 0 < v) (sym may.lock.holds)
    may.lock.worker) (subst (λ (v : ℕ). slice_index_or jobs (v - 1) None ≡ Some s) (sym may.lock.holds) has)

pub ends_line : (m k : Shown Waiting) (sendq : ℕ) (boxes : List Held) (jobs : List (Option ℕ)) (x : Holder)
    (w s : ℕ) → (may : MayEnd m sendq boxes jobs x w) → (has : slice_index_or jobs (w - 1) None ≡ Some s)
    → (l : IsLinePlan m boxes s x.plan) → k ≡ book.after_end m → book.IsSound put_into k
    → (state_of k sendq (with_held boxes s (ended_at (held_at boxes s) l.turn)) (slice_set jobs (w - 1) None) None
    ≡ step_end (state_of m sendq boxes jobs (Some x)) w (Some s))
    × IsKept k sendq (with_held boxes s (ended_at (held_at boxes s) l.turn)) (slice_set jobs (w - 1) None) None
ends_line m k sendq boxes jobs x w s may has l e sound =
    subst (λ (v : ℕ). (state_of k sendq (with_held boxes s (ended_at (held_at boxes s) l.turn))
    (slice_set jobs (v - 1) None) None ≡ step_end (state_of m sendq boxes jobs (Some x)) v (Some s))
    × IsKept k sendq (with_held boxes s (ended_at (held_at boxes s) l.turn)) (slice_set jobs (v - 1) None) None)
    may.lock.holds
    (line_ended_kept m k sendq boxes jobs x.worker s x.plan l.turn may.kept (subst (λ (v : ℕ). 0 < v)
    (sym may.lock.holds) may.lock.worker) (subst (λ (v : ℕ). slice_index_or jobs (v - 1) None ≡ Some s)
    (sym may.lock.holds) has) l.session l.goes_on e sound)
