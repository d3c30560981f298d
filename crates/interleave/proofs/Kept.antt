-- What a play keeps stands for its book over each step, and the step is one of the relation.
use Rattle.std.proofs.Math.ListN.{get_or-map}
use Rattle.std.proofs.lemmas.List.{get_or-set_same, get_or-set_other, get_or_push}
use Rattle.std.proofs.lemmas.List.{get_or_append_left, length-set, length-map, map-set, map-append}
use Rattle.std.proofs.lemmas.Bool.Decides.{eqb_tells}
use Rattle.std.proofs.Common.{◌≡◌, ◌≢◌, inl, inr, ℕ, ℤ, ◌+◌, ◌-◌, ◌<◌, ◌≤◌, Bool, true, false, List, [], ◌∷◌, ◌++◌}
use Rattle.std.proofs.Common.{length, map, slice_get, slice_index_or, slice_set, Option, Some, None, arith, refl}
use Rattle.std.proofs.Common.{sym, ap, ◌∙◌, subst, append-nil, length-append, eq-eqb, ne_eqb}
use Rattle.std.specs.Option.{is_some}
use Rattle.line_grammar.specs.declared.splitter.Piece.{Piece}
use Rattle.line_grammar.specs.Lines.{lines}
use Rattle.casemapping.specs.Names.{host_shape}
use Rattle.clean_records.specs.Clean.{IsCleanKind}
use Rattle.chronicle.specs.declared.record.Kind.{Kind}
use Rattle.chronicle.specs.declared.record.Kind.TheVariants as kind
use Rattle.chronicle.specs.declared.why.Why.{Why}
use Rattle.chronicle.specs.History.{Rec, sessions, said_by, accepted}
use Rattle.deliveries.specs.declared.delivery.Delivery.{Delivery}
use Rattle.deliveries.specs.Items.{deliveries}
use Rattle.book.specs.Ring.{Waiting, empty_ring, with_taken as ring_taken, put_into}
use Rattle.book.specs.Ledger.{Shown, Turn, Out, IsOut, is_here}
use Rattle.book.specs.Ledger as book
use Rattle.interleave.specs.declared.worker.Place.{Place}
use Rattle.interleave.specs.declared.worker.Place.TheVariants.{Home, Hand, Begun}
use Rattle.interleave.specs.declared.play.Holder.{Holder}
use Rattle.interleave.specs.State.{Seen, State, IsBoxOf, IsSound, nothing_fed, inbox_at, job_of}
use Rattle.interleave.specs.State.{holds, is_home, place_with, waits, queue_of}
use Rattle.interleave.specs.Refusals.{turn_of}
use Rattle.interleave.specs.Steps.{with_place, with_taken, with_left, with_begun, with_fed, step_connect}
use Rattle.interleave.specs.Steps.{step_feed, step_pick, step_begin, step_end, back, step_take, step_reap}
use Rattle.interleave.specs.Inbox.{Held, IsRead, IsBegun, no_inbox, held_at, with_held}
use Rattle.interleave.specs.Inbox.{with_seen, moved_to, ended_at, reaped_at}
use Rattle.interleave.specs.Kept.{seen_of, worker_of, state_of, next_at, baton_at}
use Rattle.interleave.specs.Kept.{baton_of, IsPlanOf, IsHolding, IsKept}
use Rattle.interleave.proofs.Carried.{Carries, kept_here, put_accepted, carries_same}
use Rattle.interleave.proofs.Carried.{begun_carries, next_carries, done_carries, away_before}
use Rattle.interleave.proofs.Accepted.{none_accepted}
use Rattle.interleave.proofs.Sound.{away, in_hand_of, begun_by, is_at_home, fed_sound, picked_sound, begun_sound}
use Rattle.interleave.proofs.Sound.{put_sound, sweep_ended_sound, line_ended_sound, back_sound, took_sound}
use Rattle.interleave.proofs.Sound.{hung_sound, silent_sound, reaped_sound, connected_sound}

-- ---- what clauses see

pub size : (boxes : List Held) → length (map seen_of boxes) ≡ length boxes
size boxes = length-map boxes seen_of

pub seen_is : (m : Shown Waiting) (sendq : ℕ) (boxes : List Held) (jobs : List (Option ℕ)) (holder : Option Holder)
    (t : ℕ) → inbox_at (state_of m sendq boxes jobs holder) t ≡ (held_at boxes t).seen
seen_is m sendq boxes jobs holder t = get_or-map seen_of boxes (t - 1) no_inbox

abbrev pub of_parts : Shown Waiting → ℕ → List Seen → List (Option ℕ) → Option ℕ → State
of_parts k sendq seen jobs holder = record { book = k; sendq = sendq; inboxes = seen; jobs = jobs; holder = holder }

-- one inbox is another
pub one_state : (k : Shown Waiting) (sendq : ℕ) (boxes : List Held) (jobs : List (Option ℕ)) (holder : Option ℕ)
    (s : ℕ) (c : Held) (v : Seen → Seen) → c.seen ≡ v (held_at boxes s).seen
    → of_parts k sendq (map seen_of (with_held boxes s c)) jobs holder ≡ of_parts k sendq (slice_set
    (map seen_of boxes) (s - 1) (v (slice_index_or (map seen_of boxes) (s - 1) nothing_fed))) jobs holder
one_state k sendq boxes jobs holder s c v e =
    let new : map seen_of (with_held boxes s c)
    ≡ slice_set (map seen_of boxes) (s - 1) (v (slice_index_or (map seen_of boxes) (s - 1) nothing_fed)) =
    map-set seen_of boxes (s - 1) c ∙ ap (λ (x : Seen). slice_set (map seen_of boxes) (s - 1) x)
    (e ∙ ap v (sym (get_or-map seen_of boxes (s - 1) no_inbox))) in
    ap (λ (xs : List Seen). of_parts k sendq xs jobs holder) new

-- ---- batons

abbrev pub Turns : Shown Waiting → List Held → Type 0
Turns m boxes = (t : ℕ) → 0 < t → t ≤ length boxes → (held_at boxes t).turn
    ≡ baton_of (is_here m.outboxes t) (baton_at m.history t (held_at boxes t).seen.place)

record SameTurn (m k : Shown Waiting) (t : ℕ) : Type 0 where
  pub here : is_here k.outboxes t ≡ is_here m.outboxes t
  pub accepted : accepted k.history t ≡ accepted m.history t

same_turn : (m k : Shown Waiting) (t : ℕ) → Carries m k t → SameTurn m k t
same_turn m k t c = record {
  here = kept_here (slice_index_or m.outboxes (t - 1) None)
      (slice_index_or k.outboxes (t - 1) None) _ _ c.box;
  accepted = c.accepted;
}

turn_like : (m k : Shown Waiting) (t : ℕ) (place : Place) → SameTurn m k t → baton_of (is_here m.outboxes t)
    (baton_at m.history t place) ≡ baton_of (is_here k.outboxes t) (baton_at k.history t place)
turn_like m k t place e =
    ap (λ (b : Bool). baton_of b (baton_at m.history t place)) (sym e.here)
    ∙ ap (λ (xs : List Piece). baton_of (is_here k.outboxes t)
    (record { session = t; next = next_at place (length xs) })) (sym e.accepted)

book_turns : (m k : Shown Waiting) (boxes : List Held) → Turns m boxes
    → ((t : ℕ) → 0 < t → t ≤ length boxes → SameTurn m k t) → Turns k boxes
book_turns m k boxes turns same t from to = turns t from to ∙ turn_like m k t (held_at boxes t).seen.place
    (same t from to)

one_turns : (m k : Shown Waiting) (boxes : List Held) (s : ℕ) (c : Held) → 0 < s → s ≤ length boxes → Turns m boxes
    → ((t : ℕ) → t ≢ s → 0 < t → t ≤ length boxes → SameTurn m k t)
    → c.turn ≡ baton_of (is_here k.outboxes s) (baton_at k.history s c.seen.place) → Turns k (with_held boxes s c)
one_turns m k boxes s c above below turns same here t from to =
    let n : length (with_held boxes s c) ≡ length boxes = simp length-set in
    let top : t ≤ length boxes = omega arith in
    let within : s - 1 < length boxes = omega arith in
    elim (eqb_tells t s) [
      | inl is ↦
          let new : held_at (with_held boxes s c) t ≡ c = ap (λ (j : ℕ). held_at (with_held boxes s c) j) is.1
          ∙ get_or-set_same boxes (s - 1) c no_inbox within in
          subst (λ (x : Held). x.turn ≡ baton_of (is_here k.outboxes t) (baton_at k.history t x.seen.place)) (sym new)
          (subst (λ (j : ℕ). c.turn ≡ baton_of (is_here k.outboxes j) (baton_at k.history j c.seen.place))
          (sym is.1) here)
      | inr other ↦
          let apart : t - 1 ≢ s - 1 = λ e. other.1 (omega arith) in
          let old : held_at (with_held boxes s c) t
          ≡ held_at boxes t = get_or-set_other boxes (s - 1) (t - 1) c no_inbox apart in
          subst (λ (x : Held). x.turn ≡ baton_of (is_here k.outboxes t) (baton_at k.history t x.seen.place)) (sym old)
          (turns t from top ∙ turn_like m k t (held_at boxes t).seen.place (same t other.1 from top))
    ]

-- a session that is here has its baton
pub turn_here : (m : Shown Waiting) (boxes : List Held) (t : ℕ) (place : Place) → Turns m boxes
    → 0 < t → t ≤ length boxes → is_here m.outboxes t ≡ true → (held_at boxes t).seen.place ≡ place
    → (held_at boxes t).turn ≡ Some (baton_at m.history t place)
turn_here m boxes t place turns from to here at =
    turns t from to ∙ ap (λ (p : Place). baton_of (is_here m.outboxes t) (baton_at m.history t p)) at ∙ ap
    (λ (b : Bool). baton_of b (baton_at m.history t place)) here

-- ---- the plan that is out

-- another worker's line
other_job : (m : Shown Waiting) (jobs : List (Option ℕ)) (holder : Option Holder) (w : ℕ) (j : Option ℕ) → 0 < w
    → holds (worker_of holder) w ≡ false → ((v : ℕ) → worker_of holder ≡ Some v → (0 < v) × (v ≤ length jobs))
    → IsHolding m jobs holder → IsHolding m (slice_set jobs (w - 1) j) holder
other_job m jobs None w j a free who h = h
other_job m jobs (Some x) w j a free who h =
    let above = (who x.worker refl).0 in
    let apart : x.worker ≢ w = λ e. (let f : true ≡ false = sym (eq-eqb x.worker w e) ∙ free in cc) in
    let ne : x.worker - 1 ≢ w - 1 = λ e. apart (omega arith) in (
      h.0,
      subst (λ (o : Option ℕ). IsPlanOf m.history o x.plan)
          (sym (get_or-set_other jobs (w - 1) (x.worker - 1) j None ne)) h.1,
    )

-- an item is taken
took_holding : (m : Shown Waiting) (jobs : List (Option ℕ)) (holder : Option Holder) (s : ℕ)
    → IsHolding m jobs holder → IsHolding (book.after_take m s) jobs holder
took_holding m jobs None s h = h
took_holding m jobs (Some x) s h =
    let o = h.0 in (
      record {
        busy = o.busy;
        number = o.number;
        session = o.session;
        next = o.next;
        opened = o.opened;
        missed = o.missed;
        room = o.room;
        kept = o.kept;
      },
      h.1,
    )

-- the lock is free
free_holding : (m : Shown Waiting) (jobs : List (Option ℕ)) (holder : Option Holder) → worker_of holder ≡ None
    → IsHolding m jobs holder
free_holding m jobs None e = tt
free_holding m jobs (Some x) e = absurd (let f : Some x.worker ≡ None = e in cc)

-- the plan is of the same record
plan_of_same : (h k : List Rec) (o : Option ℕ) (p q : Out) → q.session ≡ p.session → q.next ≡ p.next
    → ((t : ℕ) → accepted k t ≡ accepted h t) → IsPlanOf h o p → IsPlanOf k o q
plan_of_same h k None p q s n same i = n ∙ i
plan_of_same h k (Some t) p q s n same i =
    let long : length (accepted k t) ≡ length (accepted h t) = ap length (same t) in let some = i.2 in
    (s ∙ i.0, n ∙ i.1 ∙ ap (λ (j : ℕ). Some j) (sym long), omega arith)

-- ---- whose line a worker has

pub record IsJob (m : Shown Waiting) (boxes : List Held) (holder : Option Holder) (w s : ℕ) : Type 0 where
  pub above : 0 < s
  pub below : s ≤ length boxes
  pub here : is_here m.outboxes s ≡ true
  pub place : (held_at boxes s).seen.place ≡ place_with (worker_of holder) w

box_there : (o : Option Waiting) (b : Seen) (sendq : ℕ) (xs : List Delivery) → IsBoxOf o b sendq xs
    → is_home b.place ≡ false → is_some o ≡ true
box_there None b sendq xs i e = absurd (let f : true ≡ false = sym (ap is_home i.1) ∙ e in cc)
box_there (Some w) b sendq xs i e = refl

pub job_is : (m : Shown Waiting) (sendq : ℕ) (boxes : List Held) (jobs : List (Option ℕ))
    (holder : Option Holder) (w s : ℕ) → IsSound (state_of m sendq boxes jobs holder) → 0 < w
    → job_of (state_of m sendq boxes jobs holder) w ≡ Some s → IsJob m boxes holder w s
job_is m sendq boxes jobs holder w s i a has =
    let st = state_of m sendq boxes jobs holder in
    let old = i.jobs (w - 1) s has in let n = size boxes in let above = old.0 in let to = old.1 in
    let number : w - 1 + 1 ≡ w = omega arith in
    let place : (inbox_at st s).place ≡ place_with (worker_of holder) w = old.2
    ∙ ap (place_with (worker_of holder)) number in
    record {
      above = above;
      below = omega arith;
      here = box_there (slice_index_or m.outboxes (s - 1) None) (inbox_at st s) sendq _ (i.each s above to).box
          (ap is_home place ∙ away (worker_of holder) w);
      place = ap (λ (x : Seen). x.place) (sym (seen_is m sendq boxes jobs holder s)) ∙ place;
    }

-- ---- the steps

pub fed_kept : (m : Shown Waiting) (sendq : ℕ) (boxes : List Held) (jobs : List (Option ℕ)) (holder : Option Holder)
    (s : ℕ) (octets : List ℕ) (n : ℕ) (c : Held) → IsKept m sendq boxes jobs holder → 0 < s → s ≤ length boxes
    → (a : IsRead (held_at boxes s) octets n c)
    → (state_of m sendq (with_held boxes s c) jobs holder ≡ step_feed
    (state_of m sendq boxes jobs holder) s octets a.added) × IsKept m sendq (with_held boxes s c) jobs holder
fed_kept m sendq boxes jobs holder s octets n c i above below a =
    let st = state_of m sendq boxes jobs holder in let z = size boxes in
    let state : state_of m sendq (with_held boxes s c) jobs holder ≡ step_feed st s octets a.added = one_state m sendq
    boxes jobs (worker_of holder) s c (λ b. with_fed b octets a.added) (ap (λ (x : Held). x.seen) a.after) in
    let adds : lines ((inbox_at st s).fed ++ octets) ≡ lines (inbox_at st s).fed ++ a.added = subst
    (λ (b : Seen). lines (b.fed ++ octets) ≡ lines b.fed ++ a.added)
    (sym (seen_is m sendq boxes jobs holder s)) a.adds in (
      state,
      record {
        sound = subst IsSound (sym state) (fed_sound st s octets a.added i.sound above (omega arith) adds);
        turns = one_turns m m boxes s c above below i.turns (λ t ne from to. same_turn m m t (carries_same m t))
            (ap (λ (x : Held). x.turn) a.after ∙ i.turns s above below ∙ ap
            (λ (x : Held). baton_of (is_here m.outboxes s) (baton_at m.history s x.seen.place)) (sym a.after));
        holding = i.holding;
      },
    )

pub picked_kept : (m : Shown Waiting) (sendq : ℕ) (boxes : List Held) (jobs : List (Option ℕ))
    (holder : Option Holder) (w s : ℕ) → IsKept m sendq boxes jobs holder → 0 < w → w ≤ length jobs → 0 < s
    → s ≤ length boxes → is_here m.outboxes s ≡ true
    → holds (worker_of holder) w ≡ false → is_home (inbox_at (state_of m sendq boxes jobs holder) s).place ≡ true
    → (inbox_at (state_of m sendq boxes jobs holder) s).pending ≢ []
    → (state_of m sendq (with_held boxes s (moved_to (held_at boxes s) (Hand w)))
    (slice_set jobs (w - 1) (Some s)) holder ≡ step_pick (state_of m sendq boxes jobs holder) w s)
    × IsKept m sendq (with_held boxes s (moved_to (held_at boxes s) (Hand w))) (slice_set jobs (w - 1) (Some s)) holder
picked_kept m sendq boxes jobs holder w s i a l above below here free home some =
    let st = state_of m sendq boxes jobs holder in let z = size boxes in let c = moved_to (held_at boxes s) (Hand w) in
    let state : state_of m sendq (with_held boxes s c) (slice_set jobs (w - 1) (Some s)) holder
    ≡ step_pick st w s = one_state m sendq boxes (slice_set jobs (w - 1) (Some s)) (worker_of holder) s c
    (λ b. with_place b (Hand w)) refl in
    let at : (held_at boxes s).seen.place ≡ Home = ap
    (λ (x : Seen). x.place) (sym (seen_is m sendq boxes jobs holder s)) ∙ is_at_home _ home in (
      state,
      record {
        sound = subst IsSound (sym state) (picked_sound st w s i.sound a l above (omega arith) here free home some);
        turns = one_turns m m boxes s c above below i.turns (λ t ne from to. same_turn m m t (carries_same m t))
            (turn_here m boxes s Home i.turns above below here at ∙ ap
            (λ (b : Bool). baton_of b (baton_at m.history s (Hand w))) (sym here));
        holding = other_job m jobs holder w (Some s) a free i.sound.holder i.holding;
      },
    )

pub back_kept : (m : Shown Waiting) (sendq : ℕ) (boxes : List Held) (jobs : List (Option ℕ))
    (holder : Option Holder) (w s : ℕ) → IsKept m sendq boxes jobs holder → 0 < w → w ≤ length jobs
    → job_of (state_of m sendq boxes jobs holder) w ≡ Some s → holds (worker_of holder) w ≡ false
    → (state_of m sendq (with_held boxes s (moved_to (held_at boxes s) Home)) (slice_set jobs (w - 1) None) holder
    ≡ back (state_of m sendq boxes jobs holder) w s)
    × IsKept m sendq (with_held boxes s (moved_to (held_at boxes s) Home)) (slice_set jobs (w - 1) None) holder
back_kept m sendq boxes jobs holder w s i a l has free =
    let st = state_of m sendq boxes jobs holder in let c = moved_to (held_at boxes s) Home in
    let j = job_is m sendq boxes jobs holder w s i.sound a has in
    let state : state_of m sendq (with_held boxes s c) (slice_set jobs (w - 1) None) holder ≡ back st w s =
    one_state m sendq boxes (slice_set jobs (w - 1) None) (worker_of holder) s c (λ b. with_place b Home) refl in
    let at : (held_at boxes s).seen.place ≡ Hand w = j.place ∙ in_hand_of (worker_of holder) w free in (
      state,
      record {
        sound = subst IsSound (sym state) (back_sound st w s i.sound a l has j.here);
        turns = one_turns m m boxes s c j.above j.below i.turns (λ t ne from to. same_turn m m t (carries_same m t))
            (turn_here m boxes s (Hand w) i.turns j.above j.below j.here at ∙ ap
            (λ (b : Bool). baton_of b (baton_at m.history s Home)) (sym j.here));
        holding = other_job m jobs holder w None a free i.sound.holder i.holding;
      },
    )

-- a worker's line is the next one
pub turn_in_hand : (m : Shown Waiting) (sendq : ℕ) (boxes : List Held) (jobs : List (Option ℕ))
    (holder : Option Holder) (w s : ℕ) → IsKept m sendq boxes jobs holder → 0 < w → worker_of holder ≡ None
    → job_of (state_of m sendq boxes jobs holder) w ≡ Some s
    → (held_at boxes s).turn ≡ Some (turn_of m s)
turn_in_hand m sendq boxes jobs holder w s i a free has =
    let j = job_is m sendq boxes jobs holder w s i.sound a has in
    turn_here m boxes s (Hand w) i.turns j.above j.below j.here (j.place ∙ ap (λ (o : Option ℕ). place_with o w) free)

pub pending_in_hand : (m : Shown Waiting) (sendq : ℕ) (boxes : List Held) (jobs : List (Option ℕ))
    (holder : Option Holder) (w s : ℕ) → IsKept m sendq boxes jobs holder → 0 < w → worker_of holder ≡ None
    → job_of (state_of m sendq boxes jobs holder) w ≡ Some s
    → (held_at boxes s).seen.pending ≢ []
pending_in_hand m sendq boxes jobs holder w s i a free has e =
    let st = state_of m sendq boxes jobs holder in let z = size boxes in
    let j = job_is m sendq boxes jobs holder w s i.sound a has in let above = j.above in let below = j.below in
    let is = seen_is m sendq boxes jobs holder s in
    let place : (inbox_at st s).place ≡ Hand w = ap (λ (x : Seen). x.place) is ∙ j.place ∙ ap
    (λ (o : Option ℕ). place_with o w) free in
    (i.sound.each s above (omega arith)).hand w place (ap (λ (x : Seen). x.pending) is ∙ e)

said_more : (m : Shown Waiting) (s : ℕ) (piece : Piece) (moment : ℤ)
    → accepted (book.after_begin m (kind.Said s (length (accepted m.history s)) piece) moment).history s
    ≡ accepted m.history s ++ piece ∷ []
said_more m s piece moment = ap (λ (xs : List Piece). accepted m.history s ++ xs) (rw (eq-eqb s s refl) refl)

one_longer : (n : ℕ) → n + 1 - 1 ≡ n
one_longer n = omega arith

pub begun_kept : (m k : Shown Waiting) (sendq : ℕ) (boxes : List Held) (jobs : List (Option ℕ))
    (holder : Option Holder) (w s : ℕ) (moment : ℤ) (p : Out) (c : Held) → IsKept m sendq boxes jobs holder → 0 < w
    → w ≤ length jobs → worker_of holder ≡ None
    → job_of (state_of m sendq boxes jobs holder) w ≡ Some s → (b : IsBegun (held_at boxes s) m w moment p c k)
    → book.IsSound put_into k
    → (state_of k sendq (with_held boxes s c) jobs (Some (record { worker = w; plan = p }))
    ≡ step_begin (state_of m sendq boxes jobs holder) w s b.piece b.rest moment)
    × IsKept k sendq (with_held boxes s c) jobs (Some (record { worker = w; plan = p }))
begun_kept m k sendq boxes jobs holder w s moment p c i a l free has b sound =
    let st = state_of m sendq boxes jobs holder in let h = m.history in let n = length (accepted h s) in
    let j = job_is m sendq boxes jobs holder w s i.sound a has in
    let held = turn_in_hand m sendq boxes jobs holder w s i a free has in
    let turn : b.turn ≡ turn_of m s = (let e : Some b.turn ≡ Some (turn_of m s) = sym b.baton ∙ held in cc) in
    let g : Shown Waiting = book.after_begin m (kind.Said s n b.piece) moment in
    let kg : k ≡ g = b.book ∙ ap (λ (u : Turn). book.after_begin m (kind.Said u.session u.next b.piece) moment) turn in
    let state : state_of k sendq (with_held boxes s c) jobs (Some (record { worker = w; plan = p }))
    ≡ step_begin st w s b.piece b.rest moment =
    ap (λ (x : Shown Waiting). state_of x sendq (with_held boxes s c) jobs (Some (record { worker = w; plan = p }))) kg
    ∙ one_state g sendq boxes jobs (Some w) s c (λ x. with_begun x w b.rest) (ap (λ (x : Held). x.seen) b.inbox) in
    let next : (inbox_at st s).pending ≡ b.piece ∷ b.rest = ap
    (λ (x : Seen). x.pending) (seen_is m sendq boxes jobs holder s) ∙ b.next in
    let longer : length (accepted g.history s) ≡ n + 1 = ap length (said_more m s b.piece moment)
    ∙ length-append (accepted h s) (b.piece ∷ []) in
    let here : is_here g.outboxes s ≡ true = j.here in
    let turns : Turns g (with_held boxes s c) = one_turns m g boxes s c j.above j.below i.turns
    (λ t ne from to. same_turn m g t (begun_carries m (kind.Said s n b.piece) moment t
    (λ gone. away_before m t i.sound.book from (let z = size boxes in let y = i.sound.inboxes in
    omega arith) gone) (rw (ne_eqb s t (λ e. ne (sym e))) refl)))
    (ap (λ (x : Held). x.turn) b.inbox ∙ held
    ∙ ap (λ (q : ℕ). Some (record { session = s; next = q })) (sym (one_longer n))
    ∙ ap (λ (q : ℕ). Some (record { session = s; next = q - 1 })) (sym longer)
    ∙ ap (λ (x : Held). Some (baton_at g.history s x.seen.place)) (sym b.inbox)
    ∙ ap (λ (y : Bool). baton_of y (baton_at g.history s c.seen.place)) (sym here)) in
    let line : IsPlanOf g.history (job_of st w) p = subst (λ (o : Option ℕ). IsPlanOf g.history o p) (sym has) (
      b.line.0 ∙ ap (λ (u : Turn). u.session) turn,
      b.line.1 ∙ ap (λ (u : Turn). Some (u.next + 1)) turn ∙ ap (λ (q : ℕ). Some q) (sym longer),
      omega arith,
    ) in (
      state,
      record {
        sound = subst IsSound (sym state) (begun_sound st w s b.piece b.rest moment i.sound free a l has j.here next
            (subst (book.IsSound put_into) kg sound));
        turns = subst (λ (x : Shown Waiting). Turns x (with_held boxes s c)) (sym kg) turns;
        holding = (b.out, subst (λ (x : Shown Waiting). IsPlanOf x.history (job_of st w) p) (sym kg) line);
      },
    )

pub put_kept : (m k : Shown Waiting) (sendq : ℕ) (boxes : List Held) (jobs : List (Option ℕ)) (w : ℕ) (p q : Out)
    → IsKept m sendq boxes jobs (Some (record { worker = w; plan = p })) → k ≡ book.put_next m m.plan → IsOut k q
    → q.session ≡ p.session → q.next ≡ p.next → book.IsSound put_into k
    → IsKept k sendq boxes jobs (Some (record { worker = w; plan = q }))
put_kept m k sendq boxes jobs w p q i e out session next sound =
    let x : Holder = record { worker = w; plan = p } in
    let st = state_of m sendq boxes jobs (Some x) in let g : Shown Waiting = book.put_next m m.plan in
    let z = size boxes in let y = i.sound.inboxes in
    let carry : (t : ℕ) → 0 < t → t ≤ length boxes → Carries m g t = λ t from to. next_carries m m.plan t
    (λ gone. away_before m t i.sound.book from (omega arith) gone) in
    subst (λ (n : Shown Waiting). IsKept n sendq boxes jobs (Some (record { worker = w; plan = q }))) (sym e)
    (record {
      sound = put_sound st i.sound refl (subst (book.IsSound put_into) e sound);
      turns = book_turns m g boxes i.turns (λ t from to. same_turn m g t (carry t from to));
      holding = (
        subst (λ (n : Shown Waiting). IsOut n q) e out,
        plan_of_same m.history g.history (job_of st w) p q session next (put_accepted m m.plan) i.holding.1,
      );
    })

pub hung_kept : (m k : Shown Waiting) (sendq : ℕ) (boxes : List Held) (jobs : List (Option ℕ))
    (holder : Option Holder) (s : ℕ) (why : Why) (moment : ℤ) → IsKept m sendq boxes jobs holder → worker_of holder
    ≡ None → k ≡ book.after_all m (kind.Hung s why) moment → book.IsSound put_into k → IsKept k sendq boxes jobs holder
hung_kept m k sendq boxes jobs holder s why moment i free e sound =
    let st = state_of m sendq boxes jobs holder in let g : Shown Waiting = book.after_all m (kind.Hung s why) moment in
    let z = size boxes in let y = i.sound.inboxes in
    subst (λ (n : Shown Waiting). IsKept n sendq boxes jobs holder) (sym e)
    (record {
      sound = hung_sound st s why moment i.sound free (subst (book.IsSound put_into) e sound);
      turns = book_turns m g boxes i.turns (λ t from to. same_turn m g t (done_carries m (kind.Hung s why) moment t
          (λ gone. away_before m t i.sound.book from (omega arith) gone) refl));
      holding = free_holding g jobs holder free;
    })

-- a worker without a line begins a record that says nothing
pub silent_kept : (m n : Shown Waiting) (sendq : ℕ) (boxes : List Held) (jobs : List (Option ℕ))
    (holder : Option Holder) (w : ℕ) (k : Kind) (moment : ℤ) (p : Out) → ((t : ℕ) → said_by k t ≡ [])
    → IsCleanKind k → IsKept m sendq boxes jobs holder → 0 < w → w ≤ length jobs → worker_of holder ≡ None
    → job_of (state_of m sendq boxes jobs holder) w ≡ None → n ≡ book.after_begin m k moment → IsOut n p → p.next
    ≡ None
    → book.IsSound put_into n → IsKept n sendq boxes jobs (Some (record { worker = w; plan = p }))
silent_kept m n sendq boxes jobs holder w k moment p silent is i a l free none e out next sound =
    let st = state_of m sendq boxes jobs holder in let g : Shown Waiting = book.after_begin m k moment in
    let z = size boxes in let y = i.sound.inboxes in
    subst (λ (b : Shown Waiting). IsKept b sendq boxes jobs (Some (record { worker = w; plan = p }))) (sym e)
    (record {
      sound = silent_sound st w k moment silent is i.sound free a l none (subst (book.IsSound put_into) e sound);
      turns = book_turns m g boxes i.turns (λ t from to. same_turn m g t
          (begun_carries m k moment t (λ gone. away_before m t i.sound.book from (omega arith) gone) (silent t)));
      holding = (
        subst (λ (b : Shown Waiting). IsOut b p) e out,
        subst
            (λ (o : Option ℕ). IsPlanOf g.history o p) (sym none) next,
      );
    })

-- ---- the lock is given back

pub sweep_ended_kept : (m k : Shown Waiting) (sendq : ℕ) (boxes : List Held) (jobs : List (Option ℕ))
    (w : ℕ) (p : Out) → IsKept m sendq boxes jobs (Some (record { worker = w; plan = p }))
    → job_of (state_of m sendq boxes jobs (Some (record { worker = w; plan = p }))) w ≡ None
    → k ≡ book.after_end m → book.IsSound put_into k → IsKept k sendq boxes jobs None
sweep_ended_kept m k sendq boxes jobs w p i none e sound =
    let st = state_of m sendq boxes jobs (Some (record { worker = w; plan = p })) in
    subst (λ (n : Shown Waiting). IsKept n sendq boxes jobs None) (sym e)
    (record {
      sound = sweep_ended_sound st w i.sound refl none (subst (book.IsSound put_into) e sound);
      turns = book_turns m (book.after_end m) boxes i.turns (λ t from to. record { here = refl; accepted = refl });
      holding = tt;
    })

-- the plan of a worker's line goes with the baton
pub record IsLinePlan (m : Shown Waiting) (boxes : List Held) (s : ℕ) (p : Out) : Type 0 where
  pub turn : Turn
  pub held : (held_at boxes s).turn ≡ Some turn
  pub session : turn.session ≡ s
  pub plan : (p.session ≡ turn.session) × (p.next ≡ Some (turn.next + 1))
  pub goes_on : turn.next + 1 ≡ length (accepted m.history s)

pub line_plan : (m : Shown Waiting) (sendq : ℕ) (boxes : List Held) (jobs : List (Option ℕ)) (w s : ℕ) (p : Out)
    → IsKept m sendq boxes jobs (Some (record { worker = w; plan = p })) → 0 < w
    → job_of (state_of m sendq boxes jobs (Some (record { worker = w; plan = p }))) w ≡ Some s
    → IsLinePlan m boxes s p
line_plan m sendq boxes jobs w s p i a has =
    let j = job_is m sendq boxes jobs (Some (record { worker = w; plan = p })) w s i.sound a has in
    let line : IsPlanOf m.history (Some s) p = subst (λ (o : Option ℕ). IsPlanOf m.history o p) has i.holding.1 in
    let n = length (accepted m.history s) in let some = line.2 in
    let number : n - 1 + 1 ≡ n = omega arith in
    record {
      turn = baton_at m.history s (Begun w);
      held = turn_here m boxes s (Begun w) i.turns j.above j.below j.here (j.place ∙ begun_by w);
      session = refl;
      plan = (line.0, line.1 ∙ ap (λ (q : ℕ). Some q) (sym number));
      goes_on = number;
    }

pub line_ended_kept : (m k : Shown Waiting) (sendq : ℕ) (boxes : List Held) (jobs : List (Option ℕ)) (w s : ℕ)
    (p : Out) (turn : Turn) → IsKept m sendq boxes jobs (Some (record { worker = w; plan = p })) → 0 < w
    → job_of (state_of m sendq boxes jobs (Some (record { worker = w; plan = p }))) w ≡ Some s
    → turn.session ≡ s → turn.next + 1 ≡ length (accepted m.history s) → k ≡ book.after_end m → book.IsSound put_into k
    → (state_of k sendq (with_held boxes s (ended_at (held_at boxes s) turn)) (slice_set jobs (w - 1) None) None
    ≡ step_end (state_of m sendq boxes jobs (Some (record { worker = w; plan = p }))) w (Some s))
    × IsKept k sendq (with_held boxes s (ended_at (held_at boxes s) turn)) (slice_set jobs (w - 1) None) None
line_ended_kept m k sendq boxes jobs w s p turn i a has session goes e sound =
    let st = state_of m sendq boxes jobs (Some (record { worker = w; plan = p })) in
    let j = job_is m sendq boxes jobs (Some (record { worker = w; plan = p })) w s i.sound a has in
    let c = ended_at (held_at boxes s) turn in let g : Shown Waiting = book.after_end m in
    let state : state_of g sendq (with_held boxes s c) (slice_set jobs (w - 1) None) None ≡ step_end st w (Some s) =
    one_state g sendq boxes (slice_set jobs (w - 1) None) None s c (λ b. with_place b Home) refl in (
      ap (λ (n : Shown Waiting). state_of n sendq (with_held boxes s c) (slice_set jobs (w - 1) None) None) e ∙ state,
      subst (λ (n : Shown Waiting). IsKept n sendq (with_held boxes s c) (slice_set jobs (w - 1) None) None) (sym e)
          (record {
            sound = subst IsSound (sym state)
                (line_ended_sound st w s i.sound refl has j.here (subst (book.IsSound put_into) e sound));
            turns = one_turns m g boxes s c j.above j.below i.turns
                (λ t ne from to. record { here = refl; accepted = refl })
                (ap (λ (q : ℕ). Some (record { session = turn.session; next = q })) goes ∙ ap
                (λ (q : ℕ). Some (record { session = q; next = length (accepted m.history s) })) session ∙ ap
                (λ (y : Bool). baton_of y (baton_at m.history s Home)) (sym j.here));
            holding = tt;
          }),
    )

-- ---- an item is taken, and a session is given up

pub took_kept : (m k : Shown Waiting) (sendq : ℕ) (boxes : List Held) (jobs : List (Option ℕ))
    (holder : Option Holder) (s : ℕ) (x : Delivery) → IsKept m sendq boxes jobs holder → 0 < s → s ≤ length boxes
    → is_here m.outboxes s ≡ true
    → slice_get (queue_of (state_of m sendq boxes jobs holder) s) 0 ≡ Some x → k ≡ book.after_take m s
    → book.IsSound put_into k
    → (state_of k sendq (with_held boxes s (with_seen (held_at boxes s) (with_taken (held_at boxes s).seen x))) jobs
    holder ≡ step_take (state_of m sendq boxes jobs holder) s x)
    × IsKept k sendq (with_held boxes s (with_seen (held_at boxes s) (with_taken (held_at boxes s).seen x))) jobs
    holder
took_kept m k sendq boxes jobs holder s x i above below here front e sound =
    let st = state_of m sendq boxes jobs holder in let z = size boxes in let y = i.sound.inboxes in
    let c = with_seen (held_at boxes s) (with_taken (held_at boxes s).seen x) in
    let g : Shown Waiting = book.after_take m s in
    let within : s - 1 < length m.outboxes = omega arith in
    let state : state_of g sendq (with_held boxes s c) jobs holder
    ≡ step_take st s x = one_state g sendq boxes jobs (worker_of holder) s c (λ b. with_taken b x) refl in
    let o : Option Waiting = Some (ring_taken (book.outbox_at m.outboxes s)) in
    let there : is_here g.outboxes s ≡ true = ap is_some (get_or-set_same m.outboxes (s - 1) o None within) in (
      ap (λ (n : Shown Waiting). state_of n sendq (with_held boxes s c) jobs holder) e ∙ state,
      subst (λ (n : Shown Waiting). IsKept n sendq (with_held boxes s c) jobs holder) (sym e)
          (record {
            sound = subst IsSound (sym state)
                (took_sound st s x i.sound above (omega arith) here front (subst (book.IsSound put_into) e sound));
            turns = one_turns m g boxes s c above below i.turns (λ t ne from to. record {
              here = ap is_some
                  (get_or-set_other m.outboxes (s - 1) (t - 1) o None (λ f. ne (omega arith)));
              accepted = refl;
            })
                (i.turns s above below ∙ ap (λ (b : Bool). baton_of b
                (baton_at m.history s (held_at boxes s).seen.place)) (here ∙ sym there));
            holding = took_holding m jobs holder s i.holding;
          }),
    )

pub reaped_kept : (m k : Shown Waiting) (sendq : ℕ) (boxes : List Held) (jobs : List (Option ℕ))
    (holder : Option Holder) (s : ℕ) → IsKept m sendq boxes jobs holder → worker_of holder ≡ None → 0 < s
    → s ≤ length boxes → is_here m.outboxes s ≡ true
    → is_home (inbox_at (state_of m sendq boxes jobs holder) s).place ≡ true → k ≡ book.after_reap m s
    → book.IsSound put_into k
    → (state_of k sendq (with_held boxes s (reaped_at (held_at boxes s) (queue_of
    (state_of m sendq boxes jobs holder) s))) jobs holder ≡ step_reap (state_of m sendq boxes jobs holder) s)
    × IsKept k sendq (with_held boxes s
    (reaped_at (held_at boxes s) (queue_of (state_of m sendq boxes jobs holder) s))) jobs holder
reaped_kept m k sendq boxes jobs holder s i free above below here home e sound =
    let st = state_of m sendq boxes jobs holder in let z = size boxes in let y = i.sound.inboxes in
    let left = queue_of st s in
    let c = reaped_at (held_at boxes s) left in let g : Shown Waiting = book.after_reap m s in
    let within : s - 1 < length m.outboxes = omega arith in
    let state : state_of g sendq (with_held boxes s c) jobs holder
    ≡ step_reap st s = one_state g sendq boxes jobs (worker_of holder) s c (λ b. with_left b left) refl in
    let gone : is_here g.outboxes s ≡ false = ap is_some (get_or-set_same m.outboxes (s - 1) None None within) in (
      ap (λ (n : Shown Waiting). state_of n sendq (with_held boxes s c) jobs holder) e ∙ state,
      subst (λ (n : Shown Waiting). IsKept n sendq (with_held boxes s c) jobs holder) (sym e)
          (record {
            sound = subst IsSound (sym state) (reaped_sound st s i.sound free above (omega arith) here home
                (subst (book.IsSound put_into) e sound));
            turns = one_turns m g boxes s c above below i.turns (λ t ne from to. record {
              here = ap is_some
                  (get_or-set_other m.outboxes (s - 1) (t - 1) None None (λ f. ne (omega arith)));
              accepted = refl;
            })
                (ap (λ (b : Bool). baton_of b (baton_at m.history s (held_at boxes s).seen.place)) (sym gone));
            holding = free_holding g jobs holder free;
          }),
    )

-- ---- a client connects

pub connected_kept : (m k : Shown Waiting) (sendq : ℕ) (boxes : List Held) (jobs : List (Option ℕ))
    (holder : Option Holder) (c : Held) (host : List ℕ) (moment : ℤ) → IsKept m sendq boxes jobs holder
    → worker_of holder ≡ None → host_shape host ≡ true
    → c ≡ record { seen = nothing_fed; turn = Some (record { session = sessions m.history + 1; next = 0 }) }
    → k ≡ book.after_open m host moment (empty_ring sendq) → book.IsSound put_into k
    → (state_of k sendq (boxes ++ c ∷ []) jobs holder ≡ step_connect (state_of m sendq boxes jobs holder) host moment)
    × IsKept k sendq (boxes ++ c ∷ []) jobs holder
connected_kept m k sendq boxes jobs holder c host moment i free shape is e sound =
    let st = state_of m sendq boxes jobs holder in
    let z = size boxes in let y = i.sound.inboxes in let count = i.sound.book.sessions in
    let box : Option Waiting = Some (empty_ring sendq) in
    let g : Shown Waiting = book.after_open m host moment (empty_ring sendq) in
    let n : length (boxes ++ c ∷ []) ≡ length boxes + 1 = length-append boxes (c ∷ []) in
    let all : map seen_of (boxes ++ c ∷ []) ≡ map seen_of boxes ++ nothing_fed
    ∷ [] = map-append seen_of boxes (c ∷ []) ∙ ap (λ (x : Held). map seen_of boxes ++ x.seen ∷ []) is in
    let state : state_of g sendq (boxes ++ c ∷ []) jobs holder ≡ step_connect st host moment = ap
    (λ (xs : List Seen). of_parts g sendq xs jobs (worker_of holder)) all in
    let turns : Turns g (boxes ++ c ∷ []) = λ t from to.
    elim (eqb_tells t (length boxes + 1)) [
      | inl last ↦
          let p : length boxes ≡ t - 1 = let f = last.1 in omega arith in
          let out : length m.outboxes ≡ t - 1 = omega arith in
          let later : sessions m.history < t = let f = last.1 in omega arith in
          let number : sessions m.history + 1 ≡ t = let f = last.1 in omega arith in
          let new : held_at (boxes ++ c ∷ []) t ≡ record {
            seen = nothing_fed;
            turn = Some (record { session = t; next = 0 });
          } = get_or_push boxes c no_inbox (t - 1) p ∙ is
          ∙ ap (λ (j : ℕ). record { seen = nothing_fed; turn = Some (record { session = j; next = 0 }) })
          number in
          let there : is_here g.outboxes t ≡ true = ap is_some (get_or_push m.outboxes box None (t - 1) out) in
          let none : accepted g.history t ≡ [] = append-nil (accepted m.history t)
          ∙ none_accepted m.settings m.history t i.sound.book.legal later in
          subst (λ (x : Held). x.turn ≡ baton_of (is_here g.outboxes t) (baton_at g.history t x.seen.place)) (sym new)
          (ap (λ (xs : List Piece). Some (record { session = t; next = length xs })) (sym none) ∙ ap
          (λ (b : Bool). baton_of b (baton_at g.history t Home)) (sym there))
      | inr other ↦
          let within : t - 1 < length boxes = let ne = other.1 in omega arith in
          let below : t ≤ length boxes = let ne = other.1 in omega arith in
          let inside : t - 1 < length m.outboxes = omega arith in
          let old : held_at (boxes ++ c ∷ []) t
          ≡ held_at boxes t = get_or_append_left boxes (c ∷ []) no_inbox (t - 1) within in
          subst (λ (x : Held). x.turn ≡ baton_of (is_here g.outboxes t) (baton_at g.history t x.seen.place)) (sym old)
          (i.turns t from below ∙ turn_like m g t (held_at boxes t).seen.place
          (record {
            here = ap is_some (get_or_append_left m.outboxes (box ∷ []) None (t - 1) inside);
            accepted = append-nil (accepted m.history t);
          }))
    ] in (
      ap (λ (x : Shown Waiting). state_of x sendq (boxes ++ c ∷ []) jobs holder) e ∙ state,
      subst (λ (x : Shown Waiting). IsKept x sendq (boxes ++ c ∷ []) jobs holder) (sym e)
          (record {
            sound = subst IsSound (sym state) (connected_sound st host moment shape i.sound
                (subst (book.IsSound put_into) e sound));
            turns = turns;
            holding = free_holding g jobs holder free;
          }),
    )

queue_in : (o : Option Waiting) (left : List Delivery) → is_some o ≡ true
    → waits o left ≡ deliveries (book.box_of o).queue
queue_in None left e = absurd (let f : false ≡ true = e in cc)
queue_in (Some w) left e = refl

-- what waits for a session that is here
pub queue_here : (m : Shown Waiting) (sendq : ℕ) (boxes : List Held) (jobs : List (Option ℕ))
    (holder : Option Holder) (s : ℕ) → is_here m.outboxes s ≡ true → queue_of (state_of m sendq boxes jobs holder) s
    ≡ deliveries (book.outbox_at m.outboxes s).queue
queue_here m sendq boxes jobs holder s here = queue_in (slice_index_or m.outboxes (s - 1) None)
    (inbox_at (state_of m sendq boxes jobs holder) s).left here

pub fed_lines : (m : Shown Waiting) (sendq : ℕ) (boxes : List Held) (jobs : List (Option ℕ))
    (holder : Option Holder) (s : ℕ) (octets : List ℕ) (n : ℕ) (c : Held)
    → (a : IsRead (held_at boxes s) octets n c)
    → lines ((inbox_at (state_of m sendq boxes jobs holder) s).fed ++ octets)
    ≡ lines (inbox_at (state_of m sendq boxes jobs holder) s).fed ++ a.added
fed_lines m sendq boxes jobs holder s octets n c a = subst (λ (b : Seen). lines (b.fed ++ octets)
    ≡ lines b.fed ++ a.added) (sym (seen_is m sendq boxes jobs holder s)) a.adds
