-- What clauses see of a ledger, and its steps: this project's own promise of how deliveries reach outboxes.
use Rattle.std.specs.Prelude.{◌≡◌, ℕ, ℤ, zero, suc, ◌+◌, ◌-◌, ◌<◌, ◌≤◌, Bool, true, false, not, ◌&&◌, ◌==◌}
use Rattle.std.specs.Prelude.{cond, List, [], ◌∷◌, ◌++◌, length, map, filter, sum_by, if◌then◌else◌}
use Rattle.std.specs.Prelude.{slice_index_or, slice_set, Option, Some, None, IsSome, All}
use Rattle.std.specs.Option.{is_some}
use Rattle.line_grammar.specs.declared.splitter.Piece.{Piece}
use Rattle.chronicle.specs.declared.why.Why.{Why}
use Rattle.chronicle.specs.declared.record.Kind.{Kind}
use Rattle.chronicle.specs.declared.record.Kind.TheVariants.{Opened, Said, Hung, Gone, Ticked}
use Rattle.chronicle.specs.History.{Rec, IsMomentAfter, last_moment, sessions, actor, accepted, misses, shut, gone}
use Rattle.chronicle.specs.Idle.{is_pinged, is_late}
use Rattle.chronicle.specs.Journal.{Limit, most, fresh_record, miss}
use Rattle.registration.specs.declared.settings.Settings.{Settings}
use Rattle.deliveries.specs.declared.delivery.Delivery.{Delivery}
use Rattle.deliveries.specs.declared.item.Item.{Item}
use Rattle.ledger.specs.declared.plan.Planned.{Planned}
use Rattle.ledger.specs.declared.refusals.OpenRefusal.{OpenRefusal}
use Rattle.ledger.specs.declared.refusals.OpenRefusal.TheVariants as opening
use Rattle.ledger.specs.declared.refusals.LineRefusal.{LineRefusal}
use Rattle.ledger.specs.declared.refusals.LineRefusal.TheVariants as accepting
use Rattle.ledger.specs.declared.refusals.HangRefusal.{HangRefusal}
use Rattle.ledger.specs.declared.refusals.HangRefusal.TheVariants as hanging
use Rattle.ledger.specs.declared.refusals.SweepRefusal.{SweepRefusal}
use Rattle.ledger.specs.declared.refusals.SweepRefusal.TheVariants as sweeping
use Rattle.ledger.specs.declared.refusals.TickRefusal.{TickRefusal}
use Rattle.ledger.specs.declared.refusals.TickRefusal.TheVariants as ticking
use Rattle.ledger.specs.declared.refusals.RollRefusal.{RollRefusal}
use Rattle.ledger.specs.declared.refusals.RollRefusal.TheVariants as rolling
use Rattle.ledger.specs.declared.refusals.ReapRefusal.{ReapRefusal}
use Rattle.ledger.specs.declared.refusals.ReapRefusal.TheVariants as reaping
use Rattle.ledger.specs.declared.outcomes.Step.{Step}
use Rattle.ledger.specs.declared.outcomes.Step.TheVariants.{Put, Missed}
use Rattle.outbox.specs.declared.queue.PutFault.{PutFault}
use Rattle.outbox.specs.Ring.{Waiting, empty_ring, has_room, with_put, with_taken}
use Rattle.deliveries.specs.Items.{deliveries, front}
use Rattle.deliveries.specs.Growth.{Grows}
use Rattle.deliveries.specs.Owed.{delivery, owed}
use Rattle.deliveries.specs.Base.{Base, base, dropped_part, kept_part}
use Rattle.ledger.specs.Legal.{IsLegal}
use Rattle.deeds.specs.Deeds.{facts}
use Rattle.roster.specs.LookBack.{numbers, nick, why}

-- the history, how many records may be kept of it and how many were dropped, the settings of the server, each
-- session's outbox until it is reaped, the deliveries of the newest record that aren't put yet, and whether a plan
-- is out
pub record Shown (O : Type 0) : Type 0 where
  pub history : List Rec
  pub limit : Limit
  pub settings : Settings
  pub outboxes : List (Option O)
  pub plan : List Planned
  pub busy : Bool

-- the nickname of session s by what was accepted: none once it is gone
abbrev pub nickname : {O : Type 0} → Shown O → ℕ → Option (List ℕ)
nickname m s = nick (facts m.settings m.history) s

-- why session s, which isn't gone, ended by what was accepted; where that was never told its outbox was full
abbrev pub ended_for : {O : Type 0} → Shown O → ℕ → Why
ended_for m s = why (facts m.settings m.history) s

-- the outbox of session t, until it is reaped
abbrev pub box_at : {O : Type 0} → List (Option O) → ℕ → Option O
box_at boxes t = slice_index_or boxes (t - 1) None

-- all that was ever put into an outbox
abbrev pub sent_by : {O : Type 0} → (O → List Item) → Option O → List Item
sent_by sent None = []
sent_by sent (Some o) = sent o

-- whether session t was opened and isn't reaped
abbrev pub is_here : {O : Type 0} → List (Option O) → ℕ → Bool
is_here boxes t = is_some (slice_index_or boxes (t - 1) None)

-- how many sessions are
abbrev pub here_by : {O : Type 0} → Option O → ℕ
here_by o = if is_some o then 1 else 0

abbrev pub count_here : {O : Type 0} → List (Option O) → ℕ
count_here boxes = sum_by here_by boxes

-- a ring, empty where there is none
abbrev pub box_of : Option Waiting → Waiting
box_of None = empty_ring 0
box_of (Some b) = b

-- the ring of session t
abbrev pub outbox_at : List (Option Waiting) → ℕ → Waiting
outbox_at boxes t = box_of (slice_index_or boxes (t - 1) None)

-- records that are kept free for a session: two until it is shut, one until it is gone
abbrev pub kept_for : List Rec → ℕ → ℕ
kept_for h t = cond (gone h t) 0 (cond (shut h t) 1 2)

abbrev pub kept_total : List Rec → ℕ
kept_total h = sum_by (kept_for h) (numbers 1 (sessions h))

-- ---- the plan of a record: its deliveries, the actor's first, then by session number, to sessions that weren't
-- shut before it

abbrev pub due : Settings → List Rec → Kind → ℤ → ℕ → List Delivery
due g h k moment t = cond (shut h t) [] (delivery g h k moment t)

abbrev pub puts : ℕ → List Delivery → List Planned
puts t xs = map (λ x. record { session = t; delivery = x }) xs

-- what f gives the n sessions from t on, but for s
abbrev pub others : (ℕ → List Delivery) → ℕ → ℕ → ℕ → List Planned
others f s t zero = []
others f s t (suc n) = cond (t == s) [] (puts t (f t)) ++ others f s (t + 1) n

abbrev pub plan_by : (ℕ → List Delivery) → ℕ → ℕ → List Planned
plan_by f s n = puts s (f s) ++ others f s 1 n

abbrev pub plan_of : Settings → List Rec → Kind → ℤ → ℕ → List Planned
plan_of g h k moment n = plan_by (due g h k moment) (actor k) n

-- what of a plan is for t
abbrev pub plan_part : List Planned → ℕ → List Delivery
plan_part [] t = []
plan_part (p ∷ ps) t = cond (p.session == t) (p.delivery ∷ plan_part ps t) (plan_part ps t)

-- ---- steps

abbrev pub empty_ledger : {O : Type 0} → ℕ → Settings → Shown O
empty_ledger limit settings = record {
  history = [];
  limit = record { records = limit; dropped = 0; is_cut = false };
  settings = settings;
  outboxes = [];
  plan = [];
  busy = false;
}

-- one more session
abbrev pub after_open : {O : Type 0} → Shown O → List ℕ → ℤ → O → Shown O
after_open m host moment box =
    record {
      history = fresh_record m.history moment (Opened (sessions m.history + 1) host) ∷ m.history;
      limit = m.limit;
      settings = m.settings;
      outboxes = m.outboxes ++ Some box ∷ [];
      plan = m.plan;
      busy = m.busy;
    }

-- a record was appended, and its deliveries are planned
abbrev pub after_begin : {O : Type 0} → Shown O → Kind → ℤ → Shown O
after_begin m k moment =
    record {
      history = fresh_record m.history moment k ∷ m.history;
      limit = m.limit;
      settings = m.settings;
      outboxes = m.outboxes;
      plan = plan_of m.settings m.history k moment (length m.outboxes);
      busy = true;
    }

-- what is put for a planned delivery: it knows the history in which it is put, and the settings of the server
abbrev pub item_of : {O : Type 0} → Shown O → Planned → Item
item_of m p = record { delivery = p.delivery; session = p.session; front = m.history; settings = m.settings }

-- a planned delivery was put, and this is its outbox then
abbrev pub delivered_to : {O : Type 0} → Shown O → Planned → List Planned → O → Shown O
delivered_to m p ps box = record {
  history = m.history;
  limit = m.limit;
  settings = m.settings;
  outboxes = slice_set m.outboxes (p.session - 1) (Some box);
  plan = ps;
  busy = m.busy;
}

-- a planned delivery wasn't put: the newest record misses the session
abbrev pub after_miss : {O : Type 0} → Shown O → Planned → List Planned → Shown O
after_miss m p ps = record {
  history = miss m.history p.session;
  limit = m.limit;
  settings = m.settings;
  outboxes = m.outboxes;
  plan = ps;
  busy = m.busy;
}

-- the outbox of a planned delivery took it
pub record IsDelivered {O : Type 0} (accepts : O → Item → O → Type 0) (m : Shown O) (p : Planned)
    (ps : List Planned) (k : Shown O) : Type 0 where
  pub before : O
  pub after : O
  pub here : box_at m.outboxes p.session ≡ Some before
  pub accepted : accepts before (item_of m p) after
  pub book : k ≡ delivered_to m p ps after

-- the outbox of a planned delivery didn't take it, for a cause
pub record IsMissed {O : Type 0} (refuses : O → PutFault → Type 0) (m : Shown O) (p : Planned) (ps : List Planned)
    (k : Shown O) : Type 0 where
  pub before : O
  pub cause : PutFault
  pub here : box_at m.outboxes p.session ≡ Some before
  pub refused : refuses before cause
  pub book : k ≡ after_miss m p ps

-- what became of the plan's first delivery: it was put, or missed where its outbox didn't take it
abbrev pub IsPutNext : {O : Type 0} → (O → Item → O → Type 0) → (O → PutFault → Type 0) → Shown O → List Planned
    → Option Step → Shown O → Type 0
IsPutNext accepts refuses m [] None k = k ≡ m
IsPutNext accepts refuses m [] (Some step) k = ⊥
IsPutNext accepts refuses m (p ∷ ps) None k = ⊥
IsPutNext accepts refuses m (p ∷ ps) (Some (Put t)) k = (t ≡ p.session) × IsDelivered accepts m p ps k
IsPutNext accepts refuses m (p ∷ ps) (Some (Missed t)) k = (t ≡ p.session) × IsMissed refuses m p ps k

-- until nothing is left in the plan
abbrev pub IsPutAll : {O : Type 0} → (O → Item → O → Type 0) → (O → PutFault → Type 0) → Shown O → List Planned
    → Shown O → Type 0
IsPutAll accepts refuses m [] k = k ≡ m
IsPutAll {O} accepts refuses m (p ∷ ps) k = (n : Shown O) × (step : Step)
    × IsPutNext accepts refuses m (p ∷ ps) (Some step) n × IsPutAll accepts refuses n ps k

-- the plan is given back
abbrev pub after_end : {O : Type 0} → Shown O → Shown O
after_end m = record {
  history = m.history;
  limit = m.limit;
  settings = m.settings;
  outboxes = m.outboxes;
  plan = m.plan;
  busy = false;
}

-- a record was appended, and all its deliveries were put or missed
abbrev pub IsDone : {O : Type 0} → (O → Item → O → Type 0) → (O → PutFault → Type 0) → Shown O → Kind → ℤ
    → Shown O → Type 0
IsDone {O} accepts refuses m kind moment k = (n : Shown O) × IsPutAll accepts refuses (after_begin m kind moment)
    (plan_of m.settings m.history kind moment (length m.outboxes)) n × (k ≡ after_end n)

-- all records were dropped, and still count
abbrev pub after_roll : {O : Type 0} → Shown O → Shown O
after_roll m = record {
  history = m.history;
  limit = record { records = m.limit.records; dropped = length m.history; is_cut = true };
  settings = m.settings;
  outboxes = m.outboxes;
  plan = m.plan;
  busy = m.busy;
}

-- the base of the records that were dropped
abbrev pub base_of : {O : Type 0} → Shown O → Base
base_of m = base m.settings (dropped_part m.limit.dropped m.history)

-- the records that are kept
abbrev pub kept_of : {O : Type 0} → Shown O → List Rec
kept_of m = kept_part m.limit.dropped m.history

-- a session and its outbox were given up
abbrev pub after_reap : {O : Type 0} → Shown O → ℕ → Shown O
after_reap m t = record {
  history = m.history;
  limit = m.limit;
  settings = m.settings;
  outboxes = slice_set m.outboxes (t - 1) None;
  plan = m.plan;
  busy = m.busy;
}

-- so many items were put into an outbox that its taker didn't take
pub record IsLeft {O W : Type 0} (sent : O → List Item) (taken : O → W → List Item) (box : Option O) (taker : W)
    (count : ℕ) : Type 0 where
  pub outbox : O
  pub here : box ≡ Some outbox
  pub left : List Item
  pub rest : sent outbox ≡ taken outbox taker ++ left
  pub count_is : count ≡ length left

-- ---- steps over rings, of which is known what they have room for

-- a planned delivery was put at the end of its ring
abbrev pub after_put : Shown Waiting → Planned → List Planned → Shown Waiting
after_put m p ps = delivered_to m p ps (with_put (outbox_at m.outboxes p.session) (item_of m p))

-- the plan's first delivery was put, or missed where its ring was full
abbrev pub put_next : Shown Waiting → List Planned → Shown Waiting
put_next m [] = m
put_next m (p ∷ ps) = cond (has_room (outbox_at m.outboxes p.session)) (after_put m p ps) (after_miss m p ps)

-- until nothing is left in the plan
abbrev pub put_all : Shown Waiting → List Planned → Shown Waiting
put_all m [] = m
put_all m (p ∷ ps) = put_all (put_next m (p ∷ ps)) ps

-- a record was appended, and all its deliveries were put or missed
abbrev pub after_all : Shown Waiting → Kind → ℤ → Shown Waiting
after_all m k moment =
    after_end (put_all (after_begin m k moment) (plan_of m.settings m.history k moment (length m.outboxes)))

-- the front of a session's ring was taken
abbrev pub after_take : Shown Waiting → ℕ → Shown Waiting
after_take m t =
    record {
      history = m.history;
      limit = m.limit;
      settings = m.settings;
      outboxes = slice_set m.outboxes (t - 1)
          (Some (with_taken (outbox_at m.outboxes t)));
      plan = m.plan;
      busy = m.busy;
    }

-- ---- who is to be swept

-- the first that f holds of
abbrev pub first : (ℕ → Bool) → List ℕ → Option ℕ
first f [] = None
first f (t ∷ ts) = cond (f t) (Some t) (first f ts)

-- shut, and not gone
abbrev pub is_to_sweep : List Rec → ℕ → Bool
is_to_sweep h t = shut h t && not (gone h t)

-- the session of the lowest number that is so
abbrev pub to_sweep : List Rec → Option ℕ
to_sweep h = first (is_to_sweep h) (numbers 1 (sessions h))

-- ---- who is pinged by a tick, and who is late

-- the sessions that a tick pings, by their numbers
abbrev pub to_ping : List Rec → ℤ → List ℕ
to_ping h moment = filter (λ t. is_pinged h t moment) (numbers 1 (sessions h))

-- the late session of the lowest number
abbrev pub late : List Rec → ℤ → Option ℕ
late h moment = first (λ t. is_late h t moment) (numbers 1 (sessions h))

-- ---- what holds of every ledger

-- p is what the newest record owes its session, which isn't shut and didn't miss it
abbrev pub IsOwed : Settings → List Rec → Planned → Type 0
IsOwed g [] p = ⊥
IsOwed g (r ∷ h) p = (delivery g h r.kind r.moment p.session ≡ p.delivery ∷ []) × (shut h p.session ≡ false)
    × (misses r p.session ≡ false)

-- each delivery of a plan is owed by the newest record, to one of n sessions, and no session has two
abbrev pub IsPlan : Settings → List Rec → ℕ → List Planned → Type 0
IsPlan g h n [] = Unit {0}
IsPlan g h n (p ∷ ps) = (0 < p.session) × (p.session ≤ n) × (plan_part ps p.session ≡ []) × IsOwed g h p
    × IsPlan g h n ps

-- what was put into the outbox of session t: it is of that session and of this server, and this history has grown
-- from that of each
pub record IsSent (g : Settings) (h : List Rec) (t : ℕ) (items : List Item) : Type 0 where
  pub whose : All (λ (y : Item). y.session ≡ t) items
  pub settings : All (λ (y : Item). y.settings ≡ g) items
  pub grows : All (λ (y : Item). Grows (front y) h) items

-- the promise: what was put and what is still in the plan is what the history owes
pub record IsSound {O : Type 0} (sent : O → List Item) (m : Shown O) : Type 0 where
  pub owed : (t : ℕ) → 0 < t → t ≤ length m.outboxes → is_here m.outboxes t ≡ true
      → deliveries (sent_by sent (box_at m.outboxes t)) ++ plan_part m.plan t ≡ owed m.settings m.history t
  pub items : (t : ℕ) → 0 < t → t ≤ length m.outboxes
      → IsSent m.settings m.history t (sent_by sent (box_at m.outboxes t))
  pub reaped : (t : ℕ) → 0 < t → t ≤ length m.outboxes → is_here m.outboxes t ≡ false → gone m.history t ≡ true
  pub plan : IsPlan m.settings m.history (length m.outboxes) m.plan
  pub idle : m.busy ≡ false → m.plan ≡ []
  pub legal : IsLegal m.settings m.history
  pub sessions : sessions m.history ≡ length m.outboxes
  pub room : length m.history + kept_total m.history ≤ most m.limit

-- ---- when a session is opened or a line begins

-- a baton: whose line is next, and which
pub record Turn : Type 0 where
  pub session : ℕ
  pub next : ℕ

-- the next line of a session that was opened
pub record IsTurn {O : Type 0} (m : Shown O) (b : Turn) : Type 0 where
  pub from_1 : 0 < b.session
  pub opened : b.session ≤ sessions m.history
  pub here : is_here m.outboxes b.session ≡ true
  pub next : b.next ≡ length (accepted m.history b.session)

pub record MayOpen {O : Type 0} (m : Shown O) (moment : ℤ) : Type 0 where
  pub idle : m.busy ≡ false
  pub few : count_here m.outboxes < m.settings.sessions
  pub room : length m.history + kept_total m.history + 3 ≤ most m.limit
  pub in_time : IsMomentAfter (last_moment m.history) moment

-- the first of the refusals whose cause holds, want of memory last
abbrev pub IsOpenRefusal : {O : Type 0} → Shown O → ℤ → OpenRefusal → Type 0
IsOpenRefusal m moment opening.Busy = m.busy ≡ true
IsOpenRefusal m moment opening.TooManySessions = (m.busy ≡ false) × (m.settings.sessions ≤ count_here m.outboxes)
IsOpenRefusal m moment opening.JournalFull = (m.busy ≡ false) × (count_here m.outboxes < m.settings.sessions)
    × (most m.limit < length m.history + kept_total m.history + 3)
IsOpenRefusal m moment opening.BadMoment = (m.busy ≡ false) × (count_here m.outboxes < m.settings.sessions)
    × (length m.history + kept_total m.history + 3 ≤ most m.limit) × (IsMomentAfter (last_moment m.history) moment → ⊥)
IsOpenRefusal m moment opening.Memory = MayOpen m moment

pub record MayBegin {O : Type 0} (m : Shown O) (b : Turn) (moment : ℤ) : Type 0 where
  pub idle : m.busy ≡ false
  pub turn : IsTurn m b
  pub not_shut : shut m.history b.session ≡ false
  pub room : length m.history + kept_total m.history + 1 ≤ most m.limit
  pub in_time : IsMomentAfter (last_moment m.history) moment

abbrev pub IsLineRefusal : {O : Type 0} → Shown O → Turn → ℤ → LineRefusal → Type 0
IsLineRefusal m b moment accepting.Busy = m.busy ≡ true
IsLineRefusal m b moment accepting.WrongTurn = (m.busy ≡ false) × (IsTurn m b → ⊥)
IsLineRefusal m b moment accepting.Shut = (m.busy ≡ false) × IsTurn m b × (shut m.history b.session ≡ true)
IsLineRefusal m b moment accepting.JournalFull = (m.busy ≡ false) × IsTurn m b × (shut m.history b.session ≡ false)
    × (most m.limit < length m.history + kept_total m.history + 1)
IsLineRefusal m b moment accepting.BadMoment = (m.busy ≡ false) × IsTurn m b × (shut m.history b.session ≡ false)
    × (length m.history + kept_total m.history + 1 ≤ most m.limit) × (IsMomentAfter (last_moment m.history) moment → ⊥)
IsLineRefusal m b moment accepting.Memory = MayBegin m b moment

-- a session that was opened and isn't reaped
pub record IsKnown {O : Type 0} (m : Shown O) (s : ℕ) : Type 0 where
  pub from_1 : 0 < s
  pub opened : s ≤ sessions m.history
  pub here : is_here m.outboxes s ≡ true

pub record MayHang {O : Type 0} (m : Shown O) (s : ℕ) (moment : ℤ) : Type 0 where
  pub idle : m.busy ≡ false
  pub known : IsKnown m s
  pub not_shut : shut m.history s ≡ false
  pub in_time : IsMomentAfter (last_moment m.history) moment

abbrev pub IsHangRefusal : {O : Type 0} → Shown O → ℕ → ℤ → HangRefusal → Type 0
IsHangRefusal m s moment hanging.Busy = m.busy ≡ true
IsHangRefusal m s moment hanging.NoSession = (m.busy ≡ false) × (IsKnown m s → ⊥)
IsHangRefusal m s moment hanging.Shut = (m.busy ≡ false) × IsKnown m s × (shut m.history s ≡ true)
IsHangRefusal m s moment hanging.BadMoment = (m.busy ≡ false) × IsKnown m s × (shut m.history s ≡ false)
    × (IsMomentAfter (last_moment m.history) moment → ⊥)

pub record MaySweep {O : Type 0} (m : Shown O) (moment : ℤ) : Type 0 where
  pub idle : m.busy ≡ false
  pub in_time : IsMomentAfter (last_moment m.history) moment

-- want of memory comes only where there is a session to sweep
abbrev pub IsSweepRefusal : {O : Type 0} → Shown O → ℤ → SweepRefusal → Type 0
IsSweepRefusal m moment sweeping.Busy = m.busy ≡ true
IsSweepRefusal m moment sweeping.BadMoment = (m.busy ≡ false) × (IsMomentAfter (last_moment m.history) moment → ⊥)
IsSweepRefusal m moment sweeping.Memory = MaySweep m moment × IsSome (to_sweep m.history)

-- no plan is out, and the moment may come next
pub record MayTick {O : Type 0} (m : Shown O) (moment : ℤ) : Type 0 where
  pub idle : m.busy ≡ false
  pub in_time : IsMomentAfter (last_moment m.history) moment

-- somebody is to be pinged at this moment
abbrev pub IsSomebodyIdle : {O : Type 0} → Shown O → ℤ → Type 0
IsSomebodyIdle m moment = to_ping m.history moment ≡ [] → ⊥

-- there is room for a record beside those that are kept free
abbrev pub HasRoom : {O : Type 0} → Shown O → Type 0
HasRoom m = length m.history + kept_total m.history + 1 ≤ most m.limit

-- a full journal and want of memory come only where somebody is to be pinged
abbrev pub IsTickRefusal : {O : Type 0} → Shown O → ℤ → TickRefusal → Type 0
IsTickRefusal m moment ticking.Busy = m.busy ≡ true
IsTickRefusal m moment ticking.BadMoment = (m.busy ≡ false) × (IsMomentAfter (last_moment m.history) moment → ⊥)
IsTickRefusal m moment ticking.JournalFull = MayTick m moment × IsSomebodyIdle m moment × (HasRoom m → ⊥)
IsTickRefusal m moment ticking.Memory = MayTick m moment × IsSomebodyIdle m moment × HasRoom m

-- want of memory comes only where no plan is out
abbrev pub IsRollRefusal : {O : Type 0} → Shown O → RollRefusal → Type 0
IsRollRefusal m rolling.Busy = m.busy ≡ true
IsRollRefusal m rolling.Memory = m.busy ≡ false

pub record MayReap {O : Type 0} (m : Shown O) (s : ℕ) : Type 0 where
  pub idle : m.busy ≡ false
  pub known : IsKnown m s
  pub gone : gone m.history s ≡ true

abbrev pub IsReapRefusal : {O : Type 0} → Shown O → ℕ → ReapRefusal → Type 0
IsReapRefusal m s reaping.Busy = m.busy ≡ true
IsReapRefusal m s reaping.Stranger = (m.busy ≡ false) × (IsKnown m s → ⊥)
IsReapRefusal m s reaping.NotGone = (m.busy ≡ false) × IsKnown m s × (gone m.history s ≡ false)

-- who missed the newest record
abbrev pub newest_missed : List Rec → List ℕ
newest_missed [] = []
newest_missed (r ∷ h) = r.missed

-- the session of the newest record
abbrev pub newest_actor : List Rec → ℕ
newest_actor [] = 0
newest_actor (r ∷ h) = actor r.kind

-- which line of its session is next, where the newest record is a line
abbrev pub next_of : Kind → Option ℕ
next_of (Opened s host) = None
next_of (Said s i piece) = Some (i + 1)
next_of (Hung s why) = None
next_of (Gone s) = None
next_of Ticked = None

abbrev pub newest_next : List Rec → Option ℕ
newest_next [] = None
newest_next (r ∷ h) = next_of r.kind

-- the line that a record says, and whose it is
abbrev pub line_of : Kind → Option (ℕ × Piece)
line_of (Opened s host) = None
line_of (Said s i piece) = Some (s, piece)
line_of (Hung s why) = None
line_of (Gone s) = None
line_of Ticked = None

-- the line of the newest record
abbrev pub newest_line : List Rec → Option (ℕ × Piece)
newest_line [] = None
newest_line (r ∷ h) = line_of r.kind

-- ---- a plan that is handed out

-- the number and the session of its record, which is 0 for a tick, which of the session's lines is next, where the
-- record is a line, who missed the record so far, and how many more it has room to note
pub record Out : Type 0 where
  pub number : ℕ
  pub session : ℕ
  pub next : Option ℕ
  pub missed : List ℕ
  pub room : ℕ

-- it is the one that is out
pub record IsOut {O : Type 0} (m : Shown O) (p : Out) : Type 0 where
  pub busy : m.busy ≡ true
  pub number : p.number ≡ length m.history
  pub session : p.session ≡ newest_actor m.history
  pub next : p.next ≡ newest_next m.history
  pub opened : p.session ≤ sessions m.history
  pub missed : p.missed ≡ newest_missed m.history
  pub room : length m.plan ≤ p.room
  pub kept : m.limit.dropped < length m.history
