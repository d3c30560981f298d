-- What a ledger keeps for its sessions, and how that stands for the history.
use Rattle.std.specs.Prelude.{◌≡◌, ℕ, ℤ, ◌+◌, ◌-◌, ◌^◌, ◌<◌, ◌≤◌, Bool, true, false, not, ◌&&◌, nat_eq, nat_lt}
use Rattle.std.specs.Prelude.{nat_le, cond, if◌then◌else◌, List, [], ◌∷◌, ◌++◌, filter, map, length, sum_by}
use Rattle.std.specs.Prelude.{slice_index_or, slice_get, slice_set, Option, Some, None, IsSome, IfSome}
use Rattle.std.specs.Map.{lookup}
use Rattle.chronicle.specs.History.{Rec, accepted, shut, gone}
use Rattle.deliveries.specs.declared.delivery.Delivery.{Delivery}
use Rattle.deliveries.specs.declared.item.Item.{Item}
use Rattle.deliveries.specs.declared.delivery.Delivery.TheVariants.{Last}
use Rattle.chronicle.specs.declared.why.Why.TheVariants.{Quit}
use Rattle.ledger.specs.declared.seat.Seat.{Seat}
use Rattle.ledger.specs.declared.plan.Planned.{Planned}
use Rattle.outbox.specs.declared.queue.PutFault.{PutFault}
use Rattle.deliveries.specs.Items.{Continues}
use Rattle.ledger.specs.Ledger.{box_at, is_here, count_here, puts, others}
use Rattle.roster.specs.declared.deed.Deed.{Deed}
use Rattle.roster.specs.LookBack.{caps, numbers}
use Rattle.labels_batches.specs.Answers.{tagged_as}
use Rattle.labels_batches.specs.Rendered.{text_as}
use Rattle.registration.specs.declared.settings.Settings.{Settings}
use Rattle.deeds.specs.Ping.{ping_line}
use Rattle.transactions.specs.declared.verdict.ShownLine.{ShownLine}
use Rattle.transactions.specs.Effects.{lines_heard}
use Rattle.deliveries.specs.Owed.{item}

abbrev pub no_seat : Seat
no_seat = record { shut = false; gone = false; accepted = 0 }

abbrev pub seat_at : List Seat → ℕ → Seat
seat_at seats t = slice_index_or seats (t - 1) no_seat

-- how a session stands that has no seat any more, since it was reaped: no seat has so many accepted lines
abbrev pub away : Seat
away = record { shut = true; gone = true; accepted = 2 ^ 64 }

abbrev pub or_away : Option Seat → Seat
or_away None = away
or_away (Some seat) = seat

-- whether a session has a seat
abbrev pub stands : Seat → Bool
stands seat = nat_lt seat.accepted (2 ^ 64)

-- session t was opened
pub record IsSeated (seats : List Seat) (t : ℕ) : Type 0 where
  pub from_1 : 0 < t
  pub opened : t ≤ length seats

-- whether session t was opened and isn't shut
abbrev pub hears : List Seat → ℕ → Bool
hears seats t = nat_lt 0 t && nat_le t (length seats) && not (seat_at seats t).shut

-- whether session t is shut and isn't gone
abbrev pub sweeps : List Seat → ℕ → Bool
sweeps seats t = (seat_at seats t).shut && not (seat_at seats t).gone

abbrev pub kept_by : Seat → ℕ
kept_by seat = if seat.gone then 0 else (if seat.shut then 1 else 2)

-- two for a session that isn't shut
abbrev pub open_by : Seat → ℕ
open_by seat = if seat.gone then 0 else (if seat.shut then 0 else 2)

-- numbers in their order, with s at its place among them
abbrev pub at_its_place : ℕ → List ℕ → List ℕ
at_its_place s [] = s ∷ []
at_its_place s (x ∷ xs) = cond (nat_lt x s) (x ∷ at_its_place s xs) (s ∷ x ∷ xs)

-- what stands ready is what the seats say, and there is room to list each session that may be shut
pub record IsCounted (seats : List Seat) (kept : ℕ) (to_sweep : List ℕ) (most : ℕ) : Type 0 where
  pub held : kept ≡ sum_by kept_by seats
  pub listed : to_sweep ≡ filter (sweeps seats) (numbers 1 (length seats))
  pub open_ : kept ≡ length to_sweep + sum_by open_by seats
  pub room : kept ≤ most

-- ---- seats and outboxes in maps, by the numbers of their sessions

-- each that is kept is of one of the first n sessions
abbrev pub AreOpened : {X : Type 0} → List (ℕ × X) → ℕ → Type 0
AreOpened kept n = (t : ℕ) → IsSome (lookup (nat_eq t) kept) → (0 < t) × (t ≤ n)

-- at place i stands the entry of session s
pub record IsPlace {X : Type 0} (kept : List (ℕ × X)) (s i : ℕ) : Type 0 where
  pub value : X
  pub entry : slice_get kept i ≡ Some (s, value)
  pub found : lookup (nat_eq s) kept ≡ Some value

-- the seats of the first n sessions
abbrev pub seats_of : List (ℕ × Seat) → ℕ → List Seat
seats_of kept n = map (λ t. or_away (lookup (nat_eq t) kept)) (numbers 1 n)

-- what is kept of seats, and what stands ready
pub record AreSeats (kept : List (ℕ × Seat)) (n held : ℕ) (to_sweep : List ℕ) (most : ℕ) : Type 0 where
  pub opened : AreOpened kept n
  pub counted : IsCounted (seats_of kept n) held to_sweep most

-- what a text tells a session, unless it is shut
abbrev pub unless_shut : Bool → ℕ → List ℕ → List Delivery
unless_shut is_shut number bytes = cond is_shut [] (item number bytes)

-- what a text tells t, where it was opened and isn't shut
abbrev pub told_here : List Seat → ℕ → ℕ → List ℕ → List Delivery
told_here seats number t bytes = unless_shut (not (hears seats t)) number bytes

-- what a text for each session tells t
abbrev pub told_to : List Seat → ℕ → (ℕ → List ℕ) → ℕ → List Delivery
told_to seats number text t = told_here seats number t (text t)

-- what a record tells its own session: where that quits by it, its last item
abbrev pub told_own : Bool → ℕ → List ℕ → Bool → List Delivery
told_own is_shut number bytes quits =
    cond quits (cond is_shut [] (Last number Quit ∷ [])) (unless_shut is_shut number bytes)

-- what t hears of a line that is shown, by the capabilities that it has
abbrev pub heard_of : List Deed → ℤ → ShownLine → ℕ → List ℕ
heard_of fs moment x t = text_as (caps fs t) moment (map (tagged_as None) (lines_heard x.hearers x.line t))

-- and of all lines that are
abbrev pub heard_text : List Deed → ℤ → List ShownLine → ℕ → List ℕ
heard_text fs moment [] t = []
heard_text fs moment (x ∷ xs) t = heard_of fs moment x t ++ heard_text fs moment xs t

-- what t hears of a tick that pings these sessions
abbrev pub pinged_text : Settings → List Deed → ℤ → List ℕ → ℕ → List ℕ
pinged_text g fs moment ts t = heard_text fs moment (record { hearers = ts; line = ping_line g.server } ∷ []) t

-- the deliveries of a record of s, which perhaps quits by it: its own text, and that of each other session
abbrev pub planned_with : List Seat → ℕ → ℕ → List ℕ → (ℕ → List ℕ) → Bool → List Planned
planned_with seats s number own text quits = puts s (told_own (not (hears seats s)) number own quits)
    ++ others (told_to seats number text) s 1 (length seats)

abbrev pub planned_from : List Seat → ℕ → ℕ → (ℕ → List ℕ) → Bool → List Planned
planned_from seats s number text quits = planned_with seats s number (text s) text quits

-- a seat stands for what the history says of its session, which has one until it is reaped
pub record IsSeat (seat : Seat) (here : Bool) (h : List Rec) (t : ℕ) : Type 0 where
  pub shut : seat.shut ≡ shut h t
  pub gone : seat.gone ≡ gone h t
  pub accepted : here ≡ true → seat.accepted ≡ length (accepted h t)
  pub kept : stands seat ≡ here

-- ---- the outboxes

-- the outboxes of all sessions by their numbers, but for those that were reaped, and how many may come before more
-- memory is taken
pub record Boxes (O : Type 0) : Type 0 where
  pub boxes : List (Option O)
  pub room : ℕ

-- the outboxes of the first n sessions
abbrev pub boxes_of : {O : Type 0} → List (ℕ × O) → ℕ → List (Option O)
boxes_of kept n = map (λ t. lookup (nat_eq t) kept) (numbers 1 n)

-- what is kept of outboxes: no more than there are
pub record AreBoxes {O : Type 0} (kept : List (ℕ × O)) (n : ℕ) : Type 0 where
  pub opened : AreOpened kept n
  pub counted : length kept ≡ count_here (boxes_of kept n)

-- session t was opened and isn't reaped
pub record IsThere {O : Type 0} (boxes : List (Option O)) (t : ℕ) : Type 0 where
  pub from_1 : 0 < t
  pub opened : t ≤ length boxes
  pub here : is_here boxes t ≡ true

-- an item may be put into its session's outbox: it continues what was put before
abbrev pub MayFollow : {O : Type 0} → (O → List Item) → Option O → Item → Type 0
MayFollow sent box x = IfSome box (λ o. Continues (sent o) x)

-- it was put there, which changed no other
pub record IsTaken {O : Type 0} (sent : O → List Item) (accepts : O → Item → O → Type 0) (boxes : List (Option O))
    (x : Item) (more : List (Option O)) : Type 0 where
  pub before : O
  pub after : O
  pub here : box_at boxes x.session ≡ Some before
  pub accepted : accepts before x after
  pub longer : sent after ≡ sent before ++ x ∷ []
  pub now : more ≡ slice_set boxes (x.session - 1) (Some after)

-- it wasn't, for a cause
pub record IsNotTaken {O : Type 0} (refuses : O → PutFault → Type 0) (boxes : List (Option O))
    (x : Item) : Type 0 where
  pub before : O
  pub cause : PutFault
  pub here : box_at boxes x.session ≡ Some before
  pub refused : refuses before cause
