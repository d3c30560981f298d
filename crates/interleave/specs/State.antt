-- What clauses see of a play, and what holds of every one: this project's own promise.
use Rattle.std.specs.Prelude.{◌≡◌, ◌≢◌, ℕ, ◌+◌, ◌-◌, ◌<◌, ◌≤◌, ◌==◌, ◌&&◌, Bool, true, false, cond, nat_le, List, []}
use Rattle.std.specs.Prelude.{◌++◌, length, take, drop, replicate, slice_index_or, Option, Some, None}
use Rattle.std.specs.Option.{is_some}
use Rattle.line_grammar.specs.declared.splitter.Piece.{Piece}
use Rattle.line_grammar.specs.Lines.{lines}
use Rattle.chronicle.specs.History.{Rec, accepted}
use Rattle.registration.specs.declared.settings.Settings.{Settings}
use Rattle.registration.specs.Settings.{IsWellSet}
use Rattle.clean_records.specs.Clean.{IsCleanHistory}
use Rattle.deliveries.specs.declared.delivery.Delivery.{Delivery}
use Rattle.book.specs.Ring.{Waiting, put_into}
use Rattle.deliveries.specs.Owed.{owed}
use Rattle.deliveries.specs.Items.{deliveries}
use Rattle.book.specs.Ledger.{is_here, plan_part}
use Rattle.book.specs.Ledger as book
use Rattle.interleave.specs.declared.worker.Place.{Place}
use Rattle.interleave.specs.declared.worker.Place.TheVariants.{Home, Hand, Begun}

-- of a session that was ever opened: all octets that were fed to it, and all deliveries that were taken of it, which
-- the program doesn't keep; the lines of the octets that no worker has begun; where its baton is; and what was left
-- in its outbox when the session was given up
pub record Seen : Type 0 where
  pub fed : List ℕ
  pub pending : List Piece
  pub place : Place
  pub taken : List Delivery
  pub left : List Delivery

-- the book, how many items an outbox has room for, what is seen of each session, the session whose line each worker
-- has, and the worker who holds the lock
pub record State : Type 0 where
  pub book : book.Shown Waiting
  pub sendq : ℕ
  pub inboxes : List Seen
  pub jobs : List (Option ℕ)
  pub holder : Option ℕ

abbrev pub nothing_fed : Seen
nothing_fed = record { fed = []; pending = []; place = Home; taken = []; left = [] }

-- ---- sessions

-- of session t
abbrev pub inbox_at : State → ℕ → Seen
inbox_at m t = slice_index_or m.inboxes (t - 1) nothing_fed

abbrev pub box_at : State → ℕ → Option Waiting
box_at m t = slice_index_or m.book.outboxes (t - 1) None

-- a session is known from when it is opened until it is given up
abbrev pub is_known : State → ℕ → Bool
is_known m s = nat_le 1 s && (nat_le s (length m.inboxes) && is_here m.book.outboxes s)

-- the line in a worker's hand, if there is one
abbrev pub hand : Place → List Piece → List Piece
hand Home ps = []
hand (Hand w) ps = take 1 ps
hand (Begun w) ps = []

abbrev pub behind : Place → List Piece → List Piece
behind Home ps = ps
behind (Hand w) ps = drop 1 ps
behind (Begun w) ps = ps

abbrev pub in_hand : State → ℕ → List Piece
in_hand m t = hand (inbox_at m t).place (inbox_at m t).pending

-- the lines that no worker has
abbrev pub unread : State → ℕ → List Piece
unread m t = behind (inbox_at m t).place (inbox_at m t).pending

-- what was ever taken of session t
abbrev pub taken_of : State → ℕ → List Delivery
taken_of m t = (inbox_at m t).taken

-- what waits in an outbox, or what was left where there is none
abbrev pub waits : Option Waiting → List Delivery → List Delivery
waits None left = left
waits (Some b) left = deliveries b.queue

-- what waits for session t, or was left for it
abbrev pub queue_of : State → ℕ → List Delivery
queue_of m t = waits (box_at m t) (inbox_at m t).left

-- what the plan that is out still has for session t
abbrev pub planned_for : State → ℕ → List Delivery
planned_for m t = plan_part m.book.plan t

-- ---- workers

abbrev pub is_worker : State → ℕ → Bool
is_worker m w = nat_le 1 w && nat_le w (length m.jobs)

-- the session whose line a worker has
abbrev pub job_of : State → ℕ → Option ℕ
job_of m w = slice_index_or m.jobs (w - 1) None

abbrev pub holds : Option ℕ → ℕ → Bool
holds None w = false
holds (Some v) w = v == w

-- where the baton is of the session whose line a worker has
abbrev pub place_with : Option ℕ → ℕ → Place
place_with holder w = cond (holds holder w) (Begun w) (Hand w)

abbrev pub is_home : Place → Bool
is_home Home = true
is_home (Hand w) = false
is_home (Begun w) = false

-- ---- the promise

-- with no sessions, and so many workers who have nothing to do
abbrev pub empty_state : ℕ → Settings → ℕ → ℕ → State
empty_state limit settings sendq workers = record {
  book = book.empty_ledger limit settings;
  sendq = sendq;
  inboxes = [];
  jobs = replicate workers None;
  holder = None;
}

-- an outbox has room for sendq items, and what was taken of the session was taken of it; where it was given up, what
-- was taken and what was left is what the history owes, and no worker has the baton
abbrev pub IsBoxOf : Option Waiting → Seen → ℕ → List Delivery → Type 0
IsBoxOf None b sendq owes = (b.taken ++ b.left ≡ owes) × (b.place ≡ Home)
IsBoxOf (Some w) b sendq owes = (deliveries w.taken ≡ b.taken) × (w.cap ≡ sendq)

-- of session t with this outbox: the accepted lines and those that no worker has begun are the lines of what was fed
pub record IsSoundAt (g : Settings) (h : List Rec) (o : Option Waiting) (b : Seen) (sendq t : ℕ) : Type 0 where
  pub accepted : accepted h t ++ b.pending ≡ lines b.fed
  pub box : IsBoxOf o b sendq (owed g h t)
  pub hand : (w : ℕ) → b.place ≡ Hand w → b.pending ≢ []

-- the book's own promise, and each session's; a worker who has a session's line has its baton; the lock is held
-- where a plan is out; settings are within their limits, hosts have their shape, and lines no CR or LF
pub record IsSound (m : State) : Type 0 where
  pub book : book.IsSound put_into m.book
  pub inboxes : length m.inboxes ≡ length m.book.outboxes
  pub each : (t : ℕ) → 0 < t → t ≤ length m.inboxes
      → IsSoundAt m.book.settings m.book.history (box_at m t) (inbox_at m t) m.sendq t
  pub jobs : (i s : ℕ) → slice_index_or m.jobs i None ≡ Some s → (0 < s) × (s ≤ length m.inboxes)
      × ((inbox_at m s).place ≡ place_with m.holder (i + 1))
  pub lock : m.book.busy ≡ is_some m.holder
  pub holder : (w : ℕ) → m.holder ≡ Some w → (0 < w) × (w ≤ length m.jobs)
  pub set : IsWellSet m.book.settings
  pub clean : IsCleanHistory m.book.history

-- for each session that was ever opened
abbrev pub ForEach : State → (ℕ → Type 0) → Type 0
ForEach m P = (t : ℕ) → 0 < t → t ≤ length m.inboxes → P t
