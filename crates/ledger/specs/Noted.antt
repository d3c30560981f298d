-- What a ledger keeps of the records that it dropped: this project's own.
use Rattle.std.specs.Prelude.{◌≡◌, ℕ, ◌<◌, ◌≤◌, Bool, true, false, cond, nat_eq, List, length}
use Rattle.std.specs.Prelude.{Option, Some, None, IfSome}
use Rattle.std.specs.Option.{is_some}
use Rattle.std.specs.Map.{lookup}
use Rattle.chronicle.specs.History.{Rec, sessions, accepted}
use Rattle.ledger.specs.declared.last_heard.Since.{Since}
use Rattle.ledger.specs.LastHeard.{since_at, IsSince}
use Rattle.registration.specs.declared.settings.Settings.{Settings}
use Rattle.deliveries.specs.Owed.{owed}
use Rattle.deliveries.specs.Base.{Base, base, dropped_part}
use Rattle.deliveries.specs.declared.item.Item.{Item}
use Rattle.ledger.specs.declared.base.SessionCounts.{SessionCounts}
use Rattle.ledger.specs.declared.seat.Seat.{Seat}
use Rattle.ledger.specs.Ledger.{box_at, sent_by, is_here}
use Rattle.ledger.specs.Seats.{seat_at, IsThere}

-- the history up to which it goes, which the program doesn't keep, the settings of the server, and the counts of
-- those sessions that weren't reaped, by their numbers
pub record Noted : Type 0 where
  pub front : List Rec
  pub settings : Settings
  pub counts : List (ℕ × SessionCounts)

-- it stands for the base of that history
abbrev pub base_by : Noted → Base
base_by b = base b.settings b.front

-- the counts of session t
abbrev pub counts_at : List (ℕ × SessionCounts) → ℕ → Option SessionCounts
counts_at cs t = lookup (nat_eq t) cs

-- whether it has the counts of session t
abbrev pub is_noted : Noted → ℕ → Bool
is_noted b t = is_some (counts_at b.counts t)

-- what is noted of a session is what a history says
pub record IsCountOf (c : SessionCounts) (g : Settings) (h : List Rec) (t : ℕ) : Type 0 where
  pub accepted : c.accepted ≡ length (accepted h t)
  pub owed : c.owed ≡ length (owed g h t)
  pub since : IsSince c.since h t

-- counts are those of a history
abbrev pub AreCounts : Settings → List Rec → List (ℕ × SessionCounts) → Type 0
AreCounts g h cs = (t : ℕ) → IfSome (counts_at cs t) (λ c. IsCountOf c g h t)

-- what is noted of a session is what its seat and its outbox say, and since when it is idle
pub record IsCountBy {O : Type 0} (c : SessionCounts) (sent : O → List Item) (seats : List Seat)
    (boxes : List (Option O)) (heard : List (ℕ × Since)) (t : ℕ) : Type 0 where
  pub accepted : c.accepted ≡ (seat_at seats t).accepted
  pub owed : c.owed ≡ length (sent_by sent (box_at boxes t))
  pub since : since_at heard t ≡ Some c.since

-- counts are those of each session that is there, and of no other
pub record AreCountsOf {O : Type 0} (sent : O → List Item) (seats : List Seat) (boxes : List (Option O))
    (heard : List (ℕ × Since)) (cs : List (ℕ × SessionCounts)) : Type 0 where
  pub each : (t : ℕ) → IfSome (counts_at cs t) (λ c. IsThere boxes t × IsCountBy c sent seats boxes heard t)
  pub all : (t : ℕ) → IsThere boxes t → is_some (counts_at cs t) ≡ true

-- the counts of session s are forgotten
abbrev pub Forgets : Option Noted → Option Noted → ℕ → Type 0
Forgets None n s = n ≡ None
Forgets (Some b) None s = ⊥
Forgets (Some b) (Some c) s = (c.front ≡ b.front) × (c.settings ≡ b.settings)
    × ((t : ℕ) → is_noted c t ≡ cond (nat_eq s t) false (is_noted b t))

-- it goes up to the first n records, and of the sessions that were opened by these it has the counts of those that
-- aren't reaped, and of none that was opened later
pub record IsOfDropped {O : Type 0} (b : Noted) (h : List Rec) (n : ℕ) (g : Settings)
    (boxes : List (Option O)) : Type 0 where
  pub few : n ≤ length h
  pub front : b.front ≡ dropped_part n h
  pub settings : b.settings ≡ g
  pub opened : sessions b.front ≤ length boxes
  pub noted : (t : ℕ) → 0 < t → t ≤ sessions b.front → is_noted b t ≡ is_here boxes t
  pub early : (t : ℕ) → is_noted b t ≡ true → (0 < t) × (t ≤ sessions b.front)

-- none where nothing was dropped
abbrev pub IsBased : {O : Type 0} → Option Noted → List Rec → ℕ → Settings → List (Option O) → Type 0
IsBased None h n g boxes = n ≡ 0
IsBased (Some b) h n g boxes = IsOfDropped b h n g boxes
