-- How what a ledger keeps stands for its history.
use Rattle.std.specs.Prelude.{◌≡◌, ℕ, ◌<◌, ◌≤◌, Bool, List, length, Option}
use Rattle.std.specs.Option.{is_some}
use Rattle.chronicle.specs.Journal as journal
use Rattle.registration.specs.declared.settings.Settings.{Settings}
use Rattle.roster.specs.declared.deed.Deed.{Deed}
use Rattle.roster.specs.LookBack.{opened_in}
use Rattle.ledger.specs.declared.seat.Seat.{Seat}
use Rattle.ledger.specs.declared.plan.Planned.{Planned}
use Rattle.deliveries.specs.declared.item.Item.{Item}
use Rattle.deeds.specs.Deeds.{facts}
use Rattle.ledger.specs.Seats.{IsSeat, seat_at}
use Rattle.ledger.specs.Ledger.{is_here, kept_total, IsSound}
use Rattle.ledger.specs.declared.last_heard.Since.{Since}
use Rattle.ledger.specs.LastHeard.{AreSince}
use Rattle.ledger.specs.Noted.{Noted, IsBased}

-- all that a ledger keeps stands for its history, the facts that its roster knows are those of the history, and there
-- is room for the records that are kept free
pub record IsKept {O : Type 0} (sent : O → List Item) (j : journal.JournalView) (g : Settings) (known : List Deed)
    (seats : List Seat) (boxes : List (Option O)) (plan : List Planned) (busy : Bool) : Type 0 where
  pub sound : IsSound sent
      (record { history = j.history; limit = j.limit; settings = g; outboxes = boxes; plan = plan; busy = busy })
  pub facts : known ≡ facts g j.history
  pub each_seat : (t : ℕ) → 0 < t → t ≤ length seats → IsSeat (seat_at seats t) (is_here boxes t) j.history t
  pub opened : length (opened_in known) ≡ length boxes
  pub places : length seats ≡ length boxes
  pub left : length plan ≤ j.left
  pub room : kept_total j.history ≤ j.room

-- and so does what it keeps of the records that were dropped, and of when sessions were last heard of
pub record Keeps {O : Type 0} (sent : O → List Item) (j : journal.JournalView) (g : Settings) (known : List Deed)
    (seats : List Seat) (boxes : List (Option O)) (plan : List Planned) (busy : Bool) (b : Option Noted)
    (heard : List (ℕ × Since)) : Type 0 where
  pub kept : IsKept sent j g known seats boxes plan busy
  pub based : IsBased b j.history j.limit.dropped g boxes
  pub cut : is_some b ≡ j.limit.is_cut
  pub since : AreSince heard j.history boxes
