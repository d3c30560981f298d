-- The list of sessions for whom something was put, whose outboxes are to be flushed.
use Rattle.std.specs.Prelude.{◌≡◌, ℕ, ◌<◌, Bool, true, false, ◌||◌, ◌==◌, List, Option}
use Rattle.std.specs.List.{list_any}
use Rattle.ledger.specs.Ledger.{box_at}

-- sessions on the list, or all, of so many records
pub record FlushView : Type 0 where
  pub sessions : List ℕ
  pub all : Bool
  pub records : ℕ

-- whether a session is on the list
abbrev pub is_listed : FlushView → ℕ → Bool
is_listed w t = w.all || list_any (λ u. u == t) w.sessions

-- whoever isn't on the list has the outbox that it had, and whoever was on it before is
pub record ListsChanged {O : Type 0} (old new : FlushView) (before after : List (Option O)) : Type 0 where
  pub others : (t : ℕ) → 0 < t → is_listed new t ≡ false → box_at after t ≡ box_at before t
  pub kept : (t : ℕ) → is_listed old t ≡ true → is_listed new t ≡ true
