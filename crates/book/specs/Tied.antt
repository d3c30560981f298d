-- How a register stands for a book: words of private contracts.
use Rattle.std.specs.Prelude.{◌≡◌, ℕ, ◌<◌, cond, List, Some, None, IfSome}
use Rattle.register.specs.declared.claims.Row.{Row}
use Rattle.register.specs.Rows.{outbox_at}
use Rattle.book.specs.Standing.{Begun, StandsFor}
use Rattle.ledger.specs.Ledger.{Shown, box_at, newest_line}

-- the line that is begun and isn't done: that of the newest record, while a plan is out
abbrev pub begun_of : {O : Type 0} → Shown O → Begun
begun_of m = cond m.busy (newest_line m.history) None

-- the rows stand for the history, but for the line that is begun, and have the name of each outbox
pub record IsTied {O N : Type 0} (name : O → N) (m : Shown O) (rows : List (Row N)) : Type 0 where
  pub stands : StandsFor rows (begun_of m) m.history
  pub names : (t : ℕ) → 0 < t → IfSome (box_at m.outboxes t) (λ o. outbox_at rows t ≡ Some (name o))
