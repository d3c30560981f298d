-- The limits of what a server is told when it starts: this project's own choice.
use Rattle.std.specs.Prelude.{ℕ, ◌≤◌}
use Rattle.registration.specs.declared.settings.Settings.{Settings}
use Rattle.book.specs.Settings as book

-- the book's limits, 1 to 64 workers, and outboxes for 1 to 4,096 items
pub record IsWellSet (s : Settings) (limit workers sendq : ℕ) : Type 0 where
  pub book : book.IsWellSet s limit
  pub some_workers : 1 ≤ workers
  pub few_workers : workers ≤ 64
  pub some_items : 1 ≤ sendq
  pub few_items : sendq ≤ 4096
