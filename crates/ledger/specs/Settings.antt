-- The limits of a ledger: this project's own choice.
use Rattle.std.specs.Prelude.{ℕ, ◌≤◌}
use Rattle.registration.specs.declared.settings.Settings.{Settings}
use Rattle.registration.specs.Settings as registration

-- settings within their limits, and 1 to 10,000,000 records
pub record IsWellSet (s : Settings) (limit : ℕ) : Type 0 where
  pub settings : registration.IsWellSet s
  pub some_records : 1 ≤ limit
  pub few_records : limit ≤ 10000000
