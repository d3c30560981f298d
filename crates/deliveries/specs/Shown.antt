-- What clauses see of an item: this project's own.
use Rattle.std.specs.Prelude.{ℕ, List}
use Rattle.chronicle.specs.History.{Rec}
use Rattle.registration.specs.declared.settings.Settings.{Settings}
use Rattle.deliveries.specs.declared.delivery.Delivery.{Delivery}

-- what is delivered and to whom, the history in which it is put, and the settings of the server
pub record ItemView : Type 0 where
  pub delivery : Delivery
  pub session : ℕ
  pub front : List Rec
  pub settings : Settings
