-- Which items an outbox may be sent, one after another: this project's own promise to a session.
use Rattle.std.specs.Prelude.{◌≡◌, List, [], ◌∷◌, ◌++◌, map, length, All}
use Rattle.chronicle.specs.History.{Rec}
use Rattle.deliveries.specs.declared.delivery.Delivery.{Delivery}
use Rattle.deliveries.specs.declared.item.Item.{Item}
use Rattle.deliveries.specs.Owed.{owed, number_of}
use Rattle.deliveries.specs.Growth.{Grows}

-- what items deliver
abbrev pub deliveries : List Item → List Delivery
deliveries items = map (λ (x : Item). x.delivery) items

-- the history in which an item is put
abbrev pub front : Item → List Rec
front x = x.front

-- all that this history owes the item's session
abbrev pub owed_by_front : Item → List Delivery
owed_by_front x = owed x.settings (front x) x.session

-- an item may come after these: it is of the newest record of its history, and with it they are what that history
-- owes its session; they are of that session and of that server, and the history of each grows to its own
pub record Continues (before : List Item) (x : Item) : Type 0 where
  pub newest : number_of x.delivery ≡ length (front x)
  pub owed : deliveries (before ++ x ∷ []) ≡ owed_by_front x
  pub whose : All (λ (y : Item). y.session ≡ x.session) before
  pub settings : All (λ (y : Item). y.settings ≡ x.settings) before
  pub grows : All (λ (y : Item). Grows (front y) (front x)) before
