-- What clauses see of an outbox: this project's own bounded queue.
use Rattle.std.specs.Prelude.{◌≡◌, ℕ, Bool, true, false, nat_lt, List, [], ◌∷◌, ◌++◌, length, take, drop}
use Rattle.deliveries.specs.declared.item.Item.{Item}
use Rattle.outbox.specs.declared.queue.PutFault.{PutFault}
use Rattle.outbox.specs.declared.queue.PutFault.TheVariants.{Full}

-- the items that wait and how many may, and all that were ever taken, which the program doesn't keep
pub record Waiting : Type 0 where
  pub queue : List Item
  pub cap : ℕ
  pub taken : List Item

abbrev pub empty_ring : ℕ → Waiting
empty_ring n = record { queue = []; cap = n; taken = [] }

abbrev pub has_room : Waiting → Bool
has_room b = nat_lt (length b.queue) b.cap

-- an item was put
abbrev pub with_put : Waiting → Item → Waiting
with_put b x = record { queue = b.queue ++ x ∷ []; cap = b.cap; taken = b.taken }

-- the front, if there is one, was taken
abbrev pub with_taken : Waiting → Waiting
with_taken b = record { queue = drop 1 b.queue; cap = b.cap; taken = b.taken ++ take 1 b.queue }

-- all items that were ever put
abbrev pub put_into : Waiting → List Item
put_into b = b.taken ++ b.queue

-- an item is put where there is room, at the end
abbrev pub accepts : Waiting → Item → Waiting → Type 0
accepts b x c = (has_room b ≡ true) × (c ≡ with_put b x)

-- it isn't where there is none: then the outbox is full
abbrev pub refuses : Waiting → PutFault → Type 0
refuses b e = (e ≡ Full) × (has_room b ≡ false)
