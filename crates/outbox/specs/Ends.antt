-- What clauses see of the two ends of an outbox: this project's own queue between two threads.
use Rattle.std.specs.Prelude.{◌≡◌, ◌≤◌, ◌+◌, ℕ, List, [], ◌∷◌, ◌++◌, length, Option, None, Some, false}
use Rattle.crossbeam_channel.specs.Claims.{Pass, view}
use Rattle.crossbeam_channel.specs.Ring.{doing}
use Rattle.crossbeam_channel.specs.declared.flavors.array.Stage.TheVariants.{Idle}
use Rattle.deliveries.specs.declared.item.Item.{Item}
use Rattle.outbox.specs.declared.queue.PutFault.{PutFault}
use Rattle.outbox.specs.declared.queue.PutFault.TheVariants.{Full}
use Rattle.outbox.specs.declared.rule.Log.{Log}
use Rattle.outbox.specs.Rule.{log}

-- what a pass knows
abbrev pub known_by : Pass Item Log → Log
known_by p = view p

-- which channel a pass is of: all that a pass says but its number and what it knows
abbrev pub channel_of : Pass Item Log → Pass Item Log
channel_of p = record p { id = 0; me = (doing Idle 0 None (log false false [] []) p.me.0.of, []) }

-- of the end that puts: all items that were ever put, how many may wait, and which channel it is
pub record Puttings : Type 0 where
  pub sent : List Item
  pub cap : ℕ
  pub channel : Pass Item Log

-- of the end that takes: all items that were ever taken, how often the channel answered that it is empty, and which
-- channel it is
pub record Takings : Type 0 where
  pub taken : List Item
  pub empties : ℕ
  pub channel : Pass Item Log

-- an item was taken
abbrev pub with_item : Takings → Item → Takings
with_item w x = record { taken = w.taken ++ x ∷ []; empties = w.empties; channel = w.channel }

-- none was: the channel answered once more that it is empty
abbrev pub with_empty : Takings → Takings
with_empty w = record { taken = w.taken; empties = w.empties + 1; channel = w.channel }

-- an item was put
abbrev pub with_sent : Puttings → Item → Puttings
with_sent s x = record { sent = s.sent ++ x ∷ []; cap = s.cap; channel = s.channel }

-- an item is put at the end
abbrev pub accepts : Puttings → Item → Puttings → Type 0
accepts s x t = t ≡ with_sent s x

-- it isn't put for want of room only where as many were ever put as may wait; of any other cause nothing is known
abbrev pub refuses : Puttings → PutFault → Type 0
refuses s e = e ≡ Full → s.cap ≤ length s.sent

-- of what comes back: what was to be put, and which channel was found full for it, if one was
pub record Returned (T : Type 0) (V : Type 0) : Type 0 where
  pub message : T
  pub full : Option (Pass T V)

-- that it is full was answered by this very channel, for this item
abbrev pub shows : Puttings → PutFault → Option (Pass Item Log) → Type 0
shows s e full = e ≡ Full → (p : Pass Item Log) × (full ≡ Some p) × (channel_of p ≡ s.channel)
