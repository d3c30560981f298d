-- The rule of an outbox between two threads: this project's own. Each step on the channel keeps `Delivers`.
use Rattle.std.specs.Prelude.{◌≡◌, ℕ, Bool, true, false, List, [], ◌∷◌, ◌++◌}
use mathlib.Core.Option.{some}
use lib.ListN.{get_elem?}
use Rattle.deliveries.specs.declared.item.Item.{Item}
use Rattle.deliveries.specs.Items.{Continues}
use Rattle.outbox.specs.declared.rule.Log.{Log}

-- what a pass may do, all that it has sent and all that it has taken
abbrev pub log : Bool → Bool → List Item → List Item → Log
log sends takes sent got = record { sends = sends; takes = takes; sent = sent; got = got }

-- each item may come after those before it
abbrev pub Chained : List Item → List Item → Type 0
Chained before [] = Unit {0}
Chained before (x ∷ xs) = Continues before x × Chained (before ++ x ∷ []) xs

-- a pass that may send is the sender's, and knows what was sent; a pass that may take is the receiver's, and knows
-- what was taken
abbrev pub Fits : ℕ → ℕ → List Item → List Item → ℕ → Log → Type 0
Fits sender receiver sent got pass v = (v.sends ≡ true → (pass ≡ sender) × (v.sent ≡ sent))
    × (v.takes ≡ true → (pass ≡ receiver) × (v.got ≡ got))

-- what the receiver took, followed by what the channel holds, is what the sender sent. That was owed, item by item:
-- with each item it is what the item's history owes the item's session, all items are of one session, and their
-- histories grow
abbrev pub Delivers : List Item → List Log → Type 0
Delivers held passes = (sender : ℕ) × (receiver : ℕ) × (sent : List Item) × (got : List Item) × Chained [] sent
    × (sent ≡ got ++ held)
    × ((pass : ℕ) (v : Log) → get_elem? passes pass ≡ some v → Fits sender receiver sent got pass v)

-- the channel is made with a pass for each end: one knows what was sent, the other what was taken
abbrev pub send_log : Log → Log
send_log v = log true false v.sent []

abbrev pub take_log : Log → Log
take_log v = log false true [] v.got

-- an item is put: it is sent after the others
abbrev pub Puts : Log → Item → Log → Type 0
Puts v x w = w ≡ log v.sends v.takes (v.sent ++ x ∷ []) v.got

-- a put is refused: the channel holds the newest of what was sent
abbrev pub EndsSent : Log → List Item → Type 0
EndsSent v held = (got : List Item) × (v.sent ≡ got ++ held)

-- a take finds what the channel holds then: what was sent is what was taken and this, and each may come after those
-- before it
abbrev pub AreSent : Log → List Item → Type 0
AreSent v held = (sent : List Item) × Chained [] sent × (sent ≡ v.got ++ held)

-- an item is taken: it may come after those that were taken
abbrev pub Takes : Log → Item → Log → Type 0
Takes v x w = (w ≡ log v.sends v.takes v.sent (v.got ++ x ∷ [])) × Continues v.got x

-- the two passes are joined to one, and nothing is left of the other
abbrev pub join_log : Log → Log → Log
join_log v w = log true true v.sent w.got

abbrev pub spent_log : Log
spent_log = log false false [] []

-- whoever has both drains the rest: the channel holds what was sent and not taken
abbrev pub Rests : Log → List Item → Type 0
Rests v held = v.sent ≡ v.got ++ held
