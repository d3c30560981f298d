-- What clauses see of a wire, a session's writer with the stream on which its items go out: this project's own.
use Rattle.std.specs.Prelude.{◌≡◌, ◌≤◌, ℕ, Bool, true, false, List, [], ◌∷◌, ◌++◌, drop, Option, Some, None}
use Rattle.std.specs.Io.KnownBytes.{Appends}
use Rattle.crossbeam_channel.specs.Claims.{Pass}
use Rattle.deliveries.specs.declared.delivery.Delivery.{Delivery}
use Rattle.deliveries.specs.declared.delivery.Delivery.TheVariants.{Lines, Last}
use Rattle.deliveries.specs.declared.item.Item.{Item}
use Rattle.deliveries.specs.Text.{delivery_text}
use Rattle.outbox.specs.declared.rule.Log.{Log}
use Rattle.wire.specs.declared.item_write.ItemWrite.{ItemWrite}

-- what items are as they go out, where this is their session's host
abbrev pub texts : List ℕ → List Item → List ℕ
texts host [] = []
texts host (x ∷ xs) = delivery_text x.delivery host ++ texts host xs

-- the text of the newest of these items
abbrev pub newest_text : List ℕ → List Item → List ℕ
newest_text host [] = []
newest_text host (x ∷ []) = delivery_text x.delivery host
newest_text host (x ∷ y ∷ xs) = newest_text host (y ∷ xs)

-- known octets grow by the front of a text, of which this is left
pub record GoesOut (old new : Option (List ℕ)) (text left : List ℕ) : Type 0 where
  pub gone : List ℕ
  pub appended : Appends old new gone
  pub parts : text ≡ gone ++ left

-- what is left of an item that was begun
abbrev pub rest_of : List ℕ → Option ItemWrite → List ℕ
rest_of host None = []
rest_of host (Some b) = drop b.count (delivery_text b.item.delivery host)

abbrev pub is_last : Delivery → Bool
is_last (Lines number text) = false
is_last (Last number why) = true

-- of a session's last item nothing is written before all of it is, or the stream failed
abbrev pub LastIsWhole : Option ItemWrite → Type 0
LastIsWhole None = Unit {0}
LastIsWhole (Some b) = is_last b.item.delivery ≡ true → b.count ≡ 0

-- whether the newest of these items is a session's last
abbrev pub ends : List Item → Bool
ends [] = false
ends (x ∷ []) = is_last x.delivery
ends (x ∷ y ∷ xs) = ends (y ∷ xs)

-- all items that the writer has taken, how often it found none, and which outbox it is of; the octets that the stream
-- was given, with those that wait in the wire; what is left of the newest item; how often the stream answered that it
-- takes nothing now, and how often that it takes no more; and how both ends stood when the wire was made
pub record Wired : Type 0 where
  pub session : ℕ
  pub taken : List Item
  pub empties : ℕ
  pub channel : Pass Item Log
  pub told : Option (List ℕ)
  pub waiting : List ℕ
  pub rest : List ℕ
  pub pauses : ℕ
  pub faults : ℕ
  pub host : List ℕ
  pub taken_before : List Item
  pub told_before : Option (List ℕ)

-- what went out of the items that were taken since the wire was made is their texts, in order, but for the rest of
-- the newest, also after a fault
pub record IsInStep (w : Wired) : Type 0 where
  pub since : List Item
  pub taken : w.taken ≡ w.taken_before ++ since
  pub out : GoesOut w.told_before w.told (texts w.host since) w.rest
  pub newest : (n : ℕ) × (w.rest ≡ drop n (newest_text w.host since))

-- the one wire after some calls
pub record IsSameWire (w v : Wired) : Type 0 where
  pub session : v.session ≡ w.session
  pub channel : v.channel ≡ w.channel
  pub host : v.host ≡ w.host
  pub taken_before : v.taken_before ≡ w.taken_before
  pub told_before : v.told_before ≡ w.told_before
  pub empties : w.empties ≤ v.empties
  pub pauses : w.pauses ≤ v.pauses
  pub faults : w.faults ≤ v.faults
