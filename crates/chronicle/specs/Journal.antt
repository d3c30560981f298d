-- What clauses see of a journal: the history, how much of it was dropped, and the room that was made.
use Rattle.std.specs.Prelude.{◌≡◌, ℕ, ℤ, ◌+◌, ◌-◌, ◌^◌, ◌≤◌, List, [], ◌∷◌, ◌++◌, length, map}
use Rattle.std.specs.Prelude.{reverse, min, slice_get, nat_le, cond, Option, Some, None, Bool, true}
use Rattle.std.specs.Borrow.{Bor}
use Rattle.chronicle.specs.declared.record.Kind.{Kind}
use Rattle.chronicle.specs.declared.record.Record.{Record}
use Rattle.chronicle.specs.History.{Rec, rec_of}
use Rattle.chronicle.specs.Kept.{RecordList}

-- how many records may be kept, after how many that were dropped, and whether it was cut, of however many records
pub record Limit : Type 0 where
  pub records : ℕ
  pub dropped : ℕ
  pub is_cut : Bool

-- the highest number that a record may have: so many are kept at most, and no number is above 2 ^ 60
unfoldable pub most : Limit → ℕ
most l = min (l.dropped + l.records) (2 ^ 60)

-- all records, the newest first, and how many may be kept; how many more may be appended without memory; how many
-- sessions may miss the next record without memory, and how many more the newest
pub record JournalView : Type 0 where
  pub history : List Rec
  pub limit : Limit
  pub room : ℕ
  pub prepared : ℕ
  pub left : ℕ

-- the history whose first records were dropped
abbrev pub history_of : List Record → List Rec → List Rec
history_of kept past = map rec_of (reverse kept) ++ past

-- the history of whoever drops the records that it kept
abbrev pub with_kept : List Rec → RecordList → List Rec
with_kept past kept = history_of kept.items past

abbrev pub room_left : List Record → ℕ
room_left [] = 0
room_left (r ∷ rs) = r.missed.capacity - length r.missed.items

-- the same records, and no less room
pub record IsRoomier (old new : JournalView) : Type 0 where
  pub history : new.history ≡ old.history
  pub limit : new.limit ≡ old.limit
  pub room : old.room ≤ new.room
  pub prepared : old.prepared ≤ new.prepared
  pub left : new.left ≡ old.left

-- a record that nobody missed
abbrev pub fresh_record : List Rec → ℤ → Kind → Rec
fresh_record h m k = record { number = length h + 1; moment = m; kind = k; missed = [] }

-- a record that nobody missed was appended, in room for one record; what was prepared is the room for those who miss
-- it
pub record Appends (old new : JournalView) (m : ℤ) (k : Kind) : Type 0 where
  pub history : new.history ≡ fresh_record old.history m k ∷ old.history
  pub limit : new.limit ≡ old.limit
  pub room : new.room + 1 ≡ old.room
  pub left : new.left ≡ old.prepared

-- a session was added to those that the newest record missed
abbrev pub miss : List Rec → ℕ → List Rec
miss [] t = []
miss (r ∷ h) t = record { number = r.number; moment = r.moment; kind = r.kind; missed = r.missed ++ t ∷ [] } ∷ h

-- a session was noted as one that missed the newest record, in room for one
pub record Misses (old new : JournalView) (t : ℕ) : Type 0 where
  pub history : new.history ≡ miss old.history t
  pub limit : new.limit ≡ old.limit
  pub room : new.room ≡ old.room
  pub left : new.left + 1 ≡ old.left

-- all records were dropped, which leaves the history as it is, and no less room
pub record Cuts (old new : JournalView) : Type 0 where
  pub history : new.history ≡ old.history
  pub limit : new.limit ≡ record { records = old.limit.records; dropped = length old.history; is_cut = true }
  pub room : old.room ≤ new.room
  pub prepared : new.prepared ≡ old.prepared

-- the record that a reference shows
abbrev pub record_at : Option (Bor Record) → Option Rec
record_at None = None
record_at (Some r) = Some (rec_of r.now)

-- the record of this number, unless it is one of those that were dropped: in the order of their numbers, the first
-- is number 1
abbrev pub nth_record : List Rec → ℕ → ℕ → Option Rec
nth_record h dropped n = cond (nat_le n dropped) None (slice_get (reverse h) (n - 1))
