-- Tables that have no less room are ready for what they were.
use Rattle.std.proofs.Common.{arith, ◌≡◌, ℕ, ◌≤◌, List, length}
use Rattle.chronicle.specs.declared.why.Why.{Why}
use Rattle.channel_state.specs.Held.{ChannelView}
use Rattle.roster.specs.declared.deed.Deed.{Deed}
use Rattle.roster.specs.declared.tables.Card.{Card}
use Rattle.roster.specs.declared.tables.Channel.{Channel}
use Rattle.roster.specs.Table.{Table}
use Rattle.roster.specs.Tables.{person_at}
use Rattle.roster.specs.Lists.{Refits, AreListed}
use Rattle.roster.specs.Stands.{Alike, KeepsSeats, IsKept}
use Rattle.roster.proofs.Kept.{kept_again}
use Rattle.roster.proofs.MadeRoom.{changes_keyed}
use Rattle.roster.proofs.SameTables.{channels_alike}
use Rattle.roster.proofs.SeatLists.{listed_wide}

-- the same rows, with room for as many more at least
pub record IsWider {A : Type 0} (old new : Table A) : Type 0 where
  pub list : new.list ≡ old.list
  pub room : old.room ≤ new.room

module _ (es : Table (ℕ × Card)) (ws : Table Why) (hs : Table (List ℕ × ℕ)) (ks : Table Channel)
    (spare : List ChannelView) (names folds : List (List ℕ)) (fs ds : List Deed) where
  -- where channels keep their room for as many changes as there are folded names
  pub still_ready : (n : ℕ) (qs : Table (ℕ × Card)) (vs : Table Why) (ls : Table (List ℕ × ℕ)) (ms : Table Channel)
      → IsKept es ws hs ks spare folds fs ds × AreListed es.list names fs ds → length folds ≤ n
      → Alike ks.list ms.list → KeepsSeats n ks.list ms.list → ks.room ≤ ms.room
      → ((t : ℕ) → person_at qs.list t ≡ person_at es.list t) → Refits ms.list es.list qs.list → es.room ≤ qs.room
      → IsWider ws vs → IsWider hs ls → IsKept qs vs ls ms spare folds fs ds × AreListed qs.list names fs ds
  still_ready n qs vs ls ms i enough alike keeps rk people refits rp marks nicks = (
    kept_again es ws hs ks spare folds fs ds qs vs ls ms spare folds ds i.0 people marks.list nicks.list alike i.0.next
        (record {
          people = let had = i.0.room.people in omega arith;
          whys = let had = i.0.room.whys in let more = marks.room in omega arith;
          nicks = let had = i.0.room.nicks in let more = nicks.room in omega arith;
          channels = let had = i.0.room.channels in omega arith;
          seats = keeps ds (λ c. let few = changes_keyed c ds folds i.0.room.keys in omega arith) i.0.room.seats;
          enough = i.0.room.enough;
          empty = i.0.room.empty;
          keys = i.0.room.keys;
        }),
    listed_wide ms.list es.list qs.list names fs ds (channels_alike ks.list ms.list fs alike i.0.channels).states i.1
        refits,
  )
