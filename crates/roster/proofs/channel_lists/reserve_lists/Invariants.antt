use Rattle.std.proofs.Common.{◌≡◌, ◌≤◌, ℕ, length, take}
use Rattle.roster.specs.Tables.{person_at}
use Rattle.roster.specs.Lists.{Refits}
use Rattle.roster.proofs.SeatLists.{HaveRoomFor}
use Rattle.roster.proofs.channel_lists.reserve_lists.Given as goal

abbrev pub invariant-loop-deed : goal.invariant-loop-deed
invariant-loop-deed l = record {
  marks : l.marks ≡ l.fn.marks;
  people : (t : ℕ) → person_at l.people.list t ≡ person_at l.fn.people.list t;
  kept : Refits l.channels.list l.fn.people.list l.people.list;
  spare : l.fn.people.room ≤ l.people.room;
  room : HaveRoomFor (length l.deeds) (take l.deed-index l.deeds) l.people.list;
}
