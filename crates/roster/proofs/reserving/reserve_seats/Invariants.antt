use Rattle.std.proofs.Common.{◌≡◌, take}
use Rattle.roster.specs.Stands.{Alike, AreApart, KeepsSeats}
use Rattle.roster.proofs.MadeRoom.{HaveSeatsFor}
use Rattle.roster.proofs.reserving.reserve_seats.Given as goal

abbrev pub invariant-loop-deed : goal.invariant-loop-deed
invariant-loop-deed l = record {
  alike : Alike l.fn.channels.list l.channels.list;
  apart : AreApart l.channels.list;
  kept : KeepsSeats l.changes l.fn.channels.list l.channels.list;
  seats : HaveSeatsFor l.changes (take l.deed-index l.deeds) l.channels.list;
  room : l.channels.room
      ≡ l.fn.channels.room;
}
