use Rattle.std.proofs.Common.{◌≤◌, take}
use Rattle.roster.specs.Stands.{LeavesThose}
use Rattle.roster.proofs.channels.Channels.leave_each.Given as goal

abbrev pub invariant-loop-name : goal.invariant-loop-name
invariant-loop-name l = record {
  leaves : LeavesThose l.fn.self.list l.self.list
      (take l.name-index l.names) l.session;
  room : l.fn.self.room ≤ l.self.room;
}
