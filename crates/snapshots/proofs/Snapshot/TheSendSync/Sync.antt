-- Threads may share a snapshot, since it owns nothing.
use denote.RattleType.{RattleType}
use denote.Param.Send.{IsSync, part_keyless}
use Rattle.snapshots.specs.contracts.Snapshot.{the_row}
use Rattle.snapshots.proofs.Snapshot.TheSendSync.Send.{send}

pub sync : (Y : RattleType) → IsSync (the_row Y)
sync Y = record { shared = λ d b o κ q. part_keyless (the_row Y) (send Y) q d b o }
