use Rattle.numerics.proofs.Rooms.{room-channels, whole-channels}
use Rattle.numerics.proofs.laws.room_for_channels.Goals as goal

pub returns-clause-room : goal.returns-clause-room
returns-clause-room c = room-channels

pub returns-clause-whole : goal.returns-clause-whole
returns-clause-whole c = whole-channels
