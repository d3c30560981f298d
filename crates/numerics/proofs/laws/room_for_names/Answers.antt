use Rattle.numerics.proofs.Rooms.{room-names, whole-names}
use Rattle.numerics.proofs.laws.room_for_names.Goals as goal

pub returns-clause-room : goal.returns-clause-room
returns-clause-room c = room-names

pub returns-clause-whole : goal.returns-clause-whole
returns-clause-whole c = whole-names
