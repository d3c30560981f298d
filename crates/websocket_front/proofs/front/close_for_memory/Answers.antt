use Rattle.std.proofs.Common.{refl}
use Rattle.tungstenite.specs.FrameHeader.{encode_header}
use Rattle.websocket_front.proofs.front.close_for_memory.Goals as goal

pub returns : goal.returns
unfolding encode_header
returns c = refl
