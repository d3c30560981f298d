use Rattle.std.proofs.Common.{refl}
use Rattle.std.proofs.lemmas.Str.{utf8_lossy-IsUtf8}
use Rattle.websocket_front.proofs.laws.lines_stay.Goals as goal

pub returns : goal.returns
returns c = (λ line. refl, λ line is. utf8_lossy-IsUtf8 line is)
