-- What the socket and the memory answered, call after call.
use Rattle.std.proofs.Common.{◌≤◌, arith}
use Rattle.websocket_front.specs.declared.front.FrontFault.{FrontFault}
use Rattle.websocket_front.specs.declared.front.FrontFault.TheVariants.{Io, Protocol, Memory}
use Rattle.websocket_front.specs.declared.front.Meaning.{Meaning}
use Rattle.websocket_front.specs.declared.front.Meaning.TheVariants.{Later, Closed, Fault}
use Rattle.websocket_front.specs.declared.counted_socket.Causes.{Causes}
use Rattle.websocket_front.specs.Causes.{count_one, count_of, Grows, Answers}

pub grows_trans : (c d e : Causes) → Grows c d → Grows d e → Grows c e
grows_trans c d e g h = (omega (arith, g, h), omega (arith, g, h), omega (arith, g, h), omega (arith, g, h))

count_grows : (f : FrontFault) (c d : Causes) → Grows c d → count_of f c ≤ count_of f d
count_grows Io c d g = g.1
count_grows Protocol c d g = g.2
count_grows Memory c d g = g.3

-- a fault that is answered after other answers
pub answers_after : (f : FrontFault) (c d e : Causes) → Grows c d → Answers f d e → Answers f c e
answers_after f c d e g h = omega (arith, count_grows f c d g, h)

-- a fault after which others are answered
pub answers_then : (f : FrontFault) (c d e : Causes) → Answers f c d → Grows d e → Answers f c e
answers_then f c d e h g = omega (arith, h, count_grows f d e g)

-- an answer more
pub counted_grows : (m : Meaning) (c : Causes) → Grows c (count_one m c)
counted_grows Later c = (omega arith, omega arith, omega arith, omega arith)
counted_grows Closed c = (omega arith, omega arith, omega arith, omega arith)
counted_grows (Fault Io) c = (omega arith, omega arith, omega arith, omega arith)
counted_grows (Fault Protocol) c = (omega arith, omega arith, omega arith, omega arith)
counted_grows (Fault Memory) c = (omega arith, omega arith, omega arith, omega arith)

pub counted_answers : (f : FrontFault) (c : Causes) → Answers f c (count_one (Fault f) c)
counted_answers Io c = omega arith
counted_answers Protocol c = omega arith
counted_answers Memory c = omega arith
