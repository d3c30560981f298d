-- What an error of a session's socket, or of its handshake, means to the session: this project's own.
use Rattle.std.specs.Prelude.{Bool, true, false, cond, ⊤}
use Rattle.std.specs.IoError.{error_kind}
use Rattle.std.specs.declared.io.ErrorKind.{ErrorKind}
use Rattle.std.specs.declared.io.ErrorKind.TheVariants.{WouldBlock, TimedOut, Interrupted, OutOfMemory}
use Rattle.websocket.specs.declared.error.ProtocolError.{ProtocolError}
use Rattle.websocket.specs.declared.error.ProtocolError.TheVariants as breach
use Rattle.websocket.specs.declared.handshake.failure.HandshakeError.TheVariants as head
use Rattle.tungstenite.specs.declared.error.Error.{Error}
use Rattle.tungstenite.specs.declared.error.Error.TheVariants as error
use Rattle.websocket_front.specs.declared.greeting.GreetFault.{GreetFault}
use Rattle.websocket_front.specs.declared.greeting.GreetFault.TheVariants as greet
use Rattle.websocket_front.specs.declared.front.FrontFault.{FrontFault}
use Rattle.websocket_front.specs.declared.front.FrontFault.TheVariants as fault
use Rattle.websocket_front.specs.declared.front.Meaning.{Meaning}
use Rattle.websocket_front.specs.declared.front.Meaning.TheVariants as meant

-- a stream that ends without a close has failed (RFC 6455, section 7.1.5); any other breach is the client's
abbrev pub fault_of_breach : ProtocolError → FrontFault
fault_of_breach breach.ResetWithoutClosingHandshake = fault.Io
fault_of_breach other = fault.Protocol

-- an error of these kinds passes: the stream has or takes nothing now
abbrev pub is_passing : ErrorKind → Bool
is_passing WouldBlock = true
is_passing TimedOut = true
is_passing Interrupted = true
is_passing _ = false

-- what an error means: the stream has or takes nothing now, the client closed, or the front fails
abbrev pub meaning : Error → Meaning
meaning (error.Io cause) = cond (is_passing (error_kind cause)) meant.Later (meant.Fault fault.Io)
meaning error.ConnectionClosed = meant.Closed
meaning error.OutOfMemory = meant.Fault fault.Memory
meaning (error.Protocol cause) = meant.Fault (fault_of_breach cause)
meaning other = meant.Fault fault.Protocol

-- this holds if an error passes
abbrev pub IfLater : Meaning → Type 0 → Type 0
IfLater meant.Later P = P
IfLater meant.Closed P = ⊤
IfLater (meant.Fault f) P = ⊤

-- an error of this kind says that there was no memory
abbrev pub is_shortage : ErrorKind → Bool
is_shortage OutOfMemory = true
is_shortage _ = false

-- a handshake fails for the stream, for want of memory (the only cause by which a request is refused), or by its
-- request; of a head without shape the library doesn't tell whether memory was wanting
abbrev pub greet_fault_of : Error → GreetFault
greet_fault_of (error.Io cause) = cond (is_shortage (error_kind cause)) greet.Memory greet.Io
greet_fault_of error.HandshakeIncomplete = greet.Io
greet_fault_of error.OutOfMemory = greet.Memory
greet_fault_of (error.Refused response) = greet.Memory
greet_fault_of (error.Handshake head.OutOfMemory) = greet.Memory
greet_fault_of (error.Handshake head.InvalidHeader) = greet.Head
greet_fault_of error.Url = greet.Head
greet_fault_of other = greet.Handshake
