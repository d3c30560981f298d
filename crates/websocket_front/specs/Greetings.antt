-- What comes of a handshake, and why one comes to nothing. This project's own.
use Rattle.std.specs.Prelude.{◌≡◌, ◌+◌, ◌⊎◌, ℕ, List, Option, Some}
use Rattle.tungstenite.specs.declared.error.Error.{Error}
use Rattle.tungstenite.specs.declared.error.Error.TheVariants.{Handshake}
use Rattle.websocket_front.specs.declared.greeting.GreetFault.{GreetFault}
use Rattle.websocket_front.specs.declared.greeting.GreetFault.TheVariants.{Io}
use Rattle.websocket_front.specs.declared.greeting.Greeted.{Greeted}
use Rattle.websocket_front.specs.declared.greeting.Greeted.TheVariants.{Done, Later}
use Rattle.websocket_front.specs.Asked.{IsUnasked}
use Rattle.websocket_front.specs.Faults.{greet_fault_of}
use Rattle.websocket_front.specs.Fronted.{IsGreeted}

-- why a handshake came to nothing: the fault; the error that ended it, if one did; and how often it had paused, since
-- its stream had or took nothing
pub record Failing : Type 0 where
  pub fault : GreetFault
  pub error : Option Error
  pub pauses : ℕ

-- an error that says why these octets are no request for a WebSocket
abbrev pub IsRefused : List ℕ → Error → Type 0
IsRefused octets (Handshake e) = IsUnasked octets e
IsRefused octets other = ⊥

-- the front of a client that was greeted; or the handshake, which paused once more than it had before
abbrev pub Comes : {S : Type 0} → ℕ → Greeted S → Type 0
Comes pauses (Done front) = IsGreeted front
Comes pauses (Later greeting) = greeting ≡ pauses + 1

-- an error ended it, and the fault is what that means
abbrev pub IsEnded : Failing → Type 0
IsEnded f = (e : Error) × (f.error ≡ Some e) × (f.fault ≡ greet_fault_of e)

-- or it paused 1,024 times, which is a fault of the stream
abbrev pub IsUngreeted : Failing → Type 0
IsUngreeted f = IsEnded f ⊎ ((f.fault ≡ Io) × (f.pauses ≡ 1024))
