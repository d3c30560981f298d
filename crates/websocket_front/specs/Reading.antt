-- What is read of a client, by the readings of its socket: each ends a run of frames, as RFC 6455 (sections 5 to 7)
-- has them.
use Rattle.std.specs.Prelude.{◌≡◌, ◌+◌, ◌^◌, ◌⊎◌, ⊤, ℕ, Bool, true, false, List, [], ◌∷◌, length}
use Rattle.std.specs.Prelude.{Option, None, Some, Result, Ok, Err}
use Rattle.tungstenite.specs.Socket.{Socket, Reads}
use Rattle.tungstenite.specs.declared.error.Error.{Error}
use Rattle.tungstenite.specs.declared.message.Message.{Message}
use Rattle.tungstenite.specs.declared.message.Message.TheVariants as Kind
use Rattle.websocket_front.specs.declared.front.FrontFault.{FrontFault}
use Rattle.websocket_front.specs.declared.front.FrontFault.TheVariants.{Memory}
use Rattle.websocket_front.specs.declared.front.Got.{Got}
use Rattle.websocket_front.specs.declared.front.Got.TheVariants.{Payload, Nothing, Closed}
use Rattle.websocket_front.specs.declared.front.Meaning.TheVariants as Meant
use Rattle.websocket_front.specs.Faults.{meaning}
use Rattle.websocket_front.specs.Causes.{Answers}
use Rattle.websocket_front.specs.Fronted.{Fronted}

-- pings and pongs, which aren't given
abbrev pub IsControl : Message → Type 0
IsControl (Kind.Text octets) = ⊥
IsControl (Kind.Binary octets) = ⊥
IsControl (Kind.Ping octets) = ⊤
IsControl (Kind.Pong octets) = ⊤
IsControl (Kind.Close frame) = ⊥

-- a text or a binary message of these octets
abbrev pub IsPayload : Message → List ℕ → Type 0
IsPayload (Kind.Text octets) payload = payload ≡ octets
IsPayload (Kind.Binary octets) payload = payload ≡ octets
IsPayload (Kind.Ping octets) payload = ⊥
IsPayload (Kind.Pong octets) payload = ⊥
IsPayload (Kind.Close frame) payload = ⊥

abbrev pub IsClose : Message → Type 0
IsClose (Kind.Text octets) = ⊥
IsClose (Kind.Binary octets) = ⊥
IsClose (Kind.Ping octets) = ⊥
IsClose (Kind.Pong octets) = ⊥
IsClose (Kind.Close frame) = ⊤

-- a reading came to the client's close, now or before
abbrev pub IsClosing : Result Message Error → Type 0
IsClosing (Ok m) = IsClose m
IsClosing (Err e) = meaning e ≡ Meant.Closed

-- a reading found that the stream has nothing now
abbrev pub IsWaiting : Result Message Error → Type 0
IsWaiting (Ok m) = ⊥
IsWaiting (Err e) = meaning e ≡ Meant.Later

-- a payload of these octets, and nothing else
abbrev pub IsGiven : List ℕ → Option Got → Type 0
IsGiven octets (Some (Payload v)) = v.items ≡ octets
IsGiven octets (Some Nothing) = ⊥
IsGiven octets (Some Closed) = ⊥
IsGiven octets None = ⊥

-- the front is open after a payload and where there is nothing now, and it isn't after the client's close
abbrev pub GoesOn : Bool → Got → Type 0
GoesOn is_open (Payload v) = is_open ≡ true
GoesOn is_open Nothing = is_open ≡ true
GoesOn is_open Closed = is_open ≡ false

-- the same of one reading: it is open after a ping or a pong
abbrev pub GoesOnOne : Bool → Option Got → Type 0
GoesOnOne is_open None = is_open ≡ true
GoesOnOne is_open (Some got) = GoesOn is_open got

module _ {S : Type 0} where
  -- what was given is what the readings that led to a socket came to
  abbrev pub GivesBy : (Result Message Error → Socket S → Type 0) → Socket S → Got → Type 0
  GivesBy Led new (Payload v) = (m : Message) × IsPayload m v.items × Led (Ok m) new
  GivesBy Led new Nothing = (r : Result Message Error) × IsWaiting r × Led r new
  GivesBy Led new Closed = (r : Result Message Error) × (s : Socket S) × IsClosing r × Led r s

  -- readings from one state of the socket to another, each of which gave a ping or a pong
  abbrev pub Passes : (S → Option (List ℕ)) → Socket S → List (Socket S) → Socket S → Type 0
  Passes remaining old [] new = new ≡ old
  Passes remaining old (s ∷ ss) new =
      ((m : Message) × IsControl m × Reads remaining old s (Ok m)) × Passes remaining s ss new

  -- after some of these, a reading that came to this
  abbrev pub ReadsOn : (S → Option (List ℕ)) → Socket S → Result Message Error → Socket S → Type 0
  ReadsOn remaining old r new =
      (ss : List (Socket S)) × (mid : Socket S) × Passes remaining old ss mid × Reads remaining mid new r

  abbrev pub Gives : (S → Option (List ℕ)) → Socket S → Socket S → Got → Type 0
  Gives remaining old new got = GivesBy (ReadsOn remaining old) new got

  -- the same of one reading, where a ping or a pong gives nothing
  abbrev pub GivesOne : (S → Option (List ℕ)) → Socket S → Socket S → Option Got → Type 0
  GivesOne remaining old new None = (m : Message) × IsControl m × Reads remaining old new (Ok m)
  GivesOne remaining old new (Some got) = GivesBy (λ r s. Reads remaining old s r) new got

  -- a reading failed so, or there was no memory for a payload's octets
  abbrev pub FailsBy : (Result Message Error → Socket S → Type 0) → FrontFault → Type 0
  FailsBy Led f = (f ≡ Memory) ⊎ ((e : Error) × (s : Socket S) × Led (Err e) s × (meaning e ≡ Meant.Fault f))

  abbrev pub Fails : (S → Option (List ℕ)) → Socket S → FrontFault → Type 0
  Fails remaining old f = FailsBy (ReadsOn remaining old) f

  abbrev pub FailsOnce : (S → Option (List ℕ)) → Socket S → FrontFault → Type 0
  FailsOnce remaining old f = FailsBy (λ r s. Reads remaining old s r) f

  -- so many pings and pongs came, one after another, that a call gave up
  abbrev pub HasNoEnd : (S → Option (List ℕ)) → Socket S → Socket S → Type 0
  HasNoEnd remaining old new = (ss : List (Socket S)) × (length ss + 1 ≡ 2 ^ 64) × Passes remaining old ss new

  -- the socket or the memory answered this fault, or there was no end of pings
  abbrev pub FailsBecause : (S → Option (List ℕ)) → FrontFault → Fronted S → Fronted S → Type 0
  FailsBecause remaining f old new =
      Answers f old.causes new.causes ⊎ ((f ≡ Memory) × HasNoEnd remaining old.socket new.socket)
