-- What clauses see of a session's WebSocket: this project's own.
use Rattle.std.specs.Prelude.{◌≡◌, ◌≤◌, ◌+◌, ◌⊎◌, ℕ, Bool, true, false, cond, List, [], ◌∷◌, ◌++◌, drop}
use Rattle.std.specs.Prelude.{Option, None, Some, refl}
use Rattle.std.specs.Coded.{Coded, code_by, coded×, coded_ℕ, coded_bool, coded_list}
use Rattle.std.specs.Io.KnownBytes.{Appends}
use Rattle.tungstenite.specs.Socket.{Socket, socket_code}
use Rattle.tungstenite.specs.Heads.{Serves}
use Rattle.tungstenite.specs.Content.{close}
use Rattle.websocket.specs.Connection.{can_write}
use Rattle.websocket.specs.declared.protocol.frame.coding.CloseCode.{CloseCode}
use Rattle.deliveries.specs.declared.delivery.Delivery.{Delivery}
use Rattle.websocket_front.specs.declared.subprotocol.Subprotocol.{Subprotocol}
use Rattle.websocket_front.specs.declared.subprotocol.Subprotocol.TheVariants.{Text, Binary}
use Rattle.websocket_front.specs.declared.counted_socket.Causes.{Causes}
use Rattle.websocket_front.specs.declared.front.FrontEnd.{FrontEnd}
use Rattle.websocket_front.specs.declared.front.FrontFault.{FrontFault}
use Rattle.websocket_front.specs.declared.front.FrontFault.TheVariants.{Io, Protocol}
use Rattle.websocket_front.specs.Asked.{Asks}
use Rattle.websocket_front.specs.Causes.{Answers}
use Rattle.websocket_front.specs.Lines.{lines}
use Rattle.websocket_front.specs.Frames.{frame_of, frame, frames, delivery_frames}

-- the socket; how often it and the memory answered what; what its messages are; what is left of the item that was put
-- last, whose lines aren't in frames yet; and whether it is still open, neither closed by the client nor failed
pub record Fronted (S : Type 0) : Type 0 where
  pub socket : Socket S
  pub causes : Causes
  pub subprotocol : Subprotocol
  pub rest : List ℕ
  pub is_open : Bool

-- what is left of an item's text from a place on
abbrev pub rest_of : Option (List ℕ) → ℕ → List ℕ
rest_of None place = []
rest_of (Some text) place = drop place text

-- whether a front that ended so, or didn't, is open
abbrev pub is_open_of : Option FrontEnd → Bool
is_open_of None = true
is_open_of (Some ending) = false

-- how the logic stores a front; no clause reads these words
abbrev pub is_binary : Subprotocol → Bool
is_binary Text = false
is_binary Binary = true

pub subprotocol_back : (p : Subprotocol) → cond (is_binary p) Binary Text ≡ p
subprotocol_back Text = refl
subprotocol_back Binary = refl

abbrev pub subprotocol_code : Coded Subprotocol
subprotocol_code = code_by Bool coded_bool is_binary (λ b. cond b Binary Text) subprotocol_back

abbrev pub causes_code : Coded Causes
causes_code =
    code_by (ℕ × (ℕ × (ℕ × ℕ)))
    (coded× coded_ℕ (coded× coded_ℕ (coded× coded_ℕ coded_ℕ)))
    (λ c. (c.pauses, (c.failures, (c.breaches, c.shortages))))
    (λ p. record { pauses = p.0; failures = p.1.0; breaches = p.1.1.0; shortages = p.1.1.1 })
    (λ _. refl)

-- the frame of a close with this code and no words
abbrev pub close_of_code : CloseCode → List ℕ
close_of_code code = frame_of (close (Some (code, [])))

module _ {S : Type 0} where
  abbrev pub fronted_code : Coded S → Coded (Fronted S)
  fronted_code stream =
      code_by (Socket S × (Causes × (Subprotocol × (List ℕ × Bool))))
      (coded× (socket_code stream)
      (coded× causes_code (coded× subprotocol_code (coded× (coded_list coded_ℕ) coded_bool))))
      (λ f. (f.socket, (f.causes, (f.subprotocol, (f.rest, f.is_open)))))
      (λ p. record {
        socket = p.0;
        causes = p.1.0;
        subprotocol = p.1.1.0;
        rest = p.1.1.1.0;
        is_open = p.1.1.1.1;
      })
      (λ _. refl)

  -- the same front, after more answers
  abbrev pub with_causes : Fronted S → Causes → Fronted S
  with_causes f causes = record f { causes = causes }

  -- the octets that wait to go out: those in the output, and the frames of the lines that have none yet
  abbrev pub waiting : Fronted S → List ℕ
  waiting f = f.socket.output ++ frames f.subprotocol (lines f.rest)

  -- those octets, and then the frames of a delivery to a session that has this host
  abbrev pub waiting_with : Fronted S → Delivery → List ℕ → List ℕ
  waiting_with f delivery host = waiting f ++ delivery_frames f.subprotocol delivery host

  -- those in the output, and then a close with this code
  abbrev pub output_with_close : Fronted S → CloseCode → List ℕ
  output_with_close f code = f.socket.output ++ close_of_code code

  -- octets go to the stream from their front, and the others wait
  pub record GoesOut (contents : S → Option (List ℕ)) (old : S) (octets : List ℕ) (new : Fronted S) : Type 0 where
    pub gone : List ℕ
    pub appended : Appends (contents old) (contents new.socket.stream) gone
    pub parts : octets ≡ gone ++ waiting new

  -- a socket's output gained a frame, and some of it went to the stream
  pub record Gains (contents : S → Option (List ℕ)) (old new : Socket S) (frame : List ℕ) : Type 0 where
    pub gone : List ℕ
    pub appended : Appends (contents old.stream) (contents new.stream) gone
    pub parts : old.output ++ frame ≡ gone ++ new.output
    pub role : new.conn.role ≡ old.conn.role

  -- the line at the front of what is left of a text went into a socket's output, and the next begins at this place of
  -- the text
  pub record IsFramed (contents : S → Option (List ℕ)) (p : Subprotocol) (left text : List ℕ) (old new : Socket S)
      (next : ℕ) : Type 0 where
    pub line : List ℕ
    pub parts : lines left ≡ line ∷ lines (drop next text)
    pub gained : Gains contents old new (frame p line)

  -- or nothing changed
  abbrev pub FramesNext : (S → Option (List ℕ)) → Subprotocol → (left text : List ℕ) → (old new : Socket S)
      → Option ℕ → Type 0
  FramesNext contents p left text old new None = new ≡ old
  FramesNext contents p left text old new (Some next) = IsFramed contents p left text old new next

  -- all of the octets went to the stream
  abbrev pub IsOut : (S → Option (List ℕ)) → S → List ℕ → Fronted S → Type 0
  IsOut contents old octets new = Appends (contents old) (contents new.socket.stream) octets × (waiting new ≡ [])

  -- a front that a handshake gave: it serves a client whose request was answered, as that asks, and has done nothing
  -- since
  pub record IsGreeted (f : Fronted S) : Type 0 where
    pub serves : Serves f.socket
    pub asked : (head : List ℕ) × Asks head f.subprotocol
    pub none_waits : f.rest ≡ []
    pub is_open : f.is_open ≡ true

  -- the socket or the memory answered this fault, or a close was sent before, after which nothing may be
  abbrev pub IsUnsent : FrontFault → Fronted S → Fronted S → Type 0
  IsUnsent f old new =
      Answers f old.causes new.causes ⊎ ((f ≡ Protocol) × (can_write new.socket.conn.state ≡ false))

  -- or the stream took nothing, 1,024 times
  abbrev pub IsNotOut : FrontFault → Fronted S → Fronted S → Type 0
  IsNotOut f old new = IsUnsent f old new ⊎ ((f ≡ Io) × (old.causes.pauses + 1024 ≤ new.causes.pauses))
