-- Lines as messages: each is the payload of a message of its own, without CR LF (IRCv3 WebSocket specification), and a
-- message is one frame, which a server doesn't mask (RFC 6455, sections 5.1, 5.2 and 5.6).
use Rattle.std.specs.Prelude.{◌≡◌, ℕ, List, ◌∷◌, drop, None, IsUtf8, ⊤}
use Rattle.std.specs.List.{flat_map}
use Rattle.std.specs.Str.Lossy.{utf8_lossy}
use Rattle.tungstenite.specs.Content.{Content, text, binary, ping, pong, close, content_opcode, content_payload}
use Rattle.tungstenite.specs.Connection.{whole_header}
use Rattle.tungstenite.specs.Frame.{encode_frame}
use Rattle.tungstenite.specs.Socket.{content_of}
use Rattle.tungstenite.specs.declared.message.Message.{Message}
use Rattle.deliveries.specs.declared.delivery.Delivery.{Delivery}
use Rattle.deliveries.specs.Text.{delivery_text}
use Rattle.websocket_front.specs.declared.subprotocol.Subprotocol.{Subprotocol}
use Rattle.websocket_front.specs.declared.subprotocol.Subprotocol.TheVariants.{Text, Binary}
use Rattle.websocket_front.specs.Lines.{lines}

-- a text message is UTF-8, with U+FFFD for what isn't; a binary one has any octets
abbrev pub message : Subprotocol → List ℕ → Content
message Text line = text (utf8_lossy line)
message Binary line = binary line

-- a message's frame
abbrev pub frame_of : Content → List ℕ
frame_of m = encode_frame (whole_header (content_opcode m) None) (content_payload m)

abbrev pub frame : Subprotocol → List ℕ → List ℕ
frame p line = frame_of (message p line)

-- the frames of lines, one a line, in order
abbrev pub frames : Subprotocol → List (List ℕ) → List ℕ
frames p ls = flat_map (frame p) ls

-- those of a delivery to a session that has this host
abbrev pub delivery_frames : Subprotocol → Delivery → List ℕ → List ℕ
delivery_frames p delivery host = frames p (lines (delivery_text delivery host))

-- a message of the line at the front of what is left of a text, and where the line after it begins
abbrev pub IsNext : Subprotocol → (left whole : List ℕ) → Message × ℕ → Type 0
IsNext p left whole next =
    (line : List ℕ) × (content_of next.0 ≡ message p line) × (lines left ≡ line ∷ lines (drop next.1 whole))

-- a text or a binary message
abbrev pub IsSendable : Content → Type 0
IsSendable (text octets) = ⊤
IsSendable (binary octets) = ⊤
IsSendable (ping octets) = ⊥
IsSendable (pong octets) = ⊥
IsSendable (close frame) = ⊥

-- a line goes out as it is, on binary, and on text where it is UTF-8
abbrev pub LinesStay : Type 0
LinesStay =
    ((line : List ℕ) → content_payload (message Binary line) ≡ line)
    × ((line : List ℕ) → IsUtf8 line → content_payload (message Text line) ≡ line)
