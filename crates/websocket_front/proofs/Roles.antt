-- A frame that is read leaves the side of the connection as it is.
use Rattle.std.proofs.Common.{◌≡◌, ℕ, Bool, true, false, cond, not, List, [], ◌∷◌, ◌++◌, Option, None}
use Rattle.std.proofs.Common.{Some, Result, Ok, Err, refl, ap, ◌∙◌, subst, drop, length}
use Rattle.std.specs.Prelude.{⊤, nat_lt}
use Rattle.websocket.specs.declared.error.Error.{Error}
use Rattle.websocket.specs.declared.protocol.incomplete.MessageType.{MessageType}
use Rattle.websocket.specs.declared.protocol.frame.coding.CloseCode.{CloseCode}
use Rattle.websocket.specs.declared.protocol.frame.coding.OpCode.{OpCode}
use Rattle.websocket.specs.declared.protocol.frame.coding.OpCode.TheVariants as Op
use Rattle.websocket.specs.declared.protocol.frame.coding.Data.{Data}
use Rattle.websocket.specs.declared.protocol.frame.coding.Data.TheVariants.{Continue, Text, Binary}
use Rattle.websocket.specs.declared.protocol.frame.coding.Control.{Control}
use Rattle.websocket.specs.declared.protocol.frame.coding.Control.TheVariants.{Close, Ping, Pong}
use Rattle.websocket.specs.declared.protocol.incomplete.MessageType.TheVariants as Kind
use Rattle.websocket.specs.declared.protocol.frame.header.FrameHeader.{FrameHeader}
use Rattle.websocket.specs.declared.protocol.frame.codec.FrameStatus.TheVariants.{Complete}
use Rattle.websocket.specs.Frame.{Checked, check_size, after_check}
use Rattle.websocket.specs.Content.{Content}
use Rattle.websocket.specs.Connection.{Connection, Effect, can_write, decode_close, has_allowed_code}
use Rattle.websocket.specs.Connection.{on_close, on_short_control, on_control, complete_message}
use Rattle.websocket.specs.Connection.{check_so_far, deliver, on_message_bytes, on_data_after, on_data}
use Rattle.websocket.specs.Connection.{check_header, on_opcode, on_frame, read_step}
use Rattle.websocket.proofs.StreamLemmas.{TookFrame_from_read}
use Rattle.tungstenite.specs.Socket.{Socket, Run, Runs, Reads}
use Rattle.tungstenite.specs.Failure.{IsIo}
use Rattle.tungstenite.specs.declared.error.Error.{Error as SocketError}
use Rattle.tungstenite.specs.declared.message.Message.{Message}

abbrev KeepsRole : Connection → Result Effect Error → Type 0
KeepsRole conn (Ok effect) = effect.next.role ≡ conn.role
KeepsRole conn (Err e) = ⊤

either : (conn : Connection) (b : Bool) (x y : Result Effect Error) → KeepsRole conn x → KeepsRole conn y
    → KeepsRole conn (cond b x y)
either conn true x y hx hy = hx
either conn false x y hx hy = hy

either_effect : (conn : Connection) (b : Bool) (x y : Effect) → x.next.role ≡ conn.role → y.next.role ≡ conn.role
    → (cond b x y).next.role ≡ conn.role
either_effect conn true x y hx hy = hx
either_effect conn false x y hx hy = hy

checked : (conn : Connection) (check : Checked Error) (r : Result Effect Error) → KeepsRole conn r
    → KeepsRole conn (after_check check r)
checked conn (Ok _) r h = h
checked conn (Err e) r h = tt

close_role : (conn : Connection) (payload : List ℕ) (r : Result (Option (CloseCode × List ℕ)) Error)
    → KeepsRole conn (on_close conn payload r)
close_role conn payload (Err e) = tt
close_role conn payload (Ok frame) =
    either_effect conn (not (can_write conn.state)) _ _ refl
    (either_effect conn (has_allowed_code frame) _ _ refl refl)

short_control_role : (conn : Connection) (control : Control) (payload : List ℕ)
    → KeepsRole conn (on_short_control conn control payload)
short_control_role conn Close payload = close_role conn payload (decode_close payload)
short_control_role conn Pong payload = refl
short_control_role conn Ping payload = refl

control_role : (conn : Connection) (control : Control) (is_final : Bool) (payload : List ℕ)
    → KeepsRole conn (on_control conn control is_final payload)
unfolding on_control
control_role conn control is_final payload =
    either conn (not is_final) _ _ tt
    (either conn (nat_lt 125 (length payload)) _ _ tt (short_control_role conn control payload))

deliver_role : (conn : Connection) (r : Result Content Error) → KeepsRole conn (deliver conn r)
deliver_role conn (Err e) = tt
deliver_role conn (Ok content) = refl

bytes_role : (conn : Connection) (kind : MessageType) (is_final : Bool) (bs : List ℕ)
    → KeepsRole conn (on_message_bytes conn kind is_final bs)
unfolding on_message_bytes
bytes_role conn kind is_final bs =
    checked conn (check_size (length bs) conn.config.max_message_size) _
    (either conn is_final _ _ (deliver_role conn (complete_message kind bs))
    (checked conn (check_so_far kind bs) _ refl))

data_role : (conn : Connection) (fragments : Option (MessageType × List ℕ)) (kind : Data) (is_final : Bool)
    (payload : List ℕ) → KeepsRole conn (on_data_after conn fragments kind is_final payload)
data_role conn None Continue is_final payload = tt
data_role conn None Text is_final payload = bytes_role conn Kind.Text is_final payload
data_role conn None Binary is_final payload = bytes_role conn Kind.Binary is_final payload
data_role conn (Some p) Continue is_final payload = bytes_role conn p.0 is_final (p.1 ++ payload)
data_role conn (Some p) Text is_final payload = tt
data_role conn (Some p) Binary is_final payload = tt

opcode_role : (conn : Connection) (op : OpCode) (is_final : Bool) (payload : List ℕ)
    → KeepsRole conn (on_opcode conn op is_final payload)
unfolding on_data
opcode_role conn (Op.Control control) is_final payload = control_role conn control is_final payload
opcode_role conn (Op.Data kind) is_final payload = data_role conn conn.fragments kind is_final payload

frame_role : (conn : Connection) (h : FrameHeader) (payload : List ℕ) → KeepsRole conn (on_frame conn h payload)
unfolding on_frame
frame_role conn h payload = checked conn (check_header conn h) _ (opcode_role conn h.opcode h.is_final payload)

step_role : (conn : Connection) (bs : List ℕ) (p : ℕ × Effect) → read_step conn bs ≡ Ok (Complete p)
    → p.1.next.role ≡ conn.role
step_role conn bs p read =
    let took = TookFrame_from_read conn bs p read in
    subst (KeepsRole conn) took.does (frame_role conn took.header took.payload)

runs_role : (c c2 : Connection) (i i2 : List ℕ) (ps : Run) → Runs c i ps c2 i2 → c2.role ≡ c.role
runs_role c c2 i i2 [] runs = ap (λ (x : Connection). x.role) runs.0
runs_role c c2 i i2 (p ∷ ps) runs = runs_role p.1.next c2 (drop p.0 i) i2 ps runs.1 ∙ step_role c i p runs.0

module _ {S : Type 0} where
  -- after a message
  pub message_role : (remaining : S → Option (List ℕ)) (old new : Socket S) (m : Message)
      → Reads remaining old new (Ok m) → new.conn.role ≡ old.conn.role
  message_role remaining old new m read =
      ap (λ (x : Connection). x.role) read.6.1 ∙ runs_role old.conn read.2 (old.input ++ read.1) read.3 read.0 read.5

  -- and where the stream had nothing
  pub waiting_role : (remaining : S → Option (List ℕ)) (old new : Socket S) (e : SocketError)
      → Reads remaining old new (Err e) → IsIo e → new.conn.role ≡ old.conn.role
  waiting_role remaining old new e read io =
      ap (λ (x : Connection). x.role) (read.6.2 io).0 ∙ runs_role old.conn read.2
      (old.input ++ read.1) read.3 read.0 read.5
