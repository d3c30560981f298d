-- What a write of a message adds to a socket's output.
use Rattle.std.proofs.Common.{◌≡◌, ℕ, true, false, not, List, ◌++◌, Option, None, Some}
use Rattle.std.proofs.Common.{Result, Ok, Err, refl, sym, ap, ◌∙◌, subst}
use Rattle.std.specs.Prelude.{is_some}
use Rattle.websocket.specs.declared.error.Error.{Error}
use Rattle.websocket.specs.declared.protocol.config.Role.{Role}
use Rattle.websocket.specs.declared.protocol.config.Role.TheVariants.{Server}
use Rattle.websocket.specs.declared.protocol.state.WebSocketState.{WebSocketState}
use Rattle.websocket.specs.declared.protocol.state.WebSocketState.TheVariants as state
use Rattle.websocket.specs.declared.protocol.frame.coding.CloseCode.{CloseCode}
use Rattle.websocket.specs.declared.protocol.frame.coding.OpCode.{OpCode}
use Rattle.websocket.specs.declared.protocol.frame.coding.OpCode.TheVariants as Op
use Rattle.websocket.specs.declared.protocol.frame.coding.Data.TheVariants as data_code
use Rattle.websocket.specs.declared.protocol.frame.coding.Control.TheVariants as control_code
use Rattle.websocket.specs.Frame.{Checked, after_check, encode_frame}
use Rattle.websocket.specs.Content.{Content, text, binary, ping, pong, close, close_payload}
use Rattle.websocket.specs.Connection.{Connection, Effect, Sends, is_server, whole_header, can_write, check_can_write}
use Rattle.websocket.specs.Connection.{check_close, closing_state, close_to, close_step, write_active, write_step}
use Rattle.websocket.specs.View.{Leaves}
use Rattle.tungstenite.specs.Socket.{Socket, Writes}
use Rattle.websocket_front.specs.Frames.{frame_of, IsSendable}
use Rattle.websocket_front.specs.Fronted.{Gains}

-- a check that failed leaves nothing
checked : (check : Checked Error) (r : Result Effect Error) (after : Connection) (o o2 : List ℕ)
    → Leaves (after_check check r) after o o2 → Leaves r after o o2
checked (Ok _) r after o o2 h = h
checked (Err e) r after o o2 h = absurd h

no_mask : (mask : Option (List ℕ)) → is_some mask ≡ false → mask ≡ None
no_mask None e = refl
no_mask (Some key) e = absurd (let f : true ≡ false = e in cc)

-- a server's frame has no mask
unmasked : (op : OpCode) (payload o o2 : List ℕ) (role : Role) → role ≡ Server → Sends role
    (Some (record { opcode = op; payload = payload })) o o2 → o2 ≡ o ++ encode_frame (whole_header op None) payload
unmasked op payload o o2 role is sends =
    let none : sends.0 ≡ None = no_mask sends.0 (subst (λ r. is_some sends.0 ≡ not (is_server r)) is sends.1.0) in
    subst (λ m. o2 ≡ o ++ encode_frame (whole_header op m) payload) none sends.2

keeps : (op : OpCode) (payload o o2 : List ℕ) (conn after : Connection) → after.role ≡ conn.role
    → conn.role ≡ Server → Sends after.role (Some (record { opcode = op; payload = payload })) o o2
    → (after.role ≡ conn.role) × (o2 ≡ o ++ encode_frame (whole_header op None) payload)
keeps op payload o o2 conn after same role sends = (same, unmasked op payload o o2 after.role (same ∙ role) sends)

abbrev Added : Connection → Connection → List ℕ → List ℕ → Content → Type 0
Added conn after o o2 m = (after.role ≡ conn.role) × (o2 ≡ o ++ frame_of m)

added_active : (conn after : Connection) (o o2 : List ℕ) (m : Content) → IsSendable m → conn.role ≡ Server
    → Leaves (write_active conn m) after o o2 → Added conn after o o2 m
added_active conn after o o2 (text bs) ok role h = keeps (Op.Data data_code.Text) bs o o2 conn after
    (ap (λ (c : Connection). c.role) h.0) role h.1
added_active conn after o o2 (binary bs) ok role h = keeps (Op.Data data_code.Binary) bs o o2 conn after
    (ap (λ (c : Connection). c.role) h.0) role h.1
added_active conn after o o2 (ping bs) ok role h = absurd ok
added_active conn after o o2 (pong bs) ok role h = absurd ok
added_active conn after o o2 (close frame) ok role h = absurd ok

added_close : (conn after : Connection) (o o2 : List ℕ) (p : CloseCode × List ℕ) (s : WebSocketState)
    → can_write s ≡ true → conn.role ≡ Server → Leaves (close_to conn (Some p) (closing_state s)) after o o2
    → Added conn after o o2 (close (Some p))
added_close conn after o o2 p state.Active opened role h =
    let left = checked (check_close (Some p)) _ after o o2 h in
    keeps (Op.Control control_code.Close) (close_payload (Some p)) o o2 conn after
    (ap (λ (c : Connection). c.role) left.0) role left.1
added_close conn after o o2 p state.ClosedByUs opened role h = absurd (let f : false ≡ true = opened in cc)
added_close conn after o o2 p state.ClosedByPeer opened role h = absurd (let f : false ≡ true = opened in cc)
added_close conn after o o2 p state.CloseAcknowledged opened role h = absurd (let f : false ≡ true = opened in cc)
added_close conn after o o2 p state.Failed opened role h = absurd (let f : false ≡ true = opened in cc)
added_close conn after o o2 p state.Terminated opened role h = absurd (let f : false ≡ true = opened in cc)

module _ {S : Type 0} where
  pub gains_message : (contents : S → Option (List ℕ)) (old new : Socket S) (m : Content)
      → IsSendable m → old.conn.role ≡ Server → Writes contents old new (write_step old.conn m)
      → Gains contents old new (frame_of m)
  gains_message contents old new m ok role wrote =
      let added = added_active old.conn new.conn old.output (wrote.0 ++ new.output) m ok role
      (checked (check_can_write old.conn.state) (write_active old.conn m) new.conn old.output
      (wrote.0 ++ new.output) wrote.1) in
      record { gone = wrote.0; appended = wrote.2; parts = sym added.1; role = added.0 }

  pub gains_close : (contents : S → Option (List ℕ)) (old new : Socket S) (p : CloseCode × List ℕ)
      → can_write old.conn.state ≡ true → old.conn.role ≡ Server
      → Writes contents old new (close_step old.conn (Some p)) → Gains contents old new (frame_of (close (Some p)))
  gains_close contents old new p opened role wrote =
      let added = added_close old.conn new.conn old.output
      (wrote.0 ++ new.output) p old.conn.state opened role wrote.1 in
      record { gone = wrote.0; appended = wrote.2; parts = sym added.1; role = added.0 }
