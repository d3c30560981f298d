use Rattle.std.proofs.Common.{◌≡◌, ℕ, List, [], Some, refl, subst}
use Rattle.websocket.specs.Connection.{close_step}
use Rattle.websocket.specs.declared.protocol.frame.coding.CloseCode.{CloseCode}
use Rattle.tungstenite.specs.Socket.{Writes}
use Rattle.websocket_front.proofs.Written.{gains_close}
use Rattle.websocket_front.proofs.counted_socket.CountedSocket.close.Goals as goal

pub returns-in-Ok-clause-taken : goal.returns-in-Ok-clause-taken
returns-in-Ok-clause-taken g c =
    let cf = g.S.Write.contents in
    let old = c.args.self.now.inner in
    let new = c.close.new.self in
    let f = c.close_frame.result in
    let is : ◌≡◌ {A = CloseCode × List ℕ} (f.code, f.reason) (c.args.code, []) = rw
    (c.close_frame.ensures.code, c.close_frame.ensures.no_reason) refl in
    gains_close cf old new (c.args.code, []) c.requires.opened c.requires.server (subst
    (λ (p : CloseCode × List ℕ). Writes cf old new (close_step old.conn (Some p))) is c.in-Ok.ensures.wrote)

pub returns-in-Later-clause-taken : goal.returns-in-Later-clause-taken
returns-in-Later-clause-taken g c =
    let cf = g.S.Write.contents in
    let old = c.args.self.now.inner in
    let new = c.close.new.self in
    let f = c.close_frame.result in
    let is : ◌≡◌ {A = CloseCode × List ℕ} (f.code, f.reason) (c.args.code, []) = rw
    (c.close_frame.ensures.code, c.close_frame.ensures.no_reason) refl in
    gains_close cf old new (c.args.code, []) c.requires.opened c.requires.server (subst (λ (p : CloseCode × List ℕ).
    Writes cf old new (close_step old.conn (Some p))) is (c.in-Err.ensures.stream_failed c.in-Later.ensures.io))
