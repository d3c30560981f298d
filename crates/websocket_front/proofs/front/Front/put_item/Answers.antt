use Rattle.std.proofs.Common.{◌≡◌, ◌++◌, ℕ, List, OnOk, sym, ap, ◌∙◌, subst}
use Rattle.tungstenite.specs.Socket.{Socket}
use Rattle.deliveries.specs.Text.{delivery_text}
use Rattle.websocket_front.specs.Lines.{lines}
use Rattle.websocket_front.specs.Frames.{frames}
use Rattle.websocket_front.specs.Fronted.{Fronted, rest_of, GoesOut}
use Rattle.websocket_front.proofs.Steps.{waits_with}
use Rattle.websocket_front.proofs.front.Front.put_item.Goals as goal

pub returns-clause-ok : goal.returns-clause-ok
returns-clause-ok g c =
    let a = c.self.inside in
    let p = a.subprotocol in
    let out = a.socket.inner.output in
    let rest = rest_of a.begun a.place in
    let text = c.in_ok-text.text in
    let host = c.args.host.now in
    let ready = ap (λ (f : Fronted g.row.S.Denot). f.rest) c.self.view_is ∙ c.requires.ready in
    let is : text ≡ delivery_text c.args.item.now.delivery host = c.in_ok-text.ensures.text ∙ ap
    (λ d. delivery_text d host) c.delivery.ensures in
    let whole = ap (λ t. (out ++ frames p (lines rest)) ++ frames p (lines t)) (sym is)
    ∙ waits_with p out rest text ready in
    let ok = subst (λ (s : Socket g.row.S.Denot). OnOk c.frame_lines.result (GoesOut g.S.Write.contents
    s.stream (s.output ++ frames p (lines text)) c.frame_lines.new.self)) c.in_ok-text.ensures.inner
    c.frame_lines.ensures.ok in
    rw (← c.self.view_is) (subst (λ (xs : List ℕ). OnOk c.frame_lines.result (GoesOut g.S.Write.contents
    a.socket.inner.stream xs c.frame_lines.new.self)) (sym whole) ok)
