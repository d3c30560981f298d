use Rattle.std.proofs.Common.{◌≤◌, length, ap, ◌∙◌, arith}
use Rattle.std.proofs.lemmas.List.{drop_all}
use Rattle.websocket_front.specs.Fronted.{rest_of, is_open_of}
use Rattle.websocket_front.proofs.Steps.{goes_emptied}
use Rattle.websocket_front.proofs.front.Front.frame_next.Goals as goal

pub returns-then-as_slice-self-clause-ok : goal.returns-then-as_slice-self-clause-ok
returns-then-as_slice-self-clause-ok g c =
    let a = c.self.inside in
    let text = c.in-Some.text in
    let le : length text ≤ a.place = omega (arith, c.if-as_slice-self.true, ap length c.as_slice.ensures) in
    let none = ap (λ o. rest_of o a.place) c.in-Some.is ∙ drop_all a.place text le in
    rw (← c.self.view_is) (goes_emptied g.S.Write.contents a.subprotocol a.socket.inner a.socket.causes.value
    (rest_of a.begun a.place) (is_open_of a.ending) none)
