use Rattle.std.proofs.Common.{Some, ap, ◌∙◌, sym}
use Rattle.websocket_front.specs.Fronted.{Fronted, rest_of}
use Rattle.websocket_front.proofs.Lines.{ready_is}
use Rattle.websocket_front.proofs.front.Front.is_ready.Goals as goal

pub returns-in-Some : goal.returns-in-Some
returns-in-Some g c =
    let a = c.self.inside in
    let rest = sym (ap (λ (f : Fronted g.row.S.Denot). f.rest) c.self.view_is) ∙ (ap
    (λ o. rest_of o a.place) c.in-Some.is ∙ ap (λ t. rest_of (Some t) a.place) (sym c.as_slice.ensures)) in
    ready_is c.as_slice.result.now c.args.self.now.rest a.place rest
