use Rattle.std.proofs.Common.{◌≡◌, ℕ, ◌<◌, ◌∷◌, length, None, false, arith, ap, ◌∙◌}
use Rattle.ledger.specs.declared.last_heard.Since.{Since}
use Rattle.ledger.specs.LastHeard.{since_at}
use Rattle.ledger.proofs.Picking.{put_new}
use Rattle.ledger.proofs.last_heard.LastHeard.open.Goals as goal

pub returns-clause-ok : goal.returns-clause-ok
returns-clause-ok c =
    let a = c.self.inside in
    let n = c.number.result in
    let s = c.args.session in let x : Since = record { moment = c.args.moment; pinged = false } in
    let none : since_at a.sessions.entries n ≡ None = ap (since_at a.sessions.entries) c.number.ensures ∙ ap
    (λ xs. since_at xs s) c.self.view_is ∙ c.requires in
    let few : length a.sessions.entries < a.sessions.cap = let l = c.if-prove.false in let e = c.len.ensures.len in
    let cap = c.self.invariant in omega arith in
    ap (λ r. r.entries) c.in-Ok.ensures.entries ∙ put_new n a.sessions.entries a.sessions.cap x none few
    ∙ ap (λ (k : ℕ). (k, x) ∷ a.sessions.entries) c.number.ensures ∙ ap (λ xs. (s, x) ∷ xs) c.self.view_is
