use Rattle.std.proofs.Common.{◌≡◌, ℕ, ◌∷◌, true, false, is_some, nat_eq, ap, ◌∙◌}
use Rattle.std.specs.Map.{remove_entry}
use Rattle.ledger.specs.declared.last_heard.Since.{Since}
use Rattle.ledger.specs.LastHeard.{since_at}
use Rattle.ledger.proofs.Picking.{put_known}
use Rattle.ledger.proofs.last_heard.LastHeard.hear.Goals as goal

pub returns : goal.returns
returns c =
    let a = c.self.inside in
    let n = c.number.result in
    let s = c.args.session in let x : Since = record { moment = c.args.moment; pinged = false } in
    let here : is_some (since_at a.sessions.entries n)
    ≡ true = ap (λ (k : ℕ). is_some (since_at a.sessions.entries k)) c.number.ensures ∙ ap
    (λ xs. is_some (since_at xs s)) c.self.view_is ∙ c.requires in
    ap (λ r. r.entries) c.in-Ok.ensures.entries ∙ put_known n a.sessions.entries a.sessions.cap x here
    ∙ ap (λ (k : ℕ). (k, x) ∷ remove_entry (nat_eq k) a.sessions.entries) c.number.ensures ∙ ap
    (λ xs. (s, x) ∷ remove_entry (nat_eq s) xs) c.self.view_is
