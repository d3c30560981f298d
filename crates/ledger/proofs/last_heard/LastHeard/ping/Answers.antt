use Rattle.std.proofs.Common.{ℕ, ap, sym, ◌∙◌}
use Rattle.ledger.specs.LastHeard.{with_ping}
use Rattle.ledger.proofs.Picking.{ping_noted}
use Rattle.ledger.proofs.last_heard.LastHeard.ping.Goals as goal

pub returns : goal.returns
returns c =
    let a = c.self.inside in let n = c.number.result in
    ping_noted n a.sessions.entries c.in-Some.since.now (sym c.in-Some.ensures.value) ∙ ap
    (λ (k : ℕ). with_ping k a.sessions.entries) c.number.ensures ∙ ap (with_ping c.args.session) c.self.view_is
