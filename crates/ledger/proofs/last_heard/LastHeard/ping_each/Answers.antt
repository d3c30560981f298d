use Rattle.std.proofs.Common.{ℕ, take, slice_index_or, is_some, ap, sym, ◌∙◌}
use Rattle.std.proofs.lemmas.List.Sums.{fold_more}
use Rattle.ledger.specs.LastHeard.{since_at, with_ping, with_pings}
use Rattle.ledger.proofs.LastActivity.{still_kept}
use Rattle.ledger.proofs.last_heard.LastHeard.ping_each.Goals as goal

pub loop-session-preserved : goal.loop-session-preserved
loop-session-preserved c =
    let xs = c.args.self.now in
    let ts = c.args.sessions.now in
    let i = c.loop-session.session-index in let was = c.loop-session.invariant in let s = c.session-item.result in (
      c.ping.ensures ∙ ap (with_ping s) was.0 ∙ ap (λ (k : ℕ). with_ping k (with_pings xs (take i ts)))
          c.session-item.is ∙ sym (fold_more (λ ys t. with_ping t ys) xs ts i s c.loop-session-test.true),
      λ j l. ap (λ ys. is_some (since_at ys (slice_index_or ts j 0))) c.ping.ensures
          ∙ still_kept s c.loop-session.self (slice_index_or ts j 0) ∙ was.1 j l,
    )
