use Rattle.std.proofs.Common.{unwrap_or, Option, Some, None, Bor, refl, ◌≡◌, List, ℕ, sym, ap, ◌∙◌}
use Rattle.std.specs.Option.{option_map}
use Rattle.roster.specs.LookBack.{host, tells_host}
use Rattle.transactions.proofs.Replay.{replay, host_step}
use Rattle.transactions.proofs.transaction.Transaction.host_of.Goals as goal

now_unwrap : (a : Option (Bor (List ℕ))) (b : Bor (List ℕ)) → (unwrap_or a b).now
    ≡ unwrap_or (option_map (λ h. h.now) a) b.now
now_unwrap None b = refl
now_unwrap (Some x) b = refl

pub loop-deed-preserved : goal.loop-deed-preserved
loop-deed-preserved c =
    let s = c.args.session in
    ap (λ (b : Bor (List ℕ)). b.now) c.unwrap_or-host.ensures ∙ now_unwrap c.tells_host.result c.loop-deed.host ∙ ap
    (λ (o : Option (List ℕ)). unwrap_or o c.loop-deed.host.now) c.tells_host.ensures
    ∙ ap (unwrap_or (tells_host s c.deed-item.result)) c.loop-deed.invariant
    ∙ sym (replay (λ fs. host fs s) (λ a e. unwrap_or (tells_host s e) a)
    (host_step s) c.args.self.now.base c.deref-deed-items.result.now c.loop-deed.deed-index c.deed-item.result
    c.loop-deed-test.true c.deed-item.is)
