use Rattle.std.proofs.Common.{sym, ap, ◌∙◌, take}
use Rattle.roster.specs.LookBack.{after}
use Rattle.transactions.specs.Seen.{seen}
use Rattle.transactions.proofs.Replay.{after-take}
use Rattle.transactions.proofs.Named.{untouched}
use Rattle.transactions.proofs.transaction.Transaction.touches.Goals as goal

pub loop-deed-preserved : goal.loop-deed-preserved
loop-deed-preserved c =
    let n = c.args.channel.now in
    let base = c.args.self.now.base in
    let ds = c.deref-deed-items.result.now in let i = c.loop-deed.deed-index in let d = c.deed-item.result in
    ap (λ gs. seen gs n) (after-take base ds i d c.loop-deed-test.true c.deed-item.is) ∙ untouched
    (after base (take i ds)) d n (sym c.touches.ensures ∙ c.if-touches.false) ∙ c.loop-deed.invariant
