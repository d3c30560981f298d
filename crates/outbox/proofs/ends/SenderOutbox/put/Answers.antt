-- The item may come next, and a put that is refused learns what the channel holds.
use Rattle.std.proofs.Common.{List, sym, ap, subst}
use Rattle.deliveries.specs.declared.item.Item.{Item}
use Rattle.deliveries.specs.Items.{Continues}
use Rattle.outbox.specs.Ends.{Puttings}
use Rattle.outbox.proofs.Keeps.{puts, ends_sent}
use Rattle.outbox.proofs.ends.SenderOutbox.put.Goals as goal

pub put-requires-clause-rule : goal.put-requires-clause-rule
put-requires-clause-rule g c =
    let sent = ap (λ (p : Puttings). p.sent) c.self.view_is in
    let next = subst (λ (before : List Item). Continues before c.args.item) (sym sent) c.requires.next in
    (puts _ _ _ _ c.self.invariant.1 next, ends_sent _ _ c.self.invariant.1)
