use Rattle.std.proofs.Common.{ℕ, List, [], Option, None, sym, subst}
use Rattle.book.specs.Ring.{Waiting}
use Rattle.book.specs.Ledger.{Shown, empty_ledger}
use Rattle.interleave.specs.Inbox.{Held}
use Rattle.interleave.specs.Kept.{IsKept}
use Rattle.interleave.proofs.Empty.{empty_kept}
use Rattle.interleave.proofs.play.Play.new_in.Goals as goal

pub invariant_of-result : goal.invariant_of-result
invariant_of-result g c =
    let q = c.args.sendq in
    subst (λ (m : Shown Waiting). IsKept m q c.new.result.items c.in-Ok-idle.jobs.items None)
    (sym c.in-Ok.ensures.ok.0)
    (subst (λ (bs : List Held). IsKept (empty_ledger c.args.limit c.args.settings) q bs c.in-Ok-idle.jobs.items None)
    (sym c.new.ensures.items)
    (subst (λ (js : List (Option ℕ)). IsKept (empty_ledger c.args.limit c.args.settings) q [] js None)
    (sym c.in-Ok-idle.ensures) (empty_kept c.args.limit c.args.settings q c.args.workers
    c.in-Ok.ensures.ok.1.settings)))
