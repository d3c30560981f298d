use Rattle.std.proofs.Common.{◌≡◌, Some, List, ◌∷◌, ◌+◌, take, option_copied, sym, ap, ◌∙◌, subst}
use Rattle.std.specs.Option.{option_or}
use Rattle.roster.specs.declared.deed.Deed.{Deed}
use Rattle.roster.specs.LookBack.{after, has_member, name}
use Rattle.roster.specs.Legal.{AreNext}
use Rattle.transactions.specs.TransactionView.{TransactionView}
use Rattle.transactions.proofs.Replay.{after-take, next_at}
use Rattle.transactions.proofs.Named.{copied_or, told}
use Rattle.transactions.proofs.transaction.Transaction.spelling.Goals as goal

pub loop-deed-preserved : goal.loop-deed-preserved
loop-deed-preserved c =
    let n = c.args.channel.now in
    let base = c.args.self.now.base in
    let ds = c.deref-deed-items.result.now in let i = c.loop-deed.deed-index in let d = c.deed-item.result in
    let fs = after base (take i ds) in
    let more : after base (take (i + 1) ds) ≡ d ∷ fs = after-take base ds i d c.loop-deed-test.true c.deed-item.is in
    let all : AreNext base ds = subst (AreNext base) (sym c.deref-deed-items.ensures.value) (subst
    (λ (d : TransactionView).
    AreNext d.base c.self.inside.verdict.deeds.items) c.self.view_is c.self.invariant.tx.next) in
    let may = next_at base ds i d c.loop-deed-test.true c.deed-item.is all in
    λ there.
    ap option_copied c.or-spelling.ensures ∙ copied_or c.tells_name.result c.loop-deed.spelling ∙ ap
    (λ o. option_or o (option_copied c.loop-deed.spelling)) c.tells_name.ensures
    ∙ told c.channels_have_one_name.ensures fs d n (option_copied c.loop-deed.spelling) may c.loop-deed.invariant
    (ap (λ gs. has_member gs n) (sym more) ∙ there)
    ∙ ap (λ gs. Some (name gs n)) (sym more)
