use Rattle.std.proofs.Common.{◌≡◌, OnOk, Option, Some, sym, ap, ◌∙◌, subst}
use Rattle.transactions.specs.TransactionView.{grown}
use Rattle.transactions.specs.Seen.{Seen, seen}
use Rattle.mode_commands.specs.Modes.{of_channel}
use Rattle.mode_commands.proofs.modes.of_channel.Goals as goal

pub returns-in-Some : goal.returns-in-Some
returns-in-Some c =
    let d = c.args.tx.now in let fs = d.facts in let n = c.args.target.now in
    let same : Some c.in-Some.seen ≡ seen fs n = sym c.in-Some.is ∙ c.in_ok-seen.ensures.seen
    ∙ ap (seen fs) c.as_slice.ensures in
    subst (λ (o : Option Seen). OnOk c.channel_modes.result (c.channel_modes.new.tx
    ≡ grown d (of_channel d.settings fs c.args.session n c.args.changes.now o))) same c.channel_modes.ensures
