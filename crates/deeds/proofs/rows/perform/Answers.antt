use Rattle.deeds.specs.Rows.{if_allowed}
use Rattle.transactions.proofs.Replay.{opened_grown}
use Rattle.deeds.proofs.rows.perform.Goals as goal

pub complete-requires : goal.complete-requires
complete-requires c =
    let d = c.args.tx.now in let s = c.args.session in
    opened_grown d c.obey.new.tx (if_allowed d.settings d.facts s c.args.command.now) s c.in_ok-obey.ensures
    c.requires.opened
