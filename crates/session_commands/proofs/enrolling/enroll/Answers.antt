use Rattle.std.proofs.Common.{◌∷◌, []}
use Rattle.roster.specs.declared.deed.Deed.TheVariants.{Enrolled}
use Rattle.transactions.specs.declared.effect.Effect.TheVariants.{Establish}
use Rattle.transactions.specs.Lines.{prefix}
use Rattle.transactions.specs.Replies.{tells_all}
use Rattle.session_commands.specs.Welcome.{welcome_numerics}
use Rattle.transactions.proofs.Replay.{on_grown, opened_grown}
use Rattle.session_commands.proofs.enrolling.enroll.Goals as goal

pub establish-requires-clause-next : goal.establish-requires-clause-next
establish-requires-clause-next c =
    let d = c.args.tx.now in let s = c.args.session in
    opened_grown d c.greet.new.tx (tells_all d.settings d.facts s
    (welcome_numerics d.settings (prefix d.facts s))) s c.in_ok-greet.ensures c.requires

pub returns : goal.returns
returns c =
    let d = c.args.tx.now in let s = c.args.session in
    on_grown c.establish.result d c.greet.new.tx c.establish.new.self
    (tells_all d.settings d.facts s (welcome_numerics d.settings (prefix d.facts s)))
    (Establish (Enrolled s) ∷ []) c.in_ok-greet.ensures c.establish.ensures
