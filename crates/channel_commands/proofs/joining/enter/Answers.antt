use Rattle.std.proofs.Common.{◌≡◌, OnOk, ap, subst, ◌∙◌}
use Rattle.transactions.specs.TransactionView.{grown}
use Rattle.transactions.specs.Replies.{tells_all}
use Rattle.transactions.proofs.Replay.{on_grown}
use Rattle.query_commands.specs.Telling.{Telling, answers, nothing_told, telling_more}
use Rattle.channel_commands.specs.Joining.{arrives, arrival_shown, arrival_told}
use Rattle.channel_commands.proofs.joining.enter.Goals as goal

pub returns : goal.returns
unfolding arrives
returns c =
    let d = c.args.tx.now in
    let s = c.args.session in let k = c.args.joined.now in let ns = arrival_told d.settings d.base s k in
    let all : c.welcome.new.telling ≡ telling_more (nothing_told d.settings d.facts s) ns =
    c.in_ok-welcome.ensures ∙ ap (λ (t : Telling). telling_more t ns) c.in_ok-telling.ensures in
    let told : OnOk c.finish.result
    (c.finish.new.tx ≡ grown c.introduce.new.tx (tells_all d.settings d.facts s ns)) =
    subst (λ (t : Telling). OnOk c.finish.result (c.finish.new.tx ≡ grown c.introduce.new.tx (answers t))) all
    c.finish.ensures in
    on_grown c.finish.result d c.introduce.new.tx c.finish.new.tx (arrival_shown d.base s c.args.from.now k)
    (tells_all d.settings d.facts s ns) c.in_ok-introduce.ensures told
