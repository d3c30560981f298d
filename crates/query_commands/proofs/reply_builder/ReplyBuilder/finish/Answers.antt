use Rattle.std.proofs.Common.{◌≡◌, List, map, OnOk, ap, subst, ◌∙◌}
use Rattle.transactions.specs.declared.effect.Effect.{Effect}
use Rattle.transactions.specs.declared.effect.Effect.TheVariants.{Answer}
use Rattle.transactions.specs.TransactionView.{grown}
use Rattle.query_commands.specs.Telling.{answers}
use Rattle.query_commands.proofs.Told.{each_answered}
use Rattle.query_commands.proofs.reply_builder.ReplyBuilder.finish.Goals as goal

pub returns : goal.returns
returns c =
    let a = c.self.inside in
    let told : map Answer a.lines.items ≡ answers c.args.self = ap (map Answer) c.self.invariant
    ∙ each_answered a.server.now a.to a.numerics.value ∙ ap answers c.self.view_is in
    subst (λ (es : List Effect). OnOk c.answer_all.result (c.answer_all.new.tx ≡ grown c.args.tx.now es)) told
    c.answer_all.ensures
