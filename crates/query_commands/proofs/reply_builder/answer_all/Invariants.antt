use Rattle.std.proofs.Common.{◌≡◌, map}
use Rattle.std.specs.Vec.Iter.{into_iter_items}
use Rattle.transactions.specs.declared.effect.Effect.TheVariants.{Answer}
use Rattle.transactions.specs.TransactionView.{grown}
use Rattle.query_commands.proofs.reply_builder.answer_all.Given as goal

abbrev pub invariant-loop-line : goal.invariant-loop-line
invariant-loop-line l = grown l.tx (map Answer (into_iter_items l.line-iterator))
    ≡ grown l.fn.tx (map Answer l.fn.lines.items)
