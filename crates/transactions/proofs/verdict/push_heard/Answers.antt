use Rattle.std.proofs.Common.{◌+◌, ◌==◌, ◌++◌, ◌∷◌, [], cond, List, drop, ap, ◌∙◌, append_assoc}
use Rattle.numerics.specs.declared.outgoing.Out.{Out}
use Rattle.transactions.specs.Effects.{lines_heard}
use Rattle.transactions.proofs.Sorted.{heard_more}
use Rattle.transactions.proofs.verdict.push_heard.Goals as goal

pub loop-hearer-preserved : goal.loop-hearer-preserved
loop-hearer-preserved c =
    let hs = c.args.hearers.now in
    let line = c.args.line.now in
    let t = c.args.session in
    let i = c.loop-hearer.hearer-index in let h = c.hearer-item.result in let ls = c.loop-hearer.lines.items in
    ap (λ (xs : List Out). xs ++ lines_heard (drop (i + 1) hs) line t) c.in_ok-push_for.ensures
    ∙ append_assoc ls (cond (h == t) (line ∷ []) []) (lines_heard (drop (i + 1) hs) line t)
    ∙ ap (λ (xs : List Out). ls ++ xs) (heard_more hs line t i h c.loop-hearer-test.true c.hearer-item.is)
    ∙ c.loop-hearer.invariant
