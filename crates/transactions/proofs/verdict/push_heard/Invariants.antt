use Rattle.std.proofs.Common.{◌≡◌, ◌++◌, drop}
use Rattle.transactions.specs.Effects.{lines_heard}
use Rattle.transactions.proofs.verdict.push_heard.Given as goal

abbrev pub invariant-loop-hearer : goal.invariant-loop-hearer
invariant-loop-hearer l = l.lines.items ++ lines_heard (drop l.hearer-index l.hearers) l.line l.session
    ≡ l.fn.lines.items ++ lines_heard l.hearers l.line l.session
