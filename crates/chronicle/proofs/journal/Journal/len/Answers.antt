use Rattle.std.proofs.Common.{arith, length, ap}
use Rattle.std.proofs.lemmas.Grind.{common_steps}
use Rattle.chronicle.proofs.Look.{history_length}
use Rattle.chronicle.proofs.journal.Journal.len.Goals as goal

pub returns : goal.returns
returns c =
    let a = c.self.inside in
    let all = ap (λ j. length j.history) c.self.view_is in let n = history_length a.records.items a.past.value in
    let d = ap (λ j. j.limit.dropped) c.self.view_is in
    grind (arith, common_steps, all, n, d, c.self.invariant.2)
