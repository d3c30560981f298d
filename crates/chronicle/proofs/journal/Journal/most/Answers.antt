use Rattle.std.proofs.Common.{arith, length, ap, ◌∙◌}
use Rattle.chronicle.specs.Journal.{most}
use Rattle.chronicle.proofs.Look.{history_length}
use Rattle.chronicle.proofs.Most.{most_capped, most_free}
use Rattle.chronicle.proofs.journal.Journal.most.Goals as goal

pub overflow_sub-self-inside : goal.overflow_sub-self-inside
overflow_sub-self-inside c = omega arith

pub returns-then-self-clause-value : goal.returns-then-self-clause-value
returns-then-self-clause-value c =
    let a = c.self.inside in
    most_capped a.is_cut a.limit a.dropped (omega arith) c.if-self.true ∙ ap (λ j. most j.limit) c.self.view_is

pub returns-then-self-clause-enough : goal.returns-then-self-clause-enough
returns-then-self-clause-enough c =
    let a = c.self.inside in
    let all = ap (λ j. length j.history) c.self.view_is in
    let n = history_length a.records.items a.past.value in let i = c.self.invariant in
    omega (arith, all, n, i.1, i.2)

pub returns-else-self-clause-value : goal.returns-else-self-clause-value
returns-else-self-clause-value c =
    let a = c.self.inside in
    most_free a.is_cut a.limit a.dropped (omega arith) c.if-self.false ∙ ap (λ j. most j.limit) c.self.view_is

pub returns-else-self-clause-enough : goal.returns-else-self-clause-enough
returns-else-self-clause-enough c =
    let a = c.self.inside in
    let all = ap (λ j. length j.history) c.self.view_is in
    let n = history_length a.records.items a.past.value in let i = c.self.invariant in
    omega (arith, all, n, i.0, i.2)
