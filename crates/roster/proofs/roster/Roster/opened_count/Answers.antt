use Rattle.std.proofs.Common.{length, sym, ap, ◌∙◌}
use Rattle.roster.specs.Known.{Known}
use Rattle.roster.specs.LookBack.{opened_in}
use Rattle.roster.proofs.Kept.{opened_count}
use Rattle.roster.proofs.roster.Roster.opened_count.Goals as goal

pub returns-clause-count : goal.returns-clause-count
returns-clause-count c =
    let r = c.self.inside in
    c.len.ensures.count ∙ sym (opened_count r.people.list r.marks.list r.nicks.list r.facts.value
    c.self.invariant.0.people) ∙ ap (λ (k : Known). length (opened_in k.facts)) c.self.view_is
