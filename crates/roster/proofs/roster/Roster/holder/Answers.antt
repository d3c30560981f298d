use Rattle.std.proofs.Common.{length, refl, ap, ◌∙◌}
use Rattle.roster.specs.Known.{Known}
use Rattle.roster.specs.LookBack.{holder}
use Rattle.roster.proofs.Persons.{holder_is}
use Rattle.roster.proofs.roster.Roster.holder.Goals as goal

pub returns : goal.returns
returns c =
    let r = c.self.inside in
    let i = c.self.invariant.0.people in let n = c.args.nick.now in let count = length r.marks.list in
    c.find.ensures ∙ holder_is r.nicks.list r.facts.value i.holders count count n refl i.opened ∙ ap
    (λ (k : Known). holder k.facts n) c.self.view_is
