use Rattle.std.proofs.Common.{◌≡◌, ℕ, List, length, ap, ◌∙◌, subst}
use Rattle.std.specs.Result.{IfOk}
use Rattle.roster.specs.Known.{Known}
use Rattle.roster.specs.LookBack.{sharers}
use Rattle.roster.specs.Lists.{row_of}
use Rattle.roster.specs.Tables.{mates}
use Rattle.roster.proofs.OwnChannels.{sharers_are}
use Rattle.roster.proofs.roster.Roster.sharers.Goals as goal

pub returns : goal.returns
returns c =
    let r = c.self.inside in let s = c.args.session in let fs = r.facts.value in let i = c.self.invariant.0 in
    let told =
    ap (λ (n : ℕ). mates r.channels.list (row_of r.people.list s).list s n) c.len.ensures.count
    ∙ ap (λ cs. mates r.channels.list cs s (length r.marks.list)) (c.self.invariant.1.lists s)
    ∙ sharers_are r.channels.list fs i.channels s (length r.marks.list) i.people.opened ∙ ap
    (λ (k : Known). sharers k.facts s) c.self.view_is in
    subst (λ (xs : List ℕ). IfOk c.find_sharers.result (λ v. v ≡ xs)) told c.find_sharers.ensures
