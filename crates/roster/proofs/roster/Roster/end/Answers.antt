use Rattle.std.proofs.Common.{arith, ◌∷◌, [], List, sym, ap, ◌∙◌, subst}
use Rattle.roster.specs.declared.deed.Deed.{Deed}
use Rattle.roster.specs.declared.deed.Deed.TheVariants.{Ended}
use Rattle.roster.specs.Known.{Known}
use Rattle.roster.specs.Legal.{IsOpened}
use Rattle.roster.specs.Lists.{AreListed}
use Rattle.roster.specs.Stands.{IsKept}
use Rattle.roster.proofs.Kept.{opened_count, kept_end}
use Rattle.roster.proofs.SeatLists.{listed_ended}
use Rattle.roster.proofs.roster.Roster.end.Goals as goal

pub set-requires-clause-opened : goal.set-requires-clause-opened
set-requires-clause-opened c =
    let r = c.self.inside in let s = c.args.session in
    let known : IsOpened r.facts.value s = subst (λ (k : Known). IsOpened k.facts s) (sym c.self.view_is) c.requires in
    let o = opened_count r.people.list r.marks.list r.nicks.list r.facts.value c.self.invariant.0.people in
    let to = known.1 in omega arith

pub invariant_of-self : goal.invariant_of-self
invariant_of-self c =
    let r = c.self.inside in
    let sp = r.stock.spare.items in let ns = r.stock.copies.items in let fo = r.stock.keys.items in
    let s = c.args.session in
    let w = c.args.reason in let x = c.from_vec.result in let qs = c.part.new.self in let vs = c.set.new.self in
    let known : IsOpened r.facts.value s = subst (λ (k : Known). IsOpened k.facts s) (sym c.self.view_is) c.requires in
    let empty = c.from_vec.ensures ∙ c.new.ensures.items in
    let told = c.apply.ensures ∙ ap (λ y. Ended s w y ∷ r.facts.value) empty in (
      subst (λ (fs : List Deed). IsKept qs vs r.nicks r.channels sp fo fs c.blank.result.value) (sym told)
          (subst (IsKept qs vs r.nicks r.channels sp fo (Ended s w [] ∷ r.facts.value)) (sym c.blank.ensures)
          (kept_end r.people r.marks r.nicks r.channels sp fo r.facts.value r.ready.value s w
          qs vs c.self.invariant.0 known c.part.ensures.people c.set.ensures.whys c.set.ensures.count)),
      subst (λ (fs : List Deed). AreListed qs.list ns fs c.blank.result.value) (sym told)
          (subst (AreListed qs.list ns (Ended s w [] ∷ r.facts.value)) (sym c.blank.ensures)
          (listed_ended r.people.list qs.list ns r.facts.value r.ready.value s w [] c.self.invariant.1
          c.part.ensures.lists)),
    )
