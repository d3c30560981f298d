use Rattle.std.proofs.Common.{List, [], sym, subst}
use Rattle.roster.specs.declared.deed.Deed.{Deed}
use Rattle.roster.specs.Stands.{AreSpare, IsKept}
use Rattle.roster.specs.Lists.{AreListed}
use Rattle.roster.proofs.Copies.{listed_copied}
use Rattle.roster.proofs.Kept.{kept_again, room_none}
use Rattle.roster.proofs.roster.Roster.copy.Goals as goal

pub invariant_of-result : goal.invariant_of-result
invariant_of-result c =
    let a = c.self.inside in
    let qs = c.in_ok-try_clone-2.field-0 in
    let vs = c.in_ok-try_clone-3.field-0 in let ls = c.in_ok-try_clone-4.field-0 in
    let ms = c.in_ok-try_clone-5.field-0 in
    let sp = c.new.result.spare.items in
    let ns = c.new.result.copies.items in let fo = c.new.result.keys.items in let fs = a.facts.value in
    let none : AreSpare 0 sp = subst (AreSpare 0) (sym c.new.ensures.spare) tt in (
      subst (λ (ds : List Deed). IsKept qs vs ls ms sp fo c.copy_of.result.value ds) (sym c.blank.ensures)
          (subst (λ (gs : List Deed). IsKept qs vs ls ms sp fo gs []) (sym c.copy_of.ensures)
          (kept_again a.people a.marks a.nicks a.channels a.stock.spare.items a.stock.keys.items fs a.ready.value qs
          vs ls ms sp fo [] c.self.invariant.0 c.in_ok-try_clone-2.ensures.people c.in_ok-try_clone-3.ensures
          c.in_ok-try_clone-4.ensures c.in_ok-try_clone-5.ensures tt (room_none qs vs ls ms sp fo none))),
      subst (λ (ds : List Deed). AreListed qs.list ns c.copy_of.result.value ds) (sym c.blank.ensures)
          (subst (λ (gs : List Deed). AreListed qs.list ns gs []) (sym c.copy_of.ensures)
          (listed_copied a.people.list qs.list a.stock.copies.items ns fs a.ready.value c.self.invariant.1
          c.in_ok-try_clone-2.ensures.lists c.in_ok-try_clone-2.ensures.notes)),
    )
