use Rattle.std.proofs.Common.{arith, ◌≡◌, ◌≤◌, ◌∷◌, ◌++◌, [], length, sym, subst}
use Rattle.std.proofs.lemmas.Grind.{common_steps}
use Rattle.roster.specs.Stands.{AreSpare}
use Rattle.roster.proofs.MadeRoom.{spare_push}
use Rattle.roster.proofs.reserving.fill_spare.Goals as goal

pub fill-preserved : goal.fill-preserved
fill-preserved c =
    let n = length c.args.deeds.now in let m = c.in_ok-with_room.field-0 in let ms = c.fill.spare.items in
    let e : c.push.new.self.items ≡ ms ++ m ∷ [] = grind (arith, common_steps) in
    let l : n ≤ m.room = let r = c.in_ok-with_room.ensures.1 in omega arith in
    subst (AreSpare n) (sym e) (spare_push n ms m c.fill.invariant c.in_ok-with_room.ensures.0 l)
