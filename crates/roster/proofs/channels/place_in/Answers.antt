use Rattle.std.proofs.Common.{◌≡◌, true, List, ℕ, sym, ap, ◌∙◌}
use Rattle.casemapping.specs.Fold.{is_same}
use Rattle.roster.proofs.Places.{at_place, hit_place}
use Rattle.roster.proofs.channels.place_in.Goals as goal

pub returns-then-is_same : goal.returns-then-is_same
returns-then-is_same c =
    let ks = c.args.channels.now in
    let i = c.loop-place.place in
    let n = c.args.name.now in
    let x = c.index-channels-place.result in let is = c.index-channels-place.is in let l = c.loop-place-test.true in
    let it : is_same x.name n ≡ true = ap (λ (j : List ℕ). is_same j n) (sym c.as_slice.ensures)
    ∙ sym c.is_same.ensures.test ∙ c.if-is_same.true in
    (x, at_place ks i x l is, sym c.loop-place.invariant ∙ hit_place ks i n x l is it)
