use Rattle.std.proofs.Common.{◌≡◌, ◌<◌, length, arith}
use Rattle.std.proofs.lemmas.List.{take_rest}
use Rattle.std.proofs.lemmas.Bool.{false≢true}
use Rattle.std.proofs.lemmas.Bool.Decides.{nat_tests}
use Rattle.casemapping.proofs.MaskLemmas.{Keeps_star, Keeps_octet, Keeps_ends, Keeps_retry, Keeps_fails}
use Rattle.casemapping.proofs.mask.is_match.Goals as goal

pub places-preserved-in-Some : goal.places-preserved-in-Some
places-preserved-in-Some c = Keeps_star _ _ _ _ _ _ c.in-Some.ensures c.places.invariant

pub places-preserved-in-Some-after_octet : goal.places-preserved-in-Some-after_octet
places-preserved-in-Some-after_octet c =
    Keeps_octet _ _ _ _ _ _ _ c.in_default.ensures c.in-Some-after_octet.ensures c.places.invariant

pub returns-then-is_empty : goal.returns-then-is_empty
returns-then-is_empty c =
    let none : length c.places.rest.now ≡ 0 = grind (arith, nat_tests) in
    let ends = Keeps_ends _ _ _ _ _ c.in_default.ensures c.in_default-after_octet.ensures none c.places.invariant in
    grind (arith, nat_tests, ends.0, ends.1)

pub places-preserved : goal.places-preserved
places-preserved c =
    let some : 0 < length c.places.rest.now = grind (arith, nat_tests) in
    rw (take_rest c.in-Some-last_star.from.now 1)
    (Keeps_retry _ _ _ _ _ _ c.in-Some-last_star.is c.in_default.ensures c.in_default-after_octet.ensures some
    c.places.invariant)

pub returns-in_default-last_star : goal.returns-in_default-last_star
returns-in_default-last_star c =
    let some : 0 < length c.places.rest.now = grind (arith, nat_tests) in
    let fails = Keeps_fails _ _ _ _ _ c.in_default-last_star.is c.in_default.ensures
    c.in_default-after_octet.ensures some c.places.invariant in
    (λ yes. absurd (false≢true yes), λ fits. absurd (fails fits))
