use Rattle.std.proofs.Common.{◌≡◌, ◌/◌, sym, subst, arith, pos, ◌*ℤ◌, to_z, w64}
use Rattle.std.proofs.lemmas.Int.{ints}
use Rattle.jiff_core.specs.DateTime.{civil_nanos}
use Rattle.jiff_core.proofs.SignedLemmas.{signed_arith}
use Rattle.numerics.specs.CivilTime.{IsDateOf, civil_date}
use Rattle.numerics.proofs.Dates.{date_of_moment}
use Rattle.numerics.proofs.civil_time.date_of.Goals as goal

pub returns : goal.returns
returns c =
    let n = c.args.milliseconds in
    let same : to_z w64 n ≡ pos n = omega (arith, ints) in
    let moment = rw c.unwrap-moment.ensures at c.from_millisecond.ensures.value in
    let nanos : civil_nanos c.to_datetime.result
    ≡ pos n *ℤ pos 1_000_000 = omega (arith, signed_arith, c.to_datetime.ensures, moment, same) in
    subst (λ d. IsDateOf (civil_date (n / 86_400_000)) d) (sym c.date.ensures)
    (date_of_moment n c.to_datetime.result nanos)
