use Rattle.std.proofs.Common.{◌≡◌, length, ap, ◌∙◌, eqb, arith}
use Rattle.registration.proofs.Same.{no_differences}
use Rattle.registration.proofs.accounts.are_equal.Goals as goal

pub returns : goal.returns
returns c =
    let same_length : length c.args.a.now ≡ length c.args.b.now = omega arith in
    ap (λ n. eqb n 0) c.differences.ensures ∙ no_differences c.args.a.now c.args.b.now same_length
