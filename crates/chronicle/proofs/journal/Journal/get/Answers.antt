use Rattle.std.proofs.Common.{arith, ◌≡◌, ℕ, ◌+◌, ◌-◌, ◌<◌, false, nat_le, cond, length}
use Rattle.std.proofs.Common.{reverse, slice_get, None, sym, ap, ◌∙◌, subst}
use Rattle.std.proofs.lemmas.Bool.Decides.{nat_tests}
use Rattle.std.specs.Option.{option_map}
use Rattle.chronicle.specs.History.{rec_of}
use Rattle.chronicle.specs.Journal.{record_at}
use Rattle.chronicle.proofs.Look.{looked}
use Rattle.chronicle.proofs.journal.Journal.get.Goals as goal

pub returns : goal.returns
returns c =
    let a = c.self.inside in
    let xs = a.records.items in
    let h = c.args.self.now.history in let n = c.args.number in let i = n - a.dropped - 1 in
    let asked : c.number-place.result ≡ n = c.number-place.ensures in
    let above : a.dropped < n = subst (λ (m : ℕ). a.dropped < m) asked c.if-place-self.false in
    let look : record_at c.get.result ≡ option_map rec_of (slice_get xs i) = rw asked at c.get.ensures in
    let found : record_at c.get.result ≡ slice_get (reverse h) (length a.past.value + i) =
    looked xs a.past.value h i c.get.result (ap (λ j. j.history) c.self.view_is) look in
    let place : length a.past.value + i ≡ n - 1 = omega (arith, c.self.invariant.2) in
    let kept : nat_le n c.args.self.now.limit.dropped
    ≡ false = grind (arith, nat_tests, ap (λ j. j.limit.dropped) c.self.view_is) in
    found ∙ ap (λ m. slice_get (reverse h) m) place ∙ sym (ap (λ b. cond b None (slice_get (reverse h) (n - 1))) kept)
