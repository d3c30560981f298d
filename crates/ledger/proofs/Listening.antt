-- Who is open by the seats is so by the history.
use Rattle.std.proofs.Common.{arith, ◌≡◌, ℕ, ◌<◌, ◌≤◌, ◌↔◌, Bool, true, false, not, ◌&&◌, nat_lt, nat_le}
use Rattle.std.proofs.Common.{IsTrue, List, length, Option, refl, sym, ap, ◌∙◌}
use Rattle.std.proofs.lemmas.Bool.Decides.{nat_tests}
use Rattle.chronicle.specs.History.{Rec, sessions, shut}
use Rattle.ledger.specs.declared.seat.Seat.{Seat}
use Rattle.ledger.specs.Seats.{IsSeat, seat_at, hears}
use Rattle.ledger.specs.Ledger.{is_here}

-- ---- who is open

three : (a b c : Bool) → IsTrue (a && b && c) → (a ≡ true) × (b ≡ true) × (c ≡ true)
three true true true t = (refl, refl, refl)
three true true false t = absurd (let f : false ≡ true = t in cc)
three true false c t = absurd (let f : false ≡ true = t in cc)
three false b c t = absurd (let f : false ≡ true = t in cc)

off : (b : Bool) → not b ≡ true → b ≡ false
off false e = refl
off true e = absurd (let f : false ≡ true = e in cc)

pub open_is : {O : Type 0} (h : List Rec) (seats : List Seat) (boxes : List (Option O)) (t : ℕ)
    → ((u : ℕ) → 0 < u → u ≤ length seats → IsSeat (seat_at seats u) (is_here boxes u) h u)
    → length seats ≡ sessions h
    → IsTrue (hears seats t) ↔ ((0 < t) × (t ≤ sessions h) × (shut h t ≡ false))
open_is h seats boxes t seat all = (
  (λ is.
      let e = three (nat_lt 0 t) (nat_le t (length seats)) (not (seat_at seats t).shut) is in
      let from : 0 < t = let a = e.0 in grind (arith, nat_tests) in
      let to : t ≤ length seats = let b = e.1 in grind (arith, nat_tests) in
      (from, (omega arith), sym (seat t from to).shut ∙ off (seat_at seats t).shut e.2)),
  (λ is.
      let to : t ≤ length seats = let few = is.1 in omega arith in let from = is.0 in
      let a : nat_lt 0 t ≡ true = grind (arith, nat_tests) in
      let b : nat_le t (length seats) ≡ true = grind (arith, nat_tests) in
      let c : not (seat_at seats t).shut ≡ true = ap not ((seat t from to).shut ∙ is.2) in
      ap (λ x. x && nat_le t (length seats) && not (seat_at seats t).shut) a ∙ ap
      (λ x. x && not (seat_at seats t).shut) b ∙ c),
)
