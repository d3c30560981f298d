-- Who is to be swept.
use Rattle.std.proofs.Common.{◌≡◌, ℕ, zero, suc, ◌+◌, ◌<◌, ◌≤◌, Bool, true, false, not, ◌&&◌}
use Rattle.std.proofs.Common.{cond, List, length, Option, Some, arith, refl, ap, ◌∙◌}
use Rattle.chronicle.specs.History.{Rec, sessions, shut, gone}
use Rattle.roster.specs.LookBack.{numbers}
use Rattle.ledger.proofs.Listed.{first_is}
use Rattle.ledger.specs.declared.seat.Seat.{Seat}
use Rattle.ledger.specs.Seats.{IsSeat, seat_at, sweeps}
use Rattle.ledger.specs.Ledger.{is_here, first, is_to_sweep, to_sweep}

both : (a b : Bool) → (a && not b) ≡ true → (a ≡ true) × (b ≡ false)
both true true e = absurd (let f : false ≡ true = e in cc)
both true false e = (refl, refl)
both false b e = absurd (let f : false ≡ true = e in cc)

-- it was opened and is shut, and it isn't gone
pub swept_is : (h : List Rec) (s : ℕ) → to_sweep h ≡ Some s → (0 < s) × (s ≤ sessions h) × (shut h s ≡ true)
    × (gone h s ≡ false)
swept_is h s e = let r = first_is (is_to_sweep h) 1 (sessions h) s e in let b = both (shut h s) (gone h s) r.0 in
    ((let a = r.1 in omega arith), (let a = r.2 in omega arith), b.0, b.1)

-- ---- the seats tell it

-- two tests that agree find the same
first_agree : (f g : ℕ → Bool) (k n : ℕ) → ((t : ℕ) → k ≤ t → t < k + n → f t ≡ g t)
    → first f (numbers k n) ≡ first g (numbers k n)
first_agree f g k zero same = refl
first_agree f g k (suc n) same =
    ap (λ b. cond b (Some k) (first f (numbers (k + 1) n))) (same k (omega arith) (omega arith)) ∙ ap
    (λ o. cond (g k) (Some k) o) (first_agree f g (k + 1) n (λ t a b. same t (omega arith) (omega arith)))

pub seats_sweep : {O : Type 0} (h : List Rec) (seats : List Seat) (boxes : List (Option O))
    → ((t : ℕ) → 0 < t → t ≤ length seats → IsSeat (seat_at seats t) (is_here boxes t) h t)
    → length seats ≡ sessions h
    → first (sweeps seats) (numbers 1 (length seats)) ≡ to_sweep h
seats_sweep h seats boxes f e =
    first_agree (sweeps seats) (is_to_sweep h) 1 (length seats)
    (λ t a b. let to : t ≤ length seats = omega arith in let is = f t a to in
    ap (λ c. c && not (seat_at seats t).gone) is.shut ∙ ap (λ c. shut h t && not c) is.gone)
    ∙ ap (λ (n : ℕ). first (is_to_sweep h) (numbers 1 n)) e
