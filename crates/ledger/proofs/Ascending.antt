-- Hearers of one line that stand by their numbers, each once.
use Rattle.std.proofs.Common.{◌≡◌, ℕ, ℤ, ◌==◌, List, [], ◌∷◌, ◌++◌, filter, map, refl}
use Rattle.std.proofs.Common.{length, None, lit<, arith, sym, ap, ◌∙◌, ne_eqb, append_assoc, append-nil}
use Rattle.std.specs.List.Sorted.{ties, IsStableBy}
use Rattle.std.specs.Ordering.{nat_cmp, is_lt}
use Rattle.std.proofs.lemmas.List.Elements.{filter_agree}
use Rattle.numerics.specs.declared.outgoing.Out.{Out}
use Rattle.roster.specs.declared.deed.Deed.{Deed}
use Rattle.roster.specs.LookBack.{caps}
use Rattle.labels_batches.specs.Answers.{tagged_as}
use Rattle.labels_batches.specs.Rendered.{text_as}
use Rattle.ledger.specs.declared.fan_out.Heard.{Heard}
use Rattle.transactions.specs.Effects.{lines_heard}
use Rattle.ledger.specs.declared.seat.Seat.{Seat}
use Rattle.ledger.specs.Ledger.{others}
use Rattle.ledger.specs.Seats.{told_here, told_to, heard_text}
use Rattle.ledger.specs.FanOut.{heard_by, text_for, rises, ascends, one_each, joined_to, delivery_of, deliveries_of}
use Rattle.ledger.proofs.Begins.{others_same}
use Rattle.ledger.proofs.FanOut.{session_ties, heard_each, deliveries_others}

-- what they hear stands by their numbers
pub ascend_rises : (fs : List Deed) (moment : ℤ) (line : Out) (k : ℕ) (ts : List ℕ) → ascends k ts
    → rises k (map (heard_by fs moment line) ts)
ascend_rises fs moment line k [] up = tt
ascend_rises fs moment line k (t ∷ ts) up = (let a = up.0 in omega arith, ascend_rises fs moment line t ts up.1)

-- and nothing of it is made one
ascend_joined_to : (fs : List Deed) (moment : ℤ) (line : Out) (t : ℕ) (ts : List ℕ) → ascends t ts
    → joined_to (heard_by fs moment line t) (map (heard_by fs moment line) ts)
    ≡ map (heard_by fs moment line) (t ∷ ts)
ascend_joined_to fs moment line t [] up = refl
ascend_joined_to fs moment line t (u ∷ us) up =
    let a = up.0 in
    rw (ne_eqb u t (let ne : u ≡ t → ⊥ = λ e. omega arith in ne))
    (ap (λ (xs : List Heard). heard_by fs moment line t ∷ xs) (ascend_joined_to fs moment line u us up.1))

pub ascend_joined : (fs : List Deed) (moment : ℤ) (line : Out) (ts : List ℕ) → ascends 0 ts
    → one_each (map (heard_by fs moment line) ts) ≡ map (heard_by fs moment line) ts
ascend_joined fs moment line [] up = refl
ascend_joined fs moment line (t ∷ ts) up = ascend_joined_to fs moment line t ts up.1

-- a stable sort by number leaves how often each session stands there
pub stable_numbers : (xs ys : List ℕ) → IsStableBy (λ a b. is_lt (nat_cmp a b)) xs ys → (t : ℕ)
    → filter (λ h. h == t) ys ≡ filter (λ h. h == t) xs
stable_numbers xs ys stable t = test ys ∙ stable t ∙ sym (test xs)
  where
    test : (zs : List ℕ) → filter (λ h. h == t) zs ≡ filter (ties (λ a b. is_lt (nat_cmp a b)) t) zs
    test zs = filter_agree _ _ (λ x. sym (session_ties t x)) zs

-- and so what it hears of a line
pub same_heard : (fs : List Deed) (moment : ℤ) (line : Out) (xs ys : List ℕ) (t : ℕ)
    → filter (λ h. h == t) ys ≡ filter (λ h. h == t) xs
    → heard_text fs moment (record { hearers = ys; line = line } ∷ []) t
    ≡ heard_text fs moment (record { hearers = xs; line = line } ∷ []) t
same_heard fs moment line xs ys t e = ap (λ (hs : List ℕ). text_as (caps fs t) moment
    (map (tagged_as None) (map (λ h. line) hs)) ++ []) e

pub heard_sole : (fs : List Deed) (moment : ℤ) (line : Out) (xs ys : List ℕ) (t : ℕ)
    → filter (λ h. h == t) ys ≡ filter (λ h. h == t) xs
    → text_for (map (heard_by fs moment line) ys) t
    ≡ heard_text fs moment (record { hearers = xs; line = line } ∷ []) t
heard_sole fs moment line xs ys t e = heard_each fs moment line ys t
    ∙ sym (append-nil (text_as (caps fs t) moment (map (tagged_as None) (lines_heard ys line t))))
    ∙ same_heard fs moment line xs ys t e

-- ---- their deliveries

-- of one hearer more
pub deliveries_more : (seats : List Seat) (s number : ℕ) (xs : List Heard) (x : Heard)
    → deliveries_of seats s number (xs ++ x ∷ []) ≡ deliveries_of seats s number xs ++ delivery_of seats s number x
deliveries_more seats s number [] x = append-nil (delivery_of seats s number x)
deliveries_more seats s number (y ∷ ys) x =
    ap (λ ps. delivery_of seats s number y ++ ps) (deliveries_more seats s number ys x)
    ∙ sym (append_assoc (delivery_of seats s number y) (deliveries_of seats s number ys)
    (delivery_of seats s number x))

-- of all of them, who are told what the line tells them
pub deliveries_sole : (seats : List Seat) (s number : ℕ) (fs : List Deed) (moment : ℤ) (line : Out) (xs ys : List ℕ)
    → ascends 0 ys → ((t : ℕ) → filter (λ h. h == t) ys ≡ filter (λ h. h == t) xs)
    → deliveries_of seats s number (map (heard_by fs moment line) ys)
    ≡ others (told_to seats number (heard_text fs moment (record { hearers = xs; line = line } ∷ []))) s 1
    (length seats)
deliveries_sole seats s number fs moment line xs ys up same =
    ap (deliveries_of seats s number) (sym (ascend_joined fs moment line ys up))
    ∙ deliveries_others seats s number (heard_text fs moment (record { hearers = xs; line = line } ∷ []))
    (map (heard_by fs moment line) ys) (ascend_rises fs moment line 0 ys up)
    (λ t. heard_sole fs moment line xs ys t (same t))

-- and by any other order of the same hearers
pub others_sole : (seats : List Seat) (s number : ℕ) (fs : List Deed) (moment : ℤ) (line : Out) (xs ys : List ℕ)
    → ((t : ℕ) → filter (λ h. h == t) ys ≡ filter (λ h. h == t) xs)
    → others (told_to seats number (heard_text fs moment (record { hearers = ys; line = line } ∷ []))) s 1
    (length seats)
    ≡ others (told_to seats number (heard_text fs moment (record { hearers = xs; line = line } ∷ []))) s 1
    (length seats)
others_sole seats s number fs moment line xs ys same =
    let n = length seats in
    others_same (told_to seats number (heard_text fs moment (record { hearers = ys; line = line } ∷ [])))
    (told_to seats number (heard_text fs moment (record { hearers = xs; line = line } ∷ []))) s 1 n n (lit< tt)
    (omega arith) (λ u from to ne. ap (told_here seats number u) (same_heard fs moment line xs ys u (same u)))
