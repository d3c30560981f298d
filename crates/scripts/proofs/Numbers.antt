-- A number is read digit by digit.
use Rattle.std.proofs.Common.{◌≡◌, ℕ, ◌+◌, ◌-◌, ◌*◌, ◌<◌, ◌≤◌, ◌^◌, ◌&&◌, Bool, true, false, cond, nat_lt, List, []}
use Rattle.std.proofs.Common.{◌∷◌, Option, Some, None, refl, sym, ap, ◌∙◌, length, lit<, arith, fold, drop, get_or}
use Rattle.std.proofs.lemmas.Bool.Decides.{nat_tests}
use Rattle.std.proofs.lemmas.Bool.{ltb-true, ltb-false, le-ltb, and_right, cond-false}
use Rattle.std.proofs.lemmas.List.{at_drop_more, at_drop_all}
use Rattle.std.specs.List.{list_all}
use Rattle.std.specs.Char.{is_ascii_digit}
use Rattle.scripts.specs.Numbers.{with_digit, number_below}

abbrev step : ℕ → ℕ → ℕ
step n d = 10 * n + (d - 48)

-- the number that digits make after n
abbrev pub read : ℕ → List ℕ → Option ℕ
read n [] = Some n
read n (d ∷ ds) = elim (with_digit n d) [ None ↦ None | Some m ↦ read m ds ]

grows : (n : ℕ) (ds : List ℕ) → n ≤ fold step n ds
grows n [] = omega arith
grows n (d ∷ ds) = omega (arith, grows (step n d) ds)

abbrev Found : ℕ → List ℕ → Option ℕ
Found n ds = cond (list_all is_ascii_digit ds && nat_lt (fold step n ds) (2 ^ 64)) (Some (fold step n ds)) None

-- the same after a digit was tried
abbrev on : Option ℕ → List ℕ → Option ℕ
on None ds = None
on (Some m) ds = read m ds

on_digit : (n d : ℕ) (ds : List ℕ) → read n (d ∷ ds) ≡ on (with_digit n d) ds
on_digit n d ds = elim (with_digit n d) as
    (λ o. elim o as (λ x. Option ℕ) [ None ↦ None | Some m ↦ read m ds ] ≡ on o ds) [ None ↦ refl | Some m ↦ refl ]

read_none : (n d : ℕ) (ds : List ℕ) → with_digit n d ≡ None → read n (d ∷ ds) ≡ None
read_none n d ds e = on_digit n d ds ∙ ap (λ o. on o ds) e

read_some : (n d m : ℕ) (ds : List ℕ) → with_digit n d ≡ Some m → read n (d ∷ ds) ≡ read m ds
read_some n d m ds e = on_digit n d ds ∙ ap (λ o. on o ds) e

no_digit : (n d : ℕ) → is_ascii_digit d ≡ false → with_digit n d ≡ None
no_digit n d e = ap (λ b. cond (b && nat_lt (step n d) (2 ^ 64)) (Some (step n d)) None) e

digit : (n d : ℕ) (b : Bool) → is_ascii_digit d ≡ true → nat_lt (step n d) (2 ^ 64) ≡ b
    → with_digit n d ≡ cond b (Some (step n d)) None
digit n d b e fits = ap (λ b. cond (b && nat_lt (step n d) (2 ^ 64)) (Some (step n d)) None) e ∙ ap
    (λ b. cond b (Some (step n d)) None) fits

found : (n d : ℕ) (ds : List ℕ) (b : Bool) → is_ascii_digit d ≡ b
    → Found n (d ∷ ds) ≡ cond (b && list_all is_ascii_digit ds && nat_lt (fold step (step n d) ds) (2 ^ 64))
    (Some (fold step (step n d) ds)) None
found n d ds b e = ap (λ b. cond (b && list_all is_ascii_digit ds && nat_lt (fold step (step n d) ds) (2 ^ 64))
    (Some (fold step (step n d) ds)) None) e

more : (n d : ℕ) (ds : List ℕ) (a b : Bool) → is_ascii_digit d ≡ a → nat_lt (step n d) (2 ^ 64) ≡ b
    → (step n d < 2 ^ 64 → read (step n d) ds ≡ Found (step n d) ds) → read n (d ∷ ds) ≡ Found n (d ∷ ds)
more n d ds false b e fits next = read_none n d ds (no_digit n d e) ∙ sym (found n d ds false e)
more n d ds true false e fits next =
    let past : nat_lt (fold step (step n d) ds) (2 ^ 64)
    ≡ false = le-ltb _ _ (omega (arith, grows (step n d) ds, ltb-false _ _ fits)) in
    read_none n d ds (digit n d false e fits)
    ∙ sym (found n d ds true e ∙ cond-false _ _ _ (and_right (list_all is_ascii_digit ds) _ past))
more n d ds true true e fits next =
    read_some n d _ ds (digit n d true e fits) ∙ next (ltb-true _ _ fits) ∙ sym (found n d ds true e)

read_is : (n : ℕ) (ds : List ℕ) → n < 2 ^ 64 → read n ds ≡ Found n ds
read_is n [] lt = grind (arith, nat_tests)
read_is n (d ∷ ds) lt = more n d ds (is_ascii_digit d) (nat_lt (step n d) (2 ^ 64)) refl refl (read_is (step n d) ds)

number : (ds : List ℕ) (o : Option ℕ) → 0 < length ds → read 0 ds ≡ o → o ≡ number_below (2 ^ 64) ds
number [] o some e = absurd (omega arith)
number (d ∷ ds) o some e = sym e ∙ read_is 0 (d ∷ ds) (lit< tt)

-- no number is left at an octet that is no digit, or takes the number past its limit
pub stops : (ds : List ℕ) (i n : ℕ) → i < length ds → read n (drop i ds) ≡ read 0 ds
    → with_digit n (get_or ds i 0) ≡ None → None ≡ number_below (2 ^ 64) ds
stops ds i n lt e none = number ds None (omega arith)
    (sym e ∙ at_drop_more (read n) ds i 0 lt ∙ read_none n (get_or ds i 0) (drop (i + 1) ds) none)

pub goes_on : (ds : List ℕ) (i n m : ℕ) → i < length ds → read n (drop i ds) ≡ read 0 ds
    → with_digit n (get_or ds i 0) ≡ Some m → read m (drop (i + 1) ds) ≡ read 0 ds
goes_on ds i n m lt e some = sym (read_some n (get_or ds i 0) m (drop (i + 1) ds) some)
    ∙ sym (at_drop_more (read n) ds i 0 lt) ∙ e

pub ends : (ds : List ℕ) (i n : ℕ) → length ds ≤ i → 0 < length ds → read n (drop i ds) ≡ read 0 ds
    → Some n ≡ number_below (2 ^ 64) ds
ends ds i n le some e = number ds (Some n) some (sym e ∙ at_drop_all (read n) ds i le)
