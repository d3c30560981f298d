-- A number's digits, and the text of a moment, may stand in a tag's value as they are.
use Rattle.std.proofs.Common.{◌≡◌, ◌≢◌, ℕ, ◌+◌, ◌/◌, ◌%◌, ◌^◌, ◌<◌, Bool, true, not, ◌&&◌, eqb, List, [], ◌∷◌, ◌++◌}
use Rattle.std.proofs.Common.{refl, ap, ◌∙◌, arith, ℤ}
use Rattle.std.specs.List.{list_all}
use Rattle.std.specs.Prelude.{unsigned_abs}
use Rattle.std.specs.Fmt.{decimal}
use Rattle.std.proofs.lemmas.Bool.{and_from, and_parts, eqb-false, ne_eqb, not-true}
use Rattle.std.proofs.lemmas.Fmt.{decimal_by_steps}
use Rattle.std.proofs.lemmas.List.Folds.{list_all-append}
use Rattle.message_tags.specs.Value.{value}
use Rattle.message_tags.proofs.ValueLemmas.{value_at_plain}
use Rattle.answer_octets.proofs.Texts.{is_value_octet}
use Rattle.numerics.specs.CivilTime.{CivilDate, civil_date, clock_text, date_text, four, three, time_text, two}

pub digit-value : (d : ℕ) → d < 10 → is_value_octet (48 + d) ≡ true
digit-value d low =
    let semicolon : 48 + d ≢ 59 = omega arith in let space : 48 + d ≢ 32 = omega arith in
    let nul : 48 + d ≢ 0 = omega arith in
    let cr : 48 + d ≢ 13 = omega arith in let lf : 48 + d ≢ 10 = omega arith in
    rw (
      ne_eqb (48 + d) 59 semicolon,
      ne_eqb (48 + d) 32 space,
      ne_eqb (48 + d) 0 nul,
      ne_eqb (48 + d) 13 cr,
      ne_eqb (48 + d) 10 lf,
    ) refl

-- values, and no backslash
abbrev pub is_plain_octet : ℕ → Bool
is_plain_octet b = not (eqb b 92) && is_value_octet b

digit-plain : (d : ℕ) → d < 10 → is_plain_octet (48 + d) ≡ true
digit-plain d low =
    let backslash : 48 + d ≢ 92 = omega arith in rw (ne_eqb (48 + d) 92 backslash) (digit-value d low)

abbrev ArePlain : ℕ → List ℕ → Type 0
ArePlain n ds = list_all is_plain_octet ds ≡ true

pub decimal-plain : (n : ℕ) → n < 2 ^ 64 → list_all is_plain_octet (decimal n) ≡ true
decimal-plain n small =
    decimal_by_steps ArePlain (λ k low. and_from _ _ (digit-plain k low) refl)
    (λ k ds high before. list_all-append is_plain_octet ds ((48 + k % 10) ∷ [])
    ∙ and_from _ _ before (and_from _ _ (digit-plain (k % 10) (omega arith)) refl)) n small

pub plain-value : (bs : List ℕ) → list_all is_plain_octet bs ≡ true → list_all is_value_octet bs ≡ true
plain-value [] plain = refl
plain-value (b ∷ bs) plain =
    let parts = and_parts _ _ plain in and_from _ _ (and_parts _ _ parts.0).1 (plain-value bs parts.1)

-- what has no backslash means itself
pub plain-means : (bs : List ℕ) → list_all is_plain_octet bs ≡ true → value bs ≡ bs
plain-means [] plain = refl
plain-means (b ∷ bs) plain =
    let parts = and_parts _ _ plain in
    value_at_plain [] b bs (eqb-false b 92 (not-true _ (and_parts _ _ parts.0).0)) ∙ ap (λ xs. b ∷ xs)
    (plain-means bs parts.1)

-- ---- a moment

abbrev AreValue : List ℕ → Type 0
AreValue bs = list_all is_value_octet bs ≡ true

both : (xs ys : List ℕ) → AreValue xs → AreValue ys → AreValue (xs ++ ys)
both xs ys a b = list_all-append is_value_octet xs ys ∙ and_from _ _ a b

two-value : (n : ℕ) → n < 100 → AreValue (two n)
two-value n low =
    and_from _ _ (digit-value (n / 10) (omega arith)) (and_from _ _ (digit-value (n % 10) (omega arith)) refl)

three-value : (n : ℕ) → n < 1_000 → AreValue (three n)
three-value n low = and_from _ _ (digit-value (n / 100) (omega arith)) (two-value (n % 100) (omega arith))

four-value : (n : ℕ) → n < 10_000 → AreValue (four n)
four-value n low = both (two (n / 100)) (two (n % 100)) (two-value (n / 100) (omega arith))
    (two-value (n % 100) (omega arith))

-- an octet between
parted : (xs : List ℕ) (c : ℕ) (ys : List ℕ) → is_value_octet c ≡ true → AreValue xs → AreValue ys
    → AreValue (xs ++ c ∷ ys)
parted xs c ys sep a b = both xs (c ∷ ys) a (and_from _ _ sep b)

pub date-value : (d : CivilDate) → d.year < 10_000 → d.month < 100 → d.day < 100 → AreValue (date_text d)
date-value d y m n =
    parted (four d.year) 45 (two d.month ++ 45 ∷ two d.day) refl (four-value d.year y)
    (parted (two d.month) 45 (two d.day) refl (two-value d.month m) (two-value d.day n))

pub clock-value : (t : ℕ) → t < 86_400_000 → AreValue (clock_text t)
clock-value t low =
    let rest : List ℕ = three (t % 1_000) in
    let seconds : List ℕ = two (t / 1_000 % 60) in
    let minutes : List ℕ = two (t / 60_000 % 60) in
    parted (two (t / 3_600_000)) 58 (minutes ++ 58 ∷ (seconds ++ 46 ∷ rest)) refl
    (two-value (t / 3_600_000) (omega arith))
    (parted minutes 58 (seconds ++ 46 ∷ rest) refl (two-value (t / 60_000 % 60) (omega arith))
    (parted seconds 46 rest refl (two-value (t / 1_000 % 60) (omega arith)) (three-value (t % 1_000) (omega arith))))

pub time-value : (m : ℤ) → AreValue (date_text (civil_date (unsigned_abs m / 86_400_000))) → AreValue (time_text m)
unfolding time_text
time-value m date =
    let t = unsigned_abs m in
    parted (date_text (civil_date (t / 86_400_000))) 84 (clock_text (t % 86_400_000) ++ 90 ∷ []) refl date
    (both (clock_text (t % 86_400_000)) (90 ∷ []) (clock-value (t % 86_400_000) (omega arith)) refl)
