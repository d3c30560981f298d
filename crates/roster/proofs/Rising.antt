-- Numbers that rise: a list of them is known by which numbers it has.
use Rattle.std.proofs.lemmas.Bool.Decides.{eqb_tells, leb_tells, nat_tests}
use Rattle.std.proofs.lemmas.List.Folds.{list_any-append}
use Rattle.std.proofs.lemmas.List.Sorted.{list_any-IsPermutation}
use Rattle.std.proofs.lemmas.Map.Keys.{IsStrictlyIncreasing-dedup}
use Rattle.std.proofs.lemmas.Map.Views.{any-filter_same}
use Rattle.std.proofs.Common.{◌≡◌, inl, inr, ℕ, zero, suc, ◌+◌, ◌<◌, ◌≤◌, Bool, true, false, ◌&&◌}
use Rattle.std.proofs.Common.{◌||◌, ◌==◌, cond, nat_le, nat_lt, eqb, List, [], ◌∷◌, filter, get_or}
use Rattle.std.proofs.Common.{arith, refl, sym, ap, ◌∙◌, subst, eq-eqb, ne_eqb}
use Rattle.std.specs.Ordering.{nat_cmp}
use Rattle.std.specs.List.{list_any, flat_map, dedup, dedup_from}
use Rattle.std.specs.List.Sorted.{IsStrictlyIncreasing, IsSorted, IsPermutation}
use Rattle.channel_state.specs.State.{among}
use Rattle.roster.specs.LookBack.{numbers}

-- they rise from k on
abbrev pub Rises : ℕ → List ℕ → Type 0
Rises k [] = Unit {0}
Rises k (x ∷ xs) = (k ≤ x) × Rises (suc x) xs

pub rises_from : (j k : ℕ) (xs : List ℕ) → j ≤ k → Rises k xs → Rises j xs
rises_from j k [] l r = tt
rises_from j k (x ∷ xs) l r = ((let a = r.0 in omega arith), r.1)

below : (t k : ℕ) (xs : List ℕ) → Rises k xs → t < k → among t xs ≡ false
below t k [] r l = refl
below t k (x ∷ xs) r l =
    let a = r.0 in let ne : (x == t) ≡ false = ne_eqb x t (λ e. absurd (omega arith)) in
    ap (λ b. b || among t xs) ne ∙ below t (suc x) xs r.1 (omega arith)

first : (x : ℕ) (xs : List ℕ) → among x (x ∷ xs) ≡ true
first x xs = ap (λ b. b || among x xs) (eq-eqb x x refl)

-- the same numbers, the same list
pub rising_same : (k : ℕ) (xs ys : List ℕ) → Rises k xs → Rises k ys → ((t : ℕ) → among t xs ≡ among t ys) → xs ≡ ys
rising_same k [] [] a b e = refl
rising_same k [] (y ∷ ys) a b e = absurd (let f : false ≡ true = e y ∙ first y ys in cc)
rising_same k (x ∷ xs) [] a b e = absurd (let f : true ≡ false = sym (first x xs) ∙ e x in cc)
rising_same k (x ∷ xs) (y ∷ ys) a b e = elim (leb_tells (suc x) y) [
  | inl less ↦ absurd (let l = less.1 in let f : true
      ≡ false = sym (first x xs) ∙ e x ∙ below x y (y ∷ ys) ((omega arith), b.1) (omega arith) in cc)
  | inr not_less ↦ elim (leb_tells (suc y) x) [
    | inl more ↦ absurd (let l = more.1 in let f : false
        ≡ true = sym (below y x (x ∷ xs) ((omega arith), a.1) (omega arith)) ∙ e y ∙ first y ys in cc)
    | inr not_more ↦
        let l = not_less.1 in let m = not_more.1 in let same : x ≡ y = omega arith in
        let rest : Rises (suc x) ys = subst (λ (z : ℕ). Rises (suc z) ys) (sym same) b.1 in
        let tail : (t : ℕ) → among t xs ≡ among t ys = λ t. elim (eqb_tells x t) [
          | inl it ↦ let s = it.1 in below t (suc x) xs a.1 (omega arith) ∙ sym (below t (suc x) ys rest (omega arith))
          | inr other ↦
              sym (ap (λ b. b || among t xs) other.0) ∙ e t ∙ ap (λ (z : ℕ). (z == t) || among t ys) (sym same) ∙ ap
              (λ b. b || among t ys) other.0
        ] in
        ap (λ (z : ℕ). z ∷ xs) same ∙ ap (λ zs. y ∷ zs) (rising_same (suc x) xs ys a.1 rest tail)
  ]
]

pub rises-filter : (p : ℕ → Bool) (k : ℕ) (xs : List ℕ) → Rises k xs → Rises k (filter p xs)
rises-filter p k [] r = tt
rises-filter p k (x ∷ xs) r = elim (p x) as (λ b. Rises k (cond b (x ∷ filter p xs) (filter p xs))) [
  | true ↦ (r.0, rises-filter p (suc x) xs r.1)
  | false ↦ let a = r.0 in rises_from k (suc x) (filter p xs) (omega arith) (rises-filter p (suc x) xs r.1)
]

pub rises-numbers : (k n : ℕ) → Rises k (numbers k n)
rises-numbers k zero = tt
rises-numbers k (suc n) = let e : k + 1 ≡ suc k = omega arith in
    ((omega arith), subst (λ (j : ℕ). Rises j (numbers (k + 1) n)) e (rises-numbers (k + 1) n))

rises_on : (x : ℕ) (xs : List ℕ) → IsStrictlyIncreasing (x ∷ xs) → Rises (suc x) xs
rises_on x [] s = tt
rises_on x (y ∷ ys) s =
    let here : x < y = s 0 (omega arith) in (
      (omega arith),
      rises_on y ys (λ k l. let e : suc k + 1 ≡ suc (k + 1) = omega arith in
          let up = s (suc k) (omega arith) in subst (λ (j : ℕ). get_or (y ∷ ys) k 0 < get_or (x ∷ y ∷ ys) j 0) e up),
    )

rises_of : (xs : List ℕ) → IsStrictlyIncreasing xs → Rises 0 xs
rises_of [] s = tt
rises_of (x ∷ xs) s = ((omega arith), rises_on x xs s)

-- ---- sorted, each once

or_twice : (a b : Bool) → (a || (a || b)) ≡ (a || b)
or_twice true b = refl
or_twice false b = refl

among_from : (t k : ℕ) (xs : List ℕ) → among t (dedup_from eqb k xs) ≡ (k == t || among t xs)
among_from t k [] = refl
among_from t k (x ∷ xs) = elim (eqb_tells x k) [
  | inl same ↦
      ap (λ b. among t (cond b (dedup_from eqb k xs) (k ∷ dedup_from eqb x xs))) same.0 ∙ among_from t k xs
      ∙ sym (or_twice (k == t) (among t xs)) ∙ ap (λ (z : ℕ). k == t || (z == t || among t xs)) (sym same.1)
  | inr other ↦
      ap (λ b. among t (cond b (dedup_from eqb k xs) (k ∷ dedup_from eqb x xs))) other.0
      ∙ ap (λ b. k == t || b) (among_from t x xs)
]

among-dedup : (t : ℕ) (xs : List ℕ) → among t (dedup eqb xs) ≡ among t xs
among-dedup t [] = refl
among-dedup t (x ∷ xs) = among_from t x xs

among-flat_map : {A : Type 0} (t : ℕ) (f : A → List ℕ) (cs : List A) → among t (flat_map f cs)
    ≡ list_any (λ c. among t (f c)) cs
among-flat_map t f [] = refl
among-flat_map t f (c ∷ cs) = list_any-append (λ u. u == t) (f c) (flat_map f cs) ∙ ap
    (λ b. among t (f c) || b) (among-flat_map t f cs)

pub among-filter : (t : ℕ) (p : ℕ → Bool) (xs : List ℕ) → among t (filter p xs) ≡ (p t && among t xs)
among-filter t p xs = any-filter_same (λ u. u == t) p (p t) (λ k e. ap p (same k t e)) xs
  where
    same : (k t : ℕ) → (k == t) ≡ true → k ≡ t
    same k t e = elim (eqb_tells k t) [
      | inl it ↦ it.1
      | inr other ↦ absurd (let f : true ≡ false = sym e ∙ other.0 in cc)
    ]

pub among-numbers : (t k n : ℕ) → among t (numbers k n) ≡ (nat_le k t && nat_lt t (k + n))
among-numbers t k zero = grind (arith, nat_tests)
among-numbers t k (suc n) = ap (λ b. k == t || b) (among-numbers t (k + 1) n) ∙ grind (arith, nat_tests)

-- what a sort and a `dedup` leave of members has each of them
pub sorted_once : {A : Type 0} (f : A → List ℕ) (cs : List A) (xs ys zs : List ℕ) → xs ≡ flat_map f cs
    → IsPermutation xs ys → IsSorted nat_cmp ys → zs ≡ dedup eqb ys
    → Rises 0 zs × ((t : ℕ) → among t zs ≡ list_any (λ c. among t (f c)) cs)
sorted_once f cs xs ys zs e p s d = (
  subst (Rises 0) (sym d) (rises_of (dedup eqb ys) (IsStrictlyIncreasing-dedup ys s)),
  λ t. ap (among t) d ∙ among-dedup t ys ∙ sym (list_any-IsPermutation (λ u. u == t) xs ys p) ∙ ap (among t) e
      ∙ among-flat_map t f cs,
)
