-- Numbers that a test picks, in their order.
use Rattle.std.proofs.lemmas.Bool.Decides.{nat_tests}
use Rattle.std.proofs.lemmas.Bool.{cases_eq}
use Rattle.std.proofs.Common.{◌≡◌, ◌≢◌, inl, inr, ℕ, zero, suc, ◌+◌, ◌<◌, ◌≤◌, Bool, true, false}
use Rattle.std.proofs.Common.{nat_lt, cond, List, [], ◌∷◌, ◌++◌, filter, length, take, drop, get_or}
use Rattle.std.proofs.Common.{slice_get, Some, None, arith, refl, sym, ap, ◌∙◌}
use Rattle.roster.specs.LookBack.{numbers}
use Rattle.ledger.specs.Ledger.{first}
use Rattle.ledger.specs.Seats.{at_its_place}

-- ---- a number more

length_placed : (s : ℕ) (x : ℕ) (xs : List ℕ) (b : Bool) → length (at_its_place s xs) ≡ length xs + 1
    → length (cond b (x ∷ at_its_place s xs) (s ∷ x ∷ xs)) ≡ length (x ∷ xs) + 1
length_placed s x xs true e = (let g : length (x ∷ at_its_place s xs) ≡ length (x ∷ xs) + 1 = omega arith in g)
length_placed s x xs false e = (let g : length (s ∷ x ∷ xs) ≡ length (x ∷ xs) + 1 = omega arith in g)

pub placed_more : (s : ℕ) (xs : List ℕ) → length (at_its_place s xs) ≡ length xs + 1
placed_more s [] = refl
placed_more s (x ∷ xs) = length_placed s x xs (nat_lt x s) (placed_more s xs)

-- where it is found to belong, there it is placed
pub placed_at : (xs : List ℕ) (s i : ℕ) → i ≤ length xs → ((k : ℕ) → k < i → get_or xs k 0 < s)
    → ((k : ℕ) → i ≤ k → k < length xs → s < get_or xs k 0) → take i xs ++ s ∷ drop i xs ≡ at_its_place s xs
placed_at [] s zero l below above = refl
placed_at [] s (suc i) l below above = absurd (omega arith)
placed_at (x ∷ xs) s zero l below above = let a : s < x = above 0 (omega arith) (omega arith) in
    let off : nat_lt x s ≡ false = grind (arith, nat_tests) in rw off refl
placed_at (x ∷ xs) s (suc i) l below above =
    let a : x < s = below 0 (omega arith) in let on : nat_lt x s ≡ true = grind (arith, nat_tests) in
    rw on (ap (λ ys. x ∷ ys) (placed_at xs s i (omega arith) (λ k h. below (suc k) (omega arith))
    (λ k h j. above (suc k) (omega arith) (omega arith))))

-- ---- the numbers that a test picks

-- two tests that agree pick the same
pub filter_same : (f g : ℕ → Bool) (k n : ℕ) → ((t : ℕ) → k ≤ t → t < k + n → f t ≡ g t)
    → filter f (numbers k n) ≡ filter g (numbers k n)
filter_same f g k zero same = refl
filter_same f g k (suc n) same =
    let rest = filter_same f g (k + 1) n (λ t a b. same t (omega arith) (omega arith)) in
    ap (λ b. cond b (k ∷ filter f (numbers (k + 1) n)) (filter f (numbers (k + 1) n)))
    (same k (omega arith) (omega arith)) ∙ ap (λ xs. cond (g k) (k ∷ xs) xs) rest

-- a lower number is placed first
placed_low : (f : ℕ → Bool) (s k n : ℕ) → s < k → at_its_place s (filter f (numbers k n)) ≡ s ∷ filter f (numbers k n)
placed_low f s k zero l = refl
placed_low f s k (suc n) l =
    let off : nat_lt k s ≡ false = grind (arith, nat_tests) in
    let rest = placed_low f s (k + 1) n (omega arith) in let F = filter f (numbers (k + 1) n) in
    elim (f k) as (λ b. at_its_place s (cond b (k ∷ F) F) ≡ s ∷ cond b (k ∷ F) F) [ true ↦ rw off refl | false ↦ rest ]

-- the test picks one number more
pub placed_picked : (f g : ℕ → Bool) (s k n : ℕ) → f s ≡ false → g s ≡ true → ((t : ℕ) → k ≤ t → t ≢ s → f t ≡ g t)
    → k ≤ s → s < k + n → at_its_place s (filter f (numbers k n)) ≡ filter g (numbers k n)
placed_picked f g s k zero off on same a b = absurd (omega arith)
placed_picked f g s k (suc n) off on same a b =
    elim (cases_eq k s) [
      | inl e ↦
          let F = filter f (numbers (k + 1) n) in
          let was : f k ≡ false = ap f e ∙ off in let is : g k ≡ true = ap g e ∙ on in
          let rest = filter_same f g (k + 1) n (λ t h l. same t (omega arith) (λ i. let j = i in omega arith)) in
          ap (λ c. at_its_place s (cond c (k ∷ F) F)) was ∙ placed_low f s (k + 1) n (omega arith) ∙ ap
          (λ (j : ℕ). j ∷ F) (sym e) ∙ ap (λ xs. k ∷ xs) rest
          ∙ ap (λ c. cond c (k ∷ filter g (numbers (k + 1) n)) (filter g (numbers (k + 1) n))) (sym is)
      | inr ne ↦
          let F = filter f (numbers (k + 1) n) in
          let lower : k < s = omega arith in let less : nat_lt k s ≡ true = grind (arith, nat_tests) in
          let rest = placed_picked f g s (k + 1) n off on (λ t h. same t (omega arith)) (omega arith) (omega arith) in
          let head : at_its_place s (cond (g k) (k ∷ F) F) ≡ cond (g k) (k ∷ at_its_place s F) (at_its_place s F) =
          elim (g k) as (λ c. at_its_place s (cond c (k ∷ F) F)
          ≡ cond c (k ∷ at_its_place s F) (at_its_place s F)) [ true ↦ rw less refl | false ↦ refl ] in
          ap (λ c. at_its_place s (cond c (k ∷ F) F)) (same k (omega arith) ne) ∙ head ∙ ap
          (λ xs. cond (g k) (k ∷ xs) xs) rest
    ]

-- ---- the lowest number that it picks

pub first_picked : (f : ℕ → Bool) (ts : List ℕ) → first f ts ≡ slice_get (filter f ts) 0
first_picked f [] = refl
first_picked f (t ∷ ts) = ap (cond (f t) (Some t)) (first_picked f ts) ∙ elim (f t) as
    (λ b. cond b (Some t) (slice_get (filter f ts) 0)
    ≡ slice_get (cond b (t ∷ filter f ts) (filter f ts)) 0) [ true ↦ refl | false ↦ refl ]

first_here : (f : ℕ → Bool) (k t n : ℕ) (b : Bool) → f k ≡ b → cond b (Some k) (first f (numbers (k + 1) n))
    ≡ Some t → (first f (numbers (k + 1) n) ≡ Some t → (f t ≡ true) × (k + 1 ≤ t) × (t < k + 1 + n)) → (f t ≡ true)
    × (k ≤ t) × (t < k + suc n)
first_here f k t n true eb e rest = let same : k ≡ t = (let g : Some k ≡ Some t = e in cc) in
    (ap f (sym same) ∙ eb, omega arith, omega arith)
first_here f k t n false eb e rest = let r = rest e in
    (r.0, (let a = r.1 in omega arith), (let a = r.2 in omega arith))

-- it is one of the numbers, and the test holds of it
pub first_is : (f : ℕ → Bool) (k n t : ℕ) → first f (numbers k n) ≡ Some t → (f t ≡ true) × (k ≤ t) × (t < k + n)
first_is f k zero t e = absurd (let g : None ≡ Some t = e in cc)
first_is f k (suc n) t e = first_here f k t n (f k) refl e (first_is f (k + 1) n t)

-- the test picks the lowest no more
pub first_gone : (f g : ℕ → Bool) (s k n : ℕ) → first f (numbers k n) ≡ Some s → g s ≡ false
    → ((t : ℕ) → k ≤ t → t ≢ s → f t ≡ g t) → filter f (numbers k n) ≡ s ∷ filter g (numbers k n)
first_gone f g s k zero e off same = absurd (let h : None ≡ Some s = e in cc)
first_gone f g s k (suc n) e off same = by (f k) refl (first_gone f g s (k + 1) n)
  where
    by : (b : Bool) → f k ≡ b → (first f (numbers (k + 1) n) ≡ Some s → g s ≡ false → ((t : ℕ) → k + 1 ≤ t
        → t ≢ s → f t ≡ g t) → filter f (numbers (k + 1) n) ≡ s ∷ filter g (numbers (k + 1) n))
        → filter f (numbers k (suc n)) ≡ s ∷ filter g (numbers k (suc n))
    by true ef later =
        let h : Some k ≡ Some s = sym (ap (λ c. cond c (Some k) (first f (numbers (k + 1) n))) ef) ∙ e in
        let i : k ≡ s = cc in
        let F = filter f (numbers (k + 1) n) in let G = filter g (numbers (k + 1) n) in
        let rest : F ≡ G = filter_same f g (k + 1) n (λ t a b. same t (omega arith) (λ j. let q = j in omega arith)) in
        ap (λ c. cond c (k ∷ F) F) ef ∙ ap (λ (j : ℕ). j ∷ F) i ∙ ap (λ xs. s ∷ xs) rest ∙ ap
        (λ c. s ∷ cond c (k ∷ G) G) (sym (ap g i ∙ off))
    by false ef later =
        let h = sym (ap (λ c. cond c (Some k) (first f (numbers (k + 1) n))) ef) ∙ e in
        let l = (first_is f (k + 1) n s h).1 in let ne : k ≢ s = λ j. let q = j in omega arith in
        let F = filter f (numbers (k + 1) n) in let G = filter g (numbers (k + 1) n) in
        ap (λ c. cond c (k ∷ F) F) ef ∙ later h off (λ t a. same t (omega arith)) ∙ ap
        (λ c. s ∷ cond c (k ∷ G) G) (sym (sym (same k (omega arith) ne) ∙ ef))

-- ---- they ascend, and the test holds of each

low_more : (k : ℕ) (F : List ℕ) (b : Bool) (i : ℕ) → ((j : ℕ) → j < length F → k + 1 ≤ get_or F j 0)
    → i < length (cond b (k ∷ F) F) → k ≤ get_or (cond b (k ∷ F) F) i 0
low_more k F true zero low l = omega arith
low_more k F true (suc i) low l = let a = low i (omega arith) in omega arith
low_more k F false i low l = let a = low i l in omega arith

picked_low : (f : ℕ → Bool) (k n i : ℕ) → i < length (filter f (numbers k n)) → k ≤ get_or (filter f (numbers k n)) i 0
picked_low f k zero i l = absurd (omega arith)
picked_low f k (suc n) i l = low_more k (filter f (numbers (k + 1) n)) (f k) i (picked_low f (k + 1) n) l

up_more : (k : ℕ) (F : List ℕ) (b : Bool) (i j : ℕ) → ((j : ℕ) → j < length F → k + 1 ≤ get_or F j 0)
    → ((i j : ℕ) → i ≤ j → j < length F → get_or F i 0 ≤ get_or F j 0)
    → i ≤ j → j < length (cond b (k ∷ F) F) → get_or (cond b (k ∷ F) F) i 0 ≤ get_or (cond b (k ∷ F) F) j 0
up_more k F true zero zero low up a l = omega arith
up_more k F true zero (suc j) low up a l = let b = low j (omega arith) in omega arith
up_more k F true (suc i) zero low up a l = absurd (omega arith)
up_more k F true (suc i) (suc j) low up a l = up i j (omega arith) (omega arith)
up_more k F false i j low up a l = up i j a l

pub picked_up : (f : ℕ → Bool) (k n i j : ℕ) → i ≤ j → j < length (filter f (numbers k n))
    → get_or (filter f (numbers k n)) i 0 ≤ get_or (filter f (numbers k n)) j 0
picked_up f k zero i j a l = absurd (omega arith)
picked_up f k (suc n) i j a l = up_more k (filter f (numbers (k + 1) n)) (f k) i j (picked_low f (k + 1) n)
    (picked_up f (k + 1) n) a l

holds_more : (f : ℕ → Bool) (t : ℕ) (F : List ℕ) (b : Bool) (i : ℕ) → f t ≡ b
    → ((j : ℕ) → j < length F → f (get_or F j 0) ≡ true) → i < length (cond b (t ∷ F) F)
    → f (get_or (cond b (t ∷ F) F) i 0) ≡ true
holds_more f t F true zero e holds l = e
holds_more f t F true (suc i) e holds l = holds i (omega arith)
holds_more f t F false i e holds l = holds i l

pub picked_holds : (f : ℕ → Bool) (ts : List ℕ) (i : ℕ) → i < length (filter f ts)
    → f (get_or (filter f ts) i 0) ≡ true
picked_holds f [] i l = absurd (omega arith)
picked_holds f (t ∷ ts) i l = holds_more f t (filter f ts) (f t) i refl (picked_holds f ts) l

pub head_some : (xs : List ℕ) (x : ℕ) → 0 < length xs → x ≡ get_or xs 0 x → slice_get xs 0 ≡ Some x
head_some [] x l e = absurd (omega arith)
head_some (y ∷ ys) x l e = ap (λ (k : ℕ). Some k) (sym e)

pub head_none : (xs : List ℕ) → length xs ≤ 0 → slice_get xs 0 ≡ None
head_none [] l = refl
head_none (y ∷ ys) l = absurd (omega arith)
