-- Whom a tick pings and who is late, by what is kept of when sessions were last heard of.
use Rattle.std.proofs.Common.{arith, ◌≡◌, ◌≢◌, inl, inr, ℕ, ℤ, zero, suc, ◌+◌, ◌<◌, ◌≤◌, Bool, true, false, not, ◌&&◌}
use Rattle.std.proofs.Common.{◌||◌, ◌==◌, cond, nat_eq, List, [], ◌∷◌, ◌++◌, length, filter, slice_index_or}
use Rattle.std.proofs.Common.{Option, Some, None, is_some, refl, sym, ap, ◌∙◌, subst, ne_eqb, eq-eqb}
use Rattle.std.proofs.lemmas.Bool.Decides.{eqb_tells}
use Rattle.std.proofs.lemmas.List.Elements.{filter-append}
use Rattle.std.specs.Prelude.{IfSome}
use Rattle.std.specs.List.{IsDistinct, AllByRecursion, list_any}
use Rattle.std.specs.Map.{keys_of}
use Rattle.chronicle.specs.History.{Rec, sessions, shut}
use Rattle.chronicle.specs.Idle.{PING_AFTER, LATE_AFTER, was_before, idle_since, was_pinged, is_pinged, is_late}
use Rattle.roster.specs.LookBack.{numbers}
use Rattle.ledger.specs.declared.last_heard.Since.{Since}
use Rattle.ledger.specs.declared.seat.Seat.{Seat}
use Rattle.ledger.specs.Ledger.{is_here, first, to_ping, late}
use Rattle.ledger.specs.Seats.{IsSeat, IsThere, seat_at, hears}
use Rattle.ledger.specs.LastHeard.{since_at, IsSince, AreSince, is_before, is_due, is_overdue, who_pass, lower_of}
use Rattle.ledger.specs.LastHeard.{lowest}
use Rattle.ledger.proofs.Begins.{hears_not}

-- ---- each session that passes stands once

abbrev pub passes : (ℕ × Since → Bool) → ℕ → Option Since → Bool
passes f t None = false
passes f t (Some x) = f (t, x)

one : (t s : ℕ) (b : Bool) → filter (λ u. u == t) (cond b (s ∷ []) []) ≡ cond (s == t) (cond b (s ∷ []) []) []
one t s true = let E : List ℕ = [] in
    elim (s == t) as (λ c. cond c (s ∷ E) E ≡ cond c (s ∷ E) E) [ true ↦ refl | false ↦ refl ]
one t s false = let E : List ℕ = [] in elim (s == t) as (λ c. E ≡ cond c E E) [ true ↦ refl | false ↦ refl ]

more_of : (f : ℕ × Since → Bool) (t : ℕ) (e : ℕ × Since) (es : List (ℕ × Since)) → filter (λ u. u == t)
    (who_pass f (e ∷ es)) ≡ filter (λ u. u == t) (who_pass f es) ++ cond (e.0 == t) (cond (f e) (e.0 ∷ []) []) []
more_of f t e es = filter-append (λ u. u == t) (who_pass f es) (cond (f e) (e.0 ∷ []) []) ∙ ap
    (λ ns. filter (λ u. u == t) (who_pass f es) ++ ns) (one t e.0 (f e))

none_of : (f : ℕ × Since → Bool) (t : ℕ) (es : List (ℕ × Since))
    → AllByRecursion (λ (k : ℕ). nat_eq t k ≡ false) (keys_of es) → filter (λ u. u == t) (who_pass f es) ≡ []
none_of f t [] apart = refl
none_of f t (e ∷ es) apart =
    let ne : e.0 ≢ t = λ is. absurd (let g : true ≡ false = sym (eq-eqb t e.0 (sym is)) ∙ apart.0 in cc) in
    more_of f t e es ∙ ap (λ ns. ns ++ cond (e.0 == t) (cond (f e) (e.0 ∷ []) []) []) (none_of f t es apart.1) ∙ ap
    (λ b. cond b (cond (f e) (e.0 ∷ []) []) []) (ne_eqb e.0 t ne)

append-none : (ns : List ℕ) → ns ++ [] ≡ ns
append-none [] = refl
append-none (n ∷ ns) = ap (λ ms. n ∷ ms) (append-none ns)

pub once_of : (f : ℕ × Since → Bool) (t : ℕ) (es : List (ℕ × Since)) → IsDistinct nat_eq (keys_of es)
    → filter (λ u. u == t) (who_pass f es) ≡ cond (passes f t (since_at es t)) (t ∷ []) []
unfolding IsDistinct
once_of f t [] i = refl
once_of f t (e ∷ es) i = elim (eqb_tells t e.0) [
  | inl same ↦
      let here : e.0 == t ≡ true = eq-eqb e.0 t (sym same.1) in
      let none : filter (λ u. u == t) (who_pass f es) ≡ [] = none_of f t es
      (subst (λ (k : ℕ). AllByRecursion (λ (j : ℕ). nat_eq k j ≡ false) (keys_of es)) (sym same.1) i.0) in
      more_of f t e es ∙ ap (λ ns. ns ++ cond (e.0 == t) (cond (f e) (e.0 ∷ []) []) []) none ∙ ap
      (λ b. cond b (cond (f e) (e.0 ∷ []) []) []) here
      ∙ ap (λ (k : ℕ). cond (f (k, e.1)) (k ∷ []) []) (sym same.1)
      ∙ sym (ap (λ b. cond (passes f t (cond b (Some e.1) (since_at es t))) (t ∷ []) []) same.0)
  | inr other ↦
      let away : e.0 == t ≡ false = ne_eqb e.0 t (λ is. other.1 (sym is)) in
      more_of f t e es ∙ ap (λ b. filter (λ u. u == t) (who_pass f es) ++ cond b (cond (f e) (e.0 ∷ []) []) []) away
      ∙ append-none (filter (λ u. u == t) (who_pass f es)) ∙ once_of f t es i.1
      ∙ sym (ap (λ b. cond (passes f t (cond b (Some e.1) (since_at es t))) (t ∷ []) []) other.0)
]

-- ---- who stands among numbers

abbrev is_some_of : List ℕ → Bool
is_some_of [] = false
is_some_of (n ∷ ns) = true

any_left : (t : ℕ) (ns : List ℕ) → list_any (λ u. u == t) ns ≡ is_some_of (filter (λ u. u == t) ns)
any_left t [] = refl
any_left t (n ∷ ns) = elim (n == t) as (λ b. (b || list_any (λ u. u == t) ns) ≡ is_some_of
    (cond b (n ∷ filter (λ u. u == t) ns) (filter (λ u. u == t) ns))) [ true ↦ refl | false ↦ any_left t ns ]

pub any_of : (f : ℕ × Since → Bool) (t : ℕ) (es : List (ℕ × Since)) → IsDistinct nat_eq (keys_of es)
    → list_any (λ u. u == t) (who_pass f es) ≡ passes f t (since_at es t)
any_of f t es i =
    any_left t (who_pass f es) ∙ ap is_some_of (once_of f t es i) ∙ elim (passes f t (since_at es t)) as
    (λ b. is_some_of (cond b (t ∷ []) []) ≡ b) [ true ↦ refl | false ↦ refl ]

-- nobody stands among none
none_among : (ns : List ℕ) → ((t : ℕ) → list_any (λ u. u == t) ns ≡ false) → ns ≡ []
none_among [] all = refl
none_among (n ∷ ns) all = absurd
    (let f : true ≡ false = sym (ap (λ b. b || list_any (λ u. u == n) ns) (eq-eqb n n refl)) ∙ all n in cc)

-- ---- what is kept says what the history says

module _ {O : Type 0} (xs : List (ℕ × Since)) (h : List Rec) (seats : List Seat) (boxes : List (Option O))
    (moment : ℤ) (i : AreSince xs h boxes)
    (seat : (t : ℕ) → 0 < t → t ≤ length seats → IsSeat (seat_at seats t) (is_here boxes t) h t)
    (places : length seats ≡ length boxes)
    (reaped : (t : ℕ) → 0 < t → t ≤ length boxes → is_here boxes t ≡ false → shut h t ≡ true) where
  hears_is : (t : ℕ) → 0 < t → t ≤ length boxes → hears seats t ≡ not (shut h t)
  hears_is t from to = let below : t ≤ length seats = omega arith in
      turned (hears seats t) (shut h t) (hears_not seats t from below ∙ (seat t from below).shut)
    where
      turned : (a b : Bool) → not a ≡ b → a ≡ not b
      turned true b e = ap not e
      turned false b e = ap not e

  due_by : (b a p : Bool) → (b && (a && not p)) ≡ ((a && b) && not p)
  due_by true a p = elim a as (λ c. (c && not p) ≡ ((c && true) && not p)) [ true ↦ refl | false ↦ refl ]
  due_by false true p = refl
  due_by false false p = refl

  late_by : (b a : Bool) → (b && a) ≡ (a && b)
  late_by true true = refl
  late_by true false = refl
  late_by false true = refl
  late_by false false = refl

  shut_not : (t : ℕ) (b : Bool) → shut h t ≡ true → (not (shut h t) && b) ≡ false
  shut_not t b e = ap (λ c. not c && b) e

  there_of : (t : ℕ) (o : Option Since) → IfSome o (λ x. IsThere boxes t × IsSince x h t) → since_at xs t ≡ o
      → is_some o ≡ false → 0 < t → t ≤ length boxes → shut h t ≡ true
  there_of t o r e none from to = by (is_here boxes t) refl
    where
      by : (b : Bool) → is_here boxes t ≡ b → shut h t ≡ true
      by true here = absurd (let f : true
          ≡ false = sym (i.all t (record { from_1 = from; opened = to; here = here })) ∙ ap is_some e ∙ none in cc)
      by false here = reaped t from to here

  pub due_is : (t : ℕ) → 0 < t → t ≤ length boxes → passes (is_due seats moment) t (since_at xs t)
      ≡ is_pinged h t moment
  due_is t from to = by (since_at xs t) refl (i.each t)
    where
      by : (o : Option Since) → since_at xs t ≡ o → IfSome o (λ x. IsThere boxes t × IsSince x h t)
          → passes (is_due seats moment) t o ≡ is_pinged h t moment
      by None e r = sym (ap (λ b. b && not (was_pinged h t))
          (shut_not t (was_before (idle_since h t) PING_AFTER moment) (there_of t None r e refl from to)))
      by (Some x) e r =
          ap (λ b. is_before x PING_AFTER moment && (b && not x.pinged)) (hears_is t from to)
          ∙ due_by (is_before x PING_AFTER moment) (not (shut h t)) x.pinged
          ∙ ap (λ (since : Option ℤ). (not (shut h t) && was_before since PING_AFTER moment) && not x.pinged)
          (sym r.1.moment)
          ∙ ap (λ b. (not (shut h t) && was_before (idle_since h t) PING_AFTER moment) && not b) (sym r.1.pinged)

  pub late_is : (t : ℕ) → 0 < t → t ≤ length boxes → passes (is_overdue seats moment) t (since_at xs t)
      ≡ is_late h t moment
  late_is t from to = by (since_at xs t) refl (i.each t)
    where
      by : (o : Option Since) → since_at xs t ≡ o → IfSome o (λ x. IsThere boxes t × IsSince x h t)
          → passes (is_overdue seats moment) t o ≡ is_late h t moment
      by None e r = sym
          (shut_not t (was_before (idle_since h t) LATE_AFTER moment) (there_of t None r e refl from to))
      by (Some x) e r =
          ap (λ b. is_before x LATE_AFTER moment && b) (hears_is t from to)
          ∙ late_by (is_before x LATE_AFTER moment) (not (shut h t))
          ∙ ap (λ (since : Option ℤ). not (shut h t) && was_before since LATE_AFTER moment) (sym r.1.moment)

  -- nobody else passes
  pub within : (f : ℕ × Since → Bool) (t : ℕ) → passes f t (since_at xs t) ≡ true → (0 < t) × (t ≤ length boxes)
  within f t e = by (since_at xs t) (i.each t) e
    where
      by : (o : Option Since) → IfSome o (λ x. IsThere boxes t × IsSince x h t) → passes f t o ≡ true → (0 < t)
          × (t ≤ length boxes)
      by None r e = absurd (let g : false ≡ true = e in cc)
      by (Some x) r e = (r.0.from_1, r.0.opened)

-- ---- by numbers in their order

filter_none : (f : ℕ → Bool) (k n : ℕ) → ((t : ℕ) → k ≤ t → t < k + n → f t ≡ false) → filter f (numbers k n) ≡ []
filter_none f k zero none = refl
filter_none f k (suc n) none = ap (λ b. cond b (k ∷ filter f (numbers (k + 1) n)) (filter f (numbers (k + 1) n)))
    (none k (omega arith) (omega arith)) ∙ filter_none f (k + 1) n (λ t a b. none t (omega arith) (omega arith))

some_by : (c : Bool) (k : ℕ) (ns : List ℕ) → (c ≡ false → ns ≢ []) → cond c (k ∷ ns) ns ≢ []
some_by true k ns rest none = absurd (let g : k ∷ ns ≡ [] = none in cc)
some_by false k ns rest none = rest refl none

filter_some : (f : ℕ → Bool) (k n t : ℕ) → k ≤ t → t < k + n → f t ≡ true → filter f (numbers k n) ≢ []
filter_some f k zero t a b e = λ none. absurd (omega arith)
filter_some f k (suc n) t a b e =
    some_by (f k) k (filter f (numbers (k + 1) n))
    (λ off. let ne : k ≢ t = λ is. absurd (let g : false ≡ true = sym off ∙ ap f is ∙ e in cc) in
    filter_some f (k + 1) n t (omega arith) (omega arith) e)

first_none : (f : ℕ → Bool) (k n : ℕ) → ((t : ℕ) → k ≤ t → t < k + n → f t ≡ false) → first f (numbers k n) ≡ None
first_none f k zero none = refl
first_none f k (suc n) none = ap (λ b. cond b (Some k) (first f (numbers (k + 1) n)))
    (none k (omega arith) (omega arith)) ∙ first_none f (k + 1) n (λ t a b. none t (omega arith) (omega arith))

first_some : (f : ℕ → Bool) (k n m : ℕ) → k ≤ m → m < k + n → f m ≡ true → ((t : ℕ) → k ≤ t → t < m → f t ≡ false)
    → first f (numbers k n) ≡ Some m
first_some f k zero m a b e none = absurd (omega arith)
first_some f k (suc n) m a b e none = elim (eqb_tells k m) [
  | inl same ↦ ap (λ c. cond c (Some k) (first f (numbers (k + 1) n))) (ap f same.1 ∙ e) ∙ ap
      (λ (u : ℕ). Some u) same.1
  | inr other ↦
      let ne = other.1 in
      ap (λ c. cond c (Some k) (first f (numbers (k + 1) n))) (none k (omega arith) (omega arith))
      ∙ first_some f (k + 1) n m (omega arith) (omega arith) e (λ t l r. none t (omega arith) r)
]

-- ---- the lowest of numbers is one of them, and none is lower

number_or : Option ℕ → ℕ
number_or None = 0
number_or (Some n) = n

same_some : (a b : ℕ) → Some a ≡ Some b → a ≡ b
unfolding number_or
same_some a b e = ap number_or e

in_more : (n t : ℕ) (ns : List ℕ) → list_any (λ u. u == t) ns ≡ true → list_any (λ u. u == t) (n ∷ ns) ≡ true
in_more n t ns e = elim (n == t) as (λ b. (b || list_any (λ u. u == t) ns) ≡ true) [ true ↦ refl | false ↦ e ]

in_first : (n t : ℕ) (ns : List ℕ) → n ≡ t → list_any (λ u. u == t) (n ∷ ns) ≡ true
in_first n t ns e = ap (λ b. b || list_any (λ u. u == t) ns) (eq-eqb n t e)

lowest_in_by : (n m : ℕ) (ns : List ℕ) (o : Option ℕ) → lowest ns ≡ o → lower_of n o ≡ m
    → (lowest ns ≡ Some m → list_any (λ u. u == m) ns ≡ true) → list_any (λ u. u == m) (n ∷ ns) ≡ true
lowest_in_by n m ns None q l rest = in_first n m ns l
lowest_in_by n m ns (Some k) q l rest = elim (eqb_tells n m) [
  | inl same ↦ in_first n m ns same.1
  | inr other ↦ let ne = other.1 in let is : k ≡ m = omega arith in
      in_more n m ns (rest (q ∙ ap (λ (u : ℕ). Some u) is))
]

lowest_in : (ns : List ℕ) (m : ℕ) → lowest ns ≡ Some m → list_any (λ u. u == m) ns ≡ true
lowest_in [] m e = absurd (let g : None ≡ Some m = e in cc)
lowest_in (n ∷ ns) m e = lowest_in_by n m ns (lowest ns) refl (same_some (lower_of n (lowest ns)) m e) (lowest_in ns m)

none_in : (t : ℕ) (ks : List ℕ) → lowest ks ≡ None → list_any (λ u. u == t) ks ≡ false
none_in t [] w = refl
none_in t (k ∷ ks) w = absurd (let g : Some (lower_of k (lowest ks)) ≡ None = w in cc)

least_first : (n m t : ℕ) (o : Option ℕ) → lower_of n o ≡ m → n ≤ t → m ≤ t
least_first n m t None r below = omega arith
least_first n m t (Some k) r below = omega arith

least_later : (n m t : ℕ) (ns : List ℕ) (o : Option ℕ) → lowest ns ≡ o → lower_of n o ≡ m
    → list_any (λ u. u == t) ns ≡ true → ((k : ℕ) → lowest ns ≡ Some k → k ≤ t) → m ≤ t
least_later n m t ns None q r more rest = absurd (let g : false ≡ true = sym (none_in t ns q) ∙ more in cc)
least_later n m t ns (Some k) q r more rest = let below = rest k q in omega arith

lowest_least : (ns : List ℕ) (m t : ℕ) → lowest ns ≡ Some m → list_any (λ u. u == t) ns ≡ true → m ≤ t
lowest_least [] m t e is = absurd (let g : false ≡ true = is in cc)
lowest_least (n ∷ ns) m t e is =
    let low = same_some (lower_of n (lowest ns)) m e in elim (eqb_tells n t) [
      | inl same ↦ let eq = same.1 in least_first n m t (lowest ns) low (omega arith)
      | inr other ↦
          let more : list_any (λ u. u == t) ns ≡ true = sym (ap (λ b. b || list_any (λ u. u == t) ns) other.0) ∙ is in
          least_later n m t ns (lowest ns) refl low more (λ k q. lowest_least ns k t q more)
    ]

lowest_first : (f : ℕ → Bool) (ns : List ℕ) (n : ℕ)
    → ((t : ℕ) → 1 ≤ t → t < 1 + n → list_any (λ u. u == t) ns ≡ f t)
    → ((t : ℕ) → list_any (λ u. u == t) ns ≡ true → (1 ≤ t) × (t < 1 + n)) → lowest ns ≡ first f (numbers 1 n)
lowest_first f ns n says inside = by (lowest ns) refl
  where
    by : (o : Option ℕ) → lowest ns ≡ o → o ≡ first f (numbers 1 n)
    by None q = sym (first_none f 1 n (λ t a b. sym (says t a b) ∙ ap (list_any (λ u. u == t)) (empty ns q)))
      where
        empty : (ks : List ℕ) → lowest ks ≡ None → ks ≡ []
        empty [] w = refl
        empty (k ∷ ks) w = absurd (let g : Some (lower_of k (lowest ks)) ≡ None = w in cc)
    by (Some m) q =
        let is = lowest_in ns m q in let at = inside m is in
        sym (first_some f 1 n m at.0 at.1 (sym (says m at.0 at.1) ∙ is)
        (λ t a b. off t a b (list_any (λ u. u == t) ns) refl))
      where
        off : (t : ℕ) → 1 ≤ t → t < m → (b : Bool) → list_any (λ u. u == t) ns ≡ b → f t ≡ false
        off t a b false e = let at = inside m (lowest_in ns m q) in let top = at.1 in sym (says t a (omega arith)) ∙ e
        off t a b true e = absurd (let low = lowest_least ns m t q e in omega arith)

-- ---- those that are picked are kept

at_any : (ns : List ℕ) (i : ℕ) → i < length ns → list_any (λ u. u == slice_index_or ns i 0) ns ≡ true
at_any [] i l = absurd (omega arith)
at_any (n ∷ ns) zero l = in_first n n ns refl
at_any (n ∷ ns) (suc i) l = in_more n (slice_index_or ns i 0) ns (at_any ns i (omega arith))

passes_some : (f : ℕ × Since → Bool) (t : ℕ) (o : Option Since) → passes f t o ≡ true → is_some o ≡ true
passes_some f t None e = absurd (let g : false ≡ true = e in cc)
passes_some f t (Some x) e = refl

pub picked_here : (f : ℕ × Since → Bool) (es : List (ℕ × Since)) (i : ℕ) → IsDistinct nat_eq (keys_of es)
    → i < length (who_pass f es) → is_some (since_at es (slice_index_or (who_pass f es) i 0)) ≡ true
picked_here f es i once l = let t = slice_index_or (who_pass f es) i 0 in
    passes_some f t (since_at es t) (sym (any_of f t es once) ∙ at_any (who_pass f es) i l)

-- ---- what a tick and `late` find

module _ {O : Type 0} (xs : List (ℕ × Since)) (h : List Rec) (seats : List Seat) (boxes : List (Option O))
    (moment : ℤ) (i : AreSince xs h boxes)
    (seat : (t : ℕ) → 0 < t → t ≤ length seats → IsSeat (seat_at seats t) (is_here boxes t) h t)
    (places : length seats ≡ length boxes)
    (reaped : (t : ℕ) → 0 < t → t ≤ length boxes → is_here boxes t ≡ false → shut h t ≡ true)
    (once : IsDistinct nat_eq (keys_of xs)) (all : sessions h ≡ length boxes) where
  pub due_any : (t : ℕ) → 0 < t → t ≤ length boxes → list_any (λ u. u == t) (who_pass (is_due seats moment) xs)
      ≡ is_pinged h t moment
  due_any t from to = any_of (is_due seats moment) t xs once
      ∙ due_is xs h seats boxes moment i seat places reaped t from to

  pub due_once : (t : ℕ) → 0 < t → t ≤ length boxes → filter (λ u. u == t) (who_pass (is_due seats moment) xs)
      ≡ cond (is_pinged h t moment) (t ∷ []) []
  due_once t from to = once_of (is_due seats moment) t xs once ∙ ap
      (λ b. cond b (t ∷ []) []) (due_is xs h seats boxes moment i seat places reaped t from to)

  inside : (f : ℕ × Since → Bool) (t : ℕ) → list_any (λ u. u == t) (who_pass f xs) ≡ true → (0 < t)
      × (t ≤ length boxes)
  inside f t e = within xs h seats boxes moment i seat places reaped f t (sym (any_of f t xs once) ∙ e)

  -- nobody is due where nobody is to be pinged
  pub due_none : who_pass (is_due seats moment) xs ≡ [] → to_ping h moment ≡ []
  due_none e = filter_none (λ t. is_pinged h t moment) 1 (sessions h)
      (λ t a b. sym (due_any t a (omega arith)) ∙ ap (list_any (λ u. u == t)) e)

  pub due_some : who_pass (is_due seats moment) xs ≢ [] → to_ping h moment ≢ []
  due_some some none = some (none_among (who_pass (is_due seats moment) xs)
      (λ t. off t (list_any (λ u. u == t) (who_pass (is_due seats moment) xs)) refl))
    where
      off : (t : ℕ) (b : Bool) → list_any (λ u. u == t) (who_pass (is_due seats moment) xs) ≡ b
          → list_any (λ u. u == t) (who_pass (is_due seats moment) xs) ≡ false
      off t false e = e
      off t true e = absurd (let at = inside (is_due seats moment) t e in let to = at.1 in filter_some
          (λ u. is_pinged h u moment) 1 (sessions h) t at.0 (omega arith) (sym (due_any t at.0 at.1) ∙ e) none)

  pub late_found : lowest (who_pass (is_overdue seats moment) xs) ≡ late h moment
  late_found =
      lowest_first (λ t. is_late h t moment) (who_pass (is_overdue seats moment) xs) (sessions h)
      (λ t a b. any_of (is_overdue seats moment) t xs once
      ∙ late_is xs h seats boxes moment i seat places reaped t a (omega arith))
      (λ t e. let at = inside (is_overdue seats moment) t e in (at.0, (let to = at.1 in omega arith)))
