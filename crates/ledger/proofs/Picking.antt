-- Sessions that pass, from whoever was heard of longest ago on.
use Rattle.std.proofs.Common.{arith, inl, inr, ◌-◌, ◌+◌, ◌<◌, ◌≢◌, length, length-append, take, is_some, not, ◌&&◌}
use Rattle.std.proofs.Common.{min, ◌≡◌, ℕ, ℤ, ◌+ℤ◌, ◌≤ℤ◌, int_le, Bool, true, false, T, cond, nat_eq, List, [], ◌∷◌}
use Rattle.std.proofs.Common.{◌++◌, Option, Some, None, refl, sym, ap, ◌∙◌, subst, append_assoc}
use Rattle.std.proofs.lemmas.List.{append-nil, take_all}
use Rattle.std.proofs.lemmas.Bool.Decides.{eqb_tells}
use Rattle.std.specs.Option.{option_map_or}
use Rattle.std.proofs.lemmas.Int.{by_lt_z, ints}
use Rattle.std.specs.Map.{lookup, lookup_entry, remove_entry, set_value}
use Rattle.lru.specs.LruCache.{lru_cache, put_entries}
use Rattle.ledger.specs.declared.last_heard.Since.{Since}
use Rattle.chronicle.specs.Idle.{PING_AFTER, LATE_AFTER}
use Rattle.ledger.specs.declared.seat.Seat.{Seat}
use Rattle.ledger.specs.Seats.{hears}
use Rattle.ledger.specs.LastHeard.{since_at, Falls, is_before, is_due, is_overdue}
use Rattle.ledger.specs.LastHeard.{who_pass, lower, lower_of, lowest, with_ping}

pub picked-append : (f : ℕ × Since → Bool) (xs ys : List (ℕ × Since))
    → who_pass f (xs ++ ys) ≡ who_pass f ys ++ who_pass f xs
picked-append f [] ys = sym (append-nil (who_pass f ys))
picked-append f (e ∷ xs) ys = ap (λ (ns : List ℕ). ns ++ cond (f e) (e.0 ∷ []) []) (picked-append f xs ys)
    ∙ append_assoc (who_pass f ys) (who_pass f xs) (cond (f e) (e.0 ∷ []) [])

pub le_refl : (a : ℤ) → a ≤ℤ a
le_refl a = by_lt_z a a (λ less. absurd (let f : ⊥ = omega (arith, ints) in f)) (λ more. more)

pub le_trans : (a b c : ℤ) → a ≤ℤ b → b ≤ℤ c → a ≤ℤ c
le_trans a b c l m = by_lt_z c a (λ less. absurd (let f : ⊥ = omega (arith, ints) in f)) (λ more. more)

sum_le : (a b span moment : ℤ) → a ≤ℤ b → (b +ℤ span) ≤ℤ moment → (a +ℤ span) ≤ℤ moment
sum_le a b span moment l m = by_lt_z moment (a +ℤ span) (λ less. absurd (let f : ⊥ = omega (arith, ints) in f))
    (λ more. more)

-- what is later than one that isn't long enough before a moment isn't so either
later : (a b span moment : ℤ) → a ≤ℤ b → int_le (a +ℤ span) moment ≡ false → int_le (b +ℤ span) moment ≡ false
later a b span moment l e = by (int_le (b +ℤ span) moment) refl
  where
    by : (c : Bool) → int_le (b +ℤ span) moment ≡ c → c ≡ false
    by false q = refl
    by true q = absurd (let p : (b +ℤ span) ≤ℤ moment = record { le = subst T (sym q) tt } in
        let r = sum_le a b span moment l p in subst T e r.le)

falls_to : (latest : ℤ) (xs ys : List (ℕ × Since)) (e : ℕ × Since) → Falls latest (xs ++ e ∷ ys) → e.1.moment ≤ℤ latest
falls_to latest [] ys e i = i.0
falls_to latest (x ∷ xs) ys e i = le_trans e.1.moment x.1.moment latest (falls_to x.1.moment xs ys e i.1) i.0

-- none passes before one that isn't idle for so long
pub none_picked : (f : ℕ × Since → Bool) (span moment latest : ℤ) (xs ys : List (ℕ × Since)) (e : ℕ × Since)
    → ((x : ℕ × Since) → is_before x.1 span moment ≡ false → f x ≡ false)
    → Falls latest (xs ++ e ∷ ys) → is_before e.1 span moment ≡ false → who_pass f (xs ++ e ∷ []) ≡ []
none_picked f span moment latest [] ys e only i early = ap (λ (b : Bool). cond b (e.0 ∷ []) []) (only e early)
none_picked f span moment latest (x ∷ xs) ys e only i early =
    let none = none_picked f span moment x.1.moment xs ys e only i.1 early in
    let apart : is_before x.1 span moment ≡ false = later e.1.moment x.1.moment span moment
    (falls_to x.1.moment xs ys e i.1) early in
    ap (λ (ns : List ℕ). ns ++ cond (f x) (x.0 ∷ []) []) none ∙ ap (λ (b : Bool). cond b (x.0 ∷ []) []) (only x apart)

-- ---- sessions that were seen so far, of all

-- those that pass of the ones seen so far
pub record IsSeen (f : ℕ × Since → Bool) (all rest : List (ℕ × Since)) (found : List ℕ) : Type 0 where
  pub seen : List (ℕ × Since)
  pub parts : all ≡ rest ++ seen
  pub found_is : found ≡ who_pass f seen

pub seen_none : (f : ℕ × Since → Bool) (all rest : List (ℕ × Since)) (found : List ℕ) → rest ≡ all → found ≡ []
    → IsSeen f all rest found
seen_none f all rest found er ef = record { seen = []; parts = sym er ∙ sym (append-nil rest); found_is = ef }

pub seen_more : (f : ℕ × Since → Bool) (all rest left : List (ℕ × Since)) (found more : List ℕ) (e : ℕ × Since)
    → IsSeen f all rest found → rest ≡ left ++ e ∷ [] → more ≡ found ++ cond (f e) (e.0 ∷ []) []
    → IsSeen f all left more
seen_more f all rest left found more e i er em =
    record {
      seen = e ∷ i.seen;
      parts = i.parts ∙ ap (λ (xs : List (ℕ × Since)). xs ++ i.seen) er ∙ append_assoc left (e ∷ []) i.seen;
      found_is = em ∙ ap (λ (ns : List ℕ). ns ++ cond (f e) (e.0 ∷ []) []) i.found_is;
    }

pub seen_all : (f : ℕ × Since → Bool) (all rest : List (ℕ × Since)) (found : List ℕ) → IsSeen f all rest found
    → rest ≡ [] → found ≡ who_pass f all
seen_all f all rest found i er = i.found_is
    ∙ sym (ap (who_pass f) (i.parts ∙ ap (λ (xs : List (ℕ × Since)). xs ++ i.seen) er))

pub seen_enough : (f : ℕ × Since → Bool) (span moment latest : ℤ) (all rest left : List (ℕ × Since))
    (found : List ℕ) (e : ℕ × Since) → ((x : ℕ × Since) → is_before x.1 span moment ≡ false → f x ≡ false)
    → Falls latest all → IsSeen f all rest found → rest ≡ left ++ e ∷ [] → is_before e.1 span moment ≡ false
    → found ≡ who_pass f all
seen_enough f span moment latest all rest left found e only i s er early =
    let parts : all ≡ left ++ e ∷ s.seen = s.parts ∙ ap (λ (xs : List (ℕ × Since)). xs ++ s.seen) er
    ∙ append_assoc left (e ∷ []) s.seen in
    let none : who_pass f (left ++ e ∷ []) ≡ [] = none_picked f span moment latest left s.seen e only
    (subst (Falls latest) parts i) early in
    let whole : who_pass f all ≡ who_pass f s.seen ++ who_pass f (left ++ e ∷ []) = ap (who_pass f)
    (s.parts ∙ ap (λ (xs : List (ℕ × Since)). xs ++ s.seen) er) ∙ picked-append f (left ++ e ∷ []) s.seen in
    s.found_is ∙ sym (whole ∙ ap (λ (ns : List ℕ). who_pass f s.seen ++ ns) none ∙ append-nil (who_pass f s.seen))

-- ---- a ping is noted

abbrev moment_or : Since → Option Since → ℤ
moment_or z None = z.moment
moment_or z (Some w) = w.moment

noted_by : (t : ℕ) (y : ℕ × Since) (xs : List (ℕ × Since)) (x : Since) (b : Bool)
    → cond b (Some y.1) (lookup (nat_eq t) xs) ≡ Some x → (since_at xs t ≡ Some x
    → set_value (nat_eq t) xs (record { moment = x.moment; pinged = true }) ≡ with_ping t xs)
    → cond b ((y.0, record { moment = x.moment; pinged = true }) ∷ xs)
    (y ∷ set_value (nat_eq t) xs (record { moment = x.moment; pinged = true }))
    ≡ cond b ((y.0, record { moment = y.1.moment; pinged = true }) ∷ xs) (y ∷ with_ping t xs)
noted_by t y xs x true same rest = ap
    (λ (o : Option Since). (y.0, record { moment = moment_or y.1 o; pinged = true }) ∷ xs) (sym same)
noted_by t y xs x false same rest = ap (λ es. y ∷ es) (rest same)

pub ping_noted : (t : ℕ) (xs : List (ℕ × Since)) (x : Since) → since_at xs t ≡ Some x
    → set_value (nat_eq t) xs (record { moment = x.moment; pinged = true }) ≡ with_ping t xs
ping_noted t [] x e = refl
ping_noted t (y ∷ xs) x e = noted_by t y xs x (nat_eq t y.0) e (ping_noted t xs x)

-- ---- a session is noted

found_known : (t : ℕ) (xs all : List (ℕ × Since)) (cap : ℕ) (x : Since) → is_some (since_at xs t) ≡ true
    → option_map_or (λ e. (e.0, x) ∷ remove_entry (nat_eq t) all) (lookup_entry (nat_eq t) xs)
    ((t, x) ∷ take (cap - 1) all) ≡ (t, x) ∷ remove_entry (nat_eq t) all
found_known t [] all cap x h = absurd (let f : false ≡ true = h in cc)
found_known t (y ∷ ys) all cap x h = elim (eqb_tells t y.0) [
  | inl same ↦ rw same.0 (ap (λ (k : ℕ). (k, x) ∷ remove_entry (nat_eq t) all) (sym same.1))
  | inr other ↦ rw other.0
      (found_known t ys all cap x (sym (ap (λ b. is_some (cond b (Some y.1) (since_at ys t))) other.0) ∙ h))
]

-- the same key stands first with another value
pub put_known : (t : ℕ) (xs : List (ℕ × Since)) (cap : ℕ) (x : Since) → is_some (since_at xs t) ≡ true
    → put_entries nat_eq (lru_cache xs cap) t x ≡ (t, x) ∷ remove_entry (nat_eq t) xs
put_known t xs cap x here = found_known t xs xs cap x here

absent : (t : ℕ) (xs : List (ℕ × Since)) → since_at xs t ≡ None → lookup_entry (nat_eq t) xs ≡ None
absent t [] e = refl
absent t (y ∷ ys) e = elim (eqb_tells t y.0) [
  | inl same ↦ absurd (let f : Some y.1 ≡ None = sym (ap (λ b. cond b (Some y.1) (since_at ys t)) same.0) ∙ e in cc)
  | inr other ↦ rw other.0 (absent t ys (sym (ap (λ b. cond b (Some y.1) (since_at ys t)) other.0) ∙ e))
]

-- a key that is new stands before all others
pub put_new : (t : ℕ) (xs : List (ℕ × Since)) (cap : ℕ) (x : Since) → since_at xs t ≡ None → length xs < cap
    → put_entries nat_eq (lru_cache xs cap) t x ≡ (t, x) ∷ xs
put_new t xs cap x none few = ap (λ o. option_map_or (λ e. (e.0, x) ∷ remove_entry (nat_eq t) xs) o
    ((t, x) ∷ take (cap - 1) xs)) (absent t xs none) ∙ ap (λ ys. (t, x) ∷ ys) (take_all (cap - 1) xs (omega arith))

pub not_yet_due : (seats : List Seat) (moment : ℤ) (e : ℕ × Since) → is_before e.1 PING_AFTER moment ≡ false
    → is_due seats moment e ≡ false
not_yet_due seats moment e early = ap (λ b. b && (hears seats e.0 && not e.1.pinged)) early

pub not_yet_late : (seats : List Seat) (moment : ℤ) (e : ℕ × Since) → is_before e.1 LATE_AFTER moment ≡ false
    → is_overdue seats moment e ≡ false
not_yet_late seats moment e early = ap (λ b. b && hears seats e.0) early

-- one that passes is found among all
pub seen_some : (f : ℕ × Since → Bool) (all rest left : List (ℕ × Since)) (found : List ℕ) (e : ℕ × Since)
    → IsSeen f all rest found → rest ≡ left ++ e ∷ [] → f e ≡ true → who_pass f all ≢ []
seen_some f all rest left found e i er passes none =
    let s = seen_more f all rest left found (found ++ cond (f e) (e.0 ∷ []) []) e i er refl in
    let parts : who_pass f all ≡ who_pass f s.seen ++ who_pass f left = ap (who_pass f) s.parts
    ∙ picked-append f left s.seen in
    let found_is : found ++ e.0 ∷ [] ≡ who_pass f s.seen = ap
    (λ (b : Bool). found ++ cond b (e.0 ∷ []) []) (sym passes) ∙ s.found_is in
    let sizes : length (who_pass f s.seen ++ who_pass f left)
    ≡ length (who_pass f s.seen) + length (who_pass f left) = length-append (who_pass f s.seen) (who_pass f left) in
    let more : length (found ++ e.0 ∷ []) ≡ length found + 1 = length-append found (e.0 ∷ []) in
    let zero_ : length (who_pass f s.seen ++ who_pass f left) ≡ 0 = ap length (sym parts ∙ none) in
    let same = ap length found_is in omega arith

lowest_after : (n k : ℕ) (o : Option ℕ) → lower_of k (lower o n) ≡ min (lower_of k o) n
lowest_after n k None = refl
lowest_after n k (Some m) = omega arith

pub lowest_more : (ns : List ℕ) (n : ℕ) → lowest (ns ++ n ∷ []) ≡ lower (lowest ns) n
lowest_more [] n = refl
lowest_more (k ∷ ns) n = ap (λ (o : Option ℕ). Some (lower_of k o)) (lowest_more ns n) ∙ ap
    (λ (m : ℕ). Some m) (lowest_after n k (lowest ns))

pub due_passes : (seats : List Seat) (moment : ℤ) (e : ℕ × Since) → is_before e.1 PING_AFTER moment ≡ true
    → hears seats e.0 ≡ true → e.1.pinged ≡ false → is_due seats moment e ≡ true
due_passes seats moment e idle open_ new = ap (λ b. b && (hears seats e.0 && not e.1.pinged)) idle ∙ ap
    (λ b. b && not e.1.pinged) open_ ∙ ap not new

pub late_passes : (seats : List Seat) (moment : ℤ) (e : ℕ × Since) → is_before e.1 LATE_AFTER moment ≡ true
    → hears seats e.0 ≡ true → is_overdue seats moment e ≡ true
late_passes seats moment e idle open_ = ap (λ b. b && hears seats e.0) idle ∙ open_
