-- What stands in a map by the numbers of sessions, as a list of the first n.
use Rattle.std.proofs.lemmas.List.{map-append, length-map, set-get_or}
use Rattle.std.proofs.lemmas.Bool.Decides.{eqb_tells, nat_tests}
use Rattle.std.proofs.Common.{◌≡◌, ◌≢◌, inl, inr, ℕ, zero, suc, ◌+◌, ◌-◌, ◌<◌, ◌≤◌, Bool, true, false, not}
use Rattle.std.proofs.Common.{◌&&◌, cond, nat_eq, nat_lt, nat_le, List, [], ◌∷◌, ◌++◌, map, length, slice_get}
use Rattle.std.proofs.Common.{slice_set, slice_index_or, Option, Some, None, IsSome, Result, Ok, Err, is_ok}
use Rattle.std.proofs.Common.{arith, refl, sym, ap, ◌∙◌, subst, eq-eqb, ne_eqb}
use Rattle.std.specs.Option.{is_some}
use Rattle.std.specs.Prelude.{OnOk, IfOk, IfErr}
use Rattle.std.specs.Map.{lookup, lookup_key, values_of}
use Rattle.std.specs.Cmp.{nat_eq_equiv}
use Rattle.std.specs.Option.{option_map}
use Rattle.std.proofs.lemmas.Option.{slice_get-map}
use Rattle.indexmap.specs.IndexMap.{IndexMap, with_value_at, IsUnique}
use Rattle.indexmap.proofs.CallerLemmas.{updates-with_value_at}
use Rattle.roster.specs.LookBack.{numbers}
use Rattle.ledger.specs.declared.seat.Seat.{Seat}
use Rattle.ledger.specs.Ledger.{box_at, count_here}
use Rattle.ledger.specs.Seats.{no_seat, away, or_away, stands, seat_at, hears, IsSeated, IsCounted}
use Rattle.ledger.specs.Seats.{AreOpened, AreSeats, IsPlace, seats_of, AreBoxes, boxes_of, IsThere}
use Rattle.ledger.proofs.Opened.{numbers_push}
use Rattle.ledger.proofs.Counted.{count_same, count_more, count_less}

-- ---- a map of which one entry changed

-- what stands at t is w now, and nothing else changed
abbrev pub IsChanged : {X : Type 0} → List (ℕ × X) → List (ℕ × X) → ℕ → Option X → Type 0
IsChanged kept now t w = (q : ℕ) → lookup (nat_eq q) now ≡ cond (nat_eq t q) w (lookup (nat_eq q) kept)

module _ {X : Type 0} (kept now : List (ℕ × X)) (t : ℕ) (w : Option X) (c : IsChanged kept now t w) where
  changed_here : lookup (nat_eq t) now ≡ w
  changed_here = c t ∙ ap (λ b. cond b w (lookup (nat_eq t) kept)) (eq-eqb t t refl)

  changed_other : (q : ℕ) → t ≢ q → lookup (nat_eq q) now ≡ lookup (nat_eq q) kept
  changed_other q ne = c q ∙ ap (λ b. cond b w (lookup (nat_eq q) kept)) (ne_eqb t q ne)

  -- an entry was written or taken out
  opened_still : (n : ℕ) → 0 < t → t ≤ n → AreOpened kept n → AreOpened now n
  opened_still n from to opened q here =
      elim (eqb_tells t q) [
        | inl same ↦ let e = same.1 in ((omega arith), (omega arith))
        | inr other ↦ opened q (subst IsSome (changed_other q other.1) here)
      ]

  -- one came
  opened_more : (n : ℕ) → t ≡ n + 1 → AreOpened kept n → AreOpened now t
  opened_more n next opened q here =
      elim (eqb_tells t q) [
        | inl same ↦ let e = same.1 in ((omega arith), (omega arith))
        | inr other ↦ let was = opened q (subst IsSome (changed_other q other.1) here) in let to = was.1 in
            (was.0, (omega arith))
      ]

-- the same number
pub changed_at : {X : Type 0} (kept now : List (ℕ × X)) (k t : ℕ) (w : Option X) → k ≡ t → IsChanged kept now k w
    → IsChanged kept now t w
changed_at kept now k t w e c = subst (λ (j : ℕ). IsChanged kept now j w) e c

-- ---- an entry by its place

-- a key that is found by a number is that number
key_is : {X : Type 0} (kept : List (ℕ × X)) (n k : ℕ) → Some k ≡ lookup_key (nat_eq n) kept → k ≡ n
key_is [] n k e = absurd (let f : ◌≡◌ {A = Option ℕ} (Some k) None = e in cc)
key_is (x ∷ kept) n k e =
    elim (eqb_tells n x.0) [
      | inl same ↦ let f : Some k ≡ Some x.0 = e ∙ ap
          (λ b. cond b (Some x.0) (lookup_key (nat_eq n) kept)) same.0 in let g : k ≡ x.0 = cc in g ∙ sym same.1
      | inr other ↦ key_is kept n k (e ∙ ap (λ b. cond b (Some x.0) (lookup_key (nat_eq n) kept)) other.0)
    ]

-- a look-up by number finds an entry at its place
pub place_hashed : {X : Type 0} (kept : List (ℕ × X)) (s n i k : ℕ) (x : X) → n ≡ s → slice_get kept i ≡ Some (k, x)
    → Some x ≡ lookup (nat_eq n) kept → Some k ≡ lookup_key (nat_eq n) kept → IsPlace kept s i
place_hashed kept s n i k x same entry found key =
    record {
      value = x;
      entry = entry ∙ ap (λ (j : ℕ). Some (j, x)) (key_is kept n k key ∙ same);
      found = subst (λ (j : ℕ). lookup (nat_eq j) kept ≡ Some x) same (sym found);
    }

-- something stands there
pub place_missed : {X : Type 0} (kept : List (ℕ × X)) (s i : ℕ) → IsPlace kept s i
    → None ≡ slice_get (values_of kept) i → ⊥
place_missed {X} kept s i p none = let f : ◌≡◌ {A = Option X} None (Some p.value) = none ∙ slice_get-map
    (λ (e : ℕ × X). e.1) kept i ∙ ap (option_map (λ (e : ℕ × X). e.1)) p.entry in cc

module _ {X S : Type 0} (m : IndexMap ℕ X S) (s i : ℕ) (p : IsPlace m.entries s i) (x : X)
    (read : Some x ≡ slice_get (values_of m.entries) i) where
  value_is : x ≡ p.value
  value_is = let f : Some x ≡ Some p.value = read ∙ slice_get-map (λ (e : ℕ × X). e.1) m.entries i
      ∙ ap (option_map (λ (e : ℕ × X). e.1)) p.entry in cc

  -- what is read there is found
  pub place_found : Some x ≡ lookup (nat_eq s) m.entries
  place_found = ap (λ (y : X). Some y) value_is ∙ sym p.found

  -- what is written there is the session's
  pub place_changed : (w : X) → IsUnique nat_eq m → IsChanged m.entries (with_value_at m i w).entries s (Some w)
  place_changed w unique = (updates-with_value_at m i w nat_eq_equiv unique s p.value p.entry).0

-- nothing stands at a number that isn't opened yet
opened_none : {X : Type 0} (kept : List (ℕ × X)) (n t : ℕ) → AreOpened kept n → n < t → lookup (nat_eq t) kept ≡ None
opened_none {X} kept n t opened past = by (lookup (nat_eq t) kept) refl
  where
    by : (r : Option X) → lookup (nat_eq t) kept ≡ r → r ≡ None
    by None e = refl
    by (Some x) e = absurd (let to = (opened t (ap is_some e)).1 in omega arith)

-- ---- a list of the first n

length_numbers : (k n : ℕ) → length (numbers k n) ≡ n
length_numbers k zero = refl
length_numbers k (suc n) = ap suc (length_numbers (k + 1) n)

module _ {Y : Type 0} where
  made_at : (f : ℕ → Y) (d : Y) (k n i : ℕ) → i < n → slice_index_or (map f (numbers k n)) i d ≡ f (k + i)
  made_at f d k zero i l = absurd (omega arith)
  made_at f d k (suc n) zero l = let e : k ≡ k + 0 = omega arith in ap f e
  made_at f d k (suc n) (suc i) l = let e : k + 1 + i ≡ k + suc i = omega arith in
      made_at f d (k + 1) n i (omega arith) ∙ ap f e

  made_same : (f g : ℕ → Y) (k n : ℕ) → ((t : ℕ) → k ≤ t → t < k + n → f t ≡ g t)
      → map f (numbers k n) ≡ map g (numbers k n)
  made_same f g k zero same = refl
  made_same f g k (suc n) same = ap (λ x. x ∷ map f (numbers (k + 1) n)) (same k (omega arith) (omega arith)) ∙ ap
      (λ xs. g k ∷ xs) (made_same f g (k + 1) n (λ t a b. same t (omega arith) (omega arith)))

  made_set : (f g : ℕ → Y) (v : Y) (k n i : ℕ) → i < n → g (k + i) ≡ v → ((t : ℕ) → k + i ≢ t → g t ≡ f t)
      → map g (numbers k n) ≡ slice_set (map f (numbers k n)) i v
  made_set f g v k zero i l is others = absurd (omega arith)
  made_set f g v k (suc n) zero l is others =
      let e : k ≡ k + 0 = omega arith in
      ap (λ x. x ∷ map g (numbers (k + 1) n)) (ap g e ∙ is) ∙ ap
      (λ xs. v ∷ xs) (made_same g f (k + 1) n (λ t a b. others t (omega arith)))
  made_set f g v k (suc n) (suc i) l is others =
      let e : k + 1 + i ≡ k + suc i = omega arith in
      ap (λ x. x ∷ map g (numbers (k + 1) n)) (others k (omega arith)) ∙ ap (λ xs. f k ∷ xs)
      (made_set f g v (k + 1) n i (omega arith) (ap g e ∙ is) (λ t ne. others t (λ q. ne (e ∙ q))))

module _ {X Y : Type 0} (see : Option X → Y) where
  -- what is seen of each
  abbrev seen : List (ℕ × X) → ℕ → List Y
  seen kept n = map (λ t. see (lookup (nat_eq t) kept)) (numbers 1 n)

  seen_length : (kept : List (ℕ × X)) (n : ℕ) → length (seen kept n) ≡ n
  seen_length kept n = length-map (numbers 1 n) (λ t. see (lookup (nat_eq t) kept)) ∙ length_numbers 1 n

  seen_at : (kept : List (ℕ × X)) (d : Y) (n t : ℕ) → 0 < t → t ≤ n → slice_index_or (seen kept n) (t - 1) d
      ≡ see (lookup (nat_eq t) kept)
  seen_at kept d n t from to = let e : 1 + (t - 1) ≡ t = omega arith in made_at
      (λ s. see (lookup (nat_eq s) kept)) d 1 n (t - 1) (omega arith) ∙ ap (λ s. see (lookup (nat_eq s) kept)) e

  -- an entry was written or taken out
  seen_set : (kept now : List (ℕ × X)) (n t : ℕ) (w : Option X) → IsChanged kept now t w → 0 < t → t ≤ n
      → seen now n ≡ slice_set (seen kept n) (t - 1) (see w)
  seen_set kept now n t w c from to =
      let e : 1 + (t - 1) ≡ t = omega arith in
      made_set (λ s. see (lookup (nat_eq s) kept)) (λ s. see (lookup (nat_eq s) now)) (see w) 1 n (t - 1) (omega arith)
      (ap (λ s. see (lookup (nat_eq s) now)) e ∙ ap see (changed_here kept now t w c))
      (λ s ne. ap see (changed_other kept now t w c s (λ q. ne (e ∙ q))))

  -- one came
  seen_more : (kept now : List (ℕ × X)) (n t : ℕ) (w : Option X) → IsChanged kept now t w → t ≡ n + 1
      → seen now t ≡ seen kept n ++ see w ∷ []
  seen_more kept now n t w c next =
      let more : t ≡ suc n = omega arith in
      let e : 1 + n ≡ t = omega arith in let f = λ (s : ℕ). see (lookup (nat_eq s) now) in
      ap (λ m. map f (numbers 1 m)) more ∙ ap (map f) (numbers_push 1 n) ∙ map-append f (numbers 1 n) ((1 + n) ∷ [])
      ∙ ap (λ xs. xs ++ f (1 + n) ∷ []) (made_same f (λ s. see (lookup (nat_eq s) kept)) 1 n
      (λ s a b. ap see (changed_other kept now t w c s (omega arith))))
      ∙ ap (λ x. seen kept n ++ x ∷ []) (ap f e ∙ ap see (changed_here kept now t w c))

-- ---- what a call says where it was Ok, or where it wasn't

pub on_ok : {A E : Type 0} (P : Type 0) (r : Result A E) → is_ok r ≡ true → OnOk r P → P
on_ok P (Ok x) e p = p
on_ok P (Err y) e p = absurd (let f : false ≡ true = e in cc)

pub if_ok : {A E : Type 0} (P : A → Type 0) (r : Result A E) (x : A) → r ≡ Ok x → IfOk r P → P x
if_ok P r x e p = subst (λ q. IfOk q P) e p

pub if_err : {A E : Type 0} (P : E → Type 0) (r : Result A E) → is_ok r ≡ false → IfErr r P → (y : E) × P y
if_err P (Ok x) e p = absurd (let f : true ≡ false = e in cc)
if_err P (Err y) e p = (y, p)

-- ---- the seats

module _ (kept : List (ℕ × Seat)) (n : ℕ) (rows : List Seat) (view : seats_of kept n ≡ rows) where
  pub seats_many : length rows ≡ n
  seats_many = sym (ap length view) ∙ seen_length or_away kept n

  seat_is : (t : ℕ) → IsSeated rows t → seat_at rows t ≡ or_away (lookup (nat_eq t) kept)
  seat_is t seated =
      let many = seats_many in let from = seated.from_1 in let to = seated.opened in
      sym (ap (λ r. seat_at r t) view) ∙ seen_at or_away kept no_seat n t from (omega arith)

  -- a session's seat was found
  pub seat_found : (t : ℕ) (x : Seat) → AreOpened kept n → Some x ≡ lookup (nat_eq t) kept → IsSeated rows t
      × (x ≡ seat_at rows t)
  seat_found t x opened found =
      let many = seats_many in let is = opened t (ap is_some (sym found)) in let to = is.1 in
      let seated : IsSeated rows t = record { from_1 = is.0; opened = (omega arith) } in
      (seated, ap or_away found ∙ sym (seat_is t seated))

  -- it wasn't
  pub seat_missed : (t : ℕ) → None ≡ lookup (nat_eq t) kept → IsSeated rows t → seat_at rows t ≡ away
  seat_missed t missed seated = seat_is t seated ∙ sym (ap or_away missed)

  -- so it isn't where the session has one
  pub seat_stands : (t : ℕ) → IsSeated rows t → stands (seat_at rows t) ≡ true → None ≡ lookup (nat_eq t) kept → ⊥
  seat_stands t seated is missed = let f : false ≡ true = ap stands (sym (seat_missed t missed seated)) ∙ is in cc

  -- nor where it isn't gone
  pub seat_stays : (t : ℕ) → IsSeated rows t → (seat_at rows t).gone ≡ false → None ≡ lookup (nat_eq t) kept → ⊥
  seat_stays t seated is missed = let f : true ≡ false = ap
      (λ (s : Seat). s.gone) (sym (seat_missed t missed seated)) ∙ is in cc

  pub hears_found : (t : ℕ) (x : Seat) → AreOpened kept n → Some x ≡ lookup (nat_eq t) kept → not x.shut ≡ hears rows t
  hears_found t x opened found =
      let is = seat_found t x opened found in let from = is.0.from_1 in let to = is.0.opened in
      let above : nat_lt 0 t ≡ true = grind (arith, nat_tests) in
      let below : nat_le t (length rows) ≡ true = grind (arith, nat_tests) in
      rw (above, below) (ap (λ (s : Seat). not s.shut) is.1)

  pub hears_missed : (t : ℕ) → None ≡ lookup (nat_eq t) kept → false ≡ hears rows t
  hears_missed t missed = by (nat_lt 0 t) (nat_le t (length rows)) refl refl
    where
      by : (a b : Bool) → nat_lt 0 t ≡ a → nat_le t (length rows) ≡ b → false ≡ (a && b && not (seat_at rows t).shut)
      by false b above below = refl
      by true false above below = refl
      by true true above below =
          let from : 0 < t = grind (arith, nat_tests) in let to : t ≤ length rows = grind (arith, nat_tests) in
          ap (λ (s : Seat). not s.shut) (sym (seat_missed t missed (record { from_1 = from; opened = to })))

  pub seats_counted : (held : ℕ) (to_sweep : List ℕ) (most : ℕ) → AreSeats kept n held to_sweep most
      → IsCounted rows held to_sweep most
  seats_counted held to_sweep most i = subst (λ (r : List Seat). IsCounted r held to_sweep most) view i.counted

  module _ (now : List (ℕ × Seat)) (t : ℕ) (w : Option Seat) (c : IsChanged kept now t w) where
    -- a seat was written or taken out
    pub seats_set : IsSeated rows t → seats_of now n ≡ slice_set rows (t - 1) (or_away w)
    seats_set seated =
        let many = seats_many in let from = seated.from_1 in let to = seated.opened in
        seen_set or_away kept now n t w c from (omega arith) ∙ ap
        (λ (r : List Seat). slice_set r (t - 1) (or_away w)) view

    pub kept_set : (held : ℕ) (to_sweep : List ℕ) (most : ℕ) → AreOpened kept n → IsSeated rows t
        → IsCounted (slice_set rows (t - 1) (or_away w)) held to_sweep most → AreSeats now n held to_sweep most
    kept_set held to_sweep most opened seated counted =
        let many = seats_many in let from = seated.from_1 in let to = seated.opened in
        record {
          opened = opened_still kept now t w c n from (omega arith) opened;
          counted = subst (λ (r : List Seat). IsCounted r held to_sweep most) (sym (seats_set seated)) counted;
        }

    -- one came
    pub seats_more : t ≡ length rows + 1 → seats_of now t ≡ rows ++ or_away w ∷ []
    seats_more next =
        let many = seats_many in
        seen_more or_away kept now n t w c (omega arith) ∙ ap (λ (r : List Seat). r ++ or_away w ∷ []) view

    pub kept_more : (held : ℕ) (to_sweep : List ℕ) (most : ℕ) → AreOpened kept n → t ≡ length rows + 1
        → IsCounted (rows ++ or_away w ∷ []) held to_sweep most → AreSeats now t held to_sweep most
    kept_more held to_sweep most opened next counted =
        let many = seats_many in
        record {
          opened = opened_more kept now t w c n (omega arith) opened;
          counted = subst (λ (r : List Seat). IsCounted r held to_sweep most) (sym (seats_more next)) counted;
        }

-- ---- the outboxes

module _ {O : Type 0} (kept : List (ℕ × O)) (n : ℕ) (boxes : List (Option O)) (view : boxes_of kept n ≡ boxes) where
  boxes_many : length boxes ≡ n
  boxes_many = sym (ap length view) ∙ seen_length (λ o. o) kept n

  pub box_is : (t : ℕ) → 0 < t → t ≤ length boxes → box_at boxes t ≡ lookup (nat_eq t) kept
  box_is t from to = let many = boxes_many in sym (ap (λ r. box_at r t) view) ∙ seen_at
      (λ o. o) kept None n t from (omega arith)

  -- whether a session is there
  pub box_there : (k t : ℕ) → k ≡ t → AreOpened kept n → is_some (lookup (nat_eq k) kept) ≡ true → IsThere boxes t
  box_there k t e opened found =
      let at : is_some (lookup (nat_eq t) kept)
      ≡ true = ap (λ (j : ℕ). is_some (lookup (nat_eq j) kept)) (sym e) ∙ found in
      let many = boxes_many in
      let is = opened t at in let from = is.0 in let to = is.1 in let below : t ≤ length boxes = omega arith in
      record { from_1 = from; opened = below; here = ap (λ o. is_some o) (box_is t from below) ∙ at }

  pub box_stands : (k t : ℕ) → k ≡ t → IsThere boxes t → is_some (lookup (nat_eq k) kept) ≡ true
  box_stands k t e there = ap (λ (j : ℕ). is_some (lookup (nat_eq j) kept)) e ∙ ap
      (λ o. is_some o) (sym (box_is t there.from_1 there.opened)) ∙ there.here

  pub box_missed : (k t : ℕ) → k ≡ t → IsThere boxes t → None ≡ lookup (nat_eq k) kept → ⊥
  box_missed k t e there missed = let f : false ≡ true = ap (λ o. is_some o) missed ∙ box_stands k t e there in cc

  -- its outbox was found
  pub box_found : (k t : ℕ) (x : O) → k ≡ t → IsThere boxes t → Some x ≡ lookup (nat_eq k) kept
      → box_at boxes t ≡ Some x
  box_found k t x e there found = box_is t there.from_1 there.opened
      ∙ sym (found ∙ ap (λ (j : ℕ). lookup (nat_eq j) kept) e)

  module _ (now : List (ℕ × O)) (t : ℕ) (w : Option O) (c : IsChanged kept now t w) where
    -- an outbox was written or given up
    pub boxes_set : IsThere boxes t → boxes_of now n ≡ slice_set boxes (t - 1) w
    boxes_set there =
        let many = boxes_many in let from = there.from_1 in let to = there.opened in
        seen_set (λ o. o) kept now n t w c from (omega arith) ∙ ap
        (λ (r : List (Option O)). slice_set r (t - 1) w) view

    boxes_still : AreBoxes kept n → IsThere boxes t → length now ≡ count_here (slice_set boxes (t - 1) w)
        → AreBoxes now n
    boxes_still i there counted =
        let many = boxes_many in let from = there.from_1 in let to = there.opened in
        record {
          opened = opened_still kept now t w c n from (omega arith) i.opened;
          counted = counted ∙ sym (ap count_here (boxes_set there));
        }

    -- one came
    pub boxes_more : t ≡ length boxes + 1 → boxes_of now t ≡ boxes ++ w ∷ []
    boxes_more next = let many = boxes_many in seen_more (λ o. o) kept now n t w c (omega arith) ∙ ap
        (λ (r : List (Option O)). r ++ w ∷ []) view

  boxes_count : AreBoxes kept n → length kept ≡ count_here boxes
  boxes_count i = i.counted ∙ ap count_here view

  pub box_put : (now : List (ℕ × O)) (t : ℕ) (v : O) → AreBoxes kept n → IsThere boxes t
      → IsChanged kept now t (Some v) → length now ≡ length kept → AreBoxes now n
  box_put now t v i there c same =
      let from = there.from_1 in let to = there.opened in let l : t - 1 < length boxes = omega arith in
      boxes_still now t (Some v) c i there (same ∙ boxes_count i ∙ sym (count_same boxes (t - 1) v l there.here))

  -- what stood there was written again
  pub box_same : (now : List (ℕ × O)) (t : ℕ) (v : O) → IsThere boxes t → IsChanged kept now t (Some v)
      → box_at boxes t ≡ Some v → boxes_of now n ≡ boxes
  box_same now t v there c at = boxes_set now t (Some v) c there ∙ ap (λ o. slice_set boxes (t - 1) o) (sym at)
      ∙ set-get_or boxes (t - 1) None

  pub box_gone : (now : List (ℕ × O)) (t : ℕ) → AreBoxes kept n → IsThere boxes t → IsChanged kept now t None
      → length now + 1 ≡ length kept → AreBoxes now n
  box_gone now t i there c less =
      let from = there.from_1 in let to = there.opened in let l : t - 1 < length boxes = omega arith in
      let all = boxes_count i in let one = count_less boxes (t - 1) l there.here in
      boxes_still now t None c i there (omega arith)

  -- no outbox is there yet of the session that is next
  pub box_none : (t : ℕ) → AreBoxes kept n → t ≡ length boxes + 1 → lookup (nat_eq t) kept ≡ None
  box_none t i next = let many = boxes_many in opened_none kept n t i.opened (omega arith)

  pub box_came : (now : List (ℕ × O)) (t : ℕ) (v : O) → AreBoxes kept n → t ≡ length boxes + 1
      → IsChanged kept now t (Some v) → length now ≡ length kept + 1 → AreBoxes now t
  box_came now t v i next c more =
      let many = boxes_many in let all = boxes_count i in
      let counted : length now ≡ count_here (boxes ++ Some v ∷ []) = more ∙ ap
      (λ (m : ℕ). m + 1) all ∙ sym (count_more boxes v) in
      record {
        opened = opened_more kept now t (Some v) c n (omega arith) i.opened;
        counted = counted ∙ sym (ap count_here (boxes_more now t (Some v) c next));
      }
