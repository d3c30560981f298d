-- What stands ready is what the seats say.
use Rattle.std.proofs.lemmas.List.{length-set, get_or-set_same, get_or-set_other, get_or_append_left, get_or_push}
use Rattle.std.proofs.lemmas.List.Elements.{filter-append}
use Rattle.std.proofs.lemmas.List.Sums.{sum_by_push, sum_by-set, get_or-le-sum_by}
use Rattle.std.proofs.lemmas.Bool.Decides.{eqb_tells}
use Rattle.std.proofs.Common.{◌≡◌, ◌≢◌, inl, inr, ℕ, ◌+◌, ◌-◌, ◌<◌, ◌≤◌, Bool, true, false, not, ◌&&◌, if◌then◌else◌}
use Rattle.std.proofs.Common.{cond, suc, List, [], ◌∷◌, ◌++◌, filter, length, drop, slice_set, slice_index_or, Option}
use Rattle.std.proofs.Common.{Some, None, arith, refl, sym, ap, ◌∙◌, append-nil, length-append}
use Rattle.std.specs.Option.{is_some}
use Rattle.roster.specs.LookBack.{numbers}
use Rattle.ledger.specs.declared.seat.Seat.{Seat}
use Rattle.ledger.specs.Ledger.{first, here_by, count_here}
use Rattle.ledger.specs.Seats.{no_seat, away, seat_at, kept_by, open_by, sweeps, at_its_place, IsSeated, IsCounted}
use Rattle.ledger.proofs.Listed.{first_is, filter_same, placed_picked, first_gone, picked_up, picked_holds}
use Rattle.ledger.proofs.Opened.{numbers_push}

-- ---- who is to be swept where a seat changed

sweeps_same : (seats : List Seat) (s : ℕ) (v : Seat) → 0 < s → s ≤ length seats
    → sweeps (slice_set seats (s - 1) v) s ≡ (v.shut && not v.gone)
sweeps_same seats s v from to = let l : s - 1 < length seats = omega arith in
    ap (λ (x : Seat). x.shut && not x.gone) (get_or-set_same seats (s - 1) v no_seat l)

sweeps_other : (seats : List Seat) (s t : ℕ) (v : Seat) → 0 < s → 0 < t → t ≢ s
    → sweeps (slice_set seats (s - 1) v) t ≡ sweeps seats t
sweeps_other seats s t v from above ne = let apart : t - 1 ≢ s - 1 = λ e. ne (omega arith) in
    ap (λ (x : Seat). x.shut && not x.gone) (get_or-set_other seats (s - 1) (t - 1) v no_seat apart)

both : (a b : Bool) → (a && not b) ≡ true → (a ≡ true) × (b ≡ false)
both true true e = absurd (let f : false ≡ true = e in cc)
both true false e = (refl, refl)
both false b e = absurd (let f : false ≡ true = e in cc)

-- who is next to be swept was opened and is shut, and isn't gone
pub next_seat : (seats : List Seat) (s : ℕ) → first (sweeps seats) (numbers 1 (length seats)) ≡ Some s → (0 < s)
    × (s ≤ length seats) × ((seat_at seats s).shut ≡ true) × ((seat_at seats s).gone ≡ false)
next_seat seats s e = let r = first_is (sweeps seats) 1 (length seats) s e in let b = both (seat_at seats s).shut
    (seat_at seats s).gone r.0 in ((let a = r.1 in omega arith), (let a = r.2 in omega arith), b.0, b.1)

-- what it says that a session is shut now
pub ends_says : (s a b : Bool) → (s && (not a && not b)) ≡ true → (s ≡ true) × (a ≡ false) × (b ≡ false)
ends_says true false false e = (refl, refl, refl)
ends_says true false true e = absurd (let f : false ≡ true = e in cc)
ends_says true true b e = absurd (let f : false ≡ true = e in cc)
ends_says false a b e = absurd (let f : false ≡ true = e in cc)

-- where it isn't, it stands as before
pub ends_not : (s a b : Bool) → (s && (not a && not b)) ≡ false → (a ≡ true → s ≡ true)
    → (◌≡◌ {A = ℕ} (if b then 0 else (if s then 1 else 2)) (if b then 0 else (if a then 1 else 2)))
    × (◌≡◌ {A = ℕ} (if b then 0 else (if s then 0 else 2)) (if b then 0 else (if a then 0 else 2)))
    × ((s && not b) ≡ (a && not b))
ends_not true true b e stays = (refl, refl, refl)
ends_not true false true e stays = (refl, refl, refl)
ends_not true false false e stays = absurd (let f : true ≡ false = e in cc)
ends_not false true b e stays = absurd (let f : false ≡ true = stays refl in cc)
ends_not false false b e stays = (refl, refl, refl)

module _ (seats : List Seat) (held : ℕ) (to_sweep : List ℕ) (room : ℕ) (i : IsCounted seats held to_sweep room) where
  -- more room
  pub roomier : (more : ℕ) → room ≤ more → IsCounted seats held to_sweep more
  roomier more l = record { held = i.held; listed = i.listed; open_ = i.open_; room = (let r = i.room in omega arith) }

  -- ---- a seat changed in nothing that counts

  pub unchanged : (s : ℕ) (was v : Seat) → 0 < s → s ≤ length seats → was ≡ seat_at seats s
      → kept_by v ≡ kept_by was → open_by v ≡ open_by was → (v.shut && not v.gone) ≡ (was.shut && not was.gone)
      → IsCounted (slice_set seats (s - 1) v) held to_sweep room
  unchanged s was v from to is kept open_ sweeps_ =
      let l : s - 1 < length seats = omega arith in
      let len : length (slice_set seats (s - 1) v) ≡ length seats = simp length-set in
      let sum = sum_by-set kept_by seats (s - 1) v no_seat l in
      let one : kept_by v ≡ kept_by (seat_at seats s) = kept ∙ ap kept_by is in let all = i.held in
      let sum2 = sum_by-set open_by seats (s - 1) v no_seat l in
      let two : open_by v ≡ open_by (seat_at seats s) = open_ ∙ ap open_by is in let both = i.open_ in
      let agree : (t : ℕ) → 1 ≤ t → t < 1 + length seats → sweeps seats t
      ≡ sweeps (slice_set seats (s - 1) v) t = λ t a b. elim (eqb_tells t s) [
        | inl same ↦ ap (sweeps seats) same.1 ∙ ap (λ (x : Seat). x.shut && not x.gone) (sym is) ∙ sym sweeps_
            ∙ sym (sweeps_same seats s v from to) ∙ ap (sweeps (slice_set seats (s - 1) v)) (sym same.1)
        | inr other ↦ sym (sweeps_other seats s t v from a other.1)
      ] in
      record {
        held = (omega arith);
        listed = i.listed ∙ filter_same (sweeps seats) (sweeps (slice_set seats (s - 1) v)) 1 (length seats) agree
            ∙ ap (λ (n : ℕ). filter (sweeps (slice_set seats (s - 1) v)) (numbers 1 n)) (sym len);
        open_ = (omega arith);
        room = i.room;
      }

  -- ---- a session is shut

  open_seat : (s : ℕ) (was : Seat) → was ≡ seat_at seats s → was.shut ≡ false → was.gone ≡ false
      → (kept_by (seat_at seats s) ≡ 2) × (open_by (seat_at seats s) ≡ 2) × (sweeps seats s ≡ false)
  open_seat s was is es eg = (
    ap kept_by (sym is) ∙ ap (λ g. if g then 0 else (if was.shut then 1 else 2)) eg ∙ ap (λ b. if b then 1 else 2) es,
    ap open_by (sym is) ∙ ap (λ g. if g then 0 else (if was.shut then 0 else 2)) eg ∙ ap (λ b. if b then 0 else 2) es,
    ap (λ (x : Seat). x.shut && not x.gone) (sym is) ∙ ap (λ b. b && not was.gone) es,
  )

  pub shut_kept : (s : ℕ) (was : Seat) → 0 < s → s ≤ length seats → was ≡ seat_at seats s → was.shut ≡ false
      → was.gone ≡ false → 1 ≤ held
  shut_kept s was from to is es eg =
      let l : s - 1 < length seats = omega arith in
      let o = open_seat s was is es eg in
      let part = get_or-le-sum_by kept_by seats (s - 1) no_seat l in let two = o.0 in let all = i.held in omega arith

  pub shut_room : (s : ℕ) (was : Seat) → 0 < s → s ≤ length seats → was ≡ seat_at seats s → was.shut ≡ false
      → was.gone ≡ false → length to_sweep < room
  shut_room s was from to is es eg =
      let l : s - 1 < length seats = omega arith in
      let o = open_seat s was is es eg in
      let part = get_or-le-sum_by open_by seats (s - 1) no_seat l in
      let two = o.1 in let all = i.open_ in let r = i.room in omega arith

  pub list_up : (j k : ℕ) → j ≤ k → k < length to_sweep → slice_index_or to_sweep j 0 ≤ slice_index_or to_sweep k 0
  list_up j k a l = rw i.listed (picked_up (sweeps seats) 1 (length seats) j k a (rw i.listed at l))

  pub list_absent : (s : ℕ) (was : Seat) → was ≡ seat_at seats s → was.shut ≡ false → was.gone ≡ false → (j : ℕ)
      → j < length to_sweep → slice_index_or to_sweep j 0 ≢ s
  list_absent s was is es eg j l e =
      let h : sweeps seats (slice_index_or to_sweep j 0)
      ≡ true = rw i.listed (picked_holds (sweeps seats) (numbers 1 (length seats)) j (rw i.listed at l)) in
      let o = open_seat s was is es eg in let f : true ≡ false = sym h ∙ ap (sweeps seats) e ∙ o.2 in cc

  pub shut_counted : (s more : ℕ) (was v : Seat) (now : List ℕ) → 0 < s → s ≤ length seats → was ≡ seat_at seats s
      → was.shut ≡ false → was.gone ≡ false → v.shut ≡ true → v.gone ≡ false → now ≡ at_its_place s to_sweep
      → length now ≡ length to_sweep + 1 → room ≤ more
      → IsCounted (slice_set seats (s - 1) v) (held - 1) now more
  shut_counted s more was v now from to is es eg vs vg en ln r =
      let l : s - 1 < length seats = omega arith in
      let len : length (slice_set seats (s - 1) v) ≡ length seats = simp length-set in
      let o = open_seat s was is es eg in
      let kept : kept_by v ≡ 1 = ap (λ g. if g then 0 else (if v.shut then 1 else 2)) vg ∙ ap
      (λ b. if b then 1 else 2) vs in
      let none : open_by v ≡ 0 = ap (λ g. if g then 0 else (if v.shut then 0 else 2)) vg ∙ ap
      (λ b. if b then 0 else 2) vs in
      let sum = sum_by-set kept_by seats (s - 1) v no_seat l in
      let part = get_or-le-sum_by kept_by seats (s - 1) no_seat l in let was_kept = o.0 in let all = i.held in
      let sum2 = sum_by-set open_by seats (s - 1) v no_seat l in
      let part2 = get_or-le-sum_by open_by seats (s - 1) no_seat l in let was_open = o.1 in let both = i.open_ in
      let on : sweeps (slice_set seats (s - 1) v) s ≡ true = sweeps_same seats s v from to ∙ ap
      (λ b. b && not v.gone) vs ∙ ap not vg in
      let agree : (t : ℕ) → 1 ≤ t → t ≢ s → sweeps seats t
      ≡ sweeps (slice_set seats (s - 1) v) t = λ t a ne. sym (sweeps_other seats s t v from a ne) in
      record {
        held = (omega arith);
        listed =
            en ∙ ap (at_its_place s) i.listed ∙ placed_picked (sweeps seats) (sweeps (slice_set seats (s - 1) v)) s 1
            (length seats) o.2 on agree from (omega arith)
            ∙ ap (λ (n : ℕ). filter (sweeps (slice_set seats (s - 1) v)) (numbers 1 n)) (sym len);
        open_ = (omega arith);
        room = (let q = i.room in omega arith);
      }

  -- ---- a session is gone

  pub left_counted : (s : ℕ) (was v : Seat) (now : List ℕ) → 0 < s → s ≤ length seats → was ≡ seat_at seats s
      → was.shut ≡ true → was.gone ≡ false → v.gone ≡ true
      → first (sweeps seats) (numbers 1 (length seats)) ≡ Some s → now ≡ drop 1 to_sweep
      → IsCounted (slice_set seats (s - 1) v) (held - 1) now room
  left_counted s was v now from to is es eg vg next en =
      let l : s - 1 < length seats = omega arith in
      let len : length (slice_set seats (s - 1) v) ≡ length seats = simp length-set in
      let was_kept : kept_by (seat_at seats s) ≡ 1 = ap kept_by (sym is) ∙ ap
      (λ g. if g then 0 else (if was.shut then 1 else 2)) eg ∙ ap (λ b. if b then 1 else 2) es in
      let was_open : open_by (seat_at seats s) ≡ 0 = ap open_by (sym is) ∙ ap
      (λ g. if g then 0 else (if was.shut then 0 else 2)) eg ∙ ap (λ b. if b then 0 else 2) es in
      let kept : kept_by v ≡ 0 = ap (λ g. if g then 0 else (if v.shut then 1 else 2)) vg in
      let none : open_by v ≡ 0 = ap (λ g. if g then 0 else (if v.shut then 0 else 2)) vg in
      let sum = sum_by-set kept_by seats (s - 1) v no_seat l in
      let part = get_or-le-sum_by kept_by seats (s - 1) no_seat l in let all = i.held in
      let sum2 = sum_by-set open_by seats (s - 1) v no_seat l in let both = i.open_ in
      let off : sweeps (slice_set seats (s - 1) v) s ≡ false = sweeps_same seats s v from to ∙ ap
      (λ b. v.shut && not b) vg ∙ elim v.shut as (λ b. (b && false) ≡ false) [ true ↦ refl | false ↦ refl ] in
      let agree : (t : ℕ) → 1 ≤ t → t ≢ s → sweeps seats t
      ≡ sweeps (slice_set seats (s - 1) v) t = λ t a ne. sym (sweeps_other seats s t v from a ne) in
      let G = filter (sweeps (slice_set seats (s - 1) v)) (numbers 1 (length seats)) in
      let split : to_sweep ≡ s ∷ G = i.listed ∙ first_gone (sweeps seats) (sweeps (slice_set seats (s - 1) v)) s 1
      (length seats) next off agree in
      let rest : now ≡ G = en ∙ ap (drop 1) split in
      let longer : length to_sweep ≡ length G + 1 = ap length split
      ∙ (let f : length (s ∷ G) ≡ length G + 1 = omega arith in f) in
      let same : length now ≡ length G = ap length rest in
      record {
        held = (omega arith);
        listed = rest ∙ ap (λ (n : ℕ). filter (sweeps (slice_set seats (s - 1) v)) (numbers 1 n)) (sym len);
        open_ = (omega arith);
        room = (let q = i.room in omega arith);
      }

  -- ---- a session more

  pub one_more : (more : ℕ) → held + 2 ≤ more → IsCounted (seats ++ no_seat ∷ []) (held + 2) to_sweep more
  one_more more r =
      let sum = sum_by_push kept_by seats no_seat in
      let sum2 = sum_by_push open_by seats no_seat in let all = i.held in let both = i.open_ in
      let n = length seats in
      let rows = seats ++ no_seat ∷ [] in let longer : length rows ≡ n + 1 = length-append seats (no_seat ∷ []) in
      let agree : (t : ℕ) → 1 ≤ t → t < 1 + n
      → sweeps seats t ≡ sweeps rows t = λ t a b. let l : t - 1 < n = omega arith in ap
      (λ (x : Seat). x.shut && not x.gone) (sym (get_or_append_left seats (no_seat ∷ []) no_seat (t - 1) l)) in
      let at : n ≡ 1 + n - 1 = omega arith in
      let off : sweeps rows (1 + n) ≡ false = ap (λ (x : Seat). x.shut && not x.gone)
      (get_or_push seats no_seat no_seat (1 + n - 1) at) in
      let last : filter (sweeps rows) ((1 + n) ∷ []) ≡ [] = ap (λ b. filter_one b (1 + n)) off in
      record {
        held = (omega arith);
        listed =
            i.listed ∙ filter_same (sweeps seats) (sweeps rows) 1 n agree
            ∙ sym (append-nil (filter (sweeps rows) (numbers 1 n))) ∙ ap
            (λ xs. filter (sweeps rows) (numbers 1 n) ++ xs) (sym last)
            ∙ sym (filter-append (sweeps rows) (numbers 1 n) ((1 + n) ∷ []))
            ∙ ap (filter (sweeps rows)) (sym (numbers_push 1 n)) ∙ ap
            (λ (m : ℕ). filter (sweeps rows) (numbers 1 m)) (let e : suc n ≡ length rows = omega arith in e);
        open_ = (omega arith);
        room = r;
      }
    where
      filter_one : Bool → ℕ → List ℕ
      filter_one b t = cond b (t ∷ []) []

  pub left_kept : (s : ℕ) → s ≤ length seats → 0 < s → (seat_at seats s).shut ≡ true
      → (seat_at seats s).gone ≡ false → 1 ≤ held
  left_kept s to from es eg =
      let l : s - 1 < length seats = omega arith in
      let part = get_or-le-sum_by kept_by seats (s - 1) no_seat l in let all = i.held in let x = seat_at seats s in
      let one : kept_by x ≡ 1 = ap (λ g. if g then 0 else (if x.shut then 1 else 2)) eg ∙ ap
      (λ b. if b then 1 else 2) es in
      omega arith

-- ---- a session is given up that is gone

pub given_counted : (seats : List Seat) (held : ℕ) (to_sweep : List ℕ) (room : ℕ)
    → IsCounted seats held to_sweep room → (s : ℕ) → IsSeated seats s → (seat_at seats s).gone ≡ true
    → IsCounted (slice_set seats (s - 1) away) held to_sweep room
given_counted seats held to_sweep room i s seated off =
    let x = seat_at seats s in
    let kept : 0 ≡ kept_by x = sym (ap (λ b. if b then 0 else (if x.shut then 1 else 2)) off) in
    let open_ : 0 ≡ open_by x = sym (ap (λ b. if b then 0 else (if x.shut then 0 else 2)) off) in
    let swept : false ≡ (x.shut && not x.gone) = sym (ap (λ b. x.shut && not b) off ∙ elim x.shut as
    (λ b. (b && false) ≡ false) [ true ↦ refl | false ↦ refl ]) in
    unchanged seats held to_sweep room i s x away seated.from_1 seated.opened refl kept open_ swept

-- ---- how many sessions aren't reaped

module _ {O : Type 0} where
  -- one more
  pub count_more : (boxes : List (Option O)) (box : O) → count_here (boxes ++ Some box ∷ []) ≡ count_here boxes + 1
  count_more boxes box = sum_by_push here_by boxes (Some box)

  -- an outbox changed
  pub count_same : (boxes : List (Option O)) (k : ℕ) (v : O) → k < length boxes
      → is_some (slice_index_or boxes k None) ≡ true → count_here (slice_set boxes k (Some v)) ≡ count_here boxes
  count_same boxes k v l some =
      let sum = sum_by-set here_by boxes k (Some v) None l in
      let one : here_by (slice_index_or boxes k None) ≡ 1 = ap (λ b. if b then 1 else 0) some in
      let mine : here_by (Some v) ≡ 1 = refl in omega arith

  -- one was given up
  pub count_less : (boxes : List (Option O)) (k : ℕ) → k < length boxes → is_some (slice_index_or boxes k None)
      ≡ true → count_here (slice_set boxes k None) + 1 ≡ count_here boxes
  count_less boxes k l some =
      let sum = sum_by-set here_by boxes k None None l in
      let one : here_by (slice_index_or boxes k None) ≡ 1 = ap (λ b. if b then 1 else 0) some in
      let none : here_by {O = O} None ≡ 0 = refl in omega arith
