-- A ledger stays sound where a session is opened.
use Rattle.std.proofs.lemmas.List.{get_or_push, get_or_append_left}
use Rattle.std.proofs.lemmas.List.Sums.{sum_by-cons, sum_by_push}
use Rattle.std.proofs.lemmas.Bool.Decides.{eqb_tells}
use Rattle.std.proofs.Common.{◌≡◌, inl, inr, ℕ, ℤ, zero, suc, ◌+◌, ◌-◌, ◌<◌, ◌≤◌, Bool, true, false, ◌||◌, ◌==◌}
use Rattle.std.proofs.Common.{nat_le, cond, List, [], ◌∷◌, ◌++◌, length, sum_by, slice_index_or, Option, Some, None}
use Rattle.std.proofs.Common.{arith, refl, sym, ap, ◌∙◌, subst, append-nil, length-append, lit≤}
use Rattle.std.specs.Option.{is_some}
use Rattle.chronicle.specs.declared.record.Kind.TheVariants.{Opened, Said, Hung, Gone, Ticked}
use Rattle.chronicle.specs.declared.record.Kind.{Kind}
use Rattle.chronicle.specs.History.{Rec, opened_by, sessions, accepted, said_by, misses, shut, gone}
use Rattle.chronicle.specs.Journal.{most, fresh_record}
use Rattle.deliveries.specs.declared.delivery.Delivery.{Delivery}
use Rattle.deliveries.specs.declared.item.Item.{Item}
use Rattle.ledger.specs.declared.seat.Seat.{Seat}
use Rattle.registration.specs.declared.caps.Caps.{Caps}
use Rattle.labels_batches.specs.declared.answers.Tagged.{Tagged}
use Rattle.labels_batches.specs.Rendered.{text_as}
use Rattle.deeds.specs.Deeds.{facts}
use Rattle.deliveries.specs.Owed.{item, owed}
use Rattle.ledger.specs.Seats.{no_seat, kept_by, IsSeat, seat_at}
use Rattle.roster.specs.LookBack.{caps, numbers}
use Rattle.deliveries.specs.Items.{deliveries}
use Rattle.deliveries.proofs.Growing.{grows_by_one}
use Rattle.ledger.proofs.Sent.{sent_none, sent_grown}
use Rattle.ledger.specs.Ledger.{Shown, MayOpen, IsSent, box_at, is_here, sent_by, kept_for, kept_total, plan_part}
use Rattle.ledger.specs.Ledger.{after_open}
use Rattle.ledger.specs.Ledger.{IsSound}
use Rattle.ledger.proofs.About.{not_owed}

pub numbers_push : (k n : ℕ) → numbers k (suc n) ≡ numbers k n ++ (k + n) ∷ []
numbers_push k zero = let e : k ≡ k + 0 = omega arith in ap (λ (j : ℕ). j ∷ []) e
numbers_push k (suc n) = let e : k + 1 + n ≡ k + suc n = omega arith in
    ap (λ xs. k ∷ xs) (numbers_push (k + 1) n ∙ ap (λ (j : ℕ). numbers (k + 1) n ++ j ∷ []) e)

kept_small : (b c : Bool) → cond b 0 (cond c 1 2) ≤ 2
kept_small true c = lit≤ tt
kept_small false true = lit≤ tt
kept_small false false = lit≤ tt

-- two records more are kept free, at most
held_more : (h : List Rec) (f : ℕ → ℕ) (n : ℕ) → ((t : ℕ) → f t ≤ 2)
    → sum_by f (numbers 1 (1 + n)) ≤ sum_by f (numbers 1 n) + 2
held_more h f n small =
    let e : 1 + n ≡ suc n = omega arith in let k = small (1 + n) in
    rw (ap (λ (j : ℕ). sum_by f (numbers 1 j)) e ∙ ap (sum_by f) (numbers_push 1 n)
    ∙ sum_by_push f (numbers 1 n) (1 + n)) (omega arith)

pub opened_held : (h : List Rec) (n : ℕ) (host : List ℕ) (moment : _)
    → kept_total (fresh_record h moment (Opened n host) ∷ h) ≤ kept_total h + 2
opened_held h n host moment = held_more h (kept_for h) (sessions h) (λ t. kept_small (gone h t) (shut h t))

nothing_told : (cs : Caps) (moment : ℤ) (b c : Bool)
    → (let N : List Tagged = [] in cond b (text_as cs moment (cond c N N)) []) ≡ []
nothing_told cs moment true true = refl
nothing_told cs moment true false = refl
nothing_told cs moment false c = refl

pub opened_sound : {O : Type 0} (sent : O → List Item) (m : Shown O) (host : List ℕ) (moment : ℤ) (box : O)
    → IsSound sent m → MayOpen m moment → sent box ≡ [] → IsSound sent (after_open m host moment box)
opened_sound sent m host moment box i may fresh =
    let h = m.history in
    let g = m.settings in let n = length m.outboxes in let r = fresh_record h moment (Opened (sessions h + 1) host) in
    let boxes = m.outboxes ++ Some box ∷ [] in
    let more : length boxes ≡ n + 1 = length-append m.outboxes (Some box ∷ []) in
    let same : (t : ℕ) → owed g (r ∷ h) t ≡ owed g h t = λ t. let E : List Delivery = [] in
    ap (λ xs. owed g h t ++ cond (misses r t || shut h t) [] (item (length h + 1) xs))
    (nothing_told (caps (facts g h) t) moment (nat_le t (sessions h)) ((sessions h + 1) == t)) ∙ ap
    (λ xs. owed g h t ++ xs) (elim (misses r t || shut h t) as
    (λ b. cond b E E ≡ E) [ true ↦ refl | false ↦ refl ]) ∙ append-nil (owed g h t) in
    let count : sessions (r ∷ h) ≡ n + 1 = let e = i.sessions in let goal : 1 + sessions h
    ≡ n + 1 = omega arith in goal in
    let idle : m.plan ≡ [] = i.idle may.idle in
    let last : (t : ℕ) → t ≡ n + 1 → slice_index_or boxes (t - 1) None ≡ Some box = λ t e. let p : n
    ≡ t - 1 = omega arith in get_or_push m.outboxes (Some box) None (t - 1) p in
    let kept : (t : ℕ) → 0 < t → t ≤ n → slice_index_or boxes (t - 1) None
    ≡ slice_index_or m.outboxes (t - 1) None = λ t a b. let l : t - 1 < n = omega arith in
    get_or_append_left m.outboxes (Some box ∷ []) None (t - 1) l in
    record {
      owed = λ t from to here.
          let to' : t ≤ n + 1 = omega arith in
          elim (eqb_tells t (n + 1)) [
            | inl end ↦
                let none : owed g h t
                ≡ [] = not_owed g h t i.legal (let e = end.1 in let s = i.sessions in omega arith) in
                let empty : deliveries (sent box) ++ plan_part m.plan t ≡ [] =
                rw fresh (ap (λ ps. plan_part ps t) idle) in
                ap (λ o. deliveries (sent_by sent o) ++ plan_part m.plan t) (last t end.1) ∙ empty ∙ sym none
                ∙ sym (same t)
            | inr other ↦
                let below : t ≤ n = let ne = other.1 in omega arith in let is = kept t from below in
                ap (λ o. deliveries (sent_by sent o) ++ plan_part m.plan t) is
                ∙ i.owed t from below (ap (λ o. is_some o) (sym is) ∙ here) ∙ sym (same t)
          ];
      items = λ t from to.
          let to' : t ≤ n + 1 = omega arith in
          elim (eqb_tells t (n + 1)) [
            | inl end ↦ subst (λ o. IsSent g (r ∷ h) t (sent_by sent o)) (sym (last t end.1))
                (subst (IsSent g (r ∷ h) t) (sym fresh) (sent_none g (r ∷ h) t))
            | inr other ↦
                let below : t ≤ n = let ne = other.1 in omega arith in
                subst (λ o. IsSent g (r ∷ h) t (sent_by sent o)) (sym (kept t from below)) (sent_grown g h (r ∷ h) t
                (sent_by sent (box_at m.outboxes t)) (grows_by_one h r) (i.items t from below))
          ];
      reaped = λ t from to away.
          let to' : t ≤ n + 1 = omega arith in
          elim (eqb_tells t (n + 1)) [
            | inl end ↦ absurd (let f : true ≡ false = ap (λ o. is_some o) (sym (last t end.1)) ∙ away in cc)
            | inr other ↦ let below : t ≤ n = let ne = other.1 in omega arith in
                i.reaped t from below (ap (λ o. is_some o) (sym (kept t from below)) ∙ away)
          ];
      plan = rw idle tt;
      idle = λ e. idle;
      legal = (refl, may.in_time, refl, tt, i.legal);
      sessions = count ∙ sym more;
      room =
          let room = may.room in
          let two = opened_held h (sessions h + 1) host moment in
          let goal : length (r ∷ h) + kept_total (r ∷ h) ≤ most m.limit = omega arith in goal;
    }

-- ---- what is kept free, counted over the seats

kept_same : (h : List Rec) (x : Seat) (t : ℕ) → x.shut ≡ shut h t → x.gone ≡ gone h t → kept_by x ≡ kept_for h t
kept_same h x t es eg = ap (λ b. cond b 0 (cond x.shut 1 2)) eg ∙ ap (λ b. cond (gone h t) 0 (cond b 1 2)) es

pub kept_sum : (h : List Rec) (xs : List Seat) (k : ℕ)
    → ((i : ℕ) → i < length xs → kept_by (slice_index_or xs i no_seat) ≡ kept_for h (k + i))
    → sum_by kept_by xs ≡ sum_by (kept_for h) (numbers k (length xs))
kept_sum h [] k f = refl
kept_sum h (x ∷ xs) k f =
    let rest = kept_sum h xs (k + 1) (λ i l. let e : k + suc i ≡ k + 1 + i = omega arith in
    f (suc i) (omega arith) ∙ ap (kept_for h) e) in
    let here : kept_by x ≡ kept_for h k = let e : k + 0 ≡ k = omega arith in f 0 (omega arith) ∙ ap (kept_for h) e in
    sum_by-cons kept_by x xs ∙ ap (λ (j : ℕ). kept_by x + j) rest ∙ ap (λ (j : ℕ). j + sum_by (kept_for h)
    (numbers (k + 1) (length xs))) here ∙ sym (sum_by-cons (kept_for h) k (numbers (k + 1) (length xs)))

pub seats_held : {O : Type 0} (h : List Rec) (seats : List Seat) (boxes : List (Option O))
    → ((t : ℕ) → 0 < t → t ≤ length seats → IsSeat (seat_at seats t) (is_here boxes t) h t)
    → sessions h ≡ length seats → sum_by kept_by seats ≡ kept_total h
seats_held h seats boxes f e =
    kept_sum h seats 1 (λ i l. let from : 0 < 1 + i = omega arith in let to : 1 + i ≤ length seats = omega arith in
    let j : i ≡ 1 + i - 1 = omega arith in
    ap (λ (k : ℕ). kept_by (slice_index_or seats k no_seat)) j ∙ kept_same h (seat_at seats (1 + i)) (1 + i)
    (f (1 + i) from to).shut (f (1 + i) from to).gone)
    ∙ ap (λ (n : ℕ). sum_by (kept_for h) (numbers 1 n)) (sym e)

-- there are no more sessions than records
opened_small : (k : Kind) → opened_by k ≤ 1
opened_small (Opened s h) = lit≤ tt
opened_small (Said s i p) = lit≤ tt
opened_small (Hung s w) = lit≤ tt
opened_small (Gone s) = lit≤ tt
opened_small Ticked = lit≤ tt

pub sessions_le : (h : List Rec) → sessions h ≤ length h
sessions_le [] = lit≤ tt
sessions_le (r ∷ h) = let a = opened_small r.kind in let b = sessions_le h in
    let goal : opened_by r.kind + sessions h ≤ length (r ∷ h) = omega arith in goal

-- nor more accepted lines of a session
said_small : (k : Kind) (t : ℕ) → length (said_by k t) ≤ 1
said_small (Opened s h) t = lit≤ tt
said_small (Hung s w) t = lit≤ tt
said_small (Gone s) t = lit≤ tt
said_small Ticked t = lit≤ tt
said_small (Said s i p) t = elim (eqb_tells s t) [ inl same ↦ rw same.0 (lit≤ tt) | inr other ↦ rw other.0 (lit≤ tt) ]

pub accepted_le : (h : List Rec) (t : ℕ) → length (accepted h t) ≤ length h
accepted_le [] t = lit≤ tt
accepted_le (r ∷ h) t = let a = said_small r.kind t in
    let b = accepted_le h t in let e : length (accepted h t ++ said_by r.kind t)
    ≡ length (accepted h t) + length (said_by r.kind t) = length-append (accepted h t) (said_by r.kind t) in
    let goal : length (accepted h t ++ said_by r.kind t) ≤ length (r ∷ h) = omega arith in goal
