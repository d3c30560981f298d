-- Each step keeps the promise.
use Rattle.std.proofs.lemmas.List.{get_or-set_same, get_or-set_other, get_or_push, get_or_append_left, length-set}
use Rattle.std.proofs.lemmas.Bool.Decides.{eqb_tells}
use Rattle.std.proofs.Common.{◌≡◌, ◌≢◌, inl, inr, ℕ, ℤ, ◌+◌, ◌-◌, ◌<◌, ◌≤◌, true, false, cond, List, [], ◌∷◌, ◌++◌}
use Rattle.std.proofs.Common.{length, take, slice_get, slice_index_or, slice_set, Option, Some, None, arith, refl, sym}
use Rattle.std.proofs.Common.{ap, ◌∙◌, subst, append-nil, append_assoc, length-append, eq-eqb, ne_eqb}
use Rattle.std.specs.Option.{is_some}
use Rattle.std.specs.List.{list_all}
use Rattle.line_grammar.specs.declared.splitter.Piece.{Piece}
use Rattle.line_grammar.specs.Lines.{lines}
use Rattle.casemapping.specs.Names.{host_shape}
use Rattle.answer_octets.specs.Clean.{is_one_line}
use Rattle.answer_octets.proofs.Pieces.{pieces-one}
use Rattle.clean_records.specs.Clean.{IsCleanKind}
use Rattle.chronicle.specs.declared.record.Kind.{Kind}
use Rattle.chronicle.specs.declared.record.Kind.TheVariants as kind
use Rattle.chronicle.specs.declared.why.Why.{Why}
use Rattle.chronicle.specs.History.{Rec, sessions, said_by, accepted}
use Rattle.registration.specs.declared.settings.Settings.{Settings}
use Rattle.std.proofs.lemmas.List.{map-append}
use Rattle.deliveries.specs.declared.delivery.Delivery.{Delivery}
use Rattle.deliveries.specs.declared.item.Item.{Item}
use Rattle.deliveries.specs.Items.{deliveries}
use Rattle.book.specs.Ring.{Waiting, empty_ring, with_taken as ring_taken, put_into}
use Rattle.deliveries.specs.Owed.{owed}
use Rattle.book.specs.Ledger.{Shown, is_here, box_of, sent_by}
use Rattle.book.specs.Ledger as book
use Rattle.interleave.specs.declared.worker.Place.{Place}
use Rattle.interleave.specs.declared.worker.Place.TheVariants.{Home, Hand, Begun}
use Rattle.interleave.specs.State.{Seen, State, IsBoxOf, IsSoundAt, IsSound, nothing_fed, inbox_at}
use Rattle.interleave.specs.State.{box_at, queue_of, waits, is_home, holds, place_with, job_of}
use Rattle.interleave.specs.Steps.{with_job, with_place, with_taken, with_left, with_begun, with_fed, step_connect}
use Rattle.interleave.specs.Steps.{step_feed, step_pick, step_begin, step_put, step_end, back, step_take, step_hang}
use Rattle.interleave.specs.Steps.{step_reap}
use Rattle.interleave.proofs.Carried.{Carries, IsKeptBox, put_busy, next_carries, ShutBefore, carried, carries_same}
use Rattle.interleave.proofs.Carried.{begun_carries, done_carries, away_before, next_length, done_length}
use Rattle.interleave.proofs.Accepted.{none_accepted}
use Rattle.interleave.proofs.Served.{IsServed, begun_served, done_served, next_served, one_line}

-- ---- workers

-- the worker with whom a baton is
abbrev with_whom : Place → ℕ
with_whom Home = 0
with_whom (Hand w) = w
with_whom (Begun w) = w

whom : (holder : Option ℕ) (w : ℕ) → with_whom (place_with holder w) ≡ w
whom holder w =
    elim (holds holder w) as (λ b. with_whom (cond b (Begun w) (Hand w)) ≡ w) [
      | true ↦ refl
      | false ↦ refl
    ]

pub away : (holder : Option ℕ) (w : ℕ) → is_home (place_with holder w) ≡ false
away holder w =
    elim (holds holder w) as (λ b. is_home (cond b (Begun w) (Hand w)) ≡ false) [
      | true ↦ refl
      | false ↦ refl
    ]

pub in_hand_of : (holder : Option ℕ) (w : ℕ) → holds holder w ≡ false → place_with holder w ≡ Hand w
in_hand_of holder w e = rw e refl

pub begun_by : (w : ℕ) → place_with (Some w) w ≡ Begun w
begun_by w = rw (eq-eqb w w refl) refl

not_begun_by : (v w : ℕ) → v ≢ w → place_with (Some v) w ≡ Hand w
not_begun_by v w ne = rw (ne_eqb v w ne) refl

-- each worker who has a line has the baton of its session
abbrev pub HasBatons : List (Option ℕ) → List Seen → Option ℕ → Type 0
HasBatons jobs boxes holder =
    (i s : ℕ) → slice_index_or jobs i None ≡ Some s → (0 < s) × (s ≤ length boxes)
    × ((slice_index_or boxes (s - 1) nothing_fed).place ≡ place_with holder (i + 1))

-- another place where the session is, the same for others
set_place : (boxes : List Seen) (s u : ℕ) (b : Seen) → 0 < s → 0 < u → s ≤ length boxes → (u ≡ s → ⊥)
    → (slice_index_or (slice_set boxes (s - 1) b) (u - 1) nothing_fed) ≡ slice_index_or boxes (u - 1) nothing_fed
set_place boxes s u b a c l ne = get_or-set_other boxes (s - 1) (u - 1) b nothing_fed (λ e. ne (omega arith))

set_length : {X : Type 0} (xs : List X) (i : ℕ) (x : X) → length (slice_set xs i x) ≡ length xs
set_length xs i x = simp length-set

-- the session of one inbox stays where it was
same_batons : (jobs : List (Option ℕ)) (boxes : List Seen) (holder : Option ℕ) (s : ℕ) (b : Seen) → 0 < s
    → s ≤ length boxes → b.place ≡ (slice_index_or boxes (s - 1) nothing_fed).place → HasBatons jobs boxes holder
    → HasBatons jobs (slice_set boxes (s - 1) b) holder
same_batons jobs boxes holder s b a l same h i u e =
    let old = h i u e in
    let size = set_length boxes (s - 1) b in
    let within : s - 1 < length boxes = omega arith in (
      old.0,
      let f = old.1 in omega arith,
      elim (eqb_tells u s) [
        | inl is ↦
            ap (λ (j : ℕ). (slice_index_or (slice_set boxes (s - 1) b) (j - 1) nothing_fed).place) is.1
            ∙ ap (λ (x : Seen). x.place) (get_or-set_same boxes (s - 1) b nothing_fed within)
            ∙ same ∙ ap (λ (j : ℕ). (slice_index_or boxes (j - 1) nothing_fed).place) (sym is.1) ∙ old.2
        | inr other ↦ ap (λ (x : Seen). x.place) (set_place boxes s u b a old.0 l other.1) ∙ old.2
      ],
    )

-- a worker without a line gets that of a session whose baton is at home
pick_batons : (jobs : List (Option ℕ)) (boxes : List Seen) (holder : Option ℕ) (w s : ℕ) (b : Seen)
    → 0 < w → w ≤ length jobs → 0 < s → s ≤ length boxes → holds holder w ≡ false
    → is_home (slice_index_or boxes (s - 1) nothing_fed).place ≡ true → b.place ≡ Hand w
    → HasBatons jobs boxes holder → HasBatons (slice_set jobs (w - 1) (Some s)) (slice_set boxes (s - 1) b) holder
pick_batons jobs boxes holder w s b a l c n free home there h i u e =
    let size = set_length boxes (s - 1) b in
    let within : s - 1 < length boxes = omega arith in
    let desk : w - 1 < length jobs = omega arith in
    elim (eqb_tells i (w - 1)) [
      | inl is ↦
          let same : Some s ≡ Some u = sym (get_or-set_same jobs (w - 1) (Some s) None desk) ∙ ap
          (λ (j : ℕ). slice_index_or (slice_set jobs (w - 1) (Some s)) j None) (sym is.1) ∙ e in
          let su : s ≡ u = cc in
          let iw : w ≡ i + 1 = let f = is.1 in omega arith in (
            subst (λ (j : ℕ). 0 < j) su c,
            subst (λ (j : ℕ). j ≤ length (slice_set boxes (s - 1) b)) su (omega arith),
            ap (λ (j : ℕ). (slice_index_or (slice_set boxes (s - 1) b) (j - 1) nothing_fed).place) (sym su)
                ∙ ap (λ (x : Seen). x.place) (get_or-set_same boxes (s - 1) b nothing_fed within) ∙ there
                ∙ sym (in_hand_of holder w free) ∙ ap (place_with holder) iw,
          )
      | inr other ↦
          let was : slice_index_or jobs i None
          ≡ Some u = sym (get_or-set_other jobs (w - 1) i (Some s) None other.1) ∙ e in
          let old = h i u was in
          let ne : u ≡ s → ⊥ = λ is. (let f : true ≡ false = sym home ∙ ap (λ (j : ℕ). is_home (slice_index_or boxes
          (j - 1) nothing_fed).place) (sym is) ∙ ap is_home old.2 ∙ away holder (i + 1) in cc) in (
            old.0,
            let f = old.1 in
                omega arith,
            ap (λ (x : Seen). x.place) (set_place boxes s u b c old.0 n ne) ∙ old.2,
          )
    ]

-- the worker who has a session's line gives it away, and the baton goes home
home_batons : (jobs : List (Option ℕ)) (boxes : List Seen) (old new : Option ℕ) (w s : ℕ) (b : Seen) → 0 < w
    → w ≤ length jobs → slice_index_or jobs (w - 1) None ≡ Some s
    → ((v : ℕ) → v ≢ w → place_with old v ≡ place_with new v) → HasBatons jobs boxes old
    → HasBatons (slice_set jobs (w - 1) None) (slice_set boxes (s - 1) b) new
home_batons jobs boxes old new w s b a l has like h i u e =
    let size = set_length boxes (s - 1) b in
    let desk : w - 1 < length jobs = omega arith in
    let mine = h (w - 1) s has in
    elim (eqb_tells i (w - 1)) [
      | inl is ↦ absurd (let f : None ≡ Some u = sym (get_or-set_same jobs (w - 1) None None desk) ∙ ap
          (λ (j : ℕ). slice_index_or (slice_set jobs (w - 1) None) j None) (sym is.1) ∙ e in cc)
      | inr other ↦
          let was : slice_index_or jobs i None
          ≡ Some u = sym (get_or-set_other jobs (w - 1) i None None other.1) ∙ e in
          let his = h i u was in
          let number : i + 1 ≢ w = λ f. other.1 (omega arith) in
          let ne : u ≡ s → ⊥ = λ is. number (sym (whom old (i + 1)) ∙ ap with_whom (sym his.2) ∙ ap
          (λ (j : ℕ). with_whom (slice_index_or boxes (j - 1) nothing_fed).place) is ∙ ap with_whom mine.2
          ∙ whom old (w - 1 + 1) ∙ (omega arith)) in (
            his.0,
            let f = his.1 in omega arith,
            ap
                (λ (x : Seen). x.place) (set_place boxes s u b mine.0 his.0 mine.1 ne) ∙ his.2 ∙ like (i + 1) number,
          )
    ]

-- the worker who has a session's line takes the lock
begin_batons : (jobs : List (Option ℕ)) (boxes : List Seen) (w s : ℕ) (b : Seen) → 0 < w
    → slice_index_or jobs (w - 1) None ≡ Some s → b.place ≡ Begun w → HasBatons jobs boxes None
    → HasBatons jobs (slice_set boxes (s - 1) b) (Some w)
begin_batons jobs boxes w s b a has there h i u e =
    let size = set_length boxes (s - 1) b in
    let mine = h (w - 1) s has in let his = h i u e in
    let from = mine.0 in let to = mine.1 in
    let within : s - 1 < length boxes = omega arith in
    elim (eqb_tells i (w - 1)) [
      | inl is ↦
          let same : Some s ≡ Some u = sym has ∙ ap (λ (j : ℕ). slice_index_or jobs j None) (sym is.1) ∙ e in
          let su : s ≡ u = cc in
          let iw : w ≡ i + 1 = let f = is.1 in omega arith in (
            his.0,
            let f = his.1 in omega arith,
            ap (λ (j : ℕ). (slice_index_or (slice_set boxes (s - 1) b) (j - 1) nothing_fed).place) (sym su)
                ∙ ap (λ (x : Seen). x.place) (get_or-set_same boxes (s - 1) b nothing_fed within) ∙ there
                ∙ sym (begun_by w) ∙ ap (place_with (Some w)) iw,
          )
      | inr other ↦
          let number : w ≢ i + 1 = λ f. other.1 (omega arith) in
          let ne : u ≡ s → ⊥ = λ is. number (sym (omega arith) ∙ sym (whom None (w - 1 + 1)) ∙ ap with_whom
          (sym mine.2) ∙ ap (λ (j : ℕ). with_whom (slice_index_or boxes (j - 1) nothing_fed).place) (sym is)
          ∙ ap with_whom his.2 ∙ whom None (i + 1)) in (
            his.0,
            let f = his.1 in omega arith,
            ap (λ (x : Seen). x.place)
                (set_place boxes s u b mine.0 his.0 mine.1 ne) ∙ his.2 ∙ sym (not_begun_by w (i + 1) number),
          )
    ]

-- the lock goes to or from a worker without a line
lock_batons : (jobs : List (Option ℕ)) (boxes : List Seen) (old new : Option ℕ) (w : ℕ)
    → slice_index_or jobs (w - 1) None ≡ None → ((v : ℕ) → v ≢ w → place_with old v ≡ place_with new v)
    → HasBatons jobs boxes old → HasBatons jobs boxes new
lock_batons jobs boxes old new w none like h i u e =
    let his = h i u e in
    let number : i + 1 ≢ w = λ f.
    (let g : None ≡ Some u = sym none ∙ ap (λ (j : ℕ). slice_index_or jobs j None) (omega arith) ∙ e in cc) in
    (his.0, his.1, his.2 ∙ like (i + 1) number)

-- ---- the book changes, and at most one inbox

book_sound : (m : State) (n : Shown Waiting) (holder : Option ℕ) → IsSound m
    → book.IsSound put_into n → IsServed n → n.busy ≡ is_some holder → length n.outboxes ≡ length m.book.outboxes
    → ((t : ℕ) → 0 < t → t ≤ length m.inboxes → Carries m.book n t)
    → HasBatons m.jobs m.inboxes holder → ((w : ℕ) → holder ≡ Some w → (0 < w) × (w ≤ length m.jobs))
    → IsSound (record { book = n; sendq = m.sendq; inboxes = m.inboxes; jobs = m.jobs; holder = holder })
book_sound m n holder i sound served lock len c jobs who =
    record {
      book = sound;
      inboxes = i.inboxes ∙ sym len;
      each = λ t from to. carried m.book n (inbox_at m t) m.sendq t (c t from to) (i.each t from to);
      jobs = jobs;
      lock = lock;
      holder = who;
      set = served.0;
      clean = served.1;
    }

one_sound : (m : State) (n : Shown Waiting) (s : ℕ) (b : Seen) (jobs : List (Option ℕ)) (holder : Option ℕ)
    → IsSound m → book.IsSound put_into n → IsServed n → 0 < s → s ≤ length m.inboxes → n.busy ≡ is_some holder
    → length n.outboxes ≡ length m.book.outboxes
    → ((t : ℕ) → t ≢ s → 0 < t → t ≤ length m.inboxes → Carries m.book n t) → IsSoundAt n.settings n.history
    (slice_index_or n.outboxes (s - 1) None) b m.sendq s → HasBatons jobs (slice_set m.inboxes (s - 1) b) holder
    → ((w : ℕ) → holder ≡ Some w → (0 < w) × (w ≤ length jobs))
    → IsSound (record {
      book = n;
      sendq = m.sendq;
      inboxes = slice_set m.inboxes (s - 1) b;
      jobs = jobs;
      holder = holder;
    })
one_sound m n s b jobs holder i sound served above below lock len c here batons who =
    let size = set_length m.inboxes (s - 1) b in
    let within : s - 1 < length m.inboxes = omega arith in
    record {
      book = sound;
      inboxes = size ∙ i.inboxes ∙ sym len;
      each = λ t from to.
          (let top : t ≤ length m.inboxes = omega arith in
          elim (eqb_tells t s) [
            | inl is ↦
                let same : b ≡ slice_index_or (slice_set m.inboxes (s - 1) b) (t - 1) nothing_fed =
                sym (get_or-set_same m.inboxes (s - 1) b nothing_fed within) ∙ ap
                (λ (j : ℕ). slice_index_or (slice_set m.inboxes (s - 1) b) (j - 1) nothing_fed) (sym is.1) in
                subst (λ (x : Seen). IsSoundAt n.settings n.history
                (slice_index_or n.outboxes (t - 1) None) x m.sendq t) same
                (subst (λ (j : ℕ). IsSoundAt n.settings n.history
                (slice_index_or n.outboxes (j - 1) None) b m.sendq j) (sym is.1) here)
            | inr other ↦
                let same : inbox_at m t ≡ slice_index_or (slice_set m.inboxes (s - 1) b) (t - 1) nothing_fed = sym
                (set_place m.inboxes s t b above from below other.1) in
                subst (λ (x : Seen). IsSoundAt n.settings n.history
                (slice_index_or n.outboxes (t - 1) None) x m.sendq t) same
                (carried m.book n (inbox_at m t) m.sendq t (c t other.1 from top) (i.each t from top))
          ]);
      jobs = batons;
      lock = lock;
      holder = who;
      set = served.0;
      clean = served.1;
    }

-- ---- what is said of a session's outbox where its inbox changes

box_like : (o : Option Waiting) (b c : Seen) (sendq : ℕ) (x : List Delivery) → c.taken ≡ b.taken → c.left ≡ b.left
    → c.place ≡ b.place → IsBoxOf o b sendq x → IsBoxOf o c sendq x
box_like None b c sendq x taken left place i = (
  ap (λ xs. xs ++ c.left) taken ∙ ap (λ xs. b.taken ++ xs) left ∙ i.0,
  place ∙ i.1,
)
box_like (Some w) b c sendq x taken left place i = (i.0 ∙ sym taken, i.1)

box_here : (o : Option Waiting) (b c : Seen) (sendq : ℕ) (x y : List Delivery) → is_some o ≡ true
    → c.taken ≡ b.taken → IsBoxOf o b sendq x → IsBoxOf o c sendq y
box_here None b c sendq x y here taken i = absurd (let f : false ≡ true = here in cc)
box_here (Some w) b c sendq x y here taken i = (i.0 ∙ sym taken, i.1)

no_front : {X : Type 0} (xs ys : List X) → xs ++ ys ≡ [] → xs ≡ []
no_front [] ys e = refl
no_front (x ∷ xs) ys e = absurd (let f : x ∷ (xs ++ ys) ≡ [] = e in cc)

-- ---- the steps

pub fed_sound : (m : State) (s : ℕ) (octets : List ℕ) (added : List Piece) → IsSound m → 0 < s
    → s ≤ length m.inboxes → lines ((inbox_at m s).fed ++ octets) ≡ lines (inbox_at m s).fed ++ added
    → IsSound (step_feed m s octets added)
fed_sound m s octets added i above below adds =
    let b = inbox_at m s in let was = i.each s above below in
    one_sound m m.book s (with_fed b octets added) m.jobs m.holder i i.book (i.set, i.clean) above below
    i.lock refl (λ t ne from to. carries_same m.book t)
    (record {
      accepted = sym (append_assoc (accepted m.book.history s) b.pending added) ∙ ap
          (λ xs. xs ++ added) was.accepted ∙ sym adds;
      box = box_like (box_at m s) b (with_fed b octets added) m.sendq
          (owed m.book.settings m.book.history s) refl refl refl was.box;
      hand = λ w e f. was.hand w e (no_front b.pending added f);
    })
    (same_batons m.jobs m.inboxes m.holder s (with_fed b octets added) above below refl i.jobs) i.holder

pub picked_sound : (m : State) (w s : ℕ) → IsSound m → 0 < w → w ≤ length m.jobs → 0 < s → s ≤ length m.inboxes
    → is_here m.book.outboxes s ≡ true → holds m.holder w ≡ false → is_home (inbox_at m s).place ≡ true
    → (inbox_at m s).pending ≢ [] → IsSound (step_pick m w s)
picked_sound m w s i a l above below here free home some =
    let b = inbox_at m s in let was = i.each s above below in
    let desks : length (with_job m w (Some s)) ≡ length m.jobs = set_length m.jobs (w - 1) (Some s) in
    one_sound m m.book s (with_place b (Hand w)) (with_job m w (Some s)) m.holder i i.book (i.set, i.clean) above below
    i.lock refl (λ t ne from to. carries_same m.book t)
    (record {
      accepted = was.accepted;
      box = box_here (box_at m s) b (with_place b (Hand w)) m.sendq
          (owed m.book.settings m.book.history s) (owed m.book.settings m.book.history s) here refl was.box;
      hand = λ v e. some;
    })
    (pick_batons m.jobs m.inboxes m.holder w s (with_place b (Hand w)) a l above below free home refl i.jobs)
    (λ v e. let old = i.holder v e in (old.0, let f = old.1 in omega arith))

place_apart : (v w : ℕ) → Begun v ≡ Hand w → ⊥
place_apart v w e = cc

place_home : (w : ℕ) → Home ≡ Hand w → ⊥
place_home w e = cc

pub begun_sound : (m : State) (w s : ℕ) (piece : Piece) (rest : List Piece) (moment : ℤ) → IsSound m
    → m.holder ≡ None → 0 < w → w ≤ length m.jobs → job_of m w ≡ Some s → is_here m.book.outboxes s ≡ true
    → (inbox_at m s).pending ≡ piece ∷ rest → book.IsSound put_into (step_begin m w s piece rest moment).book
    → IsSound (step_begin m w s piece rest moment)
begun_sound m w s piece rest moment i free a l has here next sound =
    let jobs : HasBatons m.jobs m.inboxes None = subst (HasBatons m.jobs m.inboxes) free i.jobs in
    let mine = jobs (w - 1) s has in let above = mine.0 in let below = mine.1 in
    let b = inbox_at m s in let was = i.each s above below in let h = m.book.history in
    let n : Shown Waiting = (step_begin m w s piece rest moment).book in
    let said = length (accepted h s) in
    let same = i.inboxes in
    let lines_one : list_all is_one_line (accepted h s ++ piece ∷ rest) ≡ true =
    ap (list_all is_one_line) (ap (λ xs. accepted h s ++ xs) (sym next) ∙ was.accepted) ∙ pieces-one b.fed in
    let served : IsServed n = begun_served m.book (kind.Said s said piece) moment
    (one_line (accepted h s) piece rest lines_one) (i.set, i.clean) in
    one_sound m n s (with_begun b w rest) m.jobs (Some w) i sound served above below refl refl
    (λ t ne from to. begun_carries m.book (kind.Said s said piece) moment t
    (λ gone. away_before m.book t i.book from (omega arith) gone) (rw (ne_eqb s t (λ e. ne (sym e))) refl))
    (record {
      accepted = ap (λ xs. (accepted h s ++ xs) ++ rest) (rw (eq-eqb s s refl) refl)
          ∙ append_assoc (accepted h s) (piece ∷ []) rest ∙ ap (λ xs. accepted h s ++ xs) (sym next) ∙ was.accepted;
      box = box_here (box_at m s) b (with_begun b w rest) m.sendq (owed m.book.settings h s)
          (owed n.settings n.history s) here refl was.box;
      hand = λ v e. absurd (place_apart w v e);
    })
    (begin_batons m.jobs m.inboxes w s (with_begun b w rest) a has refl jobs)
    (λ v e. let vw : w ≡ v = (let f : Some w ≡ Some v = e in cc) in
    (subst (λ (j : ℕ). 0 < j) vw a, subst (λ (j : ℕ). j ≤ length m.jobs) vw l))

pub put_sound : (m : State) → IsSound m → is_some m.holder ≡ true → book.IsSound put_into (step_put m).book
    → IsSound (step_put m)
put_sound m i held sound =
    let same = i.inboxes in
    book_sound m (step_put m).book m.holder i sound (next_served m.book m.book.plan (i.set, i.clean))
    (put_busy m.book m.book.plan ∙ i.lock) (next_length m.book m.book.plan)
    (λ t from to. next_carries m.book m.book.plan t (λ gone. away_before m.book t i.book from (omega arith) gone))
    i.jobs i.holder

-- other workers' batons don't move where one has no line, or gives it away
like_without : (w v : ℕ) → v ≢ w → place_with (Some w) v ≡ place_with None v
like_without w v ne = not_begun_by w v (λ e. ne (sym e))

finish_carries : (m : Shown Waiting) (t : ℕ) → Carries m (book.after_end m) t
finish_carries m t = let c = carries_same m t in record { accepted = c.accepted; box = c.box; before = c.before }

pub sweep_ended_sound : (m : State) (w : ℕ) → IsSound m → m.holder ≡ Some w → job_of m w ≡ None
    → book.IsSound put_into (book.after_end m.book) → IsSound (step_end m w None)
sweep_ended_sound m w i held none sound =
    book_sound m (book.after_end m.book) None i sound (i.set, i.clean) refl refl (λ t from to. finish_carries m.book t)
    (lock_batons m.jobs m.inboxes (Some w) None w none (like_without w)
    (subst (HasBatons m.jobs m.inboxes) held i.jobs))
    (λ v e. absurd (let f : None ≡ Some v = e in cc))

pub line_ended_sound : (m : State) (w s : ℕ) → IsSound m → m.holder ≡ Some w → job_of m w ≡ Some s
    → is_here m.book.outboxes s ≡ true → book.IsSound put_into (book.after_end m.book)
    → IsSound (step_end m w (Some s))
line_ended_sound m w s i held has here sound =
    let jobs : HasBatons m.jobs m.inboxes (Some w) = subst (HasBatons m.jobs m.inboxes) held i.jobs in
    let who = i.holder w held in
    let mine = jobs (w - 1) s has in let above = mine.0 in let below = mine.1 in
    let b = inbox_at m s in let was = i.each s above below in
    one_sound m (book.after_end m.book) s (with_place b Home) (with_job m w None) None i sound
    (i.set, i.clean) above below
    refl refl (λ t ne from to. finish_carries m.book t)
    (record {
      accepted = was.accepted;
      box = box_here (box_at m s) b (with_place b Home) m.sendq
          (owed m.book.settings m.book.history s) (owed m.book.settings m.book.history s) here refl was.box;
      hand = λ v e. absurd (place_home v e);
    })
    (home_batons m.jobs m.inboxes (Some w) None w s (with_place b Home) who.0 who.1 has (like_without w) jobs)
    (λ v e. absurd (let f : None ≡ Some v = e in cc))

pub back_sound : (m : State) (w s : ℕ) → IsSound m → 0 < w → w ≤ length m.jobs → job_of m w ≡ Some s
    → is_here m.book.outboxes s ≡ true → IsSound (back m w s)
back_sound m w s i a l has here =
    let mine = i.jobs (w - 1) s has in let above = mine.0 in let below = mine.1 in
    let b = inbox_at m s in let was = i.each s above below in
    let desks : length (with_job m w None) ≡ length m.jobs = set_length m.jobs (w - 1) None in
    one_sound m m.book s (with_place b Home) (with_job m w None) m.holder i i.book (i.set, i.clean) above below
    i.lock refl (λ t ne from to. carries_same m.book t)
    (record {
      accepted = was.accepted;
      box = box_here (box_at m s) b (with_place b Home) m.sendq
          (owed m.book.settings m.book.history s) (owed m.book.settings m.book.history s) here refl was.box;
      hand = λ v e. absurd (place_home v e);
    })
    (home_batons m.jobs m.inboxes m.holder m.holder w s (with_place b Home) a l has (λ v ne. refl) i.jobs)
    (λ v e. let old = i.holder v e in (old.0, let f = old.1 in omega arith))

-- where one outbox is another
box_set : (boxes : List (Option Waiting)) (s t : ℕ) (o : Option Waiting) → 0 < s → 0 < t → t ≢ s
    → slice_index_or (slice_set boxes (s - 1) o) (t - 1) None ≡ slice_index_or boxes (t - 1) None
box_set boxes s t o a b ne = get_or-set_other boxes (s - 1) (t - 1) o None (λ e. ne (omega arith))

other_carries : (m : Shown Waiting) (s t : ℕ) (o : Option Waiting) (n : Shown Waiting) → 0 < s → 0 < t → t ≢ s
    → n.settings ≡ m.settings → n.history ≡ m.history → n.outboxes ≡ slice_set m.outboxes (s - 1) o → Carries m n t
other_carries m s t o n a b ne settings history boxes =
    let c = carries_same m t in
    record {
      accepted = ap (λ (h : List Rec). accepted h t) history;
      box = subst (λ (p : Option Waiting). IsKeptBox (slice_index_or m.outboxes (t - 1) None) p
          (owed m.settings m.history t) (owed n.settings n.history t))
          (sym (ap (λ (xs : List (Option Waiting)). slice_index_or xs (t - 1) None) boxes
          ∙ box_set m.outboxes s t o a b ne))
          (subst (λ (h : List Rec). IsKeptBox (slice_index_or m.outboxes (t - 1) None) (slice_index_or m.outboxes
          (t - 1) None) (owed m.settings m.history t) (owed n.settings h t)) (sym history)
          (subst (λ (g : Settings). IsKeptBox (slice_index_or m.outboxes (t - 1) None) (slice_index_or m.outboxes
          (t - 1) None) (owed m.settings m.history t) (owed g m.history t)) (sym settings) c.box));
      before = subst (λ (h : List Rec). ShutBefore m.history t → ShutBefore h t) (sym history) (λ x. x);
    }

front : (xs : List Delivery) (x : Delivery) → slice_get xs 0 ≡ Some x → take 1 xs ≡ x ∷ []
front [] x e = absurd (let f : None ≡ Some x = e in cc)
front (y ∷ ys) x e = let f : Some y ≡ Some x = e in let yx : y ≡ x = cc in ap (λ (z : Delivery). z ∷ []) yx

take_first : (q : List Item) → deliveries (take 1 q) ≡ take 1 (deliveries q)
take_first [] = refl
take_first (y ∷ q) = refl

took_box : (o : Option Waiting) (b : Seen) (sendq : ℕ) (left xs ys : List Delivery) (x : Delivery)
    → is_some o ≡ true → slice_get (waits o left) 0 ≡ Some x → IsBoxOf o b sendq xs
    → IsBoxOf (Some (ring_taken (box_of o))) (with_taken b x) sendq ys
took_box None b sendq left xs ys x here e i = absurd (let f : false ≡ true = here in cc)
took_box (Some w) b sendq left xs ys x here e i = (
  map-append (λ (y : Item). y.delivery) w.taken (take 1 w.queue) ∙ ap (λ zs. zs ++ deliveries (take 1 w.queue))
      i.0 ∙ ap (λ zs. b.taken ++ zs) (take_first w.queue ∙ front (deliveries w.queue) x e),
  i.1,
)

pub took_sound : (m : State) (s : ℕ) (x : Delivery) → IsSound m → 0 < s → s ≤ length m.inboxes
    → is_here m.book.outboxes s ≡ true → slice_get (queue_of m s) 0 ≡ Some x
    → book.IsSound put_into (step_take m s x).book → IsSound (step_take m s x)
took_sound m s x i above below here e sound =
    let b = inbox_at m s in let was = i.each s above below in
    let same = i.inboxes in
    let within : s - 1 < length m.book.outboxes = omega arith in
    let n : Shown Waiting = (step_take m s x).book in
    let o : Option Waiting = Some (ring_taken (book.outbox_at m.book.outboxes s)) in
    let new : slice_index_or n.outboxes (s - 1) None ≡ o = get_or-set_same m.book.outboxes (s - 1) o None within in
    one_sound m n s (with_taken b x) m.jobs m.holder i sound (i.set, i.clean) above below i.lock
    (set_length m.book.outboxes (s - 1) o) (λ t ne from to. other_carries m.book s t o n above from ne refl refl refl)
    (record {
      accepted = was.accepted;
      box = subst (λ (p : Option Waiting). IsBoxOf p (with_taken b x) m.sendq
          (owed m.book.settings m.book.history s)) (sym new) (took_box (box_at m s) b m.sendq b.left
          (owed m.book.settings m.book.history s) (owed m.book.settings m.book.history s) x here e was.box);
      hand = was.hand;
    })
    (same_batons m.jobs m.inboxes m.holder s (with_taken b x) above below refl i.jobs) i.holder

-- the state in which its plan is out
abbrev pub with_plan : State → ℕ → Kind → ℤ → State
with_plan m w k moment = record {
  book = book.after_begin m.book k moment;
  sendq = m.sendq;
  inboxes = m.inboxes;
  jobs = m.jobs;
  holder = Some w;
}

pub hung_sound : (m : State) (s : ℕ) (why : Why) (moment : ℤ) → IsSound m → m.holder ≡ None
    → book.IsSound put_into (step_hang m s why moment).book → IsSound (step_hang m s why moment)
hung_sound m s why moment i free sound =
    let same = i.inboxes in
    book_sound m (step_hang m s why moment).book m.holder i sound
    (done_served m.book (kind.Hung s why) moment tt (i.set, i.clean)) (ap is_some (sym free))
    (done_length m.book (kind.Hung s why) moment)
    (λ t from to. done_carries m.book (kind.Hung s why) moment t
    (λ gone. away_before m.book t i.book from (omega arith) gone) refl) i.jobs i.holder

-- a worker without a line begins a record that says nothing
pub silent_sound : (m : State) (w : ℕ) (k : Kind) (moment : ℤ) → ((t : ℕ) → said_by k t ≡ []) → IsCleanKind k
    → IsSound m → m.holder ≡ None → 0 < w → w ≤ length m.jobs → job_of m w ≡ None
    → book.IsSound put_into (book.after_begin m.book k moment) → IsSound (with_plan m w k moment)
silent_sound m w k moment silent is i free a l none sound =
    let same = i.inboxes in
    book_sound m (book.after_begin m.book k moment) (Some w) i sound (begun_served m.book k moment is (i.set, i.clean))
    refl refl
    (λ t from to. begun_carries m.book k moment t
    (λ gone. away_before m.book t i.book from (omega arith) gone) (silent t))
    (lock_batons m.jobs m.inboxes None (Some w) w none
    (λ v ne. sym (like_without w v ne)) (subst (HasBatons m.jobs m.inboxes) free i.jobs))
    (λ v e. let vw : w ≡ v = (let f : Some w ≡ Some v = e in cc) in
    (subst (λ (j : ℕ). 0 < j) vw a, subst (λ (j : ℕ). j ≤ length m.jobs) vw l))

pub is_at_home : (p : Place) → is_home p ≡ true → p ≡ Home
is_at_home Home e = refl
is_at_home (Hand w) e = absurd (let f : false ≡ true = e in cc)
is_at_home (Begun w) e = absurd (let f : false ≡ true = e in cc)

reaped_box : (o : Option Waiting) (b : Seen) (sendq : ℕ) (xs : List Delivery) → is_some o ≡ true
    → IsBoxOf o b sendq xs → deliveries (sent_by put_into o) ++ [] ≡ xs → b.place ≡ Home
    → IsBoxOf None (with_left b (waits o b.left)) sendq xs
reaped_box None b sendq xs here i e home = absurd (let f : false ≡ true = here in cc)
reaped_box (Some w) b sendq xs here i e home = (
  ap (λ ys. ys ++ deliveries w.queue) (sym i.0) ∙ sym (map-append (λ (x : Item). x.delivery) w.taken w.queue)
      ∙ sym (append-nil (deliveries (w.taken ++ w.queue))) ∙ e,
  home,
)

pub reaped_sound : (m : State) (s : ℕ) → IsSound m → m.holder ≡ None → 0 < s
    → s ≤ length m.inboxes → is_here m.book.outboxes s ≡ true → is_home (inbox_at m s).place ≡ true
    → book.IsSound put_into (step_reap m s).book → IsSound (step_reap m s)
reaped_sound m s i free above below here home sound =
    let b = inbox_at m s in let was = i.each s above below in
    let same = i.inboxes in
    let within : s - 1 < length m.book.outboxes = omega arith in
    let below_too : s ≤ length m.book.outboxes = omega arith in
    let n : Shown Waiting = (step_reap m s).book in
    let idle : m.book.plan ≡ [] = i.book.idle (i.lock ∙ ap is_some free) in
    let new : slice_index_or n.outboxes (s - 1) None
    ≡ None = get_or-set_same m.book.outboxes (s - 1) None None within in
    let all : deliveries (sent_by put_into (box_at m s)) ++ [] ≡ owed m.book.settings m.book.history s =
    ap (λ ps. deliveries (sent_by put_into (box_at m s)) ++ book.plan_part ps s) (sym idle)
    ∙ i.book.owed s above below_too here in
    one_sound m n s (with_left b (queue_of m s)) m.jobs m.holder i sound (i.set, i.clean) above below i.lock
    (set_length m.book.outboxes (s - 1) None)
    (λ t ne from to. other_carries m.book s t None n above from ne refl refl refl)
    (record {
      accepted = was.accepted;
      box = subst (λ (p : Option Waiting). IsBoxOf p (with_left b (queue_of m s)) m.sendq
          (owed m.book.settings m.book.history s)) (sym new) (reaped_box (box_at m s) b m.sendq
          (owed m.book.settings m.book.history s) here was.box all (is_at_home b.place home));
      hand = was.hand;
    })
    (same_batons m.jobs m.inboxes m.holder s (with_left b (queue_of m s)) above below refl i.jobs) i.holder

-- ---- a client connects

open_carries : (m : Shown Waiting) (t : ℕ) (host : List ℕ) (moment : ℤ) (box : Waiting)
    → 0 < t → t ≤ length m.outboxes → (is_here m.outboxes t ≡ false → ShutBefore m.history t)
    → Carries m (book.after_open m host moment box) t
open_carries m t host moment box from to f =
    let within : t - 1 < length m.outboxes = omega arith in
    let k = kind.Opened (sessions m.history + 1) host in
    let c = begun_carries m k moment t f refl in
    record {
      accepted = c.accepted;
      box = subst (λ (o : Option Waiting). IsKeptBox (slice_index_or m.outboxes (t - 1) None) o
          (owed m.settings m.history t) (owed m.settings (book.after_open m host moment box).history t))
          (sym (get_or_append_left m.outboxes (Some box ∷ []) None (t - 1) within)) c.box;
      before = c.before;
    }

new_batons : (jobs : List (Option ℕ)) (boxes : List Seen) (holder : Option ℕ) (b : Seen)
    → HasBatons jobs boxes holder → HasBatons jobs (boxes ++ b ∷ []) holder
new_batons jobs boxes holder b h i u e =
    let old = h i u e in let size : length (boxes ++ b ∷ []) ≡ length boxes + 1 = length-append boxes (b ∷ []) in
    let from = old.0 in let to = old.1 in
    let within : u - 1 < length boxes = omega arith in (
      old.0,
      omega arith,
      ap (λ (x : Seen). x.place) (get_or_append_left boxes (b ∷ []) nothing_fed (u - 1) within)
          ∙ old.2,
    )

pub connected_sound : (m : State) (host : List ℕ) (moment : ℤ) → host_shape host ≡ true → IsSound m
    → book.IsSound put_into (step_connect m host moment).book → IsSound (step_connect m host moment)
connected_sound m host moment shape i sound =
    let n : Shown Waiting = (step_connect m host moment).book in
    let served = begun_served m.book (kind.Opened (sessions m.book.history + 1) host) moment shape (i.set, i.clean) in
    let box : Waiting = empty_ring m.sendq in
    let same = i.inboxes in
    let size : length (m.inboxes ++ nothing_fed ∷ [])
    ≡ length m.inboxes + 1 = length-append m.inboxes (nothing_fed ∷ []) in
    let outs : length (m.book.outboxes ++ Some box ∷ [])
    ≡ length m.book.outboxes + 1 = length-append m.book.outboxes (Some box ∷ []) in
    record {
      book = sound;
      inboxes = size ∙ ap (λ (j : ℕ). j + 1) i.inboxes ∙ sym outs;
      each = λ t from to.
          elim (eqb_tells t (length m.inboxes + 1)) [
            | inl is ↦
                let last : length m.inboxes ≡ t - 1 = let f = is.1 in omega arith in
                let later : sessions m.book.history < t = let f = is.1 in let g = i.book.sessions in omega arith in
                let out : length m.book.outboxes ≡ t - 1 = omega arith in
                let here : slice_index_or (m.inboxes ++ nothing_fed ∷ []) (t - 1) nothing_fed
                ≡ nothing_fed = get_or_push m.inboxes nothing_fed nothing_fed (t - 1) last in
                let new : slice_index_or n.outboxes (t - 1) None
                ≡ Some box = get_or_push m.book.outboxes (Some box) None (t - 1) out in
                subst (λ (x : Seen). IsSoundAt n.settings n.history
                (slice_index_or n.outboxes (t - 1) None) x m.sendq t) (sym here)
                (record {
                  accepted = append-nil _ ∙ append-nil _
                      ∙ none_accepted m.book.settings m.book.history t i.book.legal later;
                  box = subst (λ (o : Option Waiting). IsBoxOf o nothing_fed m.sendq (owed n.settings n.history t))
                      (sym new) (refl, refl);
                  hand = λ w e. absurd (place_home w e);
                })
            | inr other ↦
                let below : t ≤ length m.inboxes = let ne = other.1 in omega arith in
                let within : t - 1 < length m.inboxes = omega arith in
                let here : slice_index_or (m.inboxes ++ nothing_fed ∷ []) (t - 1) nothing_fed
                ≡ inbox_at m t = get_or_append_left m.inboxes (nothing_fed ∷ []) nothing_fed (t - 1) within in
                subst (λ (x : Seen). IsSoundAt n.settings n.history
                (slice_index_or n.outboxes (t - 1) None) x m.sendq t) (sym here)
                (carried m.book n (inbox_at m t) m.sendq t (open_carries m.book t host moment box from (omega arith)
                (λ gone. away_before m.book t i.book from (omega arith) gone)) (i.each t from below))
          ];
      jobs = new_batons m.jobs m.inboxes m.holder nothing_fed i.jobs;
      lock = i.lock;
      holder = i.holder;
      set = served.0;
      clean = served.1;
    }
