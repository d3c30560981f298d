-- A ledger stays sound over its steps.
use Rattle.std.proofs.lemmas.Grind.{common_steps}
use Rattle.std.proofs.lemmas.List.{append_cancel_right, get_or-set_same, get_or-set_other, length-set}
use Rattle.std.proofs.lemmas.List.Folds.{list_any-append}
use Rattle.std.proofs.lemmas.List.Sums.{sum_by-cons}
use Rattle.std.proofs.lemmas.Bool.Decides.{eqb_tells}
use Rattle.std.proofs.Common.{◌≡◌, ◌≢◌, inl, inr, ℕ, ℤ, ◌+◌, ◌-◌, ◌<◌, ◌≤◌, Bool, true, false, ◌||◌, ◌==◌, cond, List}
use Rattle.std.proofs.Common.{[], ◌∷◌, ◌++◌, length, slice_set, slice_index_or, sum_by, take, drop, Option, Some, None}
use Rattle.std.proofs.Common.{arith, refl, sym, ap, ◌∙◌, subst, append-nil, append_assoc, eq-eqb, ne_eqb, lit≤}
use Rattle.std.specs.List.{list_any}
use Rattle.std.specs.Option.{is_some}
use Rattle.chronicle.specs.declared.record.Kind.{Kind}
use Rattle.chronicle.specs.History.{Rec, sessions, misses, ends, shut, gone}
use Rattle.chronicle.specs.Journal.{Limit, most}
use Rattle.deliveries.specs.declared.delivery.Delivery.{Delivery}
use Rattle.deliveries.specs.declared.item.Item.{Item}
use Rattle.registration.specs.declared.settings.Settings.{Settings}
use Rattle.ledger.specs.declared.plan.Planned.{Planned}
use Rattle.outbox.specs.Ring.{Waiting, with_taken, put_into}
use Rattle.deliveries.specs.Owed.{number_of, delivery, owed}
use Rattle.ledger.specs.Legal.{AreMissed, IsLegal}
use Rattle.ledger.proofs.About.{gone_before}
use Rattle.roster.specs.LookBack.{numbers}
use Rattle.deliveries.specs.Items.{deliveries, front}
use Rattle.deliveries.proofs.Growing.{grows_by_a_miss}
use Rattle.deliveries.proofs.Newest.{of_newest}
use Rattle.ledger.proofs.Sent.{sent_none, sent_grown, sent_one, delivered_one, may_continue}
use Rattle.ledger.specs.Seats.{MayFollow}
use Rattle.ledger.specs.Ledger.{Shown, IsSent, item_of, box_at, sent_by, box_of, outbox_at, is_here, kept_total}
use Rattle.ledger.specs.Ledger.{plan_part}
use Rattle.ledger.specs.Ledger.{delivered_to, after_miss, after_end, after_take, after_reap, IsOwed, IsPlan, IsSound}

-- ---- the newest record is missed by one more session

abbrev pub more : Rec → ℕ → Rec
more r s = record { number = r.number; moment = r.moment; kind = r.kind; missed = r.missed ++ s ∷ [] }

pub misses_same : (r : Rec) (s : ℕ) → misses (more r s) s ≡ true
misses_same r s = list_any-append (λ u. u == s) r.missed (s ∷ []) ∙ grind (arith, common_steps, eq-eqb s s refl)

pub misses_other : (r : Rec) (s t : ℕ) → s ≢ t → misses (more r s) t ≡ misses r t
misses_other r s t ne = list_any-append (λ u. u == t) r.missed (s ∷ []) ∙ grind (arith, common_steps, ne_eqb s t ne)

-- who has nothing in a plan is no head of it
apart : (q : Planned) (qs : List Planned) (s : ℕ) → plan_part (q ∷ qs) s ≡ [] → (s ≢ q.session) × (plan_part qs s ≡ [])
apart q qs s e =
    elim (eqb_tells q.session s) [
      | inl same ↦ absurd (let f : q.delivery ∷ plan_part qs s ≡ [] = rw same.0 at e in cc)
      | inr other ↦ ((λ i. other.1 (sym i)), rw other.0 at e)
    ]

plan_after : (g : Settings) (r : Rec) (h : List Rec) (n s : ℕ) (qs : List Planned) → plan_part qs s ≡ []
    → IsPlan g (r ∷ h) n qs → IsPlan g (more r s ∷ h) n qs
plan_after g r h n s [] e p = tt
plan_after g r h n s (q ∷ qs) e p =
    let a = apart q qs s e in
    (p.0, p.1, p.2, (p.3.0, p.3.1, misses_other r s q.session a.0 ∙ p.3.2), plan_after g r h n s qs a.1 p.4)

-- the session that missed it
owed_missed : (g : Settings) (r : Rec) (h : List Rec) (had : List Delivery) (p : Planned) (ps : List Planned)
    → plan_part ps p.session ≡ [] → IsOwed g (r ∷ h) p → had ++ plan_part (p ∷ ps) p.session ≡ owed g (r ∷ h) p.session
    → had ++ plan_part ps p.session ≡ owed g (more r p.session ∷ h) p.session
owed_missed g r h had p ps none own k =
    let s = p.session in let d = delivery g h r.kind r.moment s in
    let head : plan_part (p ∷ ps) s ≡ p.delivery ∷ [] = rw (eq-eqb s s refl) (ap (λ xs. p.delivery ∷ xs) none) in
    let last : cond (misses r s || shut h s) [] d ≡ p.delivery ∷ [] = ap
    (λ (c : Bool). cond (c || shut h s) [] d) own.2 ∙ ap (λ (c : Bool). cond c [] d) own.1 ∙ own.0 in
    let got : had ++ p.delivery ∷ [] ≡ owed g h s ++ p.delivery ∷ [] = ap (λ xs. had ++ xs) (sym head) ∙ k ∙ ap
    (λ xs. owed g h s ++ xs) last in
    ap (λ xs. had ++ xs) none ∙ append-nil had ∙ append_cancel_right had (owed g h s) (p.delivery ∷ []) got
    ∙ sym (append-nil (owed g h s))
    ∙ ap (λ (c : Bool). owed g h s ++ cond (c || shut h s) [] d) (sym (misses_same r s))

-- another session
owed_elsewhere : (g : Settings) (r : Rec) (h : List Rec) (had : List Delivery) (p : Planned)
    (ps : List Planned) (t : ℕ) → p.session ≢ t → had ++ plan_part (p ∷ ps) t ≡ owed g (r ∷ h) t
    → had ++ plan_part ps t ≡ owed g (more r p.session ∷ h) t
owed_elsewhere g r h had p ps t ne k =
    ap (λ (c : Bool). had ++ cond c (p.delivery ∷ plan_part ps t) (plan_part ps t)) (sym (ne_eqb p.session t ne)) ∙ k
    ∙ ap (λ (c : Bool). owed g h t ++ cond (c || shut h t) [] (delivery g h r.kind r.moment t))
    (sym (misses_other r p.session t ne))

list_any-push_fresh : (t s : ℕ) (ts : List ℕ) → list_any (λ u. u == t) ts ≡ false → s ≢ t
    → list_any (λ u. u == t) (ts ++ s ∷ []) ≡ false
list_any-push_fresh t s ts e ne = list_any-append (λ u. u == t) ts (s ∷ []) ∙ rw e (rw (ne_eqb s t ne) refl)

missed_more : (g : Settings) (h : List Rec) (k : Kind) (moment : ℤ) (ts : List ℕ) (s : ℕ)
    → delivery g h k moment s ≢ [] → shut h s ≡ false → list_any (λ u. u == s) ts ≡ false
    → AreMissed g h k moment ts → AreMissed g h k moment (ts ++ s ∷ [])
missed_more g h k moment [] s d o f a = (d, o, refl, tt)
missed_more g h k moment (t ∷ ts) s d o f a =
    elim (eqb_tells t s) [
      | inl same ↦ absurd (let g : true ≡ false = sym (rw same.0 refl) ∙ f in cc)
      | inr other ↦ (
        a.0,
        a.1,
        list_any-push_fresh t s ts a.2 (λ e. other.1 (sym e)),
        missed_more g h k moment ts s
            d o (let g : (false || list_any (λ u. u == s) ts) ≡ false = rw other.0 at f in g) a.3,
      )
    ]

-- the sum of what is kept free falls where more is shut
pub sum_le : (f g : ℕ → ℕ) (ts : List ℕ) → ((t : ℕ) → f t ≤ g t) → sum_by f ts ≤ sum_by g ts
sum_le f g [] h = omega arith
sum_le f g (t ∷ ts) h = let a = h t in let b = sum_le f g ts h in
    rw (sum_by-cons f t ts) (rw (sum_by-cons g t ts) (omega arith))

pub kept_less : (a b c d : Bool) → (c ≡ true → a ≡ true) → (d ≡ true → b ≡ true)
    → cond a 0 (cond b 1 2) ≤ cond c 0 (cond d 1 2)
kept_less true b true d g h = lit≤ tt
kept_less true b false true g h = lit≤ tt
kept_less true b false false g h = lit≤ tt
kept_less false b true d g h = absurd (let e : false ≡ true = g refl in cc)
kept_less false true false true g h = lit≤ tt
kept_less false true false false g h = lit≤ tt
kept_less false false false true g h = absurd (let e : false ≡ true = h refl in cc)
kept_less false false false false g h = lit≤ tt

shut_more : (r : Rec) (h : List Rec) (s t : ℕ) → shut (r ∷ h) t ≡ true → shut (more r s ∷ h) t ≡ true
shut_more r h s t e =
    elim (eqb_tells s t) [
      | inl same ↦ ap (λ (u : ℕ). misses (more r s) u || ends r.kind t || shut h t) (sym same.1)
          ∙ rw (misses_same r s) refl
      | inr other ↦ ap (λ c. c || ends r.kind t || shut h t) (misses_other r s t other.1) ∙ e
    ]

-- one more that misses the newest record keeps no more free
pub held_missed : (r : Rec) (h : List Rec) (s : ℕ) → kept_total (more r s ∷ h) ≤ kept_total (r ∷ h)
held_missed r h s =
    sum_le _ _ (numbers 1 (sessions (r ∷ h))) (λ t. kept_less (gone (r ∷ h) t) (shut (more r s ∷ h) t)
    (gone (r ∷ h) t) (shut (r ∷ h) t) (λ e. e) (shut_more r h s t))

-- who is gone is owed nothing more
not_gone_owed : (g : Settings) (h : List Rec) (p : Planned) → IsLegal g h → IsOwed g h p → gone h p.session ≡ true → ⊥
not_gone_owed g [] p l i e = i
not_gone_owed g (r ∷ h) p l i e = absurd (let f : true ≡ false = sym (gone_before g r h p.session l e) ∙ i.1 in cc)

-- what the newest record owes is of its number
owed_newest : (g : Settings) (h : List Rec) (p : Planned) → IsOwed g h p → number_of p.delivery ≡ length h
owed_newest g [] p i = absurd i
owed_newest g (r ∷ h) p i =
    let e : number_of p.delivery ≡ length h + 1 = of_newest g h r.kind r.moment p.session p.delivery i.0 in
    let goal : number_of p.delivery ≡ length (r ∷ h) = omega arith in goal

-- ---- outboxes by the numbers of their sessions

pub box_same : {X : Type 0} (boxes : List (Option X)) (s : ℕ) (v : Option X) → 0 < s → s ≤ length boxes
    → slice_index_or (slice_set boxes (s - 1) v) (s - 1) None ≡ v
box_same boxes s v from to = let l : s - 1 < length boxes = omega arith in get_or-set_same boxes (s - 1) v None l

pub box_other : {X : Type 0} (boxes : List (Option X)) (s t : ℕ) (v : Option X) → 0 < s → 0 < t → s ≢ t
    → slice_index_or (slice_set boxes (s - 1) v) (t - 1) None ≡ slice_index_or boxes (t - 1) None
box_other boxes s t v a b ne = get_or-set_other boxes (s - 1) (t - 1) v None (λ e. ne (omega arith))

-- who has an outbox has one after another is put in a place, and nobody else
pub here_same : {X : Type 0} (boxes : List (Option X)) (s t : ℕ) (v : X) → is_here boxes s ≡ true → 0 < s
    → s ≤ length boxes → 0 < t → is_here boxes t ≡ is_here (slice_set boxes (s - 1) (Some v)) t
here_same boxes s t v there from to above =
    elim (eqb_tells s t) [
      | inl same ↦
          let here : is_here boxes s ≡ is_here (slice_set boxes (s - 1) (Some v)) s = there ∙ ap
          (λ o. is_some o) (sym (box_same boxes s (Some v) from to)) in
          subst (λ (u : ℕ). is_here boxes u ≡ is_here (slice_set boxes (s - 1) (Some v)) u) same.1 here
      | inr other ↦ ap (λ o. is_some o) (sym (box_other boxes s t (Some v) from above other.1))
    ]

-- an item may be put where with it all is put that the history owes
follows_in : {O : Type 0} (sent : O → List Item) (g : Settings) (h : List Rec) (x : Item) (box : Option O)
    → x.settings ≡ g → front x ≡ h → number_of x.delivery ≡ length h → IsSent g h x.session (sent_by sent box)
    → deliveries (sent_by sent box) ++ x.delivery ∷ [] ≡ owed g h x.session → MayFollow sent box x
follows_in sent g h x None settings here newest i all = tt
follows_in sent g h x (Some o) settings here newest i all = may_continue g h x (sent o) settings here newest i all

module _ {O : Type 0} (sent : O → List Item) where
  dropped_at : (h : List Rec) (limit : Limit) (g : Settings) (boxes : List (Option O)) (busy : Bool) (p : Planned)
      (ps : List Planned) → let m : Shown O = record {
        history = h;
        limit = limit;
        settings = g;
        outboxes = boxes;
        plan = p ∷ ps;
        busy = busy;
      } in IsSound sent m → IsSound sent (after_miss m p ps)
  dropped_at [] limit g boxes busy p ps i = absurd i.plan.3
  dropped_at (r ∷ h) limit g boxes busy p ps i =
      let own = i.plan.3 in
      record {
        owed = λ t from to here.
            let had = deliveries (sent_by sent (box_at boxes t)) in
            elim (eqb_tells p.session t) [
              | inl same ↦
                  let k = i.owed p.session i.plan.0 i.plan.1 (ap (is_here boxes) same.1 ∙ here) in
                  let was = deliveries (sent_by sent (box_at boxes p.session)) in
                  subst (λ (u : ℕ). deliveries (sent_by sent (box_at boxes u)) ++ plan_part ps u
                  ≡ owed g (more r p.session ∷ h) u) same.1 (owed_missed g r h was p ps i.plan.2 own k)
              | inr other ↦ owed_elsewhere g r h had p ps t other.1 (i.owed t from to here)
            ];
        items = λ t from to. sent_grown g (r ∷ h) (more r p.session ∷ h) t (sent_by sent (box_at boxes t))
            (grows_by_a_miss (r ∷ h) p.session) (i.items t from to);
        reaped = λ t from to away. i.reaped t from to away;
        plan = plan_after g r h (length boxes) p.session ps i.plan.2 i.plan.4;
        idle = λ e. absurd (let f : p ∷ ps ≡ [] = i.idle e in cc);
        legal = (
          i.legal.0,
          i.legal.1,
          i.legal.2,
          missed_more g h r.kind r.moment r.missed p.session
              (λ e. let f : p.delivery ∷ [] ≡ [] = sym own.0 ∙ e in cc) own.1 own.2 i.legal.3,
          i.legal.4,
        );
        sessions = i.sessions;
        room =
            let less = held_missed r h p.session in
            let old : length (r ∷ h) + kept_total (r ∷ h) ≤ most limit = i.room in
            let goal : length (more r p.session ∷ h) + kept_total (more r p.session ∷ h) ≤ most limit = omega arith in
            goal;
      }

  pub dropped_sound : (m : Shown O) (p : Planned) (ps : List Planned) → m.plan ≡ p ∷ ps → IsSound sent m
      → IsSound sent (after_miss m p ps)
  dropped_sound m p ps e i = dropped_at m.history m.limit m.settings m.outboxes m.busy p ps
      (subst (λ qs. IsSound sent (record {
        history = m.history;
        limit = m.limit;
        settings = m.settings;
        outboxes = m.outboxes;
        plan = qs;
        busy = m.busy;
      })) e i)

  -- whose delivery is next isn't reaped
  next_by : (m : Shown O) (p : Planned) (ps : List Planned) (b : Bool) → is_here m.outboxes p.session ≡ b
      → IsPlan m.settings m.history (length m.outboxes) (p ∷ ps) → IsSound sent m
      → is_here m.outboxes p.session ≡ true
  next_by m p ps true e i s = e
  next_by m p ps false e i s = absurd (not_gone_owed m.settings m.history p s.legal i.3 (s.reaped p.session i.0 i.1 e))

  pub next_here : (m : Shown O) (p : Planned) (ps : List Planned) → m.plan ≡ p ∷ ps → IsSound sent m
      → is_here m.outboxes p.session ≡ true
  next_here m p ps e s = next_by m p ps (is_here m.outboxes p.session) refl
      (subst (IsPlan m.settings m.history (length m.outboxes)) e s.plan) s

  -- and its item may be put after what was
  pub next_follows : (m : Shown O) (p : Planned) (ps : List Planned) → m.plan ≡ p ∷ ps → IsSound sent m
      → MayFollow sent (box_at m.outboxes p.session) (item_of m p)
  next_follows m p ps e i =
      let s = p.session in
      let g = m.settings in
      let h = m.history in
      let is : IsPlan g h (length m.outboxes) (p ∷ ps) = subst (IsPlan g h (length m.outboxes)) e i.plan in
      let head : plan_part m.plan s ≡ p.delivery ∷ [] = ap (λ qs. plan_part qs s) e ∙ (let f : plan_part (p ∷ ps) s
      ≡ p.delivery ∷ [] = rw (eq-eqb s s refl) (ap (λ xs. p.delivery ∷ xs) is.2) in f) in
      let all : deliveries (sent_by sent (box_at m.outboxes s)) ++ p.delivery ∷ []
      ≡ owed g h s = ap (λ xs. deliveries (sent_by sent (box_at m.outboxes s)) ++ xs) (sym head)
      ∙ i.owed s is.0 is.1 (next_here m p ps e i) in
      follows_in sent g h (item_of m p) (box_at m.outboxes s) refl refl (owed_newest g h p is.3)
      (i.items s is.0 is.1) all

  -- ---- a delivery is put

  delivered_at : (h : List Rec) (limit : Limit) (g : Settings) (boxes : List (Option O)) (busy : Bool) (p : Planned)
      (ps : List Planned) (a b : O) (x : Item) → x.delivery ≡ p.delivery → x.session ≡ p.session → x.settings ≡ g
      → front x ≡ h → box_at boxes p.session ≡ Some a → sent b ≡ sent a ++ x ∷ []
      → let m : Shown O = record {
        history = h;
        limit = limit;
        settings = g;
        outboxes = boxes;
        plan = p ∷ ps;
        busy = busy;
      } in IsSound sent m → IsSound sent (delivered_to m p ps b)
  delivered_at h limit g boxes busy p ps a b x what whose settings_ here_now at grew i =
      let s = p.session in let new = slice_set boxes (s - 1) (Some b) in
      let len : length new ≡ length boxes = simp length-set in
      let there : is_here boxes s ≡ true = ap (λ o. is_some o) at in
      record {
        owed = λ t from to here.
            let to' : t ≤ length boxes = omega arith in
            elim (eqb_tells s t) [
              | inl same ↦
                  let head : plan_part (p ∷ ps) s ≡ p.delivery ∷ plan_part ps s = rw (eq-eqb s s refl) refl in
                  let k : deliveries (sent b) ++ plan_part ps s ≡ owed g h s =
                  ap (λ xs. deliveries xs ++ plan_part ps s) grew ∙ ap (λ xs. xs ++ plan_part ps s)
                  (delivered_one (sent a) x) ∙ ap (λ d. (deliveries (sent a) ++ d ∷ []) ++ plan_part ps s) what
                  ∙ append_assoc (deliveries (sent a)) (p.delivery ∷ []) (plan_part ps s) ∙ ap
                  (λ xs. deliveries (sent a) ++ xs) (sym head)
                  ∙ ap (λ o. deliveries (sent_by sent o) ++ plan_part (p ∷ ps) s) (sym at)
                  ∙ i.owed s i.plan.0 i.plan.1 there in
                  let here_ : deliveries (sent_by sent (box_at new s)) ++ plan_part ps s
                  ≡ owed g h s = ap (λ o. deliveries (sent_by sent o) ++ plan_part ps s)
                  (box_same boxes s (Some b) i.plan.0 i.plan.1) ∙ k in
                  subst (λ (u : ℕ). deliveries (sent_by sent (box_at new u)) ++ plan_part ps u
                  ≡ owed g h u) same.1 here_
              | inr other ↦
                  let is = box_other boxes s t (Some b) i.plan.0 from other.1 in
                  ap (λ o. deliveries (sent_by sent o) ++ plan_part ps t) is
                  ∙ ap (λ (c : Bool). deliveries (sent_by sent (box_at boxes t))
                  ++ cond c (p.delivery ∷ plan_part ps t) (plan_part ps t)) (sym other.0)
                  ∙ i.owed t from to' (ap (λ o. is_some o) (sym is) ∙ here)
            ];
        items = λ t from to.
            let to' : t ≤ length boxes = omega arith in
            elim (eqb_tells s t) [
              | inl same ↦
                  let old : IsSent g h s (sent a) = subst
                  (λ o. IsSent g h s (sent_by sent o)) at (i.items s i.plan.0 i.plan.1) in
                  let one : IsSent g h s (sent a ++ x ∷ []) = subst
                  (λ (u : ℕ). IsSent g h u (sent a ++ x ∷ [])) whose (sent_one g h x (sent a) settings_ here_now
                  (subst (λ (u : ℕ). IsSent g h u (sent a)) (sym whose) old)) in
                  let now : IsSent g h s (sent_by sent (box_at new s)) = subst (λ o. IsSent g h s (sent_by sent o))
                  (sym (box_same boxes s (Some b) i.plan.0 i.plan.1)) (subst (IsSent g h s) (sym grew) one) in
                  subst (λ (u : ℕ). IsSent g h u (sent_by sent (box_at new u))) same.1 now
              | inr other ↦ subst (λ o. IsSent g h t (sent_by sent o))
                  (sym (box_other boxes s t (Some b) i.plan.0 from other.1)) (i.items t from to')
            ];
        reaped = λ t from to away.
            let to' : t ≤ length boxes = omega arith in
            elim (eqb_tells s t) [
              | inl same ↦ absurd (let f : true ≡ false = ap (λ o. is_some o)
                  (sym (box_same boxes s (Some b) i.plan.0 i.plan.1)) ∙ ap (is_here new) same.1 ∙ away in cc)
              | inr other ↦ i.reaped t from to'
                  (ap (λ o. is_some o) (sym (box_other boxes s t (Some b) i.plan.0 from other.1)) ∙ away)
            ];
        plan = rw len i.plan.4;
        idle = λ e. absurd (let f : p ∷ ps ≡ [] = i.idle e in cc);
        legal = i.legal;
        sessions = i.sessions ∙ sym len;
        room = i.room;
      }

  pub delivered_sound : (m : Shown O) (p : Planned) (ps : List Planned) (a b : O) → m.plan ≡ p ∷ ps
      → box_at m.outboxes p.session ≡ Some a → sent b ≡ sent a ++ item_of m p ∷ [] → IsSound sent m
      → IsSound sent (delivered_to m p ps b)
  delivered_sound m p ps a b e at grew i =
      delivered_at m.history m.limit m.settings m.outboxes m.busy p ps a b (item_of m p) refl refl refl refl at grew
      (subst (λ qs. IsSound sent (record {
        history = m.history;
        limit = m.limit;
        settings = m.settings;
        outboxes = m.outboxes;
        plan = qs;
        busy = m.busy;
      })) e i)

  -- ---- the plan is given back

  pub finished_sound : (m : Shown O) → m.plan ≡ [] → IsSound sent m → IsSound sent (after_end m)
  finished_sound m none i = record {
    owed = i.owed;
    items = i.items;
    reaped = i.reaped;
    plan = i.plan;
    idle = λ e. none;
    legal = i.legal;
    sessions = i.sessions;
    room = i.room;
  }

  -- ---- an outbox changes, but for what was put into it

  pub changed_sound : (m : Shown O) (s : ℕ) (a b : O) → 0 < s → s ≤ length m.outboxes → box_at m.outboxes s ≡ Some a
      → sent b ≡ sent a → IsSound sent m
      → IsSound sent (record {
        history = m.history;
        limit = m.limit;
        settings = m.settings;
        outboxes = slice_set m.outboxes (s - 1) (Some b);
        plan = m.plan;
        busy = m.busy;
      })
  changed_sound m s a b above below at same_sent i =
      let boxes = m.outboxes in let new = slice_set boxes (s - 1) (Some b) in
      let len : length new ≡ length boxes = simp length-set in
      record {
        owed = λ t from to here.
            let to' : t ≤ length boxes = omega arith in
            elim (eqb_tells s t) [
              | inl same ↦
                  let here_ : deliveries (sent_by sent (box_at new s)) ++ plan_part m.plan s
                  ≡ owed m.settings m.history s =
                  ap (λ o. deliveries (sent_by sent o) ++ plan_part m.plan s) (box_same boxes s (Some b) above below)
                  ∙ ap (λ xs. deliveries xs ++ plan_part m.plan s) same_sent
                  ∙ ap (λ o. deliveries (sent_by sent o) ++ plan_part m.plan s) (sym at)
                  ∙ i.owed s above below (ap (λ o. is_some o) at) in
                  subst (λ (u : ℕ). deliveries (sent_by sent (box_at new u)) ++ plan_part m.plan u
                  ≡ owed m.settings m.history u) same.1 here_
              | inr other ↦
                  let is = box_other boxes s t (Some b) above from other.1 in
                  ap (λ o. deliveries (sent_by sent o) ++ plan_part m.plan t) is
                  ∙ i.owed t from to' (ap (λ o. is_some o) (sym is) ∙ here)
            ];
        items = λ t from to.
            let to' : t ≤ length boxes = omega arith in
            elim (eqb_tells s t) [
              | inl same ↦
                  let old : IsSent m.settings m.history s (sent a) = subst
                  (λ o. IsSent m.settings m.history s (sent_by sent o)) at (i.items s above below) in
                  let now : IsSent m.settings m.history s (sent_by sent (box_at new s)) =
                  subst (λ o. IsSent m.settings m.history s (sent_by sent o))
                  (sym (box_same boxes s (Some b) above below))
                  (subst (IsSent m.settings m.history s) (sym same_sent) old) in
                  subst (λ (u : ℕ). IsSent m.settings m.history u (sent_by sent (box_at new u))) same.1 now
              | inr other ↦ subst (λ o. IsSent m.settings m.history t (sent_by sent o))
                  (sym (box_other boxes s t (Some b) above from other.1)) (i.items t from to')
            ];
        reaped = λ t from to away.
            let to' : t ≤ length boxes = omega arith in
            elim (eqb_tells s t) [
              | inl same ↦ absurd (let f : true ≡ false = ap (λ o. is_some o)
                  (sym (box_same boxes s (Some b) above below)) ∙ ap (is_here new) same.1 ∙ away in cc)
              | inr other ↦ i.reaped t from to'
                  (ap (λ o. is_some o) (sym (box_other boxes s t (Some b) above from other.1)) ∙ away)
            ];
        plan = rw len i.plan;
        idle = i.idle;
        legal = i.legal;
        sessions = i.sessions ∙ sym len;
        room = i.room;
      }

  -- ---- a session is given up

  pub reaped_sound : (m : Shown O) (s : ℕ) → 0 < s → s ≤ length m.outboxes → gone m.history s ≡ true
      → IsSound sent m → IsSound sent (after_reap m s)
  reaped_sound m s above below left i =
      let boxes = m.outboxes in let new = slice_set boxes (s - 1) None in
      let len : length new ≡ length boxes = simp length-set in
      record {
        owed = λ t from to here.
            let to' : t ≤ length boxes = omega arith in
            elim (eqb_tells s t) [
              | inl same ↦ absurd (let f : false ≡ true = ap
                  (λ o. is_some o) (sym (box_same boxes s None above below)) ∙ ap (is_here new) same.1 ∙ here in cc)
              | inr other ↦
                  let is = box_other boxes s t None above from other.1 in
                  ap (λ o. deliveries (sent_by sent o) ++ plan_part m.plan t) is
                  ∙ i.owed t from to' (ap (λ o. is_some o) (sym is) ∙ here)
            ];
        items = λ t from to.
            let to' : t ≤ length boxes = omega arith in
            elim (eqb_tells s t) [
              | inl same ↦
                  let now : IsSent m.settings m.history s (sent_by sent (box_at new s)) = subst
                  (λ o. IsSent m.settings m.history s (sent_by sent o))
                  (sym (box_same boxes s None above below)) (sent_none m.settings m.history s) in
                  subst (λ (u : ℕ). IsSent m.settings m.history u (sent_by sent (box_at new u))) same.1 now
              | inr other ↦ subst (λ o. IsSent m.settings m.history t (sent_by sent o))
                  (sym (box_other boxes s t None above from other.1)) (i.items t from to')
            ];
        reaped = λ t from to away.
            let to' : t ≤ length boxes = omega arith in
            elim (eqb_tells s t) [
              | inl same ↦ ap (gone m.history) (sym same.1) ∙ left
              | inr other ↦ i.reaped t from to'
                  (ap (λ o. is_some o) (sym (box_other boxes s t None above from other.1)) ∙ away)
            ];
        plan = rw len i.plan;
        idle = i.idle;
        legal = i.legal;
        sessions = i.sessions ∙ sym len;
        room = i.room;
      }

-- ---- an item is taken of a ring

take_one : (q : List Item) → take 1 q ++ drop 1 q ≡ q
take_one [] = refl
take_one (x ∷ q) = refl

taken_as : (o : Option Waiting) → is_some o ≡ true → o ≡ Some (box_of o)
taken_as None e = absurd (let f : false ≡ true = e in cc)
taken_as (Some b) e = refl

pub taken_sound : (m : Shown Waiting) (s : ℕ) → 0 < s → s ≤ length m.outboxes → is_here m.outboxes s ≡ true
    → IsSound put_into m → IsSound put_into (after_take m s)
taken_sound m s above below there i =
    let b = outbox_at m.outboxes s in
    changed_sound put_into m s b (with_taken b) above below (taken_as (box_at m.outboxes s) there)
    (append_assoc b.taken (take 1 b.queue) (drop 1 b.queue) ∙ ap (λ xs. b.taken ++ xs) (take_one b.queue)) i
