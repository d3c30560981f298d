-- A ledger stays sound where a record is appended whose deliveries are planned.
use Rattle.std.proofs.lemmas.Bool.Decides.{eqb_tells}
use Rattle.std.proofs.Common.{◌≡◌, ◌≢◌, ◌⊎◌, inl, inr, ℕ, ℤ, zero, suc, ◌+◌, ◌<◌, ◌≤◌, Bool, true, false, ◌||◌}
use Rattle.std.proofs.Common.{◌==◌, nat_le, cond, List, [], ◌∷◌, ◌++◌, length, sum_by, arith, refl, sym, ap, ◌∙◌}
use Rattle.std.proofs.Common.{subst, append-nil, eq-eqb, ne_eqb, zero-add, lit<, lit≤}
use Rattle.std.proofs.lemmas.List.Sums.{sum_by-cons}
use Rattle.chronicle.specs.declared.why.Why.{Why}
use Rattle.chronicle.specs.declared.record.Kind.{Kind}
use Rattle.chronicle.specs.declared.record.Kind.TheVariants.{Hung, Gone}
use Rattle.chronicle.specs.History.{Rec, actor, opened_by, sessions, ends, leaves, shut}
use Rattle.chronicle.specs.History.{gone, last_moment, IsMomentAfter}
use Rattle.chronicle.specs.Journal.{most, fresh_record}
use Rattle.deliveries.specs.declared.delivery.Delivery.{Delivery}
use Rattle.deliveries.specs.declared.item.Item.{Item}
use Rattle.registration.specs.declared.settings.Settings.{Settings}
use Rattle.ledger.specs.declared.plan.Planned.{Planned}
use Rattle.deliveries.specs.declared.delivery.Delivery.TheVariants.{Last}
use Rattle.deliveries.specs.Owed.{told_text, item, reason, delivery}
use Rattle.ledger.specs.Legal.{IsKind}
use Rattle.roster.specs.LookBack.{numbers}
use Rattle.deliveries.specs.Items.{deliveries}
use Rattle.deliveries.proofs.Growing.{grows_by_one}
use Rattle.ledger.proofs.Sent.{sent_grown}
use Rattle.ledger.specs.Ledger.{Shown, box_at, sent_by, kept_for, kept_total, due, puts, others}
use Rattle.ledger.specs.Ledger.{plan_by, plan_of, plan_part, after_begin, IsPlan, IsSound}
use Rattle.ledger.proofs.Sound.{sum_le, kept_less}

pub planned_puts : (k t : ℕ) (xs : List Delivery) (ps : List Planned) → plan_part (puts k xs ++ ps) t
    ≡ cond (k == t) (xs ++ plan_part ps t) (plan_part ps t)
planned_puts k t [] ps = let P = plan_part ps t in
    elim (k == t) as (λ c. P ≡ cond c P P) [ true ↦ refl | false ↦ refl ]
planned_puts k t (x ∷ xs) ps =
    let P = plan_part ps t in
    rw (planned_puts k t xs ps) (elim (k == t) as (λ c. cond c (x ∷ cond c (xs ++ P) P) (cond c (xs ++ P) P)
    ≡ cond c (x ∷ (xs ++ P)) P) [ true ↦ refl | false ↦ refl ])

-- one session's part of the others
others_one : (f : ℕ → List Delivery) (s k n t : ℕ) → plan_part
    (cond (k == s) [] (puts k (f k)) ++ others f s (k + 1) n) t ≡ cond (k == s) (plan_part (others f s (k + 1) n) t)
    (cond (k == t) (f k ++ plan_part (others f s (k + 1) n) t) (plan_part (others f s (k + 1) n) t))
others_one f s k n t = let rest = others f s (k + 1) n in
    elim (k == s) as (λ c. plan_part (cond c [] (puts k (f k)) ++ rest) t ≡ cond c (plan_part rest t) (cond (k == t)
    (f k ++ plan_part rest t) (plan_part rest t))) [ true ↦ refl | false ↦ planned_puts k t (f k) rest ]

others_before : (f : ℕ → List Delivery) (s k n t : ℕ) → t < k → plan_part (others f s k n) t ≡ []
others_before f s k zero t h = refl
others_before f s k (suc n) t h =
    let ne : k ≢ t = omega arith in let none = others_before f s (k + 1) n t (omega arith) in
    others_one f s k n t ∙ rw (ne_eqb k t ne) (rw none
    (let E : List Delivery = [] in elim (k == s) as (λ c. cond c E E ≡ E) [ true ↦ refl | false ↦ refl ]))

others_actor : (f : ℕ → List Delivery) (s k n : ℕ) → plan_part (others f s k n) s ≡ []
others_actor f s k zero = refl
others_actor f s k (suc n) =
    let none = others_actor f s (k + 1) n in
    others_one f s k n s ∙ elim (eqb_tells k s) [
      | inl same ↦ rw same.0 none
      | inr other ↦ rw other.0 none
    ]

others_at : (f : ℕ → List Delivery) (s k n t : ℕ) → t ≢ s → k ≤ t → t < k + n → plan_part (others f s k n) t ≡ f t
others_at f s k zero t ne h l = absurd (omega arith)
others_at f s k (suc n) t ne h l =
    others_one f s k n t
    ∙ elim (eqb_tells k t) [
      | inl same ↦
          let not_s : k ≢ s = λ e. ne (sym same.1 ∙ e) in
          rw (ne_eqb k s not_s) (rw same.0 (ap (λ ps. f k ++ ps) (others_before f s (k + 1) n t
          (let e = same.1 in omega arith)) ∙ append-nil _ ∙ ap (λ (u : ℕ). f u) same.1))
      | inr other ↦
          let rest = others_at f s (k + 1) n t ne (let d = other.1 in omega arith) (omega arith) in
          rw other.0 (rw rest (elim (k == s) as (λ c. cond c (f t) (f t) ≡ f t) [ true ↦ refl | false ↦ refl ]))
    ]

-- what a plan has for a session
pub planned_plan : (f : ℕ → List Delivery) (s n t : ℕ) → 0 < t → t ≤ n → plan_part (plan_by f s n) t ≡ f t
planned_plan f s n t from to =
    planned_puts s t (f s) (others f s 1 n)
    ∙ elim (eqb_tells s t) [
      | inl same ↦ rw same.0 (ap (λ ps. f s ++ ps) (ap (λ (u : ℕ). plan_part (others f s 1 n) u) (sym same.1)
          ∙ others_actor f s 1 n) ∙ append-nil _ ∙ ap (λ (u : ℕ). f u) same.1)
      | inr other ↦ rw other.0 (others_at f s 1 n t (λ e. other.1 (sym e)) (omega arith) (omega arith))
    ]

-- ---- each delivery of the plan is owed

due_cases : (g : Settings) (h : List Rec) (k : Kind) (moment : ℤ) (t : ℕ) → (due g h k moment t ≡ [])
    ⊎ ((x : Delivery) × (due g h k moment t ≡ x ∷ []) × (delivery g h k moment t ≡ x ∷ []) × (shut h t ≡ false))
due_cases g h k moment t =
    let L = Last (length h + 1) (reason k) in
    elim (shut h t) as (λ b. (cond b [] (delivery g h k moment t) ≡ []) ⊎ ((x : Delivery)
    × (cond b [] (delivery g h k moment t) ≡ x ∷ []) × (delivery g h k moment t ≡ x ∷ []) × (b ≡ false))) [
      | true ↦ inl refl
      | false ↦ elim (ends k t) as (λ e. (cond e (L ∷ []) (item (length h + 1) (told_text g h k moment t)) ≡ [])
          ⊎ ((x : Delivery) × (cond e (L ∷ []) (item (length h + 1) (told_text g h k moment t)) ≡ x ∷ [])
          × (cond e (L ∷ []) (item (length h + 1) (told_text g h k moment t)) ≡ x ∷ []) × (false ≡ false))) [
            | true ↦ inr (_, refl, refl, refl)
            | false ↦ elim (told_text g h k moment t) as (λ ls. (item (length h + 1) ls ≡ []) ⊎ ((x : Delivery)
                × (item (length h + 1) ls ≡ x ∷ []) × (item (length h + 1) ls ≡ x ∷ []) × (false ≡ false))) [
                  | [] ↦ inl refl
                  | l ∷ ls ↦ inr (_, refl, refl, refl)
                ]
          ]
    ]

-- the parts of a plan for one session, before a plan in which it has nothing
puts_ok : (g : Settings) (r : Rec) (h : List Rec) (n t : ℕ) (ps : List Planned) → r.missed ≡ [] → 0 < t → t ≤ n
    → plan_part ps t ≡ [] → IsPlan g (r ∷ h) n ps → IsPlan g (r ∷ h) n (puts t (due g h r.kind r.moment t) ++ ps)
puts_ok g r h n t ps nobody from to none i =
    let P : List Delivery → Type 0 = λ xs. IsPlan g (r ∷ h) n (puts t xs ++ ps) in
    elim (due_cases g h r.kind r.moment t) [
      | inl e ↦ subst P (sym e) i
      | inr some ↦ subst P (sym some.1) (from, to, none, (some.2, some.3, rw nobody refl), i)
    ]

others_ok : (g : Settings) (r : Rec) (h : List Rec) (n s k j : ℕ) → r.missed ≡ [] → 0 < k → k + j ≤ n + 1
    → IsPlan g (r ∷ h) n (others (due g h r.kind r.moment) s k j)
others_ok g r h n s k zero nobody from to = tt
others_ok g r h n s k (suc j) nobody from to =
    let rest = others (due g h r.kind r.moment) s (k + 1) j in
    let ok = others_ok g r h n s (k + 1) j nobody (omega arith) (omega arith) in
    elim (k == s) as (λ c. IsPlan g (r ∷ h) n (cond c [] (puts k (due g h r.kind r.moment k)) ++ rest)) [
      | true ↦ ok
      | false ↦ puts_ok g r h n k rest nobody from (omega arith)
          (others_before (due g h r.kind r.moment) s (k + 1) j k (omega arith)) ok
    ]

pub plan_ok : (g : Settings) (r : Rec) (h : List Rec) (n s : ℕ) → r.missed ≡ [] → 0 < s → s ≤ n
    → IsPlan g (r ∷ h) n (plan_by (due g h r.kind r.moment) s n)
plan_ok g r h n s nobody from to = puts_ok g r h n s (others (due g h r.kind r.moment) s 1 n) nobody from to
    (others_actor (due g h r.kind r.moment) s 1 n) (others_ok g r h n s 1 n nobody (lit< tt) (omega arith))

-- nor is there another where the record is of no session, and nobody has the number 0
pub plan_of_none : (g : Settings) (r : Rec) (h : List Rec) (n : ℕ) → r.missed ≡ [] → due g h r.kind r.moment 0 ≡ []
    → IsPlan g (r ∷ h) n (plan_by (due g h r.kind r.moment) 0 n)
plan_of_none g r h n nobody none = subst
    (λ xs. IsPlan g (r ∷ h) n (puts 0 xs ++ others (due g h r.kind r.moment) 0 1 n)) (sym none)
    (others_ok g r h n 0 1 n nobody (lit< tt) (omega arith))

-- ---- the step

pub begun_by : {O : Type 0} (sent : O → List Item) (m : Shown O) (k : Kind) (moment : _) → IsSound sent m
    → m.busy ≡ false → opened_by k ≡ 0 → IsPlan m.settings (fresh_record m.history moment k ∷ m.history)
    (length m.outboxes) (plan_of m.settings m.history k moment (length m.outboxes))
    → IsKind m.history k → IsMomentAfter (last_moment m.history) moment → length m.history + 1 + kept_total
    (fresh_record m.history moment k ∷ m.history) ≤ most m.limit → IsSound sent (after_begin m k moment)
begun_by sent m k moment i free none is_plan is in_time room_ =
    let h = m.history in let g = m.settings in let n = length m.outboxes in let r = fresh_record h moment k in
    let nothing : (t : ℕ) → deliveries (sent_by sent (box_at m.outboxes t)) ++ plan_part m.plan t
    ≡ deliveries (sent_by sent (box_at m.outboxes t)) =
    λ t. ap (λ ps. deliveries (sent_by sent (box_at m.outboxes t)) ++ plan_part ps t) (i.idle free) ∙ append-nil _ in
    let same : opened_by k + sessions h ≡ sessions h = ap (λ (j : ℕ). j + sessions h) none ∙ zero-add (sessions h) in
    record {
      owed = λ t above below here.
          ap (λ xs. deliveries (sent_by sent (box_at m.outboxes t)) ++ xs)
          (planned_plan (due g h k moment) (actor k) n t above below)
          ∙ ap (λ xs. xs ++ due g h k moment t) (sym (nothing t) ∙ i.owed t above below here);
      items = λ t above below. sent_grown g h (r ∷ h) t (sent_by sent (box_at m.outboxes t)) (grows_by_one h r)
          (i.items t above below);
      reaped = λ t above below away. rw (i.reaped t above below away)
          (elim (leaves k t) as (λ b. (b || true) ≡ true) [ true ↦ refl | false ↦ refl ]);
      plan = is_plan;
      idle = λ e. absurd (let f : true ≡ false = e in cc);
      legal = (refl, in_time, is, tt, i.legal);
      sessions = same ∙ i.sessions;
      room = let goal : length (r ∷ h) + kept_total (r ∷ h) ≤ most m.limit = omega arith in goal;
    }

pub begun_sound : {O : Type 0} (sent : O → List Item) (m : Shown O) (k : Kind) (moment : _) → IsSound sent m
    → m.busy ≡ false → opened_by k ≡ 0 → 0 < actor k → actor k ≤ length m.outboxes → IsKind m.history k
    → IsMomentAfter (last_moment m.history) moment
    → length m.history + 1 + kept_total (fresh_record m.history moment k ∷ m.history) ≤ most m.limit
    → IsSound sent (after_begin m k moment)
begun_sound sent m k moment i free none from to is in_time room_ =
    begun_by sent m k moment i free none (plan_ok m.settings (fresh_record m.history moment k) m.history
    (length m.outboxes) (actor k) refl from to) is in_time room_

-- ---- what is kept free

-- a sum falls where one of its parts does
sum_less : (f g : ℕ → ℕ) (s k n : ℕ) → ((t : ℕ) → f t ≤ g t) → f s + 1 ≤ g s → k ≤ s → s < k + n
    → sum_by f (numbers k n) + 1 ≤ sum_by g (numbers k n)
sum_less f g s k zero le less a b = absurd (omega arith)
sum_less f g s k (suc n) le less a b =
    rw (sum_by-cons f k (numbers (k + 1) n)) (rw (sum_by-cons g k (numbers (k + 1) n)) (elim (eqb_tells k s) [
      | inl same ↦ let here : f k + 1 ≤ g k = subst (λ (u : ℕ). f u + 1 ≤ g u) (sym same.1) less in
          let rest = sum_le f g (numbers (k + 1) n) le in omega arith
      | inr other ↦ let rest = sum_less f g s (k + 1) n le less (let ne = other.1 in omega arith) (omega arith) in
          let here = le k in omega arith
    ]))

-- a record that opens no session keeps no more free than was before
kept_after : (h : List Rec) (k : Kind) (moment : _) (t : ℕ) → kept_for (fresh_record h moment k ∷ h) t ≤ kept_for h t
kept_after h k moment t =
    kept_less (leaves k t || gone h t) (ends k t || shut h t) (gone h t) (shut h t)
    (λ e. rw e (elim (leaves k t) as (λ b. (b || true) ≡ true) [ true ↦ refl | false ↦ refl ]))
    (λ e. rw e (elim (ends k t) as (λ b. (b || true) ≡ true) [ true ↦ refl | false ↦ refl ]))

same_sessions : (h : List Rec) (k : Kind) → opened_by k ≡ 0 → numbers 1 (opened_by k + sessions h)
    ≡ numbers 1 (sessions h)
same_sessions h k none = ap (λ (j : ℕ). numbers 1 (j + sessions h)) none ∙ ap
    (λ (j : ℕ). numbers 1 j) (zero-add (sessions h))

pub held_after : (h : List Rec) (k : Kind) (moment : _) → opened_by k ≡ 0
    → kept_total (fresh_record h moment k ∷ h) ≤ kept_total h
held_after h k moment none = rw (same_sessions h k none)
    (sum_le (kept_for (fresh_record h moment k ∷ h)) (kept_for h) (numbers 1 (sessions h)) (kept_after h k moment))

-- one less where the record ends its session or says that it is gone
pub held_less : (h : List Rec) (k : Kind) (moment : _) (s : ℕ) → opened_by k ≡ 0 → 0 < s → s ≤ sessions h
    → kept_for (fresh_record h moment k ∷ h) s + 1 ≤ kept_for h s
    → kept_total (fresh_record h moment k ∷ h) + 1 ≤ kept_total h
held_less h k moment s none from to less =
    rw (same_sessions h k none) (sum_less (kept_for (fresh_record h moment k ∷ h)) (kept_for h) s 1 (sessions h)
    (kept_after h k moment) less from (omega arith))

pub hung_less : (h : List Rec) (s : ℕ) (w : Why) (moment : _) → shut h s ≡ false → gone h s ≡ false
    → kept_for (fresh_record h moment (Hung s w) ∷ h) s + 1 ≤ kept_for h s
hung_less h s w moment es eg = rw eg (rw es (rw (eq-eqb s s refl) (lit≤ tt)))

pub gone_less : (h : List Rec) (s : ℕ) (moment : _) → shut h s ≡ true → gone h s ≡ false
    → kept_for (fresh_record h moment (Gone s) ∷ h) s + 1 ≤ kept_for h s
gone_less h s moment es eg = rw eg (rw es (rw (eq-eqb s s refl) (lit≤ tt)))

-- ---- the plan of a session that is hung

others_none : (f : ℕ → List Delivery) (s k n : ℕ) → ((t : ℕ) → s ≢ t → f t ≡ []) → others f s k n ≡ []
others_none f s k zero none = refl
others_none f s k (suc n) none =
    rw (others_none f s (k + 1) n none) (elim (eqb_tells k s) [
      | inl same ↦ rw same.0 refl
      | inr other ↦ rw other.0 (rw (none k (λ e. other.1 (sym e))) refl)
    ])

nothing_due : (n : ℕ) (b c : Bool)
    → (let E : List Delivery = [] in cond b E (item n (let N : List ℕ = [] in cond c N N))) ≡ []
nothing_due n true c = refl
nothing_due n false true = refl
nothing_due n false false = refl

pub plan_hung : (g : Settings) (h : List Rec) (s : ℕ) (w : Why) (moment : ℤ) (n : ℕ) → shut h s ≡ false
    → plan_of g h (Hung s w) moment n ≡ record { session = s; delivery = Last (length h + 1) w } ∷ []
plan_hung g h s w moment n open_ =
    let mine : due g h (Hung s w) moment s ≡ Last (length h + 1) w ∷ [] = rw open_ (rw (eq-eqb s s refl) refl) in
    let rest : others (due g h (Hung s w) moment) s 1 n ≡ [] = others_none (due g h (Hung s w) moment) s 1 n
    (λ t ne. rw (ne_eqb s t ne) (nothing_due (length h + 1) (shut h t) (nat_le t (sessions h)))) in
    ap (λ xs. puts s xs ++ others (due g h (Hung s w) moment) s 1 n) mine ∙ ap
    (λ ps. record { session = s; delivery = Last (length h + 1) w } ∷ ps) rest
