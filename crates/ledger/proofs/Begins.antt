-- What the code has in hand when a record is appended is the next state.
use Rattle.std.proofs.Common.{◌≡◌, ◌≢◌, inl, inr, ℕ, ℤ, zero, suc, ◌+◌, ◌-◌, ◌<◌, ◌≤◌, Bool, true, false}
use Rattle.std.proofs.Common.{not, ◌&&◌, nat_lt, nat_le, cond, List, [], ◌∷◌, ◌++◌, length, slice_set}
use Rattle.std.proofs.Common.{Option, Some, arith, refl, sym, ap, ◌∙◌, subst, lit<}
use Rattle.std.proofs.lemmas.Bool.Decides.{eqb_tells, nat_tests}
use Rattle.chronicle.specs.declared.record.Kind.{Kind}
use Rattle.chronicle.specs.declared.record.Kind.TheVariants.{Hung}
use Rattle.chronicle.specs.declared.why.Why.{Why}
use Rattle.chronicle.specs.declared.why.Why.TheVariants.{Quit}
use Rattle.chronicle.specs.History.{Rec, actor, sessions, ends, shut}
use Rattle.chronicle.specs.Idle.{is_tick, is_pinged}
use Rattle.chronicle.specs.Journal.{fresh_record, miss}
use Rattle.chronicle.specs.Journal as journal
use Rattle.deliveries.specs.declared.delivery.Delivery.{Delivery}
use Rattle.deliveries.specs.declared.item.Item.{Item}
use Rattle.deliveries.specs.declared.delivery.Delivery.TheVariants.{Last}
use Rattle.outbox.specs.declared.queue.PutFault.{PutFault}
use Rattle.ledger.specs.declared.outcomes.Step.{Step}
use Rattle.ledger.specs.declared.outcomes.Step.TheVariants.{Put, Missed}
use Rattle.deeds.specs.Deeds.{facts, text}
use Rattle.registration.specs.declared.settings.Settings.{Settings}
use Rattle.ledger.specs.declared.plan.Planned.{Planned}
use Rattle.ledger.specs.declared.seat.Seat.{Seat}
use Rattle.roster.specs.LookBack.{caps}
use Rattle.labels_batches.specs.Spellings.{spelled_for}
use Rattle.deeds.specs.Ping.{ping_line}
use Rattle.deliveries.specs.Owed.{item, tick_text, told_text, reason}
use Rattle.ledger.specs.Seats.{IsSeat, seat_at, hears, unless_shut as tells, told_to}
use Rattle.ledger.specs.Seats.{told_own, planned_from, IsTaken, IsNotTaken}
use Rattle.ledger.specs.Ledger.{Shown, item_of, due, puts, others, plan_by, plan_of, after_begin, is_here}
use Rattle.ledger.specs.Ledger.{delivered_to, after_miss, after_end, IsPutNext, IsPutAll, IsDone}
use Rattle.ledger.proofs.Begun.{plan_hung}
use Rattle.ledger.proofs.KeptSteps.{shown, shown_with}

-- ---- the plan is that of the record

-- what is no tick pings nobody
no_tick : (g : Settings) (h : List Rec) (k : Kind) (moment : ℤ) (t : ℕ) → is_tick k ≡ false
    → tick_text g h k moment t ≡ []
no_tick g h k moment t e = ap
    (λ b. cond (b && is_pinged h t moment) (spelled_for (caps (facts g h) t) moment (ping_line g.server)) []) e

-- what a session is due that was opened before the record, which is no tick and doesn't end it
due_told : (g : Settings) (h : List Rec) (k : Kind) (moment : ℤ) (t : ℕ)
    → is_tick k ≡ false → t ≤ sessions h → ends k t ≡ false → due g h k moment t
    ≡ tells (shut h t) (length h + 1) (text g (facts g h) k moment (length h + 1) t)
due_told g h k moment t none known e =
    let before : nat_le t (sessions h) ≡ true = grind (arith, nat_tests) in
    ap (λ b. cond (shut h t) []
    (cond b (Last (length h + 1) (reason k) ∷ []) (item (length h + 1) (told_text g h k moment t)))) e
    ∙ ap (λ xs. cond (shut h t) [] (item (length h + 1) (xs ++ cond (nat_le t (sessions h))
    (text g (facts g h) k moment (length h + 1) t) []))) (no_tick g h k moment t none)
    ∙ ap (λ b. cond (shut h t) [] (item (length h + 1) (cond b (text g (facts g h) k moment (length h + 1) t) [])))
    before

-- what the record's own session is due
due_own : (g : Settings) (h : List Rec) (k : Kind) (moment : ℤ) (quits : Bool) (t : ℕ)
    → is_tick k ≡ false → t ≤ sessions h → ends k t ≡ quits → reason k ≡ Quit
    → due g h k moment t ≡ told_own (shut h t) (length h + 1) (text g (facts g h) k moment (length h + 1) t) quits
due_own g h k moment true t none known e why =
    ap (λ b. cond (shut h t) []
    (cond b (Last (length h + 1) (reason k) ∷ []) (item (length h + 1) (told_text g h k moment t)))) e ∙ ap
    (λ w. cond (shut h t) [] (Last (length h + 1) w ∷ [])) why
due_own g h k moment false t none known e why = due_told g h k moment t none known e

pub others_same : (f g : ℕ → List Delivery) (s t n m : ℕ) → 0 < t → t + n ≤ m + 1
    → ((u : ℕ) → 0 < u → u ≤ m → s ≢ u → f u ≡ g u) → others f s t n ≡ others g s t n
others_same f g s t zero m from to h = refl
others_same f g s t (suc n) m from to h =
    rw (others_same f g s (t + 1) n m (omega arith) (omega arith) h) (elim (eqb_tells t s) [
      | inl same ↦ rw same.0 refl
      | inr other ↦ rw (h t from (omega arith) (λ e. other.1 (sym e))) refl
    ])

-- a session that was opened hears unless it is shut
pub hears_not : (seats : List Seat) (t : ℕ) → 0 < t → t ≤ length seats → not (hears seats t) ≡ (seat_at seats t).shut
hears_not seats t from to =
    let above : nat_lt 0 t ≡ true = grind (arith, nat_tests) in
    let below : nat_le t (length seats) ≡ true = grind (arith, nat_tests) in
    rw (above, below) (elim (seat_at seats t).shut as (λ b. not (not b) ≡ b) [ true ↦ refl | false ↦ refl ])

pub plan_right : {O : Type 0} (g : Settings) (h : List Rec) (seats : List Seat)
    (boxes : List (Option O)) (k : Kind) (moment : ℤ) (quits : Bool) (number n : ℕ)
    → ((t : ℕ) → 0 < t → t ≤ length seats → IsSeat (seat_at seats t) (is_here boxes t) h t) → number ≡ length h + 1
    → length seats ≡ n → length seats ≡ sessions h
    → is_tick k ≡ false → 0 < actor k → actor k ≤ length seats → ends k (actor k) ≡ quits → reason k ≡ Quit
    → ((t : ℕ) → actor k ≢ t → ends k t ≡ false)
    → planned_from seats (actor k) number (text g (facts g h) k moment number) quits ≡ plan_of g h k moment n
plan_right g h seats boxes k moment quits number n seat en el all none from to own why others_ =
    let s = actor k in let f : ℕ → ℕ → List ℕ = text g (facts g h) k moment in
    let mine : told_own (not (hears seats s)) number (f number s) quits ≡ due g h k moment s =
    ap (λ b. told_own b number (f number s) quits) (hears_not seats s from to ∙ (seat s from to).shut) ∙ ap
    (λ (m : ℕ). told_own (shut h s) m (f m s) quits) en
    ∙ sym (due_own g h k moment quits s none (omega arith) own why) in
    let each : (u : ℕ) → 0 < u → u ≤ length seats → s ≢ u → told_to seats number (f number) u
    ≡ due g h k moment u = λ u above below ne.
    ap (λ b. tells b number (f number u)) (hears_not seats u above below ∙ (seat u above below).shut) ∙ ap
    (λ (m : ℕ). tells (shut h u) m (f m u)) en
    ∙ sym (due_told g h k moment u none (omega arith) (others_ u ne)) in
    ap (λ xs. puts s xs ++ others (told_to seats number (f number)) s 1 (length seats)) mine
    ∙ ap (λ ps. puts s (due g h k moment s) ++ ps) (others_same (told_to seats number (f number))
    (due g h k moment) s 1 (length seats) (length seats) (lit< tt) (omega arith) each)
    ∙ ap (λ (m : ℕ). plan_by (due g h k moment) s m) el

-- ---- the state

pub begun_is : {O : Type 0} (j k : journal.JournalView) (g : Settings) (boxes : List (Option O))
    (none plan : List Planned) (busy : Bool) (kind : Kind) (moment : ℤ)
    → k.history ≡ fresh_record j.history moment kind ∷ j.history → k.limit ≡ j.limit
    → plan ≡ plan_of g j.history kind moment (length boxes)
    → shown k g boxes plan true ≡ after_begin (shown j g boxes none busy) kind moment
begun_is j k g boxes none plan busy kind moment eh el ep =
    shown_with j k (fresh_record j.history moment kind ∷ j.history) g boxes plan true eh el
    ∙ ap (λ (x : List Planned). record {
      history = fresh_record j.history moment kind ∷ j.history;
      limit = j.limit;
      settings = g;
      outboxes = boxes;
      plan = x;
      busy = true;
    }) ep

-- a session that is hung is told so at once, or misses it
pub hung_is : {O : Type 0} (accepts : O → Item → O → Type 0) (refuses : O → PutFault → Type 0) (m n : Shown O)
    (s : ℕ) (w : Why) (moment : ℤ) (step : Step) → shut m.history s ≡ false
    → IsPutNext accepts refuses (after_begin m (Hung s w) moment)
    (record { session = s; delivery = Last (length m.history + 1) w } ∷ []) (Some step) n
    → IsDone accepts refuses m (Hung s w) moment (after_end n)
hung_is accepts refuses m n s w moment step open_ is =
    let one = plan_hung m.settings m.history s w moment (length m.outboxes) open_ in (
      n,
      subst (λ (ps : List Planned). IsPutAll accepts refuses (after_begin m (Hung s w) moment) ps n) (sym one)
          (n, step, is, refl),
      refl,
    )

module _ {O : Type 0} (sent : O → List Item) (accepts : O → Item → O → Type 0) (refuses : O → PutFault → Type 0)
    (j k : journal.JournalView) (g : Settings) (boxes : List (Option O)) (none : List Planned) (busy : Bool) (s : ℕ)
    (w : Why) (moment : ℤ) (en : none ≡ []) (eb : busy ≡ false) (open_ : shut j.history s ≡ false)
    (eh : k.history ≡ fresh_record j.history moment (Hung s w) ∷ j.history) (el : k.limit ≡ j.limit) where
  abbrev before : Shown O
  before = shown j g boxes none busy

  abbrev last : Planned
  last = record { session = s; delivery = Last (length j.history + 1) w }

  abbrev began : Shown O
  began = after_begin before (Hung s w) moment

  pub hung_put_is : (more : List (Option O)) → IsTaken sent accepts boxes (item_of began last) more
      → IsDone accepts refuses before (Hung s w) moment (shown k g more none busy)
  hung_put_is more i =
      let r = fresh_record j.history moment (Hung s w) in let n : Shown O = delivered_to began last [] i.after in
      let is : shown k g more none busy ≡ after_end n =
      shown_with j k (r ∷ j.history) g more none busy eh el
      ∙ ap (λ (xs : List (Option O)). record {
        history = r ∷ j.history;
        limit = j.limit;
        settings = g;
        outboxes = xs;
        plan = none;
        busy = busy;
      }) i.now
      ∙ ap (λ (ps : List Planned). record {
        history = r ∷ j.history;
        limit = j.limit;
        settings = g;
        outboxes = slice_set boxes (s - 1) (Some i.after);
        plan = ps;
        busy = busy;
      }) en
      ∙ ap (λ (c : Bool). record {
        history = r ∷ j.history;
        limit = j.limit;
        settings = g;
        outboxes = slice_set boxes (s - 1) (Some i.after);
        plan = [];
        busy = c;
      }) eb in
      subst (IsDone accepts refuses before (Hung s w) moment) (sym is)
      (hung_is accepts refuses before n s w moment (Put s) open_
      (refl, record { before = i.before; after = i.after; here = i.here; accepted = i.accepted; book = refl }))

  pub hung_miss_is : (m : journal.JournalView) → IsNotTaken refuses boxes (item_of began last)
      → m.history ≡ miss k.history s → m.limit ≡ k.limit
      → IsDone accepts refuses before (Hung s w) moment (shown m g boxes none busy)
  hung_miss_is m i em lm =
      let r = fresh_record j.history moment (Hung s w) in
      let h = miss (r ∷ j.history) s in let n : Shown O = after_miss began last [] in
      let is : shown m g boxes none busy ≡ after_end n =
      shown_with j m h g boxes none busy (em ∙ ap (λ x. miss x s) eh) (lm ∙ el)
      ∙ ap (λ (ps : List Planned). record {
        history = h;
        limit = j.limit;
        settings = g;
        outboxes = boxes;
        plan = ps;
        busy = busy;
      }) en
      ∙ ap (λ (c : Bool). record {
        history = h;
        limit = j.limit;
        settings = g;
        outboxes = boxes;
        plan = [];
        busy = c;
      }) eb in
      subst (IsDone accepts refuses before (Hung s w) moment) (sym is)
      (hung_is accepts refuses before n s w moment (Missed s) open_
      (refl, record { before = i.before; cause = i.cause; here = i.here; refused = i.refused; book = refl }))
