-- A tick's plan is what its record owes, and a ledger stays what it stands for.
use Rattle.std.proofs.Common.{arith, ◌≡◌, ◌≢◌, ℕ, ℤ, ◌+◌, ◌<◌, ◌≤◌, Bool, true, false, ◌==◌}
use Rattle.std.proofs.Common.{nat_le, nat_eq, cond, List, [], ◌∷◌, ◌++◌, length, map, filter}
use Rattle.std.proofs.Common.{Option, None, refl, sym, ap, ◌∙◌, subst, lit<}
use Rattle.std.proofs.lemmas.List.{append-nil}
use Rattle.std.specs.List.{IsDistinct, list_any}
use Rattle.std.specs.Map.{keys_of}
use Rattle.numerics.specs.declared.outgoing.Out.{Out}
use Rattle.registration.specs.declared.caps.Caps.{Caps}
use Rattle.registration.specs.declared.settings.Settings.{Settings}
use Rattle.chronicle.specs.declared.record.Kind.TheVariants.{Ticked}
use Rattle.chronicle.specs.History.{Rec, sessions, shut}
use Rattle.chronicle.specs.Idle.{idle_since, is_pinged}
use Rattle.chronicle.specs.Journal.{most, fresh_record}
use Rattle.chronicle.specs.Journal as journal
use Rattle.roster.specs.declared.deed.Deed.{Deed}
use Rattle.roster.specs.LookBack.{caps}
use Rattle.labels_batches.specs.Answers.{tagged_as}
use Rattle.labels_batches.specs.Rendered.{text_as}
use Rattle.labels_batches.specs.Spellings.{spelled_for}
use Rattle.deeds.specs.Deeds.{facts, text}
use Rattle.deeds.specs.Ping.{ping_line}
use Rattle.deliveries.specs.declared.item.Item.{Item}
use Rattle.deliveries.specs.Owed.{item, tick_text, told_text}
use Rattle.ledger.specs.declared.last_heard.Since.{Since}
use Rattle.ledger.specs.declared.plan.Planned.{Planned}
use Rattle.ledger.specs.declared.seat.Seat.{Seat}
use Rattle.ledger.specs.Ledger.{is_here, kept_total, due, puts, others, plan_of, IsSound, MayTick, HasRoom, to_ping}
use Rattle.ledger.specs.Ledger.{late}
use Rattle.ledger.specs.Seats.{IsSeat, IsThere, seat_at, unless_shut as tells, told_to, planned_with, pinged_text}
use Rattle.ledger.specs.LastHeard.{AreSince, is_due, is_overdue, who_pass, lowest, with_pings}
use Rattle.ledger.specs.Kept.{IsKept}
use Rattle.ledger.proofs.About.{gone_shut}
use Rattle.ledger.proofs.Begins.{hears_not, others_same}
use Rattle.ledger.proofs.Begun.{begun_by, held_after, plan_of_none}
use Rattle.ledger.proofs.Due.{due_any, due_once, due_none, due_some, late_found}
use Rattle.ledger.proofs.LastActivity.{since_ticked}
use Rattle.ledger.proofs.KeptSteps.{shown, shown_with}
use Rattle.ledger.proofs.Unheard.{nobody, unheard_not_pinged}

-- ---- what a tick tells

-- its effects tell nobody anything
no_text : (g : Settings) (fs : List Deed) (moment : ℤ) (n t : ℕ) → text g fs Ticked moment n t ≡ []
no_text g fs moment n t = elim (0 == t) as (λ b. text_as (caps fs t) moment (cond b [] []) ≡ []) [
  | true ↦ refl
  | false ↦ refl
]

no_lines : (b : Bool) (xs : List ℕ) → xs ≡ [] → cond b xs [] ≡ []
no_lines true xs e = e
no_lines false xs e = refl

told_tick : (g : Settings) (h : List Rec) (moment : ℤ) (t : ℕ) → told_text g h Ticked moment t
    ≡ tick_text g h Ticked moment t
told_tick g h moment t =
    ap (λ xs. tick_text g h Ticked moment t ++ xs) (no_lines (nat_le t (sessions h))
    (text g (facts g h) Ticked moment (length h + 1) t) (no_text g (facts g h) moment (length h + 1) t))
    ∙ append-nil (tick_text g h Ticked moment t)

due_tick : (g : Settings) (h : List Rec) (moment : ℤ) (t : ℕ) → due g h Ticked moment t
    ≡ tells (shut h t) (length h + 1) (tick_text g h Ticked moment t)
due_tick g h moment t = ap (λ xs. cond (shut h t) [] (item (length h + 1) xs)) (told_tick g h moment t)

nothing_due : (b : Bool) (n : ℕ) → tells b n [] ≡ []
nothing_due true n = refl
nothing_due false n = refl

-- nobody has the number 0
pub due_nobody : (g : Settings) (h : List Rec) (moment : ℤ) → idle_since h 0 ≡ None → due g h Ticked moment 0 ≡ []
due_nobody g h moment none = due_tick g h moment 0 ∙ ap (tells (shut h 0) (length h + 1))
    (unheard_not_pinged g h Ticked moment 0 none) ∙ nothing_due (shut h 0) (length h + 1)

-- a line that is shown to one session once
shown_once : (cs : Caps) (moment : ℤ) (line : Out) (t : ℕ) (ts : List ℕ) (b : Bool)
    → filter (λ u. u == t) ts ≡ cond b (t ∷ []) []
    → text_as cs moment (map (tagged_as None) (map (λ u. line) (filter (λ u. u == t) ts))) ++ []
    ≡ cond b (spelled_for cs moment line) []
shown_once cs moment line t ts b e = ap
    (λ us. text_as cs moment (map (tagged_as None) (map (λ u. line) us)) ++ []) e ∙ by b
  where
    by : (c : Bool) → text_as cs moment (map (tagged_as None) (map (λ u. line) (cond c (t ∷ []) []))) ++ []
        ≡ cond c (spelled_for cs moment line) []
    by true = append-nil (spelled_for cs moment line ++ []) ∙ append-nil (spelled_for cs moment line)
    by false = refl

-- ---- the plan, and the ledger

module _ {O : Type 0} (sent : O → List Item) (j : journal.JournalView) (g : Settings) (known : List Deed)
    (seats : List Seat) (boxes : List (Option O)) (none : List Planned) (busy : Bool)
    (i : IsKept sent j g known seats boxes none busy)
    (xs : List (ℕ × Since)) (heard : AreSince xs j.history boxes) (once : IsDistinct nat_eq (keys_of xs)) where
  reaped_shut : (t : ℕ) → 0 < t → t ≤ length boxes → is_here boxes t ≡ false → shut j.history t ≡ true
  reaped_shut t from to away = gone_shut g j.history t i.sound.legal (i.sound.reaped t from to away)

  pub tick_plan : (moment : ℤ) (number : ℕ) → number ≡ length j.history + 1
      → planned_with seats 0 number [] (pinged_text g known moment (who_pass (is_due seats moment) xs)) false
      ≡ plan_of g j.history Ticked moment (length boxes)
  tick_plan moment number en =
      let h = j.history in let n = length boxes in let ts = who_pass (is_due seats moment) xs in
      let places = i.places in
      let each : (u : ℕ) → 0 < u → u ≤ n → 0 ≢ u → told_to seats number (pinged_text g known moment ts) u
      ≡ due g h Ticked moment u = λ u from to ne.
      let below : u ≤ length seats = omega arith in
      let once_ = due_once xs h seats boxes moment heard i.each_seat i.places reaped_shut once i.sound.sessions
      u from to in
      ap (λ b. tells b number (pinged_text g known moment ts u))
      (hears_not seats u from below ∙ (i.each_seat u from below).shut)
      ∙ ap (tells (shut h u) number)
      (shown_once (caps known u) moment (ping_line g.server) u ts (is_pinged h u moment) once_)
      ∙ ap (λ (fs : List Deed). tells (shut h u) number
      (cond (is_pinged h u moment) (spelled_for (caps fs u) moment (ping_line g.server)) [])) i.facts
      ∙ ap (λ (m : ℕ). tells (shut h u) m (tick_text g h Ticked moment u)) en ∙ sym (due_tick g h moment u) in
      ap (λ (m : ℕ). others (told_to seats number (pinged_text g known moment ts)) 0 1 m) i.places
      ∙ others_same (told_to seats number (pinged_text g known moment ts)) (due g h Ticked moment) 0 1 n n (lit< tt)
      (omega arith) each
      ∙ ap (λ ds. puts 0 ds ++ others (due g h Ticked moment) 0 1 n)
      (sym (due_nobody g h moment (nobody g h i.sound.legal)))

  pub tick_kept : (k : journal.JournalView) (plan : List Planned) (moment : ℤ)
      → MayTick (shown j g boxes none busy) moment → HasRoom (shown j g boxes none busy)
      → plan ≡ plan_of g j.history Ticked moment (length boxes) → k.history ≡ fresh_record j.history moment Ticked
      ∷ j.history → k.limit ≡ j.limit → length plan ≤ k.left → kept_total j.history ≤ k.room
      → IsKept sent k g known seats boxes plan true
  tick_kept k plan moment may has eplan eh el room free =
      let h = j.history in let r = fresh_record h moment Ticked in let less = held_after h Ticked moment refl in
      let goes : IsSound sent (shown k g boxes plan true) =
      subst (IsSound sent) (sym (shown_with j k (r ∷ h) g boxes plan true eh el))
      (subst (λ (x : List Planned). IsSound sent (record {
        history = r ∷ h;
        limit = j.limit;
        settings = g;
        outboxes = boxes;
        plan = x;
        busy = true;
      })) (sym eplan)
      (begun_by sent (shown j g boxes none busy) Ticked moment i.sound may.idle refl
      (plan_of_none g r h (length boxes) refl (due_nobody g h moment (nobody g h i.sound.legal))) tt may.in_time
      (let fits = has in omega arith))) in
      record {
        sound = goes;
        facts = i.facts ∙ sym (ap (facts g) eh);
        each_seat = λ t from to. subst (λ (x : List Rec). IsSeat (seat_at seats t) (is_here boxes t) x t) (sym eh)
            (let was = i.each_seat t from to in record {
              shut = was.shut;
              gone = was.gone;
              accepted = λ here. was.accepted here ∙ sym (ap length (append-nil _));
              kept = was.kept;
            });
        opened = i.opened;
        places = i.places;
        left = room;
        room = rw eh (let goal : kept_total (r ∷ h) ≤ k.room = omega arith in goal);
      }

  pub idle_some : (moment : ℤ) → who_pass (is_due seats moment) xs ≢ [] → to_ping j.history moment ≢ []
  idle_some moment some = due_some xs j.history seats boxes moment heard i.each_seat i.places reaped_shut once
      i.sound.sessions some

  pub idle_none : (moment : ℤ) → who_pass (is_due seats moment) xs ≡ [] → to_ping j.history moment ≡ []
  idle_none moment none_ = due_none xs j.history seats boxes moment heard i.each_seat i.places reaped_shut once
      i.sound.sessions none_

  pub late_is_lowest : (moment : ℤ) → lowest (who_pass (is_overdue seats moment) xs) ≡ late j.history moment
  late_is_lowest moment = late_found xs j.history seats boxes moment heard i.each_seat i.places reaped_shut once
      i.sound.sessions

  -- whom the tick pings, and that they are there
  pub pinged_whom : (moment : ℤ) (t : ℕ) → IsThere boxes t
      → list_any (λ u. u == t) (who_pass (is_due seats moment) xs) ≡ is_pinged j.history t moment
  pinged_whom moment t there = due_any xs j.history seats boxes moment heard i.each_seat i.places reaped_shut once
      i.sound.sessions t there.from_1 there.opened

  pub since_after : (k : journal.JournalView) (moment : ℤ) → MayTick (shown j g boxes none busy) moment
      → k.history ≡ fresh_record j.history moment Ticked ∷ j.history
      → AreSince (with_pings xs (who_pass (is_due seats moment) xs)) k.history boxes
  since_after k moment may eh =
      let ts = who_pass (is_due seats moment) xs in
      subst (λ (h : List Rec). AreSince (with_pings xs ts) h boxes) (sym eh)
      (since_ticked xs j.history moment boxes ts heard may.in_time.not_earlier (pinged_whom moment))
