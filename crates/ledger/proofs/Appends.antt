-- All that a ledger keeps stands for its history where a record is appended.
use Rattle.std.proofs.Common.{◌≡◌, ℕ, ℤ, ◌+◌, ◌-◌, ◌<◌, ◌≤◌, Bool, true, false, ◌&&◌, ◌||◌, ◌==◌, nat_lt}
use Rattle.std.proofs.Common.{List, [], ◌∷◌, ◌++◌, length, slice_set, Option, Some, None, arith, refl, sym}
use Rattle.std.proofs.Common.{ap, ◌∙◌, subst, length-append, append-nil, eq-eqb}
use Rattle.std.proofs.lemmas.List.{get_or-set_same, set-get_or}
use Rattle.std.proofs.lemmas.Bool.Decides.{nat_tests}
use Rattle.roster.specs.declared.deed.Deed.TheVariants.{Ended}
use Rattle.line_grammar.specs.declared.splitter.Piece.{Piece}
use Rattle.chronicle.specs.declared.record.Kind.TheVariants.{Said, Hung, Gone}
use Rattle.chronicle.specs.declared.why.Why.{Why}
use Rattle.chronicle.specs.History.{Rec, sessions, said_by, accepted, ends, shut, gone, is_quit}
use Rattle.chronicle.specs.Journal.{most, fresh_record, Misses}
use Rattle.chronicle.specs.Journal as journal
use Rattle.deliveries.specs.declared.item.Item.{Item}
use Rattle.deliveries.specs.declared.delivery.Delivery.TheVariants.{Last}
use Rattle.roster.specs.declared.deed.Deed.{Deed}
use Rattle.commands.specs.Asked.{asked_of}
use Rattle.roster.specs.LookBack.{after, caps, opened_in}
use Rattle.labels_batches.specs.Labels.{label_of}
use Rattle.deeds.specs.Deeds.{octets_for}
use Rattle.roster.specs.Legal.{IsOpened}
use Rattle.deeds.specs.Rows.{of_asked}
use Rattle.deeds.specs.Departure.{departs}
use Rattle.transactions.specs.Effects.{deeds_of}
use Rattle.registration.specs.declared.settings.Settings.{Settings}
use Rattle.ledger.specs.declared.plan.Planned.{Planned}
use Rattle.ledger.specs.declared.seat.Seat.{Seat}
use Rattle.ledger.specs.Kept.{IsKept}
use Rattle.ledger.specs.Seats.{no_seat, seat_at, planned_from, MayFollow, IsTaken}
use Rattle.ledger.specs.Ledger.{Turn, MayBegin, MayHang, MaySweep, box_at, kept_total, plan_of, to_sweep}
use Rattle.ledger.proofs.About.{not_gone_yet}
use Rattle.ledger.proofs.KeptSteps.{shown, quiet, begun_kept, delivered_kept, dropped_kept, finished_kept}
use Rattle.ledger.proofs.Sound.{next_follows}
use Rattle.ledger.proofs.Sweeps.{swept_is}
use Rattle.ledger.proofs.Begun.{held_after, held_less, hung_less, gone_less, plan_hung}
use Rattle.ledger.proofs.Begins.{plan_right}
use Rattle.ledger.proofs.Opened.{accepted_le}

or-false : (b c : Bool) → c ≡ false → b ≡ (b || c)
or-false true c e = refl
or-false false c e = sym e

-- ---- the seats after a line, after a session was shut, and after it was gone

abbrev pub said_seats : List Seat → ℕ → Bool → List Seat
said_seats seats s quits = slice_set seats (s - 1)
    (record { shut = quits; gone = (seat_at seats s).gone; accepted = (seat_at seats s).accepted + 1 })

abbrev pub shut_seats : List Seat → ℕ → List Seat
shut_seats seats s = slice_set seats (s - 1)
    (record { shut = true; gone = (seat_at seats s).gone; accepted = (seat_at seats s).accepted })

abbrev pub left_seats : List Seat → ℕ → List Seat
left_seats seats s = slice_set seats (s - 1)
    (record { shut = (seat_at seats s).shut; gone = true; accepted = (seat_at seats s).accepted })

-- what a session is told that is hung
abbrev pub last_item : Settings → List Rec → ℕ → Why → ℤ → Item
last_item g h s w moment = record {
  delivery = Last (length h + 1) w;
  session = s;
  front = fresh_record h moment (Hung s w) ∷ h;
  settings = g;
}

-- ---- a line

module _ {O : Type 0} (sent : O → List Item) (j : journal.JournalView) (g : Settings) (known : List Deed)
    (seats : List Seat) (boxes : List (Option O)) (none : List Planned) (busy : Bool)
    (i : IsKept sent j g known seats boxes none busy) where
  -- there are as many seats as sessions
  seated : (s : ℕ) → s ≤ sessions j.history → s ≤ length seats
  seated s l = let a = i.sound.sessions in let b = i.places in omega arith

  -- and the roster knows each of them
  pub known_opened : (s : ℕ) → 0 < s → s ≤ sessions j.history → IsOpened known s
  known_opened s from to = (from, (let a = i.sound.sessions in let b = i.opened in omega arith))

  -- one line more can be counted
  pub few_lines : (b : Turn) (moment : ℤ) → MayBegin (shown j g boxes none busy) b moment
      → most j.limit < 18446744073709551616 → (seat_at seats b.session).accepted + 1 < 18446744073709551616
  few_lines b moment may limit =
      let s = b.session in let to = seated s may.turn.opened in let room = may.room in
      let count = (i.each_seat s may.turn.from_1 to).accepted may.turn.here in
      let few = accepted_le j.history s in omega arith

  pub said_plan : (b : Turn) (piece : Piece) (moment : ℤ) (number : ℕ) (quits : Bool) (plan : List Planned)
      → MayBegin (shown j g boxes none busy) b moment → number ≡ length j.history + 1 → quits ≡ is_quit piece
      → plan ≡ planned_from seats b.session number (octets_for g known b.session
      (label_of (caps known b.session) piece) (of_asked g known b.session (asked_of piece)) moment number) quits
      → plan ≡ plan_of g j.history (Said b.session b.next piece) moment (length boxes)
  said_plan b piece moment number quits plan may en eq eplan =
      let h = j.history in let s = b.session in let k = Said s b.next piece in
      let from : 0 < s = may.turn.from_1 in let to : s ≤ length seats = seated s may.turn.opened in
      let own : ends k s ≡ quits = ap (λ c. c && is_quit piece) (eq-eqb s s refl) ∙ sym eq in
      eplan ∙ ap (λ (fs : List Deed). planned_from seats s number (octets_for g fs s (label_of (caps fs s) piece)
      (of_asked g fs s (asked_of piece)) moment number) quits) i.facts
      ∙ plan_right g h seats boxes k moment quits number (length boxes) i.each_seat en i.places
      (i.places ∙ sym i.sound.sessions) refl from to own refl (λ t ne. (quiet k t refl ne).0)

  pub said_kept : (k : journal.JournalView) (more_known : List Deed) (plan : List Planned) (b : Turn) (piece : Piece)
      (moment : ℤ) (quits : Bool)
      → MayBegin (shown j g boxes none busy) b moment → quits ≡ is_quit piece
      → (seat_at seats b.session).accepted + 1 < 18446744073709551616
      → plan ≡ plan_of g j.history (Said b.session b.next piece) moment (length boxes)
      → k.history ≡ fresh_record j.history moment (Said b.session b.next piece) ∷ j.history → k.limit ≡ j.limit
      → length plan ≤ k.left → kept_total j.history ≤ k.room
      → more_known ≡ after known (deeds_of (of_asked g known b.session (asked_of piece)))
      → opened_in more_known ≡ opened_in known
      → IsKept sent k g more_known (slice_set seats (b.session - 1) (record {
        shut = quits;
        gone =
            (seat_at seats b.session).gone;
        accepted = (seat_at seats b.session).accepted + 1;
      })) boxes plan true
  said_kept k more_known plan b piece moment quits may eq few eplan eh el room free ek same_opened =
      let h = j.history in let s = b.session in let kind = Said s b.next piece in let r = fresh_record h moment kind in
      let from : 0 < s = may.turn.from_1 in let to : s ≤ length seats = seated s may.turn.opened in
      let x = seat_at seats s in let was = i.each_seat s from to in
      let own : quits ≡ ends kind s = eq ∙ sym (ap (λ c. c && is_quit piece) (eq-eqb s s refl)) in
      let new : Seat = record { shut = quits; gone = x.gone; accepted = x.accepted + 1 } in
      let same : said_by kind s ≡ piece ∷ [] = rw (eq-eqb s s refl) refl in
      let less = held_after h kind moment refl in
      begun_kept sent j k g known more_known seats (slice_set seats (s - 1) new) boxes none plan kind moment new
      (subst (λ (c : Bool). IsKept sent j g known seats boxes none c) may.idle i) refl from to
      (from, may.turn.opened, may.turn.next, may.not_shut) may.in_time
      (let a = may.room in let goal : length h + 1 + kept_total (r ∷ h) ≤ most j.limit = omega arith in goal)
      eh el room (omega arith) ek same_opened refl
      (record {
        shut = own ∙ or-false (ends kind s) (shut h s) may.not_shut;
        gone = was.gone;
        accepted = λ here. ap (λ (n : ℕ). n + 1) (was.accepted here)
            ∙ sym (ap (λ xs. length (accepted h s ++ xs)) same ∙ length-append (accepted h s) (piece ∷ []));
        kept = (let is : nat_lt (x.accepted + 1) 18446744073709551616 ≡ true = grind (arith, nat_tests) in is)
            ∙ sym may.turn.here;
      })
      eplan

  -- ---- there is room for a record that ends a session

  pub hang_room : (s : ℕ) (w : Why) (moment : ℤ) → MayHang (shown j g boxes none busy) s moment → 0 < j.room
  hang_room s w moment may =
      let h = j.history in
      let less = held_less h (Hung s w) moment s refl may.known.from_1 may.known.opened
      (hung_less h s w moment may.not_shut (not_gone_yet g h s i.sound.legal may.not_shut)) in
      let room = i.room in omega arith

  pub sweep_room : (s : ℕ) (moment : ℤ) → to_sweep j.history ≡ Some s → (0 < kept_total j.history) × (s ≤ length seats)
      × IsOpened known s × (length j.history + 1 ≤ most j.limit)
  sweep_room s moment next =
      let h = j.history in
      let is = swept_is h s next in
      let less = held_less h (Gone s) moment s refl is.0 is.1 (gone_less h s moment is.2 is.3) in
      let room = i.sound.room in
      let to = seated s is.1 in ((omega arith), to, known_opened s is.0 is.1, (omega arith))

  -- ---- a session is gone

  pub gone_plan : (s number : ℕ) (moment : ℤ) (plan : List Planned) → to_sweep j.history ≡ Some s
      → number ≡ length j.history + 1
      → plan ≡ planned_from seats s number (octets_for g known s None (departs known s) moment number) false
      → plan ≡ plan_of g j.history (Gone s) moment (length boxes)
  gone_plan s number moment plan next en eplan =
      let h = j.history in let k = Gone s in let is = swept_is h s next in
      eplan ∙ ap (λ (fs : List Deed). planned_from seats s number
      (octets_for g fs s None (departs fs s) moment number) false) i.facts
      ∙ plan_right g h seats boxes k moment false number (length boxes) i.each_seat en i.places
      (i.places ∙ sym i.sound.sessions) refl is.0 (seated s is.1) refl refl (λ t ne. refl)

  pub gone_kept : (k : journal.JournalView) (more_known : List Deed) (plan : List Planned) (moment : ℤ) (s : ℕ)
      → MaySweep (shown j g boxes none busy) moment → to_sweep j.history ≡ Some s
      → plan ≡ plan_of g j.history (Gone s) moment (length boxes)
      → k.history ≡ fresh_record j.history moment (Gone s) ∷ j.history → k.limit ≡ j.limit → length plan ≤ k.left
      → kept_total j.history ≤ k.room + 1
      → more_known ≡ after known (deeds_of (departs known s)) → opened_in more_known ≡ opened_in known
      → IsKept sent k g more_known (slice_set seats (s - 1) (record {
        shut = (seat_at seats s).shut;
        gone = true;
        accepted = (seat_at seats s).accepted;
      })) boxes plan true
  gone_kept k more_known plan moment s may next eplan eh el room free ek same_opened =
      let h = j.history in let kind = Gone s in let r = fresh_record h moment kind in let is = swept_is h s next in
      let to : s ≤ length seats = seated s is.1 in let x = seat_at seats s in let was = i.each_seat s is.0 to in
      let new : Seat = record { shut = x.shut; gone = true; accepted = x.accepted } in
      let less = held_less h kind moment s refl is.0 is.1 (gone_less h s moment is.2 is.3) in
      let yes : (s == s) ≡ true = eq-eqb s s refl in
      begun_kept sent j k g known more_known seats (slice_set seats (s - 1) new) boxes none plan kind moment new
      (subst (λ (c : Bool). IsKept sent j g known seats boxes none c) may.idle i) refl is.0 to is may.in_time
      (let a = i.sound.room in let goal : length h + 1 + kept_total (r ∷ h) ≤ most j.limit = omega arith in goal)
      eh el room (omega arith) ek same_opened refl
      (record {
        shut = was.shut;
        gone = sym (ap (λ c. c || gone h s) yes);
        accepted = λ here. was.accepted here ∙ sym (ap length (append-nil (accepted h s)));
        kept = was.kept;
      })
      eplan

  -- ---- a session is hung

  hung_begun : (k : journal.JournalView) (more_known : List Deed) (s : ℕ) (w : Why) (moment : ℤ)
      → MayHang (shown j g boxes none busy) s moment
      → k.history ≡ fresh_record j.history moment (Hung s w) ∷ j.history → k.limit ≡ j.limit → 1 ≤ k.left
      → k.room + 1 ≡ j.room
      → more_known ≡ Ended s w [] ∷ known
      → IsKept sent k g more_known (slice_set seats (s - 1)
      (record { shut = true; gone = (seat_at seats s).gone; accepted = (seat_at seats s).accepted })) boxes
      (record { session = s; delivery = Last (length j.history + 1) w } ∷ []) true
  hung_begun k more_known s w moment may eh el room free ek =
      let h = j.history in let kind = Hung s w in let r = fresh_record h moment kind in
      let from : 0 < s = may.known.from_1 in let few = may.known.opened in let to : s ≤ length seats = seated s few in
      let x = seat_at seats s in let was = i.each_seat s from to in
      let new : Seat = record { shut = true; gone = x.gone; accepted = x.accepted } in
      let less = held_less h kind moment s refl from few
      (hung_less h s w moment may.not_shut (not_gone_yet g h s i.sound.legal may.not_shut)) in
      let kept = i.room in let yes : (s == s) ≡ true = eq-eqb s s refl in
      begun_kept sent j k g known more_known seats (slice_set seats (s - 1) new) boxes none _ kind moment new
      (subst (λ (c : Bool). IsKept sent j g known seats boxes none c) may.idle i) refl from to
      (from, few, may.not_shut) may.in_time
      (let a = i.sound.room in let goal : length h + 1 + kept_total (r ∷ h) ≤ most j.limit = omega arith in goal)
      eh el room (omega arith) ek (ap opened_in ek) refl
      (record {
        shut = sym (ap (λ c. c || shut h s) yes);
        gone = was.gone;
        accepted = λ here. was.accepted here ∙ sym (ap length (append-nil (accepted h s)));
        kept = was.kept;
      })
      (sym (plan_hung g h s w moment (length boxes) may.not_shut))

  idle : (s : ℕ) (moment : ℤ) → MayHang (shown j g boxes none busy) s moment → none ≡ []
  idle s moment may = i.sound.idle may.idle

  -- its last item may be put
  pub hung_follows : (k : journal.JournalView) (more_known : List Deed) (s : ℕ) (w : Why) (moment : ℤ)
      → MayHang (shown j g boxes none busy) s moment
      → k.history ≡ fresh_record j.history moment (Hung s w) ∷ j.history → k.limit ≡ j.limit → 1 ≤ k.left
      → k.room + 1 ≡ j.room
      → more_known ≡ Ended s w [] ∷ known
      → MayFollow sent (box_at boxes s) (last_item g j.history s w moment)
  hung_follows k more_known s w moment may eh el room free ek =
      let p : Planned = record { session = s; delivery = Last (length j.history + 1) w } in
      let begun_ = hung_begun k more_known s w moment may eh el room free ek in
      subst (λ (h : List Rec). MayFollow sent (box_at boxes s)
      (record { delivery = Last (length j.history + 1) w; session = s; front = h; settings = g })) eh
      (next_follows sent (shown k g boxes (p ∷ []) true) p [] refl begun_.sound)

  pub hung_put : (k : journal.JournalView) (more_known : List Deed) (more : List (Option O)) (s : ℕ) (w : Why)
      (moment : ℤ) (accepts : O → Item → O → Type 0)
      → MayHang (shown j g boxes none busy) s moment
      → k.history ≡ fresh_record j.history moment (Hung s w) ∷ j.history → k.limit ≡ j.limit → 1 ≤ k.left
      → k.room + 1 ≡ j.room
      → more_known ≡ Ended s w [] ∷ known
      → IsTaken sent accepts boxes (last_item g j.history s w moment) more
      → IsKept sent k g more_known (shut_seats seats s) more none busy
  hung_put k more_known more s w moment accepts may eh el room free ek took =
      let p : Planned = record { session = s; delivery = Last (length j.history + 1) w } in
      let begun_ = hung_begun k more_known s w moment may eh el room free ek in
      let put = delivered_kept sent k g more_known (shut_seats seats s) boxes more
      (p ∷ []) [] true p took.before took.after begun_ refl took.here (took.longer ∙ ap
      (λ (h : List Rec). sent took.before ++ record {
        delivery = Last (length j.history + 1) w;
        session = s;
        front = h;
        settings = g;
      } ∷ []) (sym eh)) took.now in
      subst (λ (c : Bool). IsKept sent k g more_known (shut_seats seats s) more none c) (sym may.idle)
      (subst (λ (xs : List Planned). IsKept sent k g more_known (shut_seats seats s) more xs false)
      (sym (idle s moment may)) (finished_kept sent k g more_known (shut_seats seats s) more [] true put refl))

  pub hung_missed : (k n : journal.JournalView) (more_known : List Deed) (s : ℕ) (w : Why) (moment : ℤ)
      → MayHang (shown j g boxes none busy) s moment
      → k.history ≡ fresh_record j.history moment (Hung s w) ∷ j.history → k.limit ≡ j.limit → 1 ≤ k.left
      → k.room + 1 ≡ j.room
      → more_known ≡ Ended s w [] ∷ known
      → Misses k n s
      → IsKept sent n g more_known (slice_set seats (s - 1) (record {
        shut = true;
        gone = (seat_at seats s).gone;
        accepted = (seat_at seats s).accepted;
      })) boxes none busy
  hung_missed k n more_known s w moment may eh el room free ek missed =
      let p : Planned = record { session = s; delivery = Last (length j.history + 1) w } in
      let x = seat_at seats s in let new : Seat = record { shut = true; gone = x.gone; accepted = x.accepted } in
      let places = slice_set seats (s - 1) new in
      let begun_ = hung_begun k more_known s w moment may eh el room free ek in
      let few = may.known.opened in
      let to : s ≤ length seats = seated s few in
      let from : 0 < s = may.known.from_1 in let l : s - 1 < length seats = omega arith in
      let mine : seat_at places s ≡ new = get_or-set_same seats (s - 1) new no_seat l in
      let again : record { shut = true; gone = (seat_at places s).gone; accepted = (seat_at places s).accepted }
      ≡ seat_at places s =
      ap (λ (y : Seat). record { shut = true; gone = y.gone; accepted = y.accepted }) mine ∙ sym mine in
      let set : places ≡ slice_set places (s - 1)
      (record { shut = true; gone = (seat_at places s).gone; accepted = (seat_at places s).accepted }) =
      sym (set-get_or places (s - 1) no_seat) ∙ ap (slice_set places (s - 1)) (sym again) in
      let put = dropped_kept sent k n g more_known places places boxes (p ∷ []) [] true p begun_ refl set missed in
      subst (λ (c : Bool). IsKept sent n g more_known places boxes none c) (sym may.idle)
      (subst (λ (xs : List Planned). IsKept sent n g more_known places boxes xs false) (sym (idle s moment may))
      (finished_kept sent n g more_known places boxes [] true put refl))
