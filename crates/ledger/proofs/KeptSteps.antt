-- What a ledger keeps stands for its history over each step.
use Rattle.std.proofs.lemmas.List.{get_or_push, get_or_append_left, get_or-set_same, get_or-set_other, length-set}
use Rattle.std.proofs.lemmas.Bool.Decides.{eqb_tells}
use Rattle.std.proofs.Common.{◌≡◌, ◌≢◌, inl, inr, ℕ, ℤ, ◌+◌, ◌-◌, ◌<◌, ◌≤◌, Bool, true, false, ◌||◌}
use Rattle.std.proofs.Common.{Option, Some, None, List, [], ◌∷◌, ◌++◌, length, slice_set, arith, refl}
use Rattle.std.proofs.Common.{sym, ap, ◌∙◌, subst, append-nil, length-append, ne_eqb}
use Rattle.chronicle.specs.declared.record.Kind.{Kind}
use Rattle.chronicle.specs.declared.record.Kind.TheVariants.{Opened, Said, Hung, Gone, Ticked}
use Rattle.chronicle.specs.History.{Rec, actor, opened_by, sessions, said_by, accepted, ends}
use Rattle.chronicle.specs.History.{leaves, shut, gone, last_moment, IsMomentAfter}
use Rattle.chronicle.specs.Journal.{Limit, most, IsRoomier, fresh_record, Appends, Misses, miss}
use Rattle.chronicle.specs.Journal as journal
use Rattle.roster.specs.declared.deed.Deed.{Deed}
use Rattle.registration.specs.declared.settings.Settings.{Settings}
use Rattle.ledger.specs.declared.seat.Seat.{Seat}
use Rattle.ledger.specs.declared.plan.Planned.{Planned}
use Rattle.deliveries.specs.declared.item.Item.{Item}
use Rattle.outbox.specs.Ring.{Waiting, with_taken, put_into}
use Rattle.deeds.specs.Deeds.{deeds, facts}
use Rattle.roster.specs.LookBack.{after}
use Rattle.roster.specs.LookBack as told_of
use Rattle.roster.specs.declared.deed.Deed.TheVariants as deed
use Rattle.ledger.specs.Legal.{IsKind, IsLegal}
use Rattle.ledger.specs.Kept.{IsKept}
use Rattle.std.specs.Option.{is_some}
use Rattle.ledger.specs.Seats.{IsSeat, no_seat, away, seat_at}
use Rattle.ledger.specs.Ledger.{Shown, item_of, MayOpen, box_at, outbox_at, is_here, kept_total, plan_of, IsPlan}
use Rattle.ledger.specs.Ledger.{IsSound}
use Rattle.ledger.proofs.About.{not_shut, not_gone, not_accepted, gone_shut}
use Rattle.ledger.proofs.Opened.{opened_sound, opened_held}
use Rattle.ledger.proofs.Sound.{misses_same, misses_other, held_missed, box_same, box_other, here_same}
use Rattle.ledger.proofs.Sound.{delivered_sound, dropped_sound, finished_sound, taken_sound, reaped_sound}
use Rattle.ledger.proofs.Begun.{begun_sound}

abbrev pub shown : {O : Type 0} → journal.JournalView → Settings → List (Option O) → List Planned → Bool → Shown O
shown j g boxes plan busy = record {
  history = j.history;
  limit = j.limit;
  settings = g;
  outboxes = boxes;
  plan = plan;
  busy = busy;
}

-- what a ledger shows of a journal is of its history and its limit
pub shown_with : {O : Type 0} (j k : journal.JournalView) (h : List Rec) (g : Settings) (boxes : List (Option O))
    (plan : List Planned) (busy : Bool) → k.history ≡ h → k.limit ≡ j.limit
    → shown k g boxes plan busy
    ≡ record { history = h; limit = j.limit; settings = g; outboxes = boxes; plan = plan; busy = busy }
shown_with j k h g boxes plan busy eh el =
    ap (λ (x : List Rec). record {
      history = x;
      limit = k.limit;
      settings = g;
      outboxes = boxes;
      plan = plan;
      busy = busy;
    }) eh
    ∙ ap (λ (x : Limit). record {
      history = h;
      limit = x;
      settings = g;
      outboxes = boxes;
      plan = plan;
      busy = busy;
    }) el

facts-miss : (g : Settings) (h : List Rec) (s : ℕ) → facts g (miss h s) ≡ facts g h
facts-miss g [] s = refl
facts-miss g (r ∷ h) s = refl

accepted-miss : (h : List Rec) (s t : ℕ) → accepted (miss h s) t ≡ accepted h t
accepted-miss [] s t = refl
accepted-miss (r ∷ h) s t = refl

gone-miss : (h : List Rec) (s t : ℕ) → gone (miss h s) t ≡ gone h t
gone-miss [] s t = refl
gone-miss (r ∷ h) s t = refl

held-miss : (h : List Rec) (s : ℕ) → kept_total (miss h s) ≤ kept_total h
held-miss [] s = omega arith
held-miss (r ∷ h) s = held_missed r h s

shut-miss_other : (h : List Rec) (s t : ℕ) → s ≢ t → shut (miss h s) t ≡ shut h t
shut-miss_other [] s t ne = refl
shut-miss_other (r ∷ h) s t ne = ap (λ b. b || ends r.kind t || shut h t) (misses_other r s t ne)

shut-miss_same : (g : Settings) (h : List Rec) (s n : ℕ) (p : Planned) (qs : List Planned) → IsPlan g h n (p ∷ qs)
    → s ≡ p.session → shut (miss h s) s ≡ true
shut-miss_same g [] s n p qs i e = absurd i.3
shut-miss_same g (r ∷ h) s n p qs i e = ap (λ b. b || ends r.kind s || shut h s) (misses_same r s)

-- what a record says of sessions other than its own
abbrev pub IsQuiet : Kind → ℕ → Type 0
IsQuiet k t = (ends k t ≡ false) × (leaves k t ≡ false) × (said_by k t ≡ [])

pub quiet : (k : Kind) (t : ℕ) → opened_by k ≡ 0 → actor k ≢ t → IsQuiet k t
quiet (Opened s host) t e ne = absurd (let f : 1 ≡ 0 = e in omega arith)
quiet (Said s n piece) t e ne = (rw (ne_eqb s t ne) refl, refl, rw (ne_eqb s t ne) refl)
quiet (Hung s w) t e ne = (ne_eqb s t ne, refl, refl)
quiet (Gone s) t e ne = (refl, ne_eqb s t ne, refl)
quiet Ticked t e ne = (refl, refl, refl)

module _ {O : Type 0} (sent : O → List Item) where
  -- ---- a session is opened

  opened_history : (j k : journal.JournalView) (g : Settings) (known more_known : List Deed) (seats : List Seat)
      (boxes : List (Option O)) (plan : List Planned) (busy : Bool) (host : List ℕ) (moment : ℤ) (box : O)
      → IsKept sent j g known seats boxes plan busy → MayOpen (shown j g boxes plan busy) moment → sent box ≡ []
      → k.history ≡ fresh_record j.history moment (Opened (sessions j.history + 1) host) ∷ j.history
      → k.limit ≡ j.limit → kept_total j.history + 2 ≤ k.room
      → more_known ≡ deed.Opened (sessions j.history + 1) host ∷ known
      → IsKept sent k g more_known (seats ++ no_seat ∷ []) (boxes ++ Some box ∷ []) plan busy
  opened_history j k g known more_known seats boxes plan busy host moment box i may fresh eh el free ek =
      let h = j.history in
      let n = sessions h + 1 in let r = fresh_record h moment (Opened n host) in let all = boxes ++ Some box ∷ [] in
      let one_more : length (told_of.opened_in known ++ n ∷ [])
      ≡ length (told_of.opened_in known) + 1 = length-append (told_of.opened_in known) (n ∷ []) in
      let more : length (seats ++ no_seat ∷ []) ≡ length seats + 1 = length-append seats (no_seat ∷ []) in
      let new : IsSound sent (shown k g all plan busy) =
      subst (IsSound sent) (sym (shown_with j k (r ∷ h) g all plan busy eh el))
      (opened_sound sent (shown j g boxes plan busy) host moment box i.sound may fresh) in
      let seat : (t : ℕ) → 0 < t → t ≤ length (seats ++ no_seat ∷ [])
      → IsSeat (seat_at (seats ++ no_seat ∷ []) t) (is_here all t) (r ∷ h) t = λ t from to.
      elim (eqb_tells t n) [
        | inl last ↦
            let p : length seats ≡ t - 1 = let e = last.1 in let a = i.sound.sessions in let b = i.places in
            omega arith in
            let past : sessions h < t = let e = last.1 in omega arith in
            let q : length boxes ≡ t - 1 = let b = i.places in omega arith in
            subst (λ (s : Seat). IsSeat s (is_here all t) (r ∷ h) t)
            (sym (get_or_push seats no_seat no_seat (t - 1) p))
            (record {
              shut = sym (not_shut g h t i.sound.legal past);
              gone = sym (not_gone g h t i.sound.legal past);
              accepted = λ here. sym (ap length (append-nil (accepted h t) ∙ not_accepted g h t i.sound.legal past));
              kept = sym (ap (λ o. is_some o) (get_or_push boxes (Some box) None (t - 1) q));
            })
        | inr other ↦
            let l : t - 1 < length seats = let ne = other.1 in let a = i.sound.sessions in let b = i.places in
            omega arith in
            let below : t ≤ length seats = let ne = other.1 in let a = i.sound.sessions in let b = i.places in
            omega arith in
            let was = i.each_seat t from below in let few : t - 1 < length boxes = let p = i.places in omega arith in
            let same : is_here boxes t ≡ is_here all t = ap
            (λ o. is_some o) (sym (get_or_append_left boxes (Some box ∷ []) None (t - 1) few)) in
            subst (λ (s : Seat). IsSeat s (is_here all t) (r ∷ h) t)
            (sym (get_or_append_left seats (no_seat ∷ []) no_seat (t - 1) l))
            (record {
              shut = was.shut;
              gone = was.gone;
              accepted = λ here. was.accepted (same ∙ here)
                  ∙ sym (ap length (append-nil (accepted h t)));
              kept = was.kept ∙ same;
            })
      ] in
      record {
        sound = new;
        facts = ek ∙ ap (λ (fs : List Deed). deed.Opened n host ∷ fs) i.facts ∙ sym (ap (facts g) eh);
        each_seat = λ t from to. subst (λ (x : List Rec). IsSeat (seat_at (seats ++ no_seat ∷ []) t)
            (is_here all t) x t) (sym eh) (seat t from to);
        opened = ap (λ (fs : List Deed). length (told_of.opened_in fs)) ek ∙ one_more ∙ ap
            (λ (m : ℕ). m + 1) i.opened ∙ sym (length-append boxes (Some box ∷ []));
        places = more ∙ ap (λ (m : ℕ). m + 1) i.places ∙ sym (length-append boxes (Some box ∷ []));
        left = let e = i.sound.idle may.idle in let z : length plan ≡ 0 = ap length e in
            let goal : length plan ≤ k.left = omega arith in goal;
        room = let two = opened_held h n host moment in
            rw eh (let goal : kept_total (r ∷ h) ≤ k.room = omega arith in goal);
      }

  pub opened_kept : (j k : journal.JournalView) (g : Settings) (known more_known : List Deed)
      (seats places : List Seat)
      (boxes more : List (Option O)) (plan : List Planned) (busy : Bool) (host told : List ℕ) (moment : ℤ)
      (session : ℕ) (box : O)
      → IsKept sent j g known seats boxes plan busy → MayOpen (shown j g boxes plan busy) moment → sent box ≡ []
      → session ≡ length seats + 1 → told ≡ host → k.history ≡ fresh_record j.history moment (Opened session told)
      ∷ j.history → k.limit ≡ j.limit → kept_total j.history + 2 ≤ k.room
      → more_known ≡ deed.Opened session host ∷ known → places ≡ seats ++ no_seat ∷ [] → more ≡ boxes ++ Some box ∷ []
      → IsKept sent k g more_known places more plan busy
  opened_kept j k g known more_known seats places boxes more plan busy host told moment session box i may fresh es
      et eh0 el free ek ex eb =
      let n : session ≡ sessions j.history + 1 = let a = i.sound.sessions in let b = i.places in omega arith in
      let eh : k.history ≡ fresh_record j.history moment (Opened (sessions j.history + 1) host) ∷ j.history =
      eh0 ∙ ap (λ (s : ℕ). fresh_record j.history moment (Opened s told) ∷ j.history) n ∙ ap
      (λ (x : List ℕ). fresh_record j.history moment (Opened (sessions j.history + 1) x) ∷ j.history) et in
      subst (λ (x : List Seat). IsKept sent k g more_known x more plan busy) (sym ex)
      (subst (λ (x : List (Option O)). IsKept sent k g more_known (seats ++ no_seat ∷ []) x plan busy) (sym eb)
      (opened_history j k g known more_known seats boxes plan busy host moment box i may fresh eh el free
      (ek ∙ ap (λ (m : ℕ). deed.Opened m host ∷ known) n)))

  -- ---- a delivery is put, or missed

  pub delivered_kept : (j : journal.JournalView) (g : Settings) (known : List Deed) (seats : List Seat)
      (boxes more : List (Option O)) (plan qs : List Planned) (busy : Bool) (p : Planned) (a b : O)
      → IsKept sent j g known seats boxes plan busy → plan ≡ p ∷ qs → box_at boxes p.session ≡ Some a → sent b
      ≡ sent a ++ item_of (shown j g boxes plan busy) p ∷ [] → more ≡ slice_set boxes (p.session - 1) (Some b)
      → IsKept sent j g known seats more qs busy
  delivered_kept j g known seats boxes more plan qs busy p a b i e at grew em =
      let new = slice_set boxes (p.session - 1) (Some b) in
      let len : length new ≡ length boxes = simp length-set in
      let longer : length plan ≡ length (p ∷ qs) = ap length e in let was = i.left in
      subst (λ (x : List (Option O)). IsKept sent j g known seats x qs busy) (sym em)
      (record {
        sound = delivered_sound sent (shown j g boxes plan busy) p qs a b e at grew i.sound;
        facts = i.facts;
        each_seat = λ t above below.
            let was = i.each_seat t above below in let is = subst (IsPlan g j.history (length boxes)) e i.sound.plan in
            let same = here_same boxes p.session t b (ap (λ o. is_some o) at) is.0 is.1 above in
            record {
              shut = was.shut;
              gone = was.gone;
              accepted = λ here. was.accepted (same ∙ here);
              kept = was.kept ∙ same;
            };
        opened = i.opened ∙ sym len;
        places = i.places ∙ sym len;
        left = omega arith;
        room = i.room;
      })

  pub dropped_kept : (j k : journal.JournalView) (g : Settings) (known : List Deed) (seats places : List Seat)
      (boxes : List (Option O)) (plan qs : List Planned) (busy : Bool) (p : Planned)
      → IsKept sent j g known seats boxes plan busy → plan ≡ p ∷ qs
      → places ≡ slice_set seats (p.session - 1) (record {
        shut = true;
        gone = (seat_at seats p.session).gone;
        accepted = (seat_at seats p.session).accepted;
      }) → Misses j k p.session
      → IsKept sent k g known places boxes qs busy
  dropped_kept j k g known seats places boxes plan qs busy p i e ep miss_ =
      let h = j.history in
      let s = p.session in
      let v : Seat = record { shut = true; gone = (seat_at seats s).gone; accepted = (seat_at seats s).accepted } in
      let planned_ : IsPlan g h (length boxes) (p ∷ qs) = subst (IsPlan g h (length boxes)) e i.sound.plan in
      let longer : length plan ≡ length (p ∷ qs) = ap length e in let was = i.left in let less = miss_.left in
      let from : 0 < s = planned_.0 in
      let to : s ≤ length seats = let a = planned_.1 in let b = i.places in omega arith in
      let sound : IsSound sent (shown k g boxes qs busy) = subst (IsSound sent)
      (sym (shown_with j k (miss h s) g boxes qs busy miss_.history miss_.limit))
      (dropped_sound sent (shown j g boxes plan busy) p qs e i.sound) in
      let len : length (slice_set seats (s - 1) v) ≡ length seats = simp length-set in
      let seat : (t : ℕ) → 0 < t → t ≤ length seats
      → IsSeat (seat_at (slice_set seats (s - 1) v) t) (is_here boxes t) (miss h s) t = λ t above below.
      elim (eqb_tells s t) [
        | inl same ↦
            let l : s - 1 < length seats = omega arith in let was = i.each_seat s from to in
            let here : IsSeat (seat_at (slice_set seats (s - 1) v) s) (is_here boxes s) (miss h s) s =
            subst (λ (x : Seat). IsSeat x (is_here boxes s) (miss h s) s)
            (sym (get_or-set_same seats (s - 1) v no_seat l))
            (record {
              shut = sym (shut-miss_same g h s (length boxes) p qs planned_ refl);
              gone = was.gone ∙ sym (gone-miss h s s);
              accepted = λ there. was.accepted there
                  ∙ ap length (sym (accepted-miss h s s));
              kept = was.kept;
            }) in
            subst (λ (u : ℕ). IsSeat (seat_at (slice_set seats (s - 1) v) u) (is_here boxes u) (miss h s) u) same.1
            here
        | inr other ↦
            let apart : t - 1 ≢ s - 1 = λ x. other.1 (omega arith) in let was = i.each_seat t above below in
            subst (λ (x : Seat). IsSeat x (is_here boxes t) (miss h s) t)
            (sym (get_or-set_other seats (s - 1) (t - 1) v no_seat apart))
            (record {
              shut = was.shut ∙ sym (shut-miss_other h s t other.1);
              gone = was.gone ∙ sym
                  (gone-miss h s t);
              accepted = λ there. was.accepted there ∙ ap length (sym (accepted-miss h s t));
              kept = was.kept;
            })
      ] in
      subst (λ (x : List Seat). IsKept sent k g known x boxes qs busy) (sym ep)
      (record {
        sound = sound;
        facts = i.facts ∙ sym (ap (facts g) miss_.history ∙ facts-miss g h s);
        each_seat = λ t above below. subst (λ (x : List Rec). IsSeat (seat_at (slice_set seats (s - 1) v) t)
            (is_here boxes t) x t) (sym miss_.history) (seat t above (let q = len in omega arith));
        opened = i.opened;
        places = len ∙ i.places;
        left = omega arith;
        room = let less = held-miss h s in let same = miss_.room in let was = i.room in
            rw miss_.history (let goal : kept_total (miss h s) ≤ k.room = omega arith in goal);
      })

  -- ---- the plan is given back

  pub finished_kept : (j : journal.JournalView) (g : Settings) (known : List Deed) (seats : List Seat)
      (boxes : List (Option O)) (plan : List Planned) (busy : Bool)
      → IsKept sent j g known seats boxes plan busy → plan ≡ [] → IsKept sent j g known seats boxes plan false
  finished_kept j g known seats boxes plan busy i none =
      record {
        sound = finished_sound sent (shown j g boxes plan busy) none i.sound;
        facts = i.facts;
        each_seat = i.each_seat;
        opened = i.opened;
        places = i.places;
        left = i.left;
        room = i.room;
      }

  -- ---- a session is given up

  pub reaped_kept : (j : journal.JournalView) (g : Settings) (known : List Deed) (seats places : List Seat)
      (boxes more : List (Option O)) (plan : List Planned) (busy : Bool) (s : ℕ)
      → IsKept sent j g known seats boxes plan busy → 0 < s → s ≤ length boxes → gone j.history s ≡ true
      → places ≡ slice_set seats (s - 1) away → more ≡ slice_set boxes (s - 1) None
      → IsKept sent j g known places more plan busy
  reaped_kept j g known seats places boxes more plan busy s i from to left_ ep em =
      let h = j.history in
      let new = slice_set boxes (s - 1) None in let len : length new ≡ length boxes = simp length-set in
      let rows = slice_set seats (s - 1) away in let many : length rows ≡ length seats = simp length-set in
      let seat : (t : ℕ) → 0 < t → t ≤ length seats → IsSeat (seat_at rows t) (is_here new t) h t = λ t above below.
      elim (eqb_tells s t) [
        | inl same ↦
            let l : s - 1 < length seats = let p = i.places in omega arith in
            let here : IsSeat (seat_at rows s) (is_here new s) h s =
            subst (λ (x : Seat). IsSeat x (is_here new s) h s) (sym (get_or-set_same seats (s - 1) away no_seat l))
            (record {
              shut = sym (gone_shut g h s i.sound.legal left_);
              gone = sym left_;
              accepted = λ there. absurd
                  (let f : false ≡ true = ap (λ o. is_some o) (sym (box_same boxes s None from to)) ∙ there in cc);
              kept = sym (ap (λ o. is_some o) (box_same boxes s None from to));
            }) in
            subst (λ (u : ℕ). IsSeat (seat_at rows u) (is_here new u) h u) same.1 here
        | inr other ↦
            let apart : t - 1 ≢ s - 1 = λ x. other.1 (omega arith) in let was = i.each_seat t above below in
            let same : is_here boxes t ≡ is_here new t = ap
            (λ o. is_some o) (sym (box_other boxes s t None from above other.1)) in
            subst (λ (x : Seat). IsSeat x (is_here new t) h t)
            (sym (get_or-set_other seats (s - 1) (t - 1) away no_seat apart))
            (record {
              shut = was.shut;
              gone = was.gone;
              accepted = λ there. was.accepted (same ∙ there);
              kept = was.kept ∙ same;
            })
      ] in
      subst (λ (x : List Seat). IsKept sent j g known x more plan busy) (sym ep)
      (subst (λ (x : List (Option O)). IsKept sent j g known rows x plan busy) (sym em)
      (record {
        sound = reaped_sound sent (shown j g boxes plan busy) s from to left_ i.sound;
        facts = i.facts;
        each_seat = λ t above below. seat t above (let q = many in omega arith);
        opened = i.opened ∙ sym len;
        places = many ∙ i.places ∙ sym len;
        left = i.left;
        room = i.room;
      }))

  -- ---- a record is appended, and its deliveries are planned

  pub begun_kept : (j k : journal.JournalView) (g : Settings) (known more_known : List Deed) (seats places : List Seat)
      (boxes : List (Option O)) (none plan : List Planned) (kind : Kind) (moment : ℤ) (v : Seat)
      → IsKept sent j g known seats boxes none false → opened_by kind ≡ 0 → 0 < actor kind
      → actor kind ≤ length seats → IsKind j.history kind → IsMomentAfter (last_moment j.history) moment
      → length j.history + 1 + kept_total (fresh_record j.history moment kind ∷ j.history) ≤ most j.limit
      → k.history ≡ fresh_record j.history moment kind ∷ j.history → k.limit ≡ j.limit → length plan ≤ k.left
      → kept_total (fresh_record j.history moment kind ∷ j.history) ≤ k.room
      → more_known ≡ after known (deeds g known kind) → told_of.opened_in more_known ≡ told_of.opened_in known
      → places ≡ slice_set seats (actor kind - 1) v
      → IsSeat v (is_here boxes (actor kind)) (fresh_record j.history moment kind ∷ j.history) (actor kind)
      → plan ≡ plan_of g j.history kind moment (length boxes)
      → IsKept sent k g more_known places boxes plan true
  begun_kept j k g known more_known seats places boxes none plan kind moment v i opens from to is in_time limit_ eh
      el room_ free ek same ep iv eplan =
      let h = j.history in let s = actor kind in let r = fresh_record h moment kind in
      let to' : s ≤ length boxes = let a = i.places in omega arith in
      let sound : IsSound sent (shown k g boxes plan true) =
      subst (IsSound sent) (sym (shown_with j k (r ∷ h) g boxes plan true eh el))
      (subst (λ (x : List Planned). IsSound sent (record {
        history = r ∷ h;
        limit = j.limit;
        settings = g;
        outboxes = boxes;
        plan = x;
        busy = true;
      })) (sym eplan) (begun_sound sent
      (shown j g boxes none false) kind moment i.sound refl opens from to' is in_time limit_)) in
      let len : length (slice_set seats (s - 1) v) ≡ length seats = simp length-set in
      let seat : (t : ℕ) → 0 < t → t ≤ length seats
      → IsSeat (seat_at (slice_set seats (s - 1) v) t) (is_here boxes t) (r ∷ h) t = λ t above below.
      elim (eqb_tells s t) [
        | inl equal ↦
            let l : s - 1 < length seats = omega arith in
            let here : IsSeat (seat_at (slice_set seats (s - 1) v) s) (is_here boxes s) (r ∷ h) s = subst
            (λ (x : Seat). IsSeat x (is_here boxes s) (r ∷ h) s)
            (sym (get_or-set_same seats (s - 1) v no_seat l)) iv in
            subst (λ (u : ℕ). IsSeat (seat_at (slice_set seats (s - 1) v) u) (is_here boxes u) (r ∷ h) u) equal.1 here
        | inr other ↦
            let apart : t - 1 ≢ s - 1 = λ x. other.1 (omega arith) in
            let was = i.each_seat t above below in let q = quiet kind t opens other.1 in
            subst (λ (x : Seat). IsSeat x (is_here boxes t) (r ∷ h) t)
            (sym (get_or-set_other seats (s - 1) (t - 1) v no_seat apart))
            (record {
              shut = was.shut ∙ ap (λ b. b || shut h t) (sym q.0);
              gone = was.gone ∙ ap (λ b. b || gone h t) (sym q.1);
              accepted = λ there. was.accepted there
                  ∙ sym (ap (λ xs. length (accepted h t ++ xs)) q.2 ∙ ap length (append-nil (accepted h t)));
              kept = was.kept;
            })
      ] in
      subst (λ (x : List Seat). IsKept sent k g more_known x boxes plan true) (sym ep)
      (record {
        sound = sound;
        facts = ek ∙ ap (λ (fs : List Deed). after fs (deeds g fs kind)) i.facts ∙ sym (ap (facts g) eh);
        each_seat = λ t above below. subst (λ (x : List Rec). IsSeat (seat_at (slice_set seats (s - 1) v) t)
            (is_here boxes t) x t) (sym eh) (seat t above (let q = len in omega arith));
        opened = ap length same ∙ i.opened;
        places = len ∙ i.places;
        left = room_;
        room = rw eh free;
      })

  -- ---- nothing is kept yet

  pub empty_kept : (j : journal.JournalView) (g : Settings) (known : List Deed) (seats : List Seat)
      (boxes : List (Option O)) (plan : List Planned)
      → j.history ≡ [] → known ≡ [] → seats ≡ [] → boxes ≡ [] → plan ≡ []
      → IsKept sent j g known seats boxes plan false
  empty_kept j g known seats boxes plan eh ek es eb ep =
      let no_boxes : length boxes ≡ 0 = ap length eb in let no_seats : length seats ≡ 0 = ap length es in
      let no_records : length j.history ≡ 0 = ap length eh in
      let no_room : kept_total j.history ≡ 0 = ap kept_total eh in let no_plan : length plan ≡ 0 = ap length ep in
      record {
        sound = record {
          owed = λ t from to here. absurd (omega arith);
          items = λ t from to. absurd (omega arith);
          reaped = λ t from to away. absurd (omega arith);
          plan = subst (IsPlan g j.history (length boxes)) (sym ep) tt;
          idle = λ e. ep;
          legal = subst (IsLegal g) (sym eh) tt;
          sessions = ap sessions eh ∙ sym no_boxes;
          room = let goal : length j.history + kept_total j.history ≤ most j.limit = omega arith in goal;
        };
        facts = ek ∙ sym (ap (facts g) eh);
        each_seat = λ t from to. absurd (omega arith);
        opened = ap (λ (fs : List Deed). length (told_of.opened_in fs)) ek ∙ sym no_boxes;
        places = no_seats ∙ sym no_boxes;
        left = omega arith;
        room = omega arith;
      }

  -- ---- room is made

  pub roomier_kept : (j k : journal.JournalView) (g more : Settings) (known facts_ : List Deed) (seats : List Seat)
      (boxes : List (Option O)) (plan : List Planned) (busy : Bool)
      → IsKept sent j g known seats boxes plan busy → IsRoomier j k → more ≡ g → facts_ ≡ known
      → IsKept sent k more facts_ seats boxes plan busy
  roomier_kept j k g more known facts_ seats boxes plan busy i r eg ef =
      let room = r.room in let was = i.room in let left = r.left in let few = i.left in
      subst (λ (x : Settings). IsKept sent k x facts_ seats boxes plan busy) (sym eg)
      (subst (λ (fs : List Deed). IsKept sent k g fs seats boxes plan busy) (sym ef)
      (record {
        sound = subst (IsSound sent) (sym (shown_with j k j.history g boxes plan busy r.history r.limit)) i.sound;
        facts = i.facts ∙ sym (ap (facts g) r.history);
        each_seat = λ t from to. subst (λ (h : List Rec). IsSeat (seat_at seats t) (is_here boxes t) h t)
            (sym r.history) (i.each_seat t from to);
        opened = i.opened;
        places = i.places;
        left = omega arith;
        room = rw r.history (let goal : kept_total j.history ≤ k.room = omega arith in goal);
      }))

-- ---- an item is taken of a ring

pub taken_kept : (j : journal.JournalView) (g : Settings) (known : List Deed) (seats : List Seat)
    (boxes more : List (Option Waiting)) (plan : List Planned) (busy : Bool) (s : ℕ)
    → IsKept put_into j g known seats boxes plan busy → 0 < s → s ≤ length boxes
    → is_here boxes s ≡ true → more ≡ slice_set boxes (s - 1) (Some (with_taken (outbox_at boxes s)))
    → IsKept put_into j g known seats more plan busy
taken_kept j g known seats boxes more plan busy s i from to here em =
    let new = slice_set boxes (s - 1) (Some (with_taken (outbox_at boxes s))) in
    let len : length new ≡ length boxes = simp length-set in
    subst (λ (x : List (Option Waiting)). IsKept put_into j g known seats x plan busy) (sym em)
    (record {
      sound = taken_sound (shown j g boxes plan busy) s from to here i.sound;
      facts = i.facts;
      each_seat = λ t above below.
          let was = i.each_seat t above below in
          let same = here_same boxes s t (with_taken (outbox_at boxes s)) here from to above in
          record {
            shut = was.shut;
            gone = was.gone;
            accepted = λ there. was.accepted (same ∙ there);
            kept = was.kept ∙ same;
          };
      opened = i.opened ∙ sym len;
      places = i.places ∙ sym len;
      left = i.left;
      room = i.room;
    })
