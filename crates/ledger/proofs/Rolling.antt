-- All records are dropped, and what has to be known of them is kept.
use Rattle.std.proofs.Common.{arith, ◌≡◌, ℕ, ◌+◌, ◌-◌, ◌<◌, ◌≤◌, Bool, true, false, List, []}
use Rattle.std.proofs.Common.{length, drop, min, Option, sym, ap, ◌∙◌, subst}
use Rattle.chronicle.specs.History.{Rec, sessions}
use Rattle.chronicle.specs.Journal.{Limit, most, Cuts}
use Rattle.chronicle.specs.Journal as journal
use Rattle.registration.specs.declared.settings.Settings.{Settings}
use Rattle.roster.specs.declared.deed.Deed.{Deed}
use Rattle.deliveries.specs.declared.item.Item.{Item}
use Rattle.deliveries.specs.Base.{dropped_part}
use Rattle.deeds.specs.Deeds.{facts}
use Rattle.ledger.specs.declared.plan.Planned.{Planned}
use Rattle.ledger.specs.declared.seat.Seat.{Seat}
use Rattle.ledger.specs.Seats.{IsSeat, seat_at}
use Rattle.ledger.specs.Ledger.{empty_ledger, after_roll, is_here, kept_total, IsSound}
use Rattle.ledger.specs.Kept.{IsKept}
use Rattle.ledger.specs.Noted.{Noted, is_noted, IsOfDropped}
use Rattle.ledger.proofs.KeptSteps.{shown}

-- ---- the journal is cut

grown : (records dropped n : ℕ) → dropped ≤ n → min (dropped + records) 1152921504606846976
    ≤ min (n + records) 1152921504606846976
grown records dropped n l = omega arith

most_grown : (l : Limit) (n : ℕ) → l.dropped ≤ n
    → most l ≤ most (record { records = l.records; dropped = n; is_cut = true })
unfolding most
most_grown l n few = grown l.records l.dropped n few

module _ {O : Type 0} (sent : O → List Item) where
  cut_at : (h : List Rec) (old new : Limit) (g : Settings) (boxes : List (Option O)) (plan : List Planned)
      (busy : Bool) → most old ≤ most new
      → IsSound sent (record { history = h; limit = old; settings = g; outboxes = boxes; plan = plan; busy = busy })
      → IsSound sent
      (record { history = h; limit = new; settings = g; outboxes = boxes; plan = plan; busy = busy })
  cut_at h old new g boxes plan busy more i =
      record {
        owed = i.owed;
        items = i.items;
        reaped = i.reaped;
        plan = i.plan;
        idle = i.idle;
        legal = i.legal;
        sessions = i.sessions;
        room = let was = i.room in omega arith;
      }

  pub cut_kept : (j k : journal.JournalView) (g : Settings) (known : List Deed) (seats : List Seat)
      (boxes : List (Option O)) (plan : List Planned) (busy : Bool) → IsKept sent j g known seats boxes plan busy
      → busy ≡ false → j.limit.dropped ≤ length j.history → Cuts j k → IsKept sent k g known seats boxes plan busy
  cut_kept j k g known seats boxes plan busy i idle few cut =
      let more : most j.limit ≤ most k.limit = subst (λ (l : Limit). most j.limit ≤ most l) (sym cut.limit)
      (most_grown j.limit (length j.history) few) in
      let none : length plan ≡ 0 = ap length (i.sound.idle idle) in let was = i.room in let room_ = cut.room in
      record {
        sound = subst (λ (h : List Rec). IsSound sent
            (record { history = h; limit = k.limit; settings = g; outboxes = boxes; plan = plan; busy = busy }))
            (sym cut.history) (cut_at j.history j.limit k.limit g boxes plan busy more i.sound);
        facts = i.facts ∙ sym (ap (facts g) cut.history);
        each_seat = λ t from to. subst (λ (h : List Rec). IsSeat (seat_at seats t) (is_here boxes t) h t)
            (sym cut.history) (i.each_seat t from to);
        opened = i.opened;
        places = i.places;
        left = omega arith;
        room = rw cut.history (let goal : kept_total j.history ≤ k.room = omega arith in goal);
      }

-- all records are those that were dropped
all_dropped : (h : List Rec) → dropped_part (length h) h ≡ h
all_dropped h = let e : length h - length h ≡ 0 = omega arith in ap (λ (i : ℕ). drop i h) e

pub cut_based : {O : Type 0} (j k : journal.JournalView) (g : Settings) (boxes : List (Option O)) (b : Noted)
    → Cuts j k → b.front ≡ j.history → b.settings ≡ g → sessions j.history ≡ length boxes
    → ((t : ℕ) → 0 < t → t ≤ sessions j.history → is_noted b t ≡ is_here boxes t)
    → ((t : ℕ) → is_noted b t ≡ true → (0 < t) × (t ≤ sessions j.history))
    → IsOfDropped b k.history k.limit.dropped g boxes
cut_based j k g boxes b cut ef es many noted early =
    let dropped : k.limit.dropped ≡ length j.history = ap (λ (l : Limit). l.dropped) cut.limit in
    let longer = ap length cut.history in let opened : sessions b.front ≡ sessions j.history = ap sessions ef in
    record {
      few = omega arith;
      front = ef ∙ sym (ap (λ (n : ℕ). dropped_part n k.history) dropped
          ∙ ap (dropped_part (length j.history)) cut.history ∙ all_dropped j.history);
      settings = es;
      opened = omega arith;
      noted = λ t from to. noted t from (omega arith);
      early = λ t is. let l = (early t is).1 in ((early t is).0, (omega arith));
    }

-- ---- the state

pub shown_cut : {O : Type 0} (j k : journal.JournalView) (g : Settings) (boxes : List (Option O)) (plan : List Planned)
    (busy : Bool) → Cuts j k → shown k g boxes plan busy ≡ after_roll (shown j g boxes plan busy)
shown_cut j k g boxes plan busy cut =
    ap (λ (h : List Rec). record {
      history = h;
      limit = k.limit;
      settings = g;
      outboxes = boxes;
      plan = plan;
      busy = busy;
    }) cut.history
    ∙ ap (λ (l : Limit). record {
      history = j.history;
      limit = l;
      settings = g;
      outboxes = boxes;
      plan = plan;
      busy = busy;
    }) cut.limit

pub shown_empty : {O : Type 0} (j : journal.JournalView) (g settings : Settings) (boxes : List (Option O))
    (plan : List Planned) (limit : ℕ) → j.history ≡ []
    → j.limit ≡ record { records = limit; dropped = 0; is_cut = false }
    → g ≡ settings → boxes ≡ [] → plan ≡ [] → shown j g boxes plan false ≡ empty_ledger limit settings
shown_empty j g settings boxes plan limit eh el eg eb ep =
    ap (λ (h : List Rec). record {
      history = h;
      limit = j.limit;
      settings = g;
      outboxes = boxes;
      plan = plan;
      busy = false;
    }) eh
    ∙ ap (λ (l : Limit). record {
      history = [];
      limit = l;
      settings = g;
      outboxes = boxes;
      plan = plan;
      busy = false;
    }) el
    ∙ ap (λ (x : Settings). record {
      history = [];
      limit = record { records = limit; dropped = 0; is_cut = false };
      settings = x;
      outboxes = boxes;
      plan = plan;
      busy = false;
    }) eg
    ∙ ap (λ xs. record {
      history = [];
      limit = record { records = limit; dropped = 0; is_cut = false };
      settings = settings;
      outboxes = xs;
      plan = plan;
      busy = false;
    }) eb
    ∙ ap (λ ps. record {
      history = [];
      limit = record { records = limit; dropped = 0; is_cut = false };
      settings = settings;
      outboxes = [];
      plan = ps;
      busy = false;
    }) ep
