-- What the code has in hand after a delivery is the next state.
use Rattle.std.proofs.Common.{◌≡◌, List, ◌∷◌, Option, Some, refl, sym, ap, ◌∙◌, subst}
use Rattle.chronicle.specs.History.{Rec}
use Rattle.chronicle.specs.Journal.{Limit, miss}
use Rattle.ledger.specs.declared.plan.Planned.{Planned}
use Rattle.deliveries.specs.declared.item.Item.{Item}
use Rattle.outbox.specs.declared.queue.PutFault.{PutFault}
use Rattle.ledger.specs.declared.outcomes.Step.TheVariants.{Put, Missed}
use Rattle.ledger.specs.Seats.{IsTaken, IsNotTaken}
use Rattle.ledger.specs.Ledger.{Shown, item_of, after_miss, IsPutNext}

-- the delivery was put
pub put_is : {O : Type 0} (sent : O → List Item) (accepts : O → Item → O → Type 0) (refuses : O → PutFault → Type 0)
    (m : Shown O) (p : Planned) (qs : List Planned) (more : List (Option O)) → m.plan ≡ p ∷ qs
    → IsTaken sent accepts m.outboxes (item_of m p) more
    → IsPutNext accepts refuses m m.plan (Some (Put p.session)) (record {
      history = m.history;
      limit = m.limit;
      settings = m.settings;
      outboxes = more;
      plan = qs;
      busy = m.busy;
    })
put_is {O} sent accepts refuses m p qs more e i =
    let k : Shown O = record {
      history = m.history;
      limit = m.limit;
      settings = m.settings;
      outboxes = more;
      plan = qs;
      busy = m.busy;
    } in
    subst (λ (ps : List Planned). IsPutNext accepts refuses m ps (Some (Put p.session)) k) (sym e) (
      refl,
      record {
        before = i.before;
        after = i.after;
        here = i.here;
        accepted = i.accepted;
        book = ap (λ (x : List (Option O)). record {
          history = m.history;
          limit = m.limit;
          settings = m.settings;
          outboxes = x;
          plan = qs;
          busy = m.busy;
        }) i.now;
      },
    )

-- the delivery was missed
pub miss_is : {O : Type 0} (accepts : O → Item → O → Type 0) (refuses : O → PutFault → Type 0) (m : Shown O)
    (p : Planned) (qs : List Planned) (h : List Rec) (l : Limit) (more : List (Option O)) → m.plan ≡ p ∷ qs
    → IsNotTaken refuses m.outboxes (item_of m p) → h ≡ miss m.history p.session → l ≡ m.limit → more ≡ m.outboxes
    → IsPutNext accepts refuses m m.plan (Some (Missed p.session))
    (record { history = h; limit = l; settings = m.settings; outboxes = more; plan = qs; busy = m.busy })
miss_is {O} accepts refuses m p qs h l more e i eh el em =
    let k : Shown O = record {
      history = h;
      limit = l;
      settings = m.settings;
      outboxes = more;
      plan = qs;
      busy = m.busy;
    } in
    let is : k ≡ after_miss m p qs =
    ap (λ (x : List (Option O)). record {
      history = h;
      limit = l;
      settings = m.settings;
      outboxes = x;
      plan = qs;
      busy = m.busy;
    }) em
    ∙ ap (λ (x : List Rec). record {
      history = x;
      limit = l;
      settings = m.settings;
      outboxes = m.outboxes;
      plan = qs;
      busy = m.busy;
    }) eh
    ∙ ap (λ (j : Limit). record {
      history = miss m.history p.session;
      limit = j;
      settings = m.settings;
      outboxes = m.outboxes;
      plan = qs;
      busy = m.busy;
    }) el in
    subst (λ (ps : List Planned). IsPutNext accepts refuses m ps (Some (Missed p.session)) k) (sym e)
    (refl, record { before = i.before; cause = i.cause; here = i.here; refused = i.refused; book = is })
