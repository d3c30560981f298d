-- What is counted of each session that is there, by the places of their outboxes in the map.
use Rattle.std.proofs.lemmas.Bool.Decides.{eqb_tells}
use Rattle.std.proofs.Common.{arith, ◌≡◌, inl, inr, ℕ, suc, ◌+◌, ◌<◌, ◌≤◌, Bool, true, false, cond, nat_eq, List, []}
use Rattle.std.proofs.Common.{◌∷◌, length, slice_get, Option, Some, None, refl, sym, ap, ◌∙◌, subst}
use Rattle.std.specs.Prelude.{IfSome}
use Rattle.std.specs.Option.{is_some}
use Rattle.std.specs.Map.{lookup}
use Rattle.chronicle.specs.History.{Rec}
use Rattle.chronicle.specs.Journal as journal
use Rattle.registration.specs.declared.settings.Settings.{Settings}
use Rattle.roster.specs.declared.deed.Deed.{Deed}
use Rattle.deliveries.specs.declared.item.Item.{Item}
use Rattle.ledger.specs.declared.base.SessionCounts.{SessionCounts}
use Rattle.ledger.specs.declared.plan.Planned.{Planned}
use Rattle.ledger.specs.declared.seat.Seat.{Seat}
use Rattle.ledger.specs.Ledger.{is_here}
use Rattle.ledger.specs.Seats.{seat_at, stands, boxes_of, IsSeated, IsThere}
use Rattle.ledger.specs.Kept.{IsKept}
use Rattle.ledger.specs.Noted.{counts_at, IsCountOf, IsCountBy, AreCounts, AreCountsOf}
use Rattle.ledger.specs.declared.last_heard.Since.{Since}
use Rattle.ledger.specs.LastHeard.{since_at, IsSince, AreSince}
use Rattle.ledger.proofs.KeptSteps.{shown}
use Rattle.ledger.proofs.Mapped.{IsChanged, box_stands}
use Rattle.ledger.proofs.Owes.{sent_owed}

-- what stands at a number stands at a place
found : {X : Type 0} (es : List (ℕ × X)) (t : ℕ) → is_some (lookup (nat_eq t) es) ≡ true → (i : ℕ) × (e : ℕ × X)
    × (i < length es) × (slice_get es i ≡ Some e) × (e.0 ≡ t)
found [] t here = absurd (let f : false ≡ true = here in cc)
found (e ∷ es) t here =
    elim (eqb_tells t e.0) [
      | inl same ↦ (0, e, (omega arith), refl, sym same.1)
      | inr other ↦
          let r = found es t (sym (ap (λ b. is_some (cond b (Some e.1) (lookup (nat_eq t) es))) other.0) ∙ here) in
          (suc r.0, r.1, (let l = r.2 in omega arith), r.3, r.4)
    ]

some_still : {X : Type 0} (b : Bool) (x : X) (o : Option X) → is_some o ≡ true → is_some (cond b (Some x) o) ≡ true
some_still true x o h = refl
some_still false x o h = h

same_key : {X : Type 0} (e f : ℕ × X) → Some e ≡ Some f → e.0 ≡ f.0
same_key {X} e f s = ap key s
  where
    key : Option (ℕ × X) → ℕ
    key None = 0
    key (Some e) = e.0

if_some_by : {X : Type 0} (P Q : X → Type 0) (o : Option X) → ((x : X) → P x → Q x) → IfSome o P → IfSome o Q
if_some_by P Q None f p = tt
if_some_by P Q (Some x) f p = f x p

-- ---- the loop

-- those at the first n places are counted, and nobody who isn't there
pub record AreCountedTo {O : Type 0} (sent : O → List Item) (seats : List Seat) (boxes : List (Option O))
    (heard : List (ℕ × Since)) (kept : List (ℕ × O)) (n : ℕ) (cs : List (ℕ × SessionCounts)) : Type 0 where
  pub each : (t : ℕ) → IfSome (counts_at cs t) (λ c. IsThere boxes t × IsCountBy c sent seats boxes heard t)
  pub first : (i : ℕ) (e : ℕ × O) → i < n → slice_get kept i ≡ Some e → is_some (counts_at cs e.0) ≡ true

module _ {O : Type 0} (sent : O → List Item) (seats : List Seat) (boxes : List (Option O))
    (heard : List (ℕ × Since)) (kept : List (ℕ × O)) where
  pub counted_none : (cs : List (ℕ × SessionCounts)) → cs ≡ [] → AreCountedTo sent seats boxes heard kept 0 cs
  counted_none cs e =
      subst (AreCountedTo sent seats boxes heard kept 0) (sym e)
      (record { each = λ t. tt; first = λ i e l at. absurd (omega arith) })

  -- the session at the next place is
  pub counted_more : (n : ℕ) (cs now : List (ℕ × SessionCounts)) (k : ℕ) (o : O) (c : SessionCounts)
      → AreCountedTo sent seats boxes heard kept n cs → slice_get kept n ≡ Some (k, o) → IsThere boxes k
      → IsCountBy c sent seats boxes heard k
      → IsChanged cs now k (Some c) → AreCountedTo sent seats boxes heard kept (n + 1) now
  counted_more n cs now k o c was place there is changed =
      record {
        each = λ t. elim (eqb_tells k t) [
          | inl same ↦ subst (λ (q : ℕ). P q (counts_at now q)) same.1 (subst (P k) (sym at_k) (there, is))
          | inr other ↦ subst (P t) (sym (changed t ∙ ap (λ b. cond b (Some c) (counts_at cs t)) other.0)) (was.each t)
        ];
        first = λ i e l at. elim (eqb_tells i n) [
          | inl same ↦
              let key : e.0 ≡ k = same_key e (k, o) (sym at ∙ ap (slice_get kept) same.1 ∙ place) in
              ap (λ (q : ℕ). is_some (counts_at now q)) key ∙ ap is_some at_k
          | inr other ↦ let ne = other.1 in ap is_some (changed e.0) ∙ some_still (nat_eq k e.0) c
              (counts_at cs e.0) (was.first i e (omega arith) at)
        ];
      }
    where
      P : ℕ → Option SessionCounts → Type 0
      P q x = IfSome x (λ y. IsThere boxes q × IsCountBy y sent seats boxes heard q)

      at_k : counts_at now k ≡ Some c
      at_k = elim (eqb_tells k k) [
        | inl same ↦ changed k ∙ ap (λ b. cond b (Some c) (counts_at cs k)) same.0
        | inr other ↦ absurd (other.1 refl)
      ]

  -- each is
  pub counted_all : (opened n : ℕ) (cs : List (ℕ × SessionCounts)) → boxes_of kept opened ≡ boxes → length kept ≤ n
      → AreCountedTo sent seats boxes heard kept n cs → AreCountsOf sent seats boxes heard cs
  counted_all opened n cs view all was =
      record {
        each = was.each;
        all = λ t there.
            let r = found kept t (box_stands kept opened boxes view t t refl there) in let l = r.2 in
            subst (λ (q : ℕ). is_some (counts_at cs q) ≡ true) r.4 (was.first r.0 r.1 (omega arith) r.3);
      }

-- ---- by the history

module _ {O : Type 0} (sent : O → List Item) (seats : List Seat) (boxes : List (Option O))
    (heard : List (ℕ × Since)) (cs : List (ℕ × SessionCounts)) (counts : AreCountsOf sent seats boxes heard cs) where
  pub counted_there : (t : ℕ) → is_some (counts_at cs t) ≡ true → IsThere boxes t
  counted_there t here = by (counts_at cs t) here (counts.each t)
    where
      by : (o : Option SessionCounts) → is_some o ≡ true
          → IfSome o (λ c. IsThere boxes t × IsCountBy c sent seats boxes heard t) → IsThere boxes t
      by None e p = absurd (let f : false ≡ true = e in cc)
      by (Some c) e p = p.0

  -- who is there is counted, and nobody else
  pub counted_here : (t : ℕ) → 0 < t → t ≤ length boxes → is_some (counts_at cs t) ≡ is_here boxes t
  counted_here t from to = by (is_some (counts_at cs t)) (is_here boxes t) refl refl
    where
      by : (b r : Bool) → is_some (counts_at cs t) ≡ b → is_here boxes t ≡ r → b ≡ r
      by true r is here = sym (counted_there t is).here ∙ here
      by false true is here = sym is ∙ counts.all t (record { from_1 = from; opened = to; here = here })
      by false false is here = refl

  pub are_counts : (j : journal.JournalView) (g : Settings) (known : List Deed) (plan : List Planned) (busy : Bool)
      → IsKept sent j g known seats boxes plan busy → busy ≡ false → AreSince heard j.history boxes
      → AreCounts g j.history cs
  are_counts j g known plan busy i idle since_ t =
      if_some_by (λ c. IsThere boxes t × IsCountBy c sent seats boxes heard t)
      (λ c. IsCountOf c g j.history t) (counts_at cs t) (λ c p. of_history c p.0 p.1) (counts.each t)
    where
      says : (o : Option Since) (x : Since) → IfSome o (λ y. IsThere boxes t × IsSince y j.history t) → o ≡ Some x
          → IsSince x j.history t
      says o x r e = (subst (λ p. IfSome p (λ y. IsThere boxes t × IsSince y j.history t)) e r).1

      of_history : (c : SessionCounts) → IsThere boxes t → IsCountBy c sent seats boxes heard t
          → IsCountOf c g j.history t
      of_history c there is =
          let from = there.from_1 in let to = there.opened in let places = i.places in
          record {
            accepted = is.accepted ∙ (i.each_seat t from (omega arith)).accepted there.here;
            owed = is.owed ∙ sent_owed sent (shown j g boxes plan busy) t i.sound
                (i.sound.idle idle) from to there.here;
            since = says (since_at heard t) c.since (since_.each t) is.since;
          }

-- each that is there has a seat
pub has_seat : {O : Type 0} (sent : O → List Item) (j : journal.JournalView) (g : Settings) (known : List Deed)
    (seats : List Seat) (boxes : List (Option O)) (plan : List Planned) (busy : Bool)
    → IsKept sent j g known seats boxes plan busy
    → (t : ℕ) → IsThere boxes t → IsSeated seats t × (stands (seat_at seats t) ≡ true)
has_seat sent j g known seats boxes plan busy i t there =
    let from = there.from_1 in
    let to = there.opened in let places = i.places in let below : t ≤ length seats = omega arith in
    (record { from_1 = from; opened = below }, (i.each_seat t from below).kept ∙ there.here)

-- ---- counts of one session are forgotten

-- what is said of each that is kept is said of those that are left
pub forgotten_counts : (g : Settings) (h : List Rec) (cs ds : List (ℕ × SessionCounts)) (s : ℕ)
    → ((t : ℕ) → counts_at ds t ≡ cond (nat_eq s t) None (counts_at cs t)) → AreCounts g h cs → AreCounts g h ds
forgotten_counts g h cs ds s same are t =
    subst (λ (o : Option SessionCounts). IfSome o (λ c. IsCountOf c g h t)) (sym (same t))
    (but (nat_eq s t) (counts_at cs t) (are t))
  where
    but : (b : Bool) (o : Option SessionCounts) → IfSome o (λ c. IsCountOf c g h t)
        → IfSome (cond b None o) (λ c. IsCountOf c g h t)
    but true o it = tt
    but false o it = it

-- and who is left is counted
pub forgotten_some : (b : Bool) (o : Option SessionCounts) → is_some (cond b None o) ≡ cond b false (is_some o)
forgotten_some true o = refl
forgotten_some false o = refl
