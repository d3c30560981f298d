-- Who gets something by the record that ends a session.
use Rattle.std.proofs.Common.{◌≡◌, inl, inr, ℕ, ℤ, ◌+◌, ◌<◌, ◌==◌, true, false, List, [], ◌∷◌, length, Some}
use Rattle.std.proofs.Common.{refl, sym, ap, ◌∙◌, subst}
use Rattle.std.specs.List.{list_any}
use Rattle.std.proofs.lemmas.Bool.Decides.{eqb_tells}
use Rattle.chronicle.specs.declared.why.Why.{Why}
use Rattle.chronicle.specs.declared.record.Kind.TheVariants.{Hung}
use Rattle.chronicle.specs.History.{shut}
use Rattle.deliveries.specs.declared.item.Item.{Item}
use Rattle.deliveries.specs.declared.delivery.Delivery.TheVariants.{Last}
use Rattle.outbox.specs.declared.queue.PutFault.{PutFault}
use Rattle.ledger.specs.declared.plan.Planned.{Planned}
use Rattle.ledger.specs.declared.outcomes.Step.{Step}
use Rattle.ledger.specs.declared.outcomes.Step.TheVariants.{Put, Missed}
use Rattle.ledger.specs.Ledger.{Shown, box_at, after_begin, newest_missed, IsPutNext, IsPutAll, IsDone}
use Rattle.ledger.proofs.Begun.{plan_hung}
use Rattle.ledger.proofs.Sound.{box_other}
use Rattle.book.specs.Flushes.{FlushView, is_listed, ListsChanged}

module _ {O : Type 0} (accepts : O → Item → O → Type 0) (refuses : O → PutFault → Type 0) where
  -- one delivery was put, and then its session is told, or it was missed
  one_put : (m n : Shown O) (p : Planned) (new : FlushView) (step : Step) (t : ℕ)
      → IsPutNext accepts refuses m (p ∷ []) (Some step) n → 0 < p.session → 0 < t → newest_missed m.history ≡ []
      → (list_any (λ u. u == p.session) (newest_missed n.history) ≡ false → is_listed new p.session ≡ true)
      → is_listed new t ≡ false → box_at n.outboxes t ≡ box_at m.outboxes t
  one_put m n p new (Put u) t is from above none flushes unlisted = elim (eqb_tells p.session t) [
    | inl same ↦ absurd (let f : true ≡ false = sym (flushes (ap (λ (k : Shown O). list_any (λ v. v == p.session)
        (newest_missed k.history)) is.1.book ∙ ap (list_any (λ v. v == p.session)) none))
        ∙ ap (is_listed new) same.1 ∙ unlisted in cc)
    | inr other ↦ ap (λ (k : Shown O). box_at k.outboxes t) is.1.book
        ∙ box_other m.outboxes p.session t (Some is.1.after) from above other.1
  ]
  one_put m n p new (Missed u) t is from above none flushes unlisted =
      ap (λ (k : Shown O). box_at k.outboxes t) is.1.book

  -- a session was ended, and is told unless it missed that
  pub hung_tells : (m k : Shown O) (s : ℕ) (why : Why) (moment : ℤ) (old new : FlushView) → 0 < s
      → shut m.history s ≡ false → IsDone accepts refuses m (Hung s why) moment k
      → ((t : ℕ) → is_listed old t ≡ true → is_listed new t ≡ true)
      → (list_any (λ u. u == s) (newest_missed k.history) ≡ false → is_listed new s ≡ true)
      → ListsChanged old new m.outboxes k.outboxes
  hung_tells m k s why moment old new from open_ d kept flushes =
      let p : Planned = record { session = s; delivery = Last (length m.history + 1) why } in
      let b = after_begin m (Hung s why) moment in let n = d.0 in
      let puts : IsPutAll accepts refuses b (p ∷ []) n = subst (λ (ps : List Planned). IsPutAll accepts refuses b ps n)
      (plan_hung m.settings m.history s why moment (length m.outboxes) open_) d.1 in
      let last : n ≡ puts.0 = puts.3 in
      let missed : newest_missed k.history ≡ newest_missed puts.0.history =
      ap (λ (x : Shown O). newest_missed x.history) d.2 ∙ ap (λ (x : Shown O). newest_missed x.history) last in
      record {
        others = λ t above unlisted. ap (λ (x : Shown O). box_at x.outboxes t) d.2
            ∙ ap (λ (x : Shown O). box_at x.outboxes t) last
            ∙ one_put b puts.0 p new puts.1 t puts.2 from above refl
            (λ none. flushes (ap (list_any (λ u. u == s)) missed ∙ none)) unlisted;
        kept = kept;
      }
