-- The next delivery is what the history owes with its newest record.
use Rattle.std.proofs.Common.{◌≡◌, ◌∙◌, ◌+◌, ℕ, ℤ, List, ◌∷◌, ap, sym, subst, rules}
use Rattle.chronicle.specs.declared.record.Kind.{Kind}
use Rattle.chronicle.specs.History.{Rec}
use Rattle.chronicle.specs.Journal.{fresh_record}
use Rattle.deliveries.specs.declared.delivery.Delivery.TheVariants.{Lines}
use Rattle.deliveries.specs.declared.item.Item.{Item}
use Rattle.delivery_tests.specs.Fed.{line, next, IsReady}
use Rattle.delivery_tests.proofs.Fed.{ready_again}
use Rattle.delivery_tests.proofs.feeding.Feed.feed.Goals as goal

pub put-requires : goal.put-requires
put-requires g c =
    let number : c.new.result ≡ c.self.inside.count + 2 = c.new.ensures ∙ search rules in
    let delivery : Lines c.new.result c.in_ok-new.field-0 ≡ Lines (c.self.inside.count + 2) line = ap
    (λ (q : ℕ × List ℕ). Lines q.0 q.1) (λ i. (number i, (c.in_ok-new.ensures ∙ c.in_ok-copy_of.ensures) i)) in
    let item = c.new-item.ensures in
    record {
      next = (ready_again _ _ _ _ _ c.self.invariant (item.delivery ∙ delivery)
          (item.session ∙ c.new-3.ensures) item.settings (item.front ∙ c.reserve.ensures.same.history)).0;
    }

pub invariant_of-self-in-Ok : goal.invariant_of-self-in-Ok
invariant_of-self-in-Ok g c =
    let number : c.new.result ≡ c.self.inside.count + 2 = c.new.ensures ∙ search rules in
    let delivery : Lines c.new.result c.in_ok-new.field-0 ≡ Lines (c.self.inside.count + 2) line = ap
    (λ (q : ℕ × List ℕ). Lines q.0 q.1) (λ i. (number i, (c.in_ok-new.ensures ∙ c.in_ok-copy_of.ensures) i)) in
    let item = c.new-item.ensures in
    let same = c.reserve.ensures.same.history in
    let ready = (ready_again _ _ _ _ _ c.self.invariant (item.delivery ∙ delivery)
    (item.session ∙ c.new-3.ensures) item.settings (item.front ∙ same)).1 in
    let history : c.append.new.self.history ≡ next c.self.inside.journal.history =
    c.append.ensures.appended.history ∙ ap (λ (q : List Rec × ℤ × Kind). fresh_record q.0 q.1 q.2 ∷ q.0)
    (λ i. (same i, c.new-in-Ok.ensures i, c.line.ensures i)) in
    subst (λ (q : List Item × List Rec). IsReady q.0 c.self.inside.settings q.1 (c.self.inside.count + 1))
    (λ i. (sym c.in-Ok.ensures.ok i, sym history i)) ready
