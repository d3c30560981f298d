-- How much a history owes a session: one delivery a record at most.
use Rattle.std.proofs.Common.{arith, ◌≡◌, ℕ, ℤ, ◌+◌, ◌<◌, ◌≤◌, Bool, true, false, ◌||◌, cond, List, [], ◌∷◌, ◌++◌}
use Rattle.std.proofs.Common.{length, length-append, Option, Some, None, sym, ap, ◌∙◌, subst, lit≤}
use Rattle.std.specs.Prelude.{IfSome}
use Rattle.std.proofs.lemmas.List.{length-map, append-nil}
use Rattle.chronicle.specs.declared.record.Kind.{Kind}
use Rattle.chronicle.specs.History.{Rec, misses, ends, shut}
use Rattle.chronicle.proofs.Most.{most_low}
use Rattle.registration.specs.declared.settings.Settings.{Settings}
use Rattle.deliveries.specs.declared.delivery.Delivery.{Delivery}
use Rattle.deliveries.specs.declared.delivery.Delivery.TheVariants.{Last}
use Rattle.deliveries.specs.declared.item.Item.{Item}
use Rattle.deliveries.specs.Owed.{item, reason, told_text, delivery, owed}
use Rattle.deliveries.specs.Items.{deliveries}
use Rattle.ledger.specs.Ledger.{Shown, box_at, sent_by, is_here, plan_part, IsSound}

item_small : (n : ℕ) (bytes : List ℕ) → length (item n bytes) ≤ 1
item_small n [] = lit≤ tt
item_small n (b ∷ bs) = lit≤ tt

one_of : (c : Bool) (x : Delivery) (ys : List Delivery) → length ys ≤ 1 → length (cond c (x ∷ []) ys) ≤ 1
one_of true x ys h = lit≤ tt
one_of false x ys h = h

none_of : (c : Bool) (ys : List Delivery) → length ys ≤ 1 → length (cond c [] ys) ≤ 1
none_of true ys h = lit≤ tt
none_of false ys h = h

delivery_small : (g : Settings) (h : List Rec) (k : Kind) (moment : ℤ) (t : ℕ) → length (delivery g h k moment t) ≤ 1
delivery_small g h k moment t = one_of (ends k t) (Last (length h + 1) (reason k))
    (item (length h + 1) (told_text g h k moment t)) (item_small (length h + 1) (told_text g h k moment t))

longer : (xs ys : List Delivery) (n : ℕ) → length xs ≤ n → length ys ≤ 1 → length (xs ++ ys) ≤ n + 1
longer xs ys n a b = let e = length-append xs ys in omega arith

pub owed_le : (g : Settings) (h : List Rec) (t : ℕ) → length (owed g h t) ≤ length h
owed_le g [] t = lit≤ tt
owed_le g (r ∷ h) t =
    let now = longer (owed g h t) (cond (misses r t || shut h t) [] (delivery g h r.kind r.moment t))
    (length h) (owed_le g h t) (none_of (misses r t || shut h t) (delivery g h r.kind r.moment t)
    (delivery_small g h r.kind r.moment t)) in
    let e : length (r ∷ h) ≡ length h + 1 = omega arith in subst (λ (n : ℕ). length (owed g (r ∷ h) t) ≤ n) (sym e) now

deliveries_length : (items : List Item) → length (deliveries items) ≡ length items
deliveries_length items = length-map items (λ (x : Item). x.delivery)

module _ {O : Type 0} (sent : O → List Item) where
  -- what was put for a session is counted below 2 ^ 64
  pub few_sent : (m : Shown O) (t : ℕ) → IsSound sent m → 0 < t → t ≤ length m.outboxes
      → is_here m.outboxes t ≡ true → length (sent_by sent (box_at m.outboxes t)) + 1 < 18446744073709551616
  few_sent m t i from to here =
      let all = ap length (i.owed t from to here) in
      let split = length-append (deliveries (sent_by sent (box_at m.outboxes t))) (plan_part m.plan t) in
      let same = deliveries_length (sent_by sent (box_at m.outboxes t)) in
      let most_ = owed_le m.settings m.history t in
      let room = i.room in let low = most_low m.limit.is_cut m.limit.records m.limit.dropped in
      omega arith

  by_box : (box : Option O) → length (sent_by sent box) + 1 < 18446744073709551616
      → IfSome box (λ o. length (sent o) + 1 < 18446744073709551616)
  by_box None l = tt
  by_box (Some o) l = l

  pub few_put : (m : Shown O) (t : ℕ) → IsSound sent m → 0 < t → t ≤ length m.outboxes → is_here m.outboxes t ≡ true
      → IfSome (box_at m.outboxes t) (λ o. length (sent o) + 1 < 18446744073709551616)
  few_put m t i from to here = by_box (box_at m.outboxes t) (few_sent m t i from to here)

  -- where no plan is out as much was put as is owed
  pub sent_owed : (m : Shown O) (t : ℕ) → IsSound sent m → m.plan ≡ [] → 0 < t → t ≤ length m.outboxes
      → is_here m.outboxes t ≡ true → length (sent_by sent (box_at m.outboxes t))
      ≡ length (owed m.settings m.history t)
  sent_owed m t i none from to here =
      sym (deliveries_length (sent_by sent (box_at m.outboxes t)))
      ∙ sym (ap length (append-nil (deliveries (sent_by sent (box_at m.outboxes t)))))
      ∙ sym (ap (λ ps. length (deliveries (sent_by sent (box_at m.outboxes t)) ++ plan_part ps t)) none)
      ∙ ap length (i.owed t from to here)
