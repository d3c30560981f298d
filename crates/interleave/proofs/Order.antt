-- Deliveries are owed in the order of their records.
use Rattle.std.proofs.Common.{◌≡◌, ℕ, ◌+◌, ◌<◌, ◌≤◌, Bool, true, false, ◌||◌, cond, List, [], ◌∷◌}
use Rattle.std.proofs.Common.{◌++◌, length, Option, Some, None, arith, refl, sym, ap, ◌∙◌, subst}
use Rattle.std.proofs.Common.{append-nil, append_assoc, take-append-drop}
use Rattle.std.specs.Option.{is_some}
use Rattle.chronicle.specs.declared.why.Why.{Why}
use Rattle.chronicle.specs.History.{Rec, misses, ends, shut}
use Rattle.registration.specs.declared.settings.Settings.{Settings}
use Rattle.std.proofs.lemmas.List.{map-append}
use Rattle.deliveries.specs.declared.delivery.Delivery.{Delivery}
use Rattle.deliveries.specs.declared.item.Item.{Item}
use Rattle.deliveries.specs.Items.{deliveries}
use Rattle.deliveries.specs.declared.delivery.Delivery.TheVariants.{Lines, Last}
use Rattle.deliveries.specs.Owed.{number_of, item, told_text, reason, delivery, owed}
use Rattle.line_grammar.specs.declared.splitter.Piece.{Piece}
use Rattle.line_grammar.specs.Lines.{lines}
use Rattle.chronicle.specs.History.{accepted}
use Rattle.book.specs.Ring.{Waiting, put_into}
use Rattle.book.specs.Ledger.{sent_by}
use Rattle.interleave.specs.declared.worker.Place.{Place}
use Rattle.interleave.specs.declared.worker.Place.TheVariants.{Home, Hand, Begun}
use Rattle.interleave.specs.State.{Seen, State, IsSound, IsBoxOf, ForEach, hand, behind, waits, box_at}
use Rattle.interleave.specs.State.{inbox_at, in_hand, unread, taken_of, queue_of, planned_for}
use Rattle.interleave.proofs.Carried.{shut_more, owed_by as owed_nothing, away_before, none_planned}
use Rattle.interleave.specs.Order.{IsPrefix, AreAfter, IsRising}
use Rattle.interleave.specs.Laws.{OnceInOrder, TakenInOrder, AcceptedIsPrefixOfSent}
use Rattle.interleave.specs.Laws.{ErrorAtMostAfterTheClose, IsErrorAtMost}

-- each number is at most n
abbrev AtMost : ℕ → List Delivery → Type 0
AtMost n [] = Unit {0}
AtMost n (x ∷ xs) = (number_of x ≤ n) × AtMost n xs

after_push : (n : ℕ) (y : Delivery) (xs : List Delivery) → AreAfter n xs → n < number_of y → AreAfter n (xs ++ y ∷ [])
after_push n y [] a l = (l, tt)
after_push n y (z ∷ zs) a l = (a.0, after_push n y zs a.1 l)

rising_push : (n : ℕ) (y : Delivery) (xs : List Delivery) → IsRising xs → AtMost n xs → n < number_of y
    → IsRising (xs ++ y ∷ [])
rising_push n y [] r m l = (tt, tt)
rising_push n y (x ∷ xs) r m l = let here = m.0 in
    (after_push (number_of x) y xs r.0 (omega arith), rising_push n y xs r.1 m.1 l)

most_push : (n k : ℕ) (y : Delivery) (xs : List Delivery) → n ≤ k → AtMost n xs → number_of y ≤ k
    → AtMost k (xs ++ y ∷ [])
most_push n k y [] l m o = (o, tt)
most_push n k y (x ∷ xs) l m o = let here = m.0 in (omega arith, most_push n k y xs l m.1 o)

most_more : (n k : ℕ) (xs : List Delivery) → n ≤ k → AtMost n xs → AtMost k xs
most_more n k [] l m = tt
most_more n k (x ∷ xs) l m = let here = m.0 in (omega arith, most_more n k xs l m.1)

-- so many records owe items that rise up to their count
record IsUpTo (n : ℕ) (xs : List Delivery) : Type 0 where
  pub rises : IsRising xs
  pub most : AtMost n xs

last_up : (n : ℕ) (xs : List Delivery) (why : Why) → IsUpTo n xs → IsUpTo (n + 1) (xs ++ Last (n + 1) why ∷ [])
last_up n xs why u =
    let y : Delivery = Last (n + 1) why in
    record {
      rises = rising_push n y xs u.rises u.most (omega arith);
      most = most_push n (n + 1) y xs (omega arith) u.most (omega arith);
    }

item_up : (n : ℕ) (xs : List Delivery) (bs : List ℕ) → IsUpTo n xs → IsUpTo (n + 1) (xs ++ item (n + 1) bs)
item_up n xs [] u = subst (IsUpTo (n + 1)) (sym (append-nil xs))
    (record { rises = u.rises; most = most_more n (n + 1) xs (omega arith) u.most })
item_up n xs (b ∷ bs) u =
    let y : Delivery = Lines (n + 1) (b ∷ bs) in
    record {
      rises = rising_push n y xs u.rises u.most (omega arith);
      most = most_push n (n + 1) y xs (omega arith) u.most (omega arith);
    }

owed_up : (g : Settings) (h : List Rec) (t : ℕ) → IsUpTo (length h) (owed g h t)
owed_up g [] t = record { rises = tt; most = tt }
owed_up g (r ∷ h) t =
    let one : length h + 1 ≡ length (r ∷ h) = omega arith in
    subst (λ (n : ℕ). IsUpTo n (owed g (r ∷ h) t)) one
    (elim (misses r t || shut h t) as
    (λ (b : Bool). IsUpTo (length h + 1) (owed g h t ++ cond b [] (delivery g h r.kind r.moment t))) [
      | true ↦ item_up (length h) (owed g h t) [] (owed_up g h t)
      | false ↦
          elim (ends r.kind t) as (λ (b : Bool). IsUpTo (length h + 1) (owed g h t ++ cond b
          (Last (length h + 1) (reason r.kind) ∷ []) (item (length h + 1) (told_text g h r.kind r.moment t)))) [
            | true ↦ last_up (length h) (owed g h t) (reason r.kind) (owed_up g h t)
            | false ↦ item_up (length h) (owed g h t) (told_text g h r.kind r.moment t) (owed_up g h t)
          ]
    ])

pub once_in_order : OnceInOrder
once_in_order g h t = (owed_up g h t).rises

-- ---- prefixes

after_front : (n : ℕ) (xs ys : List Delivery) → AreAfter n (xs ++ ys) → AreAfter n xs
after_front n [] ys a = tt
after_front n (z ∷ zs) ys a = (a.0, after_front n zs ys a.1)

rising_front : (xs ys : List Delivery) → IsRising (xs ++ ys) → IsRising xs
rising_front [] ys r = tt
rising_front (x ∷ xs) ys r = (after_front (number_of x) xs ys r.0, rising_front xs ys r.1)

-- the first items of what is owed rise
pub prefix_rises : (g : Settings) (h : List Rec) (t : ℕ) (xs : List Delivery) → IsPrefix xs (owed g h t) → IsRising xs
prefix_rises g h t xs p = rising_front xs p.0 (subst IsRising (sym p.1) (once_in_order g h t))

-- what was taken, what waits and what a plan still has is owed
owed_by : (o : Option Waiting) (b : Seen) (sendq : ℕ) (ps xs : List Delivery) → IsBoxOf o b sendq xs
    → (is_some o ≡ false → ps ≡ []) → (is_some o ≡ true → deliveries (sent_by put_into o) ++ ps ≡ xs)
    → b.taken ++ waits o b.left ++ ps ≡ xs
owed_by None b sendq ps xs i none here = ap (λ qs. b.taken ++ b.left ++ qs) (none refl)
    ∙ append-nil (b.taken ++ b.left) ∙ i.0
owed_by (Some w) b sendq ps xs i none here = ap (λ qs. qs ++ deliveries w.queue ++ ps) (sym i.0) ∙ ap
    (λ qs. qs ++ ps) (sym (map-append (λ (x : Item). x.delivery) w.taken w.queue)) ∙ here refl

pub sound_owed : (m : State) → IsSound m
    → ForEach m (λ t. taken_of m t ++ queue_of m t ++ planned_for m t ≡ owed m.book.settings m.book.history t)
sound_owed m i t from to =
    let same = i.inboxes in let within : t ≤ length m.book.outboxes = omega arith in
    owed_by (box_at m t) (inbox_at m t) m.sendq (planned_for m t) (owed m.book.settings m.book.history t)
    (i.each t from to).box
    (λ away. none_planned m.book m.book.plan t (away_before m.book t i.book from within away) i.book.plan)
    (i.book.owed t from within)

pub taken_is_prefix : (m : State) → IsSound m
    → ForEach m (λ t. IsPrefix (taken_of m t) (owed m.book.settings m.book.history t))
taken_is_prefix m i t from to = (
  queue_of m t ++ planned_for m t,
  sym (append_assoc (taken_of m t) (queue_of m t) (planned_for m t)) ∙ sound_owed m i t from to,
)

pub taken_in_order : TakenInOrder
taken_in_order m i t from to = (
  prefix_rises m.book.settings m.book.history t (taken_of m t)
      (taken_is_prefix m i t from to),
  taken_is_prefix m i t from to,
)

-- ---- lines

-- the line in a worker's hand and those behind it are all that no worker has begun
hand_behind : (place : Place) (ps : List Piece) → hand place ps ++ behind place ps ≡ ps
hand_behind Home ps = refl
hand_behind (Hand w) ps = take-append-drop 1 ps
hand_behind (Begun w) ps = refl

pub sound_accepted : (m : State) → IsSound m
    → ForEach m (λ t. accepted m.book.history t ++ in_hand m t ++ unread m t ≡ lines (inbox_at m t).fed)
sound_accepted m i t from to = append_assoc (accepted m.book.history t) (in_hand m t) (unread m t) ∙ ap
    (λ ps. accepted m.book.history t ++ ps) (hand_behind (inbox_at m t).place (inbox_at m t).pending)
    ∙ (i.each t from to).accepted

pub accepted_is_prefix_of_sent : AcceptedIsPrefixOfSent
accepted_is_prefix_of_sent m i t from to = ((inbox_at m t).pending, (i.each t from to).accepted)

-- ---- after the close

shut_stays : (g : Settings) (later : List Rec) (h : List Rec) (t : ℕ) → shut h t ≡ true
    → (shut (later ++ h) t ≡ true) × (owed g (later ++ h) t ≡ owed g h t)
shut_stays g [] h t e = (e, refl)
shut_stays g (r ∷ later) h t e =
    let before = shut_stays g later h t e in (
      shut_more (misses r t) (ends r.kind t) (shut (later ++ h) t) before.0,
      owed_nothing (owed g (later ++ h) t) (delivery g (later ++ h) r.kind r.moment t) (misses r t)
          (shut (later ++ h) t) before.0 ∙ before.1,
    )

-- what the record owes that shuts a session
closing : (g : Settings) (r : Rec) (h : List Rec) (t : ℕ) (b c d : Bool) → ends r.kind t ≡ c
    → (b || c || d) ≡ true → (end : List Delivery) × IsErrorAtMost end × (owed g h t ++ cond (b || d) []
    (cond c (Last (length h + 1) (reason r.kind) ∷ []) (item (length h + 1) (told_text g h r.kind r.moment t)))
    ≡ owed g h t ++ end)
closing g r h t true c d is e = ([], tt, refl)
closing g r h t false true true is e = ([], tt, refl)
closing g r h t false true false is e = (Last (length h + 1) (reason r.kind) ∷ [], tt, refl)
closing g r h t false false true is e = ([], tt, refl)
closing g r h t false false false is e = absurd (let f : false ≡ true = e in cc)

pub error_at_most : ErrorAtMostAfterTheClose
error_at_most g history later r h t is e =
    let one = closing g r h t (misses r t) (ends r.kind t) (shut h t) refl e in (
      one.0,
      one.1,
      ap (λ (x : List Rec). owed g x t) is ∙ (shut_stays g later (r ∷ h) t e).1 ∙ one.2,
    )
