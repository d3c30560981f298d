-- What the book's steps keep of a session.
use Rattle.std.proofs.lemmas.List.{length-set}
use Rattle.std.proofs.lemmas.Bool.Decides.{eqb_tells}
use Rattle.std.proofs.Common.{◌≡◌, inl, inr, ℕ, ℤ, zero, suc, ◌-◌, ◌<◌, ◌≤◌, Bool, true, false, ◌||◌}
use Rattle.std.proofs.Common.{◌==◌, cond, List, [], ◌∷◌, ◌++◌, length, slice_index_or, slice_set, Option}
use Rattle.std.proofs.Common.{Some, None, refl, sym, ap, ◌∙◌, subst, append-nil}
use Rattle.std.specs.Option.{is_some}
use Rattle.chronicle.specs.declared.record.Kind.{Kind}
use Rattle.chronicle.specs.declared.record.Kind.TheVariants as kind
use Rattle.chronicle.specs.History.{Rec, said_by, accepted, misses, ends, shut, leaves, gone}
use Rattle.chronicle.specs.Journal.{fresh_record, miss}
use Rattle.registration.specs.declared.settings.Settings.{Settings}
use Rattle.deliveries.specs.declared.delivery.Delivery.{Delivery}
use Rattle.deliveries.specs.declared.item.Item.{Item}
use Rattle.deliveries.specs.Items.{deliveries}
use Rattle.book.specs.Ring.{Waiting, has_room, with_put, put_into}
use Rattle.book.specs.Planned.{Planned}
use Rattle.book.specs.Legal.{IsKind, IsLegal}
use Rattle.deliveries.specs.Owed.{delivery, owed}
use Rattle.book.specs.Ledger.{Shown, outbox_at, is_here, IsPlan, plan_part, plan_of, after_begin}
use Rattle.book.specs.Ledger.{after_put, after_miss, put_next, put_all, after_end, after_all}
use Rattle.book.specs.Ledger as book
use Rattle.interleave.specs.State.{Seen, IsBoxOf, IsSoundAt}

-- an outbox keeps what was taken and how much room there is; a session without one is owed nothing more
abbrev pub IsKeptBox : Option Waiting → Option Waiting → List Delivery → List Delivery → Type 0
IsKeptBox None None x y = y ≡ x
IsKeptBox (Some v) (Some w) x y = (w.taken ≡ v.taken) × (w.cap ≡ v.cap)
IsKeptBox None (Some w) x y = ⊥
IsKeptBox (Some v) None x y = ⊥

-- a session was shut before the newest record
abbrev pub ShutBefore : List Rec → ℕ → Type 0
ShutBefore [] t = ⊥
ShutBefore (r ∷ h) t = shut h t ≡ true

-- from book m to book n
pub record Carries (m n : Shown Waiting) (t : ℕ) : Type 0 where
  pub accepted : accepted n.history t ≡ accepted m.history t
  pub box : IsKeptBox (slice_index_or m.outboxes (t - 1) None) (slice_index_or n.outboxes (t - 1) None)
      (owed m.settings m.history t) (owed n.settings n.history t)
  pub before : ShutBefore m.history t → ShutBefore n.history t

-- ---- outboxes

same_box : (o : Option Waiting) (x y : List Delivery) → (is_some o ≡ false → y ≡ x) → IsKeptBox o o x y
same_box None x y f = f refl
same_box (Some v) x y f = (refl, refl)

box_then : (o p q : Option Waiting) (x y z : List Delivery) → IsKeptBox o p x y → IsKeptBox p q y z → IsKeptBox o q x z
box_then None None None x y z a b = b ∙ a
box_then None None (Some w) x y z a b = absurd b
box_then None (Some v) q x y z a b = absurd a
box_then (Some u) None q x y z a b = absurd a
box_then (Some u) (Some v) None x y z a b = absurd b
box_then (Some u) (Some v) (Some w) x y z a b = (b.0 ∙ a.0, b.1 ∙ a.1)

pub kept_here : (o p : Option Waiting) (x y : List Delivery) → IsKeptBox o p x y → is_some p ≡ is_some o
kept_here None None x y a = refl
kept_here None (Some v) x y a = absurd a
kept_here (Some u) None x y a = absurd a
kept_here (Some u) (Some v) x y a = refl

set_box : (boxes : List (Option Waiting)) (i j : ℕ) (w : Waiting) (x : List Delivery)
    → IsKeptBox (slice_index_or boxes i None) (Some w) x x
    → IsKeptBox (slice_index_or boxes j None) (slice_index_or (slice_set boxes i (Some w)) j None) x x
set_box [] i j w x k = refl
set_box (b ∷ bs) zero zero w x k = k
set_box (b ∷ bs) zero (suc j) w x k = same_box (slice_index_or bs j None) x x (λ e. refl)
set_box (b ∷ bs) (suc i) zero w x k = same_box b x x (λ e. refl)
set_box (b ∷ bs) (suc i) (suc j) w x k = set_box bs i j w x k

put_box : (o : Option Waiting) (y : Item) (x : List Delivery) → has_room (book.box_of o) ≡ true
    → IsKeptBox o (Some (with_put (book.box_of o) y)) x x
put_box None y x e = absurd (let f : false ≡ true = e in cc)
put_box (Some v) y x e = (refl, refl)

carried_box : (o p : Option Waiting) (b : Seen) (sendq : ℕ) (x y : List Delivery) → IsKeptBox o p x y
    → IsBoxOf o b sendq x → IsBoxOf p b sendq y
carried_box None None b sendq x y k i = (i.0 ∙ sym k, i.1)
carried_box None (Some w) b sendq x y k i = absurd k
carried_box (Some v) None b sendq x y k i = absurd k
carried_box (Some v) (Some w) b sendq x y k i = (ap deliveries k.0 ∙ i.0, k.1 ∙ i.1)

pub carried : (m n : Shown Waiting) (b : Seen) (sendq t : ℕ) → Carries m n t
    → IsSoundAt m.settings m.history (slice_index_or m.outboxes (t - 1) None) b sendq t
    → IsSoundAt n.settings n.history (slice_index_or n.outboxes (t - 1) None) b sendq t
carried m n b sendq t c i =
    record {
      accepted = ap (λ xs. xs ++ b.pending) c.accepted ∙ i.accepted;
      box = carried_box (slice_index_or m.outboxes (t - 1) None) (slice_index_or n.outboxes (t - 1) None) b sendq
          (owed m.settings m.history t) (owed n.settings n.history t) c.box i.box;
      hand = i.hand;
    }

pub carries_same : (m : Shown Waiting) (t : ℕ) → Carries m m t
carries_same m t = record {
  accepted = refl;
  box = same_box (slice_index_or m.outboxes (t - 1) None) _ _
      (λ e. refl);
  before = λ b. b;
}

pub carries_then : (l m n : Shown Waiting) (t : ℕ) → Carries l m t → Carries m n t → Carries l n t
carries_then l m n t a b =
    record {
      accepted = b.accepted ∙ a.accepted;
      box = box_then (slice_index_or l.outboxes (t - 1) None) (slice_index_or m.outboxes (t - 1) None)
          (slice_index_or n.outboxes (t - 1) None) _ _ _ a.box b.box;
      before = λ s. b.before (a.before s);
    }

-- ---- who is gone was shut before the newest record

pub shut_more : (b c d : Bool) → d ≡ true → (b || c || d) ≡ true
shut_more true c d e = refl
shut_more false true d e = refl
shut_more false false d e = e

left_by : (h : List Rec) (k : Kind) (t : ℕ) → IsKind h k → leaves k t ≡ true → shut h t ≡ true
left_by h (kind.Opened s host) t i e = absurd (let f : false ≡ true = e in cc)
left_by h (kind.Said s n piece) t i e = absurd (let f : false ≡ true = e in cc)
left_by h (kind.Hung s w) t i e = absurd (let f : false ≡ true = e in cc)
left_by h (kind.Gone s) t i e =
    elim (eqb_tells s t) [
      | inl same ↦ ap (shut h) (sym same.1) ∙ i.2
      | inr other ↦ absurd (let f : false ≡ true = sym other.0 ∙ e in cc)
    ]
left_by h kind.Ticked t i e = absurd (let f : false ≡ true = e in cc)

gone_by : (r : Rec) (h : List Rec) (t : ℕ) (b : Bool) → leaves r.kind t ≡ b → IsKind h r.kind
    → (gone h t ≡ true → shut h t ≡ true) → (b || gone h t) ≡ true → shut h t ≡ true
gone_by r h t true eb i f e = left_by h r.kind t i eb
gone_by r h t false eb i f e = f e

gone_shut : (g : Settings) (h : List Rec) (t : ℕ) → IsLegal g h → gone h t ≡ true → shut h t ≡ true
gone_shut g [] t i e = absurd (let f : false ≡ true = e in cc)
gone_shut g (r ∷ h) t i e = shut_more (misses r t) (ends r.kind t) (shut h t)
    (gone_by r h t (leaves r.kind t) refl i.2 (gone_shut g h t i.4) e)

gone_before : (g : Settings) (h : List Rec) (t : ℕ) → IsLegal g h → gone h t ≡ true → ShutBefore h t
gone_before g [] t i e = absurd (let f : false ≡ true = e in cc)
gone_before g (r ∷ h) t i e = gone_by r h t (leaves r.kind t) refl i.2 (gone_shut g h t i.4) e

-- a session that was given up was shut before the newest record
pub away_before : (m : Shown Waiting) (t : ℕ) → book.IsSound put_into m → 0 < t → t ≤ length m.outboxes
    → is_here m.outboxes t ≡ false → ShutBefore m.history t
away_before m t i from to away = gone_before m.settings m.history t i.legal (i.reaped t from to away)

-- ---- who was shut before is owed nothing more

pub owed_by : (x : List Delivery) (d : List Delivery) (b c : Bool) → c ≡ true → x ++ cond (b || c) [] d ≡ x
owed_by x d true c e = append-nil x
owed_by x d false c e = rw e (append-nil x)

missed_owed : (g : Settings) (h : List Rec) (s t : ℕ) → ShutBefore h t → owed g (miss h s) t ≡ owed g h t
missed_owed g [] s t b = absurd b
missed_owed g (r ∷ h) s t b =
    let n : Rec = record { number = r.number; moment = r.moment; kind = r.kind; missed = r.missed ++ s ∷ [] } in
    owed_by (owed g h t) (delivery g h r.kind r.moment t) (misses n t) (shut h t) b
    ∙ sym (owed_by (owed g h t) (delivery g h r.kind r.moment t) (misses r t) (shut h t) b)

missed_accepted : (h : List Rec) (s t : ℕ) → accepted (miss h s) t ≡ accepted h t
missed_accepted [] s t = refl
missed_accepted (r ∷ h) s t = refl

missed_before : (h : List Rec) (s t : ℕ) → ShutBefore h t → ShutBefore (miss h s) t
missed_before [] s t b = b
missed_before (r ∷ h) s t b = b

-- ---- the book's steps

before_shut : (h : List Rec) (t : ℕ) → ShutBefore h t → shut h t ≡ true
before_shut [] t b = absurd b
before_shut (r ∷ h) t b = shut_more (misses r t) (ends r.kind t) (shut h t) b

-- a record that accepts nothing of t
pub begun_carries : (m : Shown Waiting) (k : Kind) (moment : ℤ) (t : ℕ)
    → (is_here m.outboxes t ≡ false → ShutBefore m.history t) → said_by k t ≡ [] → Carries m (after_begin m k moment) t
begun_carries m k moment t f e =
    let r : Rec = fresh_record m.history moment k in
    record {
      accepted = ap (λ xs. accepted m.history t ++ xs) e ∙ append-nil (accepted m.history t);
      box = same_box (slice_index_or m.outboxes (t - 1) None)
          (owed m.settings m.history t) (owed m.settings (r ∷ m.history) t)
          (λ away. owed_by (owed m.settings m.history t) (delivery m.settings m.history k moment t) (misses r t)
          (shut m.history t) (before_shut m.history t (f away)));
      before = λ b. before_shut m.history t b;
    }

pub put_carries : (m : Shown Waiting) (p : Planned) (ps : List Planned) (t : ℕ)
    → (is_here m.outboxes t ≡ false → ShutBefore m.history t) → Carries m (put_next m (p ∷ ps)) t
put_carries m p ps t f =
    let o : Option Waiting = slice_index_or m.outboxes (p.session - 1) None in
    let here : (b : Bool) → has_room (outbox_at m.outboxes p.session) ≡ b
    → Carries m (cond b (after_put m p ps) (after_miss m p ps)) t =
    λ b.
    elim b as (λ (b : Bool). has_room (outbox_at m.outboxes p.session) ≡ b
    → Carries m (cond b (after_put m p ps) (after_miss m p ps)) t) [
      | true ↦ λ e. record {
        accepted = refl;
        box = set_box m.outboxes (p.session - 1) (t - 1)
            (with_put (outbox_at m.outboxes p.session) (book.item_of m p)) (owed m.settings m.history t)
            (put_box o (book.item_of m p) (owed m.settings m.history t) e);
        before = λ b. b;
      }
      | false ↦ λ e. record {
        accepted = missed_accepted m.history p.session t;
        box = same_box (slice_index_or m.outboxes (t - 1) None) (owed m.settings m.history t) (owed m.settings
            (miss m.history p.session) t) (λ away. missed_owed m.settings m.history p.session t (f away));
        before = missed_before m.history p.session t;
      }
    ] in
    here (has_room (outbox_at m.outboxes p.session)) refl

pub puts_carry : (m : Shown Waiting) (ps : List Planned) (t : ℕ)
    → (is_here m.outboxes t ≡ false → ShutBefore m.history t) → Carries m (put_all m ps) t
puts_carry m [] t f = carries_same m t
puts_carry m (p ∷ ps) t f =
    let n : Shown Waiting = put_next m (p ∷ ps) in
    let one : Carries m n t = put_carries m p ps t f in
    let stays : is_here n.outboxes t ≡ is_here m.outboxes t = kept_here (slice_index_or m.outboxes (t - 1) None)
    (slice_index_or n.outboxes (t - 1) None) (owed m.settings m.history t)
    (owed n.settings n.history t) one.box in
    carries_then m n (put_all n ps) t one (puts_carry n ps t (λ away. one.before (f (sym stays ∙ away))))

pub done_carries : (m : Shown Waiting) (k : Kind) (moment : ℤ) (t : ℕ)
    → (is_here m.outboxes t ≡ false → ShutBefore m.history t) → said_by k t ≡ [] → Carries m (after_all m k moment) t
done_carries m k moment t f e =
    let n : Shown Waiting = after_begin m k moment in
    let one : Carries m n t = begun_carries m k moment t f e in
    let all = carries_then m n (put_all n (plan_of m.settings m.history k moment (length m.outboxes))) t one
    (puts_carry n (plan_of m.settings m.history k moment (length m.outboxes)) t
    (λ away. one.before (f away))) in
    record { accepted = all.accepted; box = all.box; before = all.before }

-- ---- how many outboxes there are

put_length : (m : Shown Waiting) (p : Planned) (ps : List Planned) → length (put_next m (p ∷ ps)).outboxes
    ≡ length m.outboxes
put_length m p ps =
    elim (has_room (outbox_at m.outboxes p.session)) as
    (λ b. length (cond b (after_put m p ps) (after_miss m p ps)).outboxes ≡ length m.outboxes) [
      | true ↦ simp length-set
      | false ↦ refl
    ]

pub next_length : (m : Shown Waiting) (ps : List Planned) → length (put_next m ps).outboxes ≡ length m.outboxes
next_length m [] = refl
next_length m (p ∷ ps) = put_length m p ps

puts_length : (m : Shown Waiting) (ps : List Planned) → length (put_all m ps).outboxes ≡ length m.outboxes
puts_length m [] = refl
puts_length m (p ∷ ps) = puts_length (put_next m (p ∷ ps)) ps ∙ put_length m p ps

pub done_length : (m : Shown Waiting) (k : Kind) (moment : ℤ) → length (after_all m k moment).outboxes
    ≡ length m.outboxes
done_length m k moment =
    puts_length (after_begin m k moment) (plan_of m.settings m.history k moment (length m.outboxes))

-- ---- a plan has nothing for who was shut before

shut_not_owed : (g : Settings) (h : List Rec) (p : Planned) → ShutBefore h p.session → book.IsOwed g h p → ⊥
shut_not_owed g [] p b i = i
shut_not_owed g (r ∷ h) p b i = let f : true ≡ false = sym b ∙ i.1 in cc

none_by : (m : Shown Waiting) (p : Planned) (t : ℕ) (xs : List Delivery) → ShutBefore m.history t
    → book.IsOwed m.settings m.history p → xs ≡ [] → cond (p.session == t) (p.delivery ∷ xs) xs ≡ []
none_by m p t xs b i e =
    elim (eqb_tells p.session t) [
      | inl same ↦ absurd (shut_not_owed m.settings m.history p (subst (ShutBefore m.history) (sym same.1) b) i)
      | inr other ↦ rw other.0 e
    ]

pub none_planned : (m : Shown Waiting) (ps : List Planned) (t : ℕ) → ShutBefore m.history t
    → IsPlan m.settings m.history (length m.outboxes) ps → plan_part ps t ≡ []
none_planned m [] t b i = refl
none_planned m (p ∷ ps) t b i = none_by m p t (plan_part ps t) b i.3 (none_planned m ps t b i.4)

pub next_carries : (m : Shown Waiting) (ps : List Planned) (t : ℕ)
    → (is_here m.outboxes t ≡ false → ShutBefore m.history t) → Carries m (put_next m ps) t
next_carries m [] t f = carries_same m t
next_carries m (p ∷ ps) t f = put_carries m p ps t f

pub put_busy : (m : Shown Waiting) (ps : List Planned) → (put_next m ps).busy ≡ m.busy
put_busy m [] = refl
put_busy m (p ∷ ps) =
    elim (has_room (outbox_at m.outboxes p.session)) as
    (λ b. (cond b (after_put m p ps) (after_miss m p ps)).busy ≡ m.busy) [
      | true ↦ refl
      | false ↦ refl
    ]

pub put_accepted : (m : Shown Waiting) (ps : List Planned) (t : ℕ) → accepted (put_next m ps).history t
    ≡ accepted m.history t
put_accepted m [] t = refl
put_accepted m (p ∷ ps) t =
    elim (has_room (outbox_at m.outboxes p.session)) as
    (λ b. accepted (cond b (after_put m p ps) (after_miss m p ps)).history t ≡ accepted m.history t) [
      | true ↦ refl
      | false ↦ missed_accepted m.history p.session t
    ]
