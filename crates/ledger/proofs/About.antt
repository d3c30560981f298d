-- Who was never opened is owed nothing, isn't shut and isn't gone.
use Rattle.std.proofs.lemmas.Bool.Decides.{eqb_tells, nat_tests}
use Rattle.std.proofs.Common.{◌≡◌, ◌≢◌, inl, inr, ℕ, ℤ, ◌+◌, ◌<◌, Bool, true, false, ◌||◌, ◌==◌, nat_le, cond}
use Rattle.std.proofs.Common.{List, [], ◌∷◌, ◌++◌, length, arith, refl, sym, ap, ◌∙◌, ne_eqb}
use Rattle.std.specs.List.{list_any}
use Rattle.chronicle.specs.declared.record.Kind.{Kind}
use Rattle.chronicle.specs.declared.record.Kind.TheVariants as kind
use Rattle.chronicle.specs.History.{Rec, sessions, said_by, accepted, misses, ends, shut, leaves, gone}
use Rattle.deliveries.specs.declared.delivery.Delivery.{Delivery}
use Rattle.deeds.specs.Deeds.{facts, text}
use Rattle.registration.specs.declared.settings.Settings.{Settings}
use Rattle.deliveries.specs.Owed.{item, delivery, owed}
use Rattle.ledger.specs.Legal.{IsKind, AreMissed, IsLegal}
use Rattle.ledger.proofs.Unheard.{unheard, unheard_not_pinged}

-- a record doesn't end or take leave of who was never opened
ends-none : (h : List Rec) (k : Kind) (t : ℕ) → IsKind h k → sessions h < t → ends k t ≡ false
ends-none h (kind.Opened s host) t i l = refl
ends-none h (kind.Said s n piece) t i l = let ne : s ≢ t = let j = i.1 in omega arith in rw (ne_eqb s t ne) refl
ends-none h (kind.Hung s w) t i l = let ne : s ≢ t = let j = i.1 in omega arith in ne_eqb s t ne
ends-none h (kind.Gone s) t i l = refl
ends-none h kind.Ticked t i l = refl

leaves-none : (h : List Rec) (k : Kind) (t : ℕ) → IsKind h k → sessions h < t → leaves k t ≡ false
leaves-none h (kind.Opened s host) t i l = refl
leaves-none h (kind.Said s n piece) t i l = refl
leaves-none h (kind.Hung s w) t i l = refl
leaves-none h (kind.Gone s) t i l = let ne : s ≢ t = let j = i.1 in omega arith in ne_eqb s t ne
leaves-none h kind.Ticked t i l = refl

-- a record gives nothing to who was never opened
delivery-none : (g : Settings) (h : List Rec) (k : Kind) (moment : ℤ) (t : ℕ) → IsLegal g h → IsKind h k
    → sessions h < t → delivery g h k moment t ≡ []
delivery-none g h k moment t legal ik before =
    let late : nat_le t (sessions h) ≡ false = grind (arith, nat_tests) in
    let told_ = text g (facts g h) k moment (length h + 1) t in
    rw (ends-none h k t ik before)
    (ap (λ xs. item (length h + 1) (xs ++ cond (nat_le t (sessions h)) told_ []))
    (unheard_not_pinged g h k moment t (unheard g h t legal before))
    ∙ ap (λ b. item (length h + 1) (cond b told_ [])) late)

-- nothing is owed to who was never opened
pub not_owed : (g : Settings) (h : List Rec) (t : ℕ) → IsLegal g h → sessions h < t → owed g h t ≡ []
not_owed g [] t i l = refl
not_owed g (r ∷ h) t i l =
    let before : sessions h < t = omega arith in let E : List Delivery = [] in
    let d = delivery-none g h r.kind r.moment t i.4 i.2 before in
    rw (not_owed g h t i.4 before)
    (rw d (elim (misses r t || shut h t) as (λ b. cond b E E ≡ E) [ true ↦ refl | false ↦ refl ]))

-- nor is it shut, and nothing of it was accepted
missed_not : (g : Settings) (h : List Rec) (k : Kind) (moment : ℤ) (ts : List ℕ) (t : ℕ)
    → delivery g h k moment t ≡ [] → AreMissed g h k moment ts → list_any (λ u. u == t) ts ≡ false
missed_not g h k moment [] t d a = refl
missed_not g h k moment (u ∷ ts) t d a =
    elim (eqb_tells u t) [
      | inl same ↦ absurd (a.0 (ap (delivery g h k moment) same.1 ∙ d))
      | inr other ↦ rw other.0 (missed_not g h k moment ts t d a.3)
    ]

pub not_shut : (g : Settings) (h : List Rec) (t : ℕ) → IsLegal g h → sessions h < t → shut h t ≡ false
not_shut g [] t i l = refl
not_shut g (r ∷ h) t i l = let before : sessions h < t = omega arith in
    rw (missed_not g h r.kind r.moment r.missed t (delivery-none g h r.kind r.moment t i.4 i.2 before) i.3)
    (rw (ends-none h r.kind t i.2 before) (not_shut g h t i.4 before))

pub not_gone : (g : Settings) (h : List Rec) (t : ℕ) → IsLegal g h → sessions h < t → gone h t ≡ false
not_gone g [] t i l = refl
not_gone g (r ∷ h) t i l = let before : sessions h < t = omega arith in
    rw (leaves-none h r.kind t i.2 before) (not_gone g h t i.4 before)

said_not : (h : List Rec) (k : Kind) (t : ℕ) → IsKind h k → sessions h < t → said_by k t ≡ []
said_not h (kind.Opened s host) t i l = refl
said_not h (kind.Hung s w) t i l = refl
said_not h (kind.Gone s) t i l = refl
said_not h kind.Ticked t i l = refl
said_not h (kind.Said s n piece) t i l = let ne : s ≢ t = let j = i.1 in omega arith in rw (ne_eqb s t ne) refl

pub not_accepted : (g : Settings) (h : List Rec) (t : ℕ) → IsLegal g h → sessions h < t → accepted h t ≡ []
not_accepted g [] t i l = refl
not_accepted g (r ∷ h) t i l = let before : sessions h < t = omega arith in
    rw (not_accepted g h t i.4 before) (said_not h r.kind t i.2 before)

-- ---- who is gone was shut before

shut_more : (b c d : Bool) → d ≡ true → (b || c || d) ≡ true
shut_more true c d e = refl
shut_more false true d e = refl
shut_more false false d e = e

left_by : (h : List Rec) (k : Kind) (t : ℕ) → IsKind h k → leaves k t ≡ true → shut h t ≡ true
left_by h (kind.Opened s host) t i e = absurd (let f : false ≡ true = e in cc)
left_by h (kind.Said s n piece) t i e = absurd (let f : false ≡ true = e in cc)
left_by h (kind.Hung s w) t i e = absurd (let f : false ≡ true = e in cc)
left_by h kind.Ticked t i e = absurd (let f : false ≡ true = e in cc)
left_by h (kind.Gone s) t i e =
    elim (eqb_tells s t) [
      | inl same ↦ ap (shut h) (sym same.1) ∙ i.2
      | inr other ↦ absurd (let f : false ≡ true = sym other.0 ∙ e in cc)
    ]

gone_by : (r : Rec) (h : List Rec) (t : ℕ) (b : Bool) → leaves r.kind t ≡ b → IsKind h r.kind
    → (gone h t ≡ true → shut h t ≡ true) → (b || gone h t) ≡ true → shut h t ≡ true
gone_by r h t true eb i f e = left_by h r.kind t i eb
gone_by r h t false eb i f e = f e

pub gone_shut : (g : Settings) (h : List Rec) (t : ℕ) → IsLegal g h → gone h t ≡ true → shut h t ≡ true
gone_shut g [] t i e = absurd (let f : false ≡ true = e in cc)
gone_shut g (r ∷ h) t i e = shut_more (misses r t) (ends r.kind t) (shut h t)
    (gone_by r h t (leaves r.kind t) refl i.2 (gone_shut g h t i.4) e)

-- who isn't shut isn't gone
open_not_gone : (g : Settings) (h : List Rec) (t : ℕ) (b : Bool) → gone h t ≡ b → IsLegal g h → shut h t ≡ false
    → gone h t ≡ false
open_not_gone g h t true e i open_ = absurd (let f : true ≡ false = sym (gone_shut g h t i e) ∙ open_ in cc)
open_not_gone g h t false e i open_ = e

pub not_gone_yet : (g : Settings) (h : List Rec) (t : ℕ) → IsLegal g h → shut h t ≡ false → gone h t ≡ false
not_gone_yet g h t i open_ = open_not_gone g h t (gone h t) refl i open_

-- who is gone was shut before the newest record
pub gone_before : (g : Settings) (r : Rec) (h : List Rec) (t : ℕ) → IsLegal g (r ∷ h) → gone (r ∷ h) t ≡ true
    → shut h t ≡ true
gone_before g r h t i e = gone_by r h t (leaves r.kind t) refl i.2 (gone_shut g h t i.4) e
