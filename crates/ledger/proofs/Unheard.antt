-- Who was never opened was never heard of, and is pinged by no tick.
use Rattle.std.proofs.Common.{◌≡◌, ◌≢◌, ℕ, ℤ, ◌+◌, ◌<◌, Bool, true, false, not, ◌&&◌, cond, List, []}
use Rattle.std.proofs.Common.{◌∷◌, Option, Some, None, arith, refl, ap, ◌∙◌, ne_eqb}
use Rattle.chronicle.specs.declared.record.Kind.{Kind}
use Rattle.chronicle.specs.declared.record.Kind.TheVariants as kind
use Rattle.chronicle.specs.History.{Rec, opened_by, sessions, shut}
use Rattle.chronicle.specs.Idle.{PING_AFTER, hears_of, is_tick, idle_since, was_before, was_pinged, is_pinged}
use Rattle.roster.specs.LookBack.{caps}
use Rattle.labels_batches.specs.Spellings.{spelled_for}
use Rattle.deeds.specs.Deeds.{facts}
use Rattle.deeds.specs.Ping.{ping_line}
use Rattle.registration.specs.declared.settings.Settings.{Settings}
use Rattle.deliveries.specs.Owed.{tick_text}
use Rattle.ledger.specs.Legal.{IsKind, IsLegal}

-- a record doesn't tell of who wasn't opened by it or before
not_heard : (h : List Rec) (k : Kind) (t : ℕ) → IsKind h k → opened_by k + sessions h < t → hears_of k t ≡ false
not_heard h (kind.Opened s host) t i l = let ne : s ≢ t = let e = i in omega arith in ne_eqb s t ne
not_heard h (kind.Said s n piece) t i l = let ne : s ≢ t = let j = i.1 in omega arith in ne_eqb s t ne
not_heard h (kind.Hung s w) t i l = refl
not_heard h (kind.Gone s) t i l = refl
not_heard h kind.Ticked t i l = refl

pub unheard : (g : Settings) (h : List Rec) (t : ℕ) → IsLegal g h → sessions h < t → idle_since h t ≡ None
unheard g [] t i l = refl
unheard g (r ∷ h) t i l = ap (λ b. cond b (Some r.moment) (idle_since h t)) (not_heard h r.kind t i.2 l)
    ∙ unheard g h t i.4 (omega arith)

-- sessions are numbered from 1
not_nobody : (h : List Rec) (k : Kind) → IsKind h k → hears_of k 0 ≡ false
not_nobody h (kind.Opened s host) i = let ne : s ≢ 0 = let e = i in omega arith in ne_eqb s 0 ne
not_nobody h (kind.Said s n piece) i = let ne : s ≢ 0 = let j = i.0 in omega arith in ne_eqb s 0 ne
not_nobody h (kind.Hung s w) i = refl
not_nobody h (kind.Gone s) i = refl
not_nobody h kind.Ticked i = refl

pub nobody : (g : Settings) (h : List Rec) → IsLegal g h → idle_since h 0 ≡ None
nobody g [] i = refl
nobody g (r ∷ h) i = ap (λ b. cond b (Some r.moment) (idle_since h 0)) (not_nobody h r.kind i.2) ∙ nobody g h i.4

-- who was never heard of isn't pinged
never : (a b : Bool) → ((a && false) && b) ≡ false
never true b = refl
never false b = refl

pub unheard_not_due : (h : List Rec) (t : ℕ) (moment : ℤ) → idle_since h t ≡ None → is_pinged h t moment ≡ false
unheard_not_due h t moment e = ap (λ (since : Option ℤ). (not (shut h t) && was_before since PING_AFTER moment)
    && not (was_pinged h t)) e ∙ never (not (shut h t)) (not (was_pinged h t))

nothing_at : (a : Bool) (xs : List ℕ) → cond (a && false) xs [] ≡ []
nothing_at true xs = refl
nothing_at false xs = refl

pub unheard_not_pinged : (g : Settings) (h : List Rec) (k : Kind) (moment : ℤ) (t : ℕ) → idle_since h t ≡ None
    → tick_text g h k moment t ≡ []
unheard_not_pinged g h k moment t e =
    let line = spelled_for (caps (facts g h) t) moment (ping_line g.server) in
    ap (λ b. cond (is_tick k && b) line []) (unheard_not_due h t moment e) ∙ nothing_at (is_tick k) line
