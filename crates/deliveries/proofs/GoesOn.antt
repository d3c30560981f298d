-- A history goes on from its base alone.
use Rattle.std.proofs.Common.{◌≡◌, ◌∙◌, ℕ, ℤ, ◌+◌, Bool, false, not, ◌&&◌, ◌||◌, nat_le, cond, Option, Some, List, []}
use Rattle.std.proofs.Common.{◌∷◌, ◌++◌, length, take, drop, length-append, ◌-◌, ap, sym, refl, append_assoc}
use Rattle.std.proofs.lemmas.List.{append-nil, take-append-drop}
use Rattle.std.proofs.Math.Seq.{drop-append_seam}
use Rattle.line_grammar.specs.declared.splitter.Piece.{Piece}
use Rattle.chronicle.specs.declared.record.Kind.{Kind}
use Rattle.chronicle.specs.History.{Rec, opened_by, said_by, sessions, accepted, misses, ends, shut}
use Rattle.chronicle.specs.Idle.{PING_AFTER, hears_of, is_tick, idle_since}
use Rattle.chronicle.specs.Idle.{was_before, is_silent, was_pinged, is_pinged}
use Rattle.registration.specs.declared.settings.Settings.{Settings}
use Rattle.roster.specs.declared.deed.Deed.{Deed}
use Rattle.roster.specs.LookBack.{after, caps}
use Rattle.labels_batches.specs.Spellings.{spelled_for}
use Rattle.deeds.specs.Deeds.{deeds, facts, text}
use Rattle.deeds.specs.Ping.{ping_line}
use Rattle.deliveries.specs.declared.delivery.Delivery.{Delivery}
use Rattle.deliveries.specs.declared.delivery.Delivery.TheVariants.{Last}
use Rattle.deliveries.specs.Owed.{item, reason, tick_text, told_text, delivery, owed}
use Rattle.deliveries.specs.Base.{base, dropped_part, kept_part, facts_from, records_from, sessions_from}
use Rattle.deliveries.specs.Base.{shut_from, idle_since_from, is_silent_from, was_pinged_from, is_pinged_from}
use Rattle.deliveries.specs.Base.{ticked_from, told_from, delivery_from, owed_from, accepted_from}

pub facts_on : (g : Settings) (h later : List Rec) → facts g (later ++ h) ≡ facts_from g (base g h) later
facts_on g h [] = refl
facts_on g h (r ∷ later) = ap (λ fs. after fs (deeds g fs r.kind)) (facts_on g h later)

pub records_on : (g : Settings) (h later : List Rec) → length (later ++ h) ≡ records_from (base g h) later
records_on g h later = length-append later h

pub sessions_on : (g : Settings) (h later : List Rec) → sessions (later ++ h) ≡ sessions_from (base g h) later
sessions_on g h [] = refl
sessions_on g h (r ∷ later) = ap (λ n. opened_by r.kind + n) (sessions_on g h later)

pub shut_on : (g : Settings) (h later : List Rec) (t : ℕ) → shut (later ++ h) t ≡ shut_from (base g h) later t
shut_on g h [] t = refl
shut_on g h (r ∷ later) t = ap (λ b. misses r t || ends r.kind t || b) (shut_on g h later t)

pub idle_on : (g : Settings) (h later : List Rec) (t : ℕ) → idle_since (later ++ h) t
    ≡ idle_since_from (base g h) later t
idle_on g h [] t = refl
idle_on g h (r ∷ later) t = ap (λ (since : Option ℤ). cond (hears_of r.kind t) (Some r.moment) since)
    (idle_on g h later t)

silent_on : (g : Settings) (h later : List Rec) (t : ℕ) (moment : ℤ) → is_silent (later ++ h) t moment
    ≡ is_silent_from (base g h) later t moment
silent_on g h later t moment =
    ap (λ (b : Bool). not b && was_before (idle_since (later ++ h) t) PING_AFTER moment) (shut_on g h later t)
    ∙ ap (λ (since : Option ℤ). not (shut_from (base g h) later t) && was_before since PING_AFTER moment)
    (idle_on g h later t)

pub pinged_on : (g : Settings) (h later : List Rec) (t : ℕ) → was_pinged (later ++ h) t
    ≡ was_pinged_from (base g h) later t
pinged_on g h [] t = refl
pinged_on g h (r ∷ later) t =
    ap (λ (b : Bool). cond (hears_of r.kind t) false (b || (is_tick r.kind && is_silent (later ++ h) t r.moment)))
    (pinged_on g h later t)
    ∙ ap (λ (b : Bool). cond (hears_of r.kind t) false
    (was_pinged_from (base g h) later t || (is_tick r.kind && b))) (silent_on g h later t r.moment)

is_pinged_on : (g : Settings) (h later : List Rec) (t : ℕ) (moment : ℤ) → is_pinged (later ++ h) t moment
    ≡ is_pinged_from (base g h) later t moment
is_pinged_on g h later t moment =
    ap (λ (b : Bool). b && not (was_pinged (later ++ h) t)) (silent_on g h later t moment)
    ∙ ap (λ (b : Bool). is_silent_from (base g h) later t moment && not b) (pinged_on g h later t)

-- the same by equal values
ticked_by : (g : Settings) (fs gs : List Deed) (b c : Bool) (k : Kind) (moment : ℤ) (t : ℕ) → fs ≡ gs → b ≡ c
    → cond (is_tick k && b) (spelled_for (caps fs t) moment (ping_line g.server)) []
    ≡ cond (is_tick k && c) (spelled_for (caps gs t) moment (ping_line g.server)) []
ticked_by g fs gs b c k moment t ef eb =
    ap (λ xs. cond (is_tick k && b) (spelled_for (caps xs t) moment (ping_line g.server)) []) ef
    ∙ ap (λ (x : Bool). cond (is_tick k && x) (spelled_for (caps gs t) moment (ping_line g.server)) []) eb

ticked_on : (g : Settings) (h later : List Rec) (k : Kind) (moment : ℤ) (t : ℕ)
    → tick_text g (later ++ h) k moment t ≡ ticked_from g (base g h) later k moment t
ticked_on g h later k moment t = ticked_by g (facts g (later ++ h)) (facts_from g (base g h) later)
    (is_pinged (later ++ h) t moment) (is_pinged_from (base g h) later t moment) k moment t (facts_on g h later)
    (is_pinged_on g h later t moment)

told_by : (g : Settings) (fs gs : List Deed) (n m a b : ℕ) (k : Kind) (moment : ℤ) (t : ℕ) → fs ≡ gs → n ≡ m → a ≡ b
    → cond (nat_le t n) (text g fs k moment (a + 1) t) [] ≡ cond (nat_le t m) (text g gs k moment (b + 1) t) []
told_by g fs gs n m a b k moment t ef en ea =
    ap (λ xs. cond (nat_le t n) (text g xs k moment (a + 1) t) []) ef
    ∙ ap (λ x. cond (nat_le t x) (text g gs k moment (a + 1) t) []) en
    ∙ ap (λ x. cond (nat_le t m) (text g gs k moment (x + 1) t) []) ea

delivered_by : (k : Kind) (t a b : ℕ) (x y : List ℕ) → a ≡ b → x ≡ y
    → cond (ends k t) (Last (a + 1) (reason k) ∷ []) (item (a + 1) x)
    ≡ cond (ends k t) (Last (b + 1) (reason k) ∷ []) (item (b + 1) y)
delivered_by k t a b x y ea ex =
    ap (λ n. cond (ends k t) (Last (n + 1) (reason k) ∷ []) (item (n + 1) x)) ea
    ∙ ap (λ xs. cond (ends k t) (Last (b + 1) (reason k) ∷ []) (item (b + 1) xs)) ex

told_on : (g : Settings) (h later : List Rec) (k : Kind) (moment : ℤ) (t : ℕ)
    → told_text g (later ++ h) k moment t ≡ told_from g (base g h) later k moment t
told_on g h later k moment t =
    ap (λ xs. xs ++ cond (nat_le t (sessions (later ++ h)))
    (text g (facts g (later ++ h)) k moment (length (later ++ h) + 1) t) []) (ticked_on g h later k moment t)
    ∙ ap (λ xs. ticked_from g (base g h) later k moment t ++ xs)
    (told_by g (facts g (later ++ h)) (facts_from g (base g h) later) (sessions (later ++ h))
    (sessions_from (base g h) later) (length (later ++ h)) (records_from (base g h) later) k moment t
    (facts_on g h later) (sessions_on g h later) (records_on g h later))

pub delivery_on : (g : Settings) (h later : List Rec) (k : Kind) (moment : ℤ) (t : ℕ)
    → delivery g (later ++ h) k moment t ≡ delivery_from g (base g h) later k moment t
delivery_on g h later k moment t = delivered_by k t (length (later ++ h)) (records_from (base g h) later)
    (told_text g (later ++ h) k moment t) (told_from g (base g h) later k moment t) (records_on g h later)
    (told_on g h later k moment t)

added : (xs ys zs : List Delivery) (m b c : Bool) (d e : List Delivery) → xs ≡ ys ++ zs → b ≡ c → d ≡ e
    → xs ++ cond (m || b) [] d ≡ ys ++ (zs ++ cond (m || c) [] e)
added xs ys zs m b c d e exs ebc ede =
    ap (λ all. all ++ cond (m || b) [] d) exs
    ∙ ap (λ x. (ys ++ zs) ++ cond (m || x) [] d) ebc
    ∙ ap (λ x. (ys ++ zs) ++ cond (m || c) [] x) ede
    ∙ append_assoc ys zs (cond (m || c) [] e)

pub owed_on : (g : Settings) (h later : List Rec) (t : ℕ) → owed g (later ++ h) t
    ≡ owed g h t ++ owed_from g (base g h) later t
owed_on g h [] t = sym (append-nil (owed g h t))
owed_on g h (r ∷ later) t =
    added (owed g (later ++ h) t) (owed g h t) (owed_from g (base g h) later t) (misses r t) (shut (later ++ h) t)
    (shut_from (base g h) later t)
    (delivery g (later ++ h) r.kind r.moment t) (delivery_from g (base g h) later r.kind r.moment t)
    (owed_on g h later t) (shut_on g h later t) (delivery_on g h later r.kind r.moment t)

pub accepted_on : (g : Settings) (h later : List Rec) (t : ℕ) → accepted (later ++ h) t
    ≡ accepted h t ++ accepted_from (base g h) later t
accepted_on g h [] t = sym (append-nil (accepted h t))
accepted_on g h (r ∷ later) t = ap (λ ps. ps ++ said_by r.kind t) (accepted_on g h later t)
    ∙ append_assoc (accepted h t) (accepted later t) (said_by r.kind t)

-- ---- what comes after the base

pub owed_since : (g : Settings) (h later : List Rec) (t : ℕ) → drop (length (owed g h t)) (owed g (later ++ h) t)
    ≡ owed_from g (base g h) later t
owed_since g h later t = ap (drop (length (owed g h t))) (owed_on g h later t)
    ∙ drop-append_seam (owed g h t) (owed_from g (base g h) later t)

pub accepted_since : (g : Settings) (h later : List Rec) (t : ℕ)
    → drop (length (accepted h t)) (accepted (later ++ h) t) ≡ accepted_from (base g h) later t
accepted_since g h later t = ap (drop (length (accepted h t))) (accepted_on g h later t)
    ∙ drop-append_seam (accepted h t) (accepted_from (base g h) later t)

-- a history is the records that were dropped and those that are kept
pub parts : (n : ℕ) (h : List Rec) → kept_part n h ++ dropped_part n h ≡ h
parts n h = take-append-drop (length h - n) h

pub owed_kept : (g : Settings) (h : List Rec) (n t : ℕ) → drop ((base g (dropped_part n h)).owed t) (owed g h t)
    ≡ owed_from g (base g (dropped_part n h)) (kept_part n h) t
owed_kept g h n t = ap (λ k. drop (length (owed g (dropped_part n h) t)) (owed g k t)) (sym (parts n h))
    ∙ owed_since g (dropped_part n h) (kept_part n h) t

pub accepted_kept : (g : Settings) (h : List Rec) (n t : ℕ) → drop ((base g (dropped_part n h)).accepted t)
    (accepted h t) ≡ accepted_from (base g (dropped_part n h)) (kept_part n h) t
accepted_kept g h n t = ap (λ k. drop (length (accepted (dropped_part n h) t)) (accepted k t)) (sym (parts n h))
    ∙ accepted_since g (dropped_part n h) (kept_part n h) t
