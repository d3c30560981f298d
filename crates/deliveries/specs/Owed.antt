-- What a history owes a session: this project's own promise. Each record owes a session at most one delivery.
use Rattle.std.specs.Prelude.{ℕ, ℤ, ◌+◌, ◌&&◌, ◌||◌, nat_le, cond, List, [], ◌∷◌, ◌++◌, length}
use Rattle.chronicle.specs.declared.record.Kind.{Kind}
use Rattle.chronicle.specs.declared.record.Kind.TheVariants as kind
use Rattle.chronicle.specs.declared.why.Why.{Why}
use Rattle.chronicle.specs.declared.why.Why.TheVariants.{Quit}
use Rattle.chronicle.specs.History.{Rec, sessions, misses, ends, shut}
use Rattle.chronicle.specs.Idle.{is_tick, is_pinged}
use Rattle.registration.specs.declared.settings.Settings.{Settings}
use Rattle.deliveries.specs.declared.delivery.Delivery.{Delivery}
use Rattle.deliveries.specs.declared.delivery.Delivery.TheVariants.{Lines, Last}
use Rattle.roster.specs.LookBack.{caps}
use Rattle.labels_batches.specs.Spellings.{spelled_for}
use Rattle.deeds.specs.Deeds.{facts, text}
use Rattle.deeds.specs.Ping.{ping_line}

-- the record that a delivery is of
abbrev pub number_of : Delivery → ℕ
number_of (Lines number text) = number
number_of (Last number why) = number

-- none where there is nothing to tell
abbrev pub item : ℕ → List ℕ → List Delivery
item n [] = []
item n (b ∷ bs) = Lines n (b ∷ bs) ∷ []

-- why a record ends a session
abbrev pub reason : Kind → Why
reason (kind.Hung s why) = why
reason k = Quit

-- what a tick after h tells t: a PING, where it is idle and wasn't pinged since it was heard of
abbrev pub tick_text : Settings → List Rec → Kind → ℤ → ℕ → List ℕ
tick_text g h k moment t = cond (is_tick k && is_pinged h t moment)
    (spelled_for (caps (facts g h) t) moment (ping_line g.server)) []

-- what a record of this kind and moment after h tells t: by a tick, or by its effects where t was opened before it
abbrev pub told_text : Settings → List Rec → Kind → ℤ → ℕ → List ℕ
told_text g h k moment t = tick_text g h k moment t ++ cond (nat_le t (sessions h))
    (text g (facts g h) k moment (length h + 1) t) []

-- the delivery of such a record to t: the last one to a session that it ends
abbrev pub delivery : Settings → List Rec → Kind → ℤ → ℕ → List Delivery
delivery g h k moment t = cond (ends k t) (Last (length h + 1) (reason k) ∷ [])
    (item (length h + 1) (told_text g h k moment t))

-- the deliveries to t in order, but for each record that misses t and each after t was shut
abbrev pub owed : Settings → List Rec → ℕ → List Delivery
owed g [] t = []
owed g (r ∷ h) t = owed g h t ++ cond (misses r t || shut h t) [] (delivery g h r.kind r.moment t)
