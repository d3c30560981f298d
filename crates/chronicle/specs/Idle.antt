-- Since when a session is idle, and whether it was pinged since: this project's own, with PING of RFC 2812, section
-- 3.7.2.
use Rattle.std.specs.Prelude.{ℕ, ℤ, pos, ◌+ℤ◌, int_le, Bool, true, false, not, ◌&&◌, ◌||◌}
use Rattle.std.specs.Prelude.{◌==◌, cond, List, [], ◌∷◌, Option, Some, None}
use Rattle.chronicle.specs.declared.record.Kind.{Kind}
use Rattle.chronicle.specs.declared.record.Kind.TheVariants.{Opened, Said, Hung, Gone, Ticked}
use Rattle.chronicle.specs.History.{Rec, shut}

-- after how many milliseconds an idle session is pinged, and after how many it is late
abbrev pub PING_AFTER : ℤ
PING_AFTER = pos 120000

abbrev pub LATE_AFTER : ℤ
LATE_AFTER = pos 240000

-- whether a session is heard of by a record: it is opened, or says a line
abbrev pub hears_of : Kind → ℕ → Bool
hears_of (Opened s host) t = s == t
hears_of (Said s i piece) t = s == t
hears_of (Hung s why) t = false
hears_of (Gone s) t = false
hears_of Ticked t = false

-- since when a session is idle: the moment of its newest line, or else of its opening
abbrev pub idle_since : List Rec → ℕ → Option ℤ
idle_since [] t = None
idle_since (r ∷ h) t = cond (hears_of r.kind t) (Some r.moment) (idle_since h t)

-- whether that was so long before a moment
abbrev pub was_before : Option ℤ → ℤ → ℤ → Bool
was_before None span moment = false
was_before (Some last) span moment = int_le (last +ℤ span) moment

-- whether a session is idle for at least so long at a moment
abbrev pub is_idle : List Rec → ℕ → ℤ → ℤ → Bool
is_idle h t span moment = was_before (idle_since h t) span moment

abbrev pub is_tick : Kind → Bool
is_tick (Opened s host) = false
is_tick (Said s i piece) = false
is_tick (Hung s why) = false
is_tick (Gone s) = false
is_tick Ticked = true

-- whether a session that isn't shut is idle for long enough to be pinged
abbrev pub is_silent : List Rec → ℕ → ℤ → Bool
is_silent h t moment = not (shut h t) && is_idle h t PING_AFTER moment

-- whether a tick pinged a session since it was heard of
abbrev pub was_pinged : List Rec → ℕ → Bool
was_pinged [] t = false
was_pinged (r ∷ h) t = cond (hears_of r.kind t) false (was_pinged h t || (is_tick r.kind && is_silent h t r.moment))

-- whether a tick at a moment pings a session: once since it was heard of
abbrev pub is_pinged : List Rec → ℕ → ℤ → Bool
is_pinged h t moment = is_silent h t moment && not (was_pinged h t)

-- whether a session is late at a moment: it isn't shut, and is idle for too long
abbrev pub is_late : List Rec → ℕ → ℤ → Bool
is_late h t moment = not (shut h t) && is_idle h t LATE_AFTER moment
