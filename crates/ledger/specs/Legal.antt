-- Which histories are legal: this project's own journal.
use Rattle.std.specs.Prelude.{◌≡◌, ◌≢◌, ℕ, ℤ, ◌+◌, ◌<◌, ◌≤◌, ◌==◌, true, false, List, [], ◌∷◌, length}
use Rattle.std.specs.List.{list_any}
use Rattle.chronicle.specs.declared.record.Kind.{Kind}
use Rattle.chronicle.specs.declared.record.Kind.TheVariants.{Opened, Said, Hung, Gone, Ticked}
use Rattle.chronicle.specs.History.{Rec, IsMomentAfter, last_moment, sessions, accepted, shut, gone}
use Rattle.registration.specs.declared.settings.Settings.{Settings}
use Rattle.deliveries.specs.Owed.{delivery}

-- sessions are opened as 1, 2, 3, ..; a line is of an opened session that isn't shut, and has the next index; a
-- session is hung before it is shut, and gone once after. A tick names none
abbrev pub IsKind : List Rec → Kind → Type 0
IsKind h (Opened s host) = s ≡ sessions h + 1
IsKind h (Said s i piece) = (0 < s) × (s ≤ sessions h) × (i ≡ length (accepted h s)) × (shut h s ≡ false)
IsKind h (Hung s why) = (0 < s) × (s ≤ sessions h) × (shut h s ≡ false)
IsKind h (Gone s) = (0 < s) × (s ≤ sessions h) × (shut h s ≡ true) × (gone h s ≡ false)
IsKind h Ticked = Unit {0}

-- each session that missed a record was owed something by it, and stands once
abbrev pub AreMissed : Settings → List Rec → Kind → ℤ → List ℕ → Type 0
AreMissed g h k moment [] = Unit {0}
AreMissed g h k moment (t ∷ ts) = (delivery g h k moment t ≢ []) × (shut h t ≡ false)
    × (list_any (λ u. u == t) ts ≡ false) × AreMissed g h k moment ts

abbrev pub IsLegal : Settings → List Rec → Type 0
IsLegal g [] = Unit {0}
IsLegal g (r ∷ h) = (r.number ≡ length h + 1) × IsMomentAfter (last_moment h) r.moment × IsKind h r.kind
    × AreMissed g h r.kind r.moment r.missed × IsLegal g h
