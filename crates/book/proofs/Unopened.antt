-- Who was never opened said nothing.
use Rattle.std.proofs.Common.{◌≡◌, ◌≢◌, ℕ, ◌<◌, List, [], ◌∷◌, refl, ne_eqb, arith}
use Rattle.chronicle.specs.declared.record.Kind.{Kind}
use Rattle.chronicle.specs.declared.record.Kind.TheVariants.{Opened, Said, Hung, Gone, Ticked}
use Rattle.chronicle.specs.History.{Rec, sessions, said_by, accepted}
use Rattle.registration.specs.declared.settings.Settings.{Settings}
use Rattle.ledger.specs.Legal.{IsKind, IsLegal}

said_none : (h : List Rec) (k : Kind) (t : ℕ) → IsKind h k → sessions h < t → said_by k t ≡ []
said_none h (Opened s host) t i late = refl
said_none h (Said s n piece) t i late = let apart : s ≢ t = let to = i.1 in omega arith in rw (ne_eqb s t apart) refl
said_none h (Hung s why) t i late = refl
said_none h (Gone s) t i late = refl
said_none h Ticked t i late = refl

pub silent : (g : Settings) (h : List Rec) (t : ℕ) → IsLegal g h → sessions h < t → accepted h t ≡ []
silent g [] t i late = refl
silent g (r ∷ h) t i late = let before : sessions h < t = omega arith in
    rw (silent g h t i.4 before) (said_none h r.kind t i.2 before)
