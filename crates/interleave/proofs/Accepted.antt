-- Who isn't opened yet has no accepted line.
use Rattle.std.proofs.Common.{◌≡◌, ◌≢◌, ℕ, ◌+◌, ◌<◌, List, [], ◌∷◌, ◌++◌, arith, refl, ap, ◌∙◌, ne_eqb}
use Rattle.chronicle.specs.declared.record.Kind.{Kind}
use Rattle.chronicle.specs.declared.record.Kind.TheVariants.{Opened, Said, Hung, Gone, Ticked}
use Rattle.chronicle.specs.History.{Rec, opened_by, sessions, said_by, accepted}
use Rattle.registration.specs.declared.settings.Settings.{Settings}
use Rattle.book.specs.Legal.{IsKind, IsLegal}

none_of : (h : List Rec) (k : Kind) (t : ℕ) → IsKind h k → sessions h < t → said_by k t ≡ []
none_of h (Opened s host) t i l = refl
none_of h (Said s i piece) t is l = let below = is.1 in let ne : s ≢ t = λ e. absurd (omega arith) in
    rw (ne_eqb s t ne) refl
none_of h (Hung s why) t is l = refl
none_of h (Gone s) t is l = refl
none_of h Ticked t is l = refl

pub none_accepted : (g : Settings) (h : List Rec) (t : ℕ) → IsLegal g h → sessions h < t → accepted h t ≡ []
none_accepted g [] t i l = refl
none_accepted g (r ∷ h) t i l =
    let all : opened_by r.kind + sessions h < t = l in let below : sessions h < t = omega arith in
    ap (λ xs. xs ++ said_by r.kind t) (none_accepted g h t i.4 below) ∙ none_of h r.kind t i.2 below
