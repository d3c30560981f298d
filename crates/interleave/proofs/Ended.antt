-- Whether the session of the newest record is shut.
use Rattle.std.proofs.Common.{◌≡◌, ℕ, ◌<◌, Bool, true, false, not, ◌&&◌, List, [], ◌∷◌}
use Rattle.std.proofs.Common.{Some, refl, sym, ap, ◌∙◌, subst, arith}
use Rattle.std.proofs.lemmas.Option.{none-some}
use Rattle.chronicle.specs.declared.record.Kind.{Kind}
use Rattle.chronicle.specs.declared.record.Kind.TheVariants.{Opened, Said, Hung, Gone, Ticked}
use Rattle.chronicle.specs.History.{Rec, actor, shut}
use Rattle.chronicle.specs.Idle.{is_tick}
use Rattle.registration.specs.declared.settings.Settings.{Settings}
use Rattle.book.specs.Legal.{IsKind, IsLegal}
use Rattle.book.specs.Ledger.{newest_actor, next_of, newest_next}
use Rattle.interleave.specs.Steps.{is_actor_shut}

-- a record of no session is a tick
no_actor : (h : List Rec) (k : Kind) → IsKind h k → actor k ≡ 0 → is_tick k ≡ true
no_actor h (Opened s host) i e = absurd (omega (arith, i, e))
no_actor h (Said s n piece) i e = let from = i.0 in absurd (omega (arith, from, e))
no_actor h (Hung s why) i e = let from = i.0 in absurd (omega (arith, from, e))
no_actor h (Gone s) i e = let from = i.0 in absurd (omega (arith, from, e))
no_actor h Ticked i e = refl

pub tick_shuts_nobody : (g : Settings) (h : List Rec) → IsLegal g h → newest_actor h ≡ 0 → is_actor_shut h ≡ false
tick_shuts_nobody g [] i e = refl
tick_shuts_nobody g (r ∷ h) i e = ap (λ (b : Bool). not b && shut (r ∷ h) (actor r.kind)) (no_actor h r.kind i.2 e)

-- and one of a session is none
some_actor : (k : Kind) → 0 < actor k → is_tick k ≡ false
some_actor (Opened s host) from = refl
some_actor (Said s n piece) from = refl
some_actor (Hung s why) from = refl
some_actor (Gone s) from = refl
some_actor Ticked from = absurd (omega (arith, from))

pub session_is_shut : (h : List Rec) (s : ℕ) → s ≡ newest_actor h → 0 < s → shut h s ≡ is_actor_shut h
session_is_shut [] s is from = refl
session_is_shut (r ∷ h) s is from =
    ap (shut (r ∷ h)) is ∙ sym (ap (λ (b : Bool). not b && shut (r ∷ h) (actor r.kind))
    (some_actor r.kind (subst (λ (t : ℕ). 0 < t) is from)))

-- a line is of a session
a_line : (k : Kind) (n : ℕ) → next_of k ≡ Some n → is_tick k ≡ false
a_line (Opened s host) n e = refl
a_line (Said s i piece) n e = refl
a_line (Hung s why) n e = refl
a_line (Gone s) n e = refl
a_line Ticked n e = absurd (none-some n e)

pub line_is_shut : (h : List Rec) (n : ℕ) → newest_next h ≡ Some n → shut h (newest_actor h) ≡ is_actor_shut h
line_is_shut [] n e = refl
line_is_shut (r ∷ h) n e = sym (ap (λ (b : Bool). not b && shut (r ∷ h) (actor r.kind)) (a_line r.kind n e))
