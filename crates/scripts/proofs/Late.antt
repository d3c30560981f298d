-- Late sessions that are hung, one after another, and what is printed of them.
use Rattle.std.proofs.Common.{◌≡◌, inl, ℕ, ℤ, ◌+◌, Bool, true, false, List, [], ◌++◌, Option, Result}
use Rattle.std.proofs.Common.{Ok, Err, OnOk, codes, refl, sym, ◌∙◌, add-one, subst}
use Rattle.std.specs.Io.KnownBytes.{Appends}
use Rattle.interleave.specs.declared.event.Note.{Note}
use Rattle.interleave.specs.State.{State}
use Rattle.scripts.specs.Notes.{whole_text}
use Rattle.scripts.specs.Steps.{Answer, is_hung, late_text, IsLateHung, AreLateHung}
use Rattle.scripts.specs.Steps.{IsHungOut, IsTicking, IsAfterBeat, IsBeat}
use Rattle.scripts.proofs.Taken.{appends_more}

-- so many were hung, and written
abbrev pub HungSoFar : ℕ → ℤ → State → State → Option (List ℕ) → Option (List ℕ) → Type 0
HungSoFar n moment m l old new = (text : List ℕ) × AreLateHung n moment m text l × Appends old new text

-- one session, if there is one, and whether it was hung
abbrev pub OneHung : ℤ → State → State → Bool → Option (List ℕ) → Option (List ℕ) → Type 0
OneHung moment l k more old new = (a : Option Answer) × IsLateHung moment l a k × (more ≡ is_hung a)
    × Appends old new (late_text a)

pub one_more : (n : ℕ) (moment : ℤ) (m l k : State) (more : Bool) (x y z : Option (List ℕ))
    → HungSoFar n moment m l x y → OneHung moment l k more y z → more ≡ true → HungSoFar (n + 1) moment m k x z
one_more n moment m l k more x y z so one is = (
  so.0 ++ late_text one.0,
  rw add-one (l, one.0, so.0, so.1, one.1, sym one.2 ∙ is, refl),
  appends_more x y z so.0 (late_text one.0) so.2 one.3,
)

pub last_one : (n : ℕ) (moment : ℤ) (m l k : State) (more : Bool) (x y z : Option (List ℕ))
    → HungSoFar n moment m l x y → OneHung moment l k more y z → more ≡ false → (text : List ℕ)
    × IsHungOut moment m text k × Appends x z text
last_one n moment m l k more x y z so one is = (
  so.0 ++ late_text one.0,
  (n, inl (l, one.0, so.0, so.1, one.1, sym one.2 ∙ is, refl)),
  appends_more x y z so.0 (late_text one.0) so.2 one.3,
)

-- a tick that wasn't refused is told, and then who is late is hung
pub beat_done : {X E : Type 0} (r : Result X E) (moment : ℤ) (m l k : State) (a : Answer) (note : Note)
    (x y z : Option (List ℕ)) → IsTicking moment m a l → a ≡ Ok note → Appends x y (whole_text (codes "tick") a)
    → OnOk r ((text : List ℕ) × IsHungOut moment l text k × Appends y z text)
    → OnOk r ((text : List ℕ) × IsBeat moment m text k × Appends x z text)
beat_done (Ok u) moment m l k a note x y z ticked is told hung = (
  whole_text (codes "tick") a ++ hung.0,
  (
    a,
    l,
    hung.0,
    ticked,
    subst (λ b. IsAfterBeat moment b l hung.0 k)
        (sym is) hung.1,
    refl,
  ),
  appends_more x y z (whole_text (codes "tick") a) hung.0 told hung.2,
)
beat_done (Err e) moment m l k a note x y z ticked is told hung = tt
