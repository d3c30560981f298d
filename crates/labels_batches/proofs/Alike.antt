-- Two of a receiver's capabilities tell how a line is spelled that is no part of an answer.
use Rattle.std.proofs.Common.{◌≡◌, ℤ, Bool, not, ◌&&◌, ◌==◌, length, ap, ◌∙◌, refl}
use Rattle.numerics.specs.declared.outgoing.Out.{Out}
use Rattle.registration.specs.declared.caps.Cap.TheVariants.{MessageTags, ServerTime}
use Rattle.registration.specs.declared.caps.Caps.{Caps}
use Rattle.registration.specs.Caps.{is_on}
use Rattle.labels_batches.specs.Rendered.{spelled_line}
use Rattle.labels_batches.specs.Spellings.{spelled_for, spelled_with}

pub as_taken : (caps : Caps) (m : ℤ) (l : Out) → spelled_for caps m l
    ≡ spelled_with (is_on caps ServerTime) (is_on caps MessageTags && not (length l.tags == 0)) m l
unfolding spelled_line
as_taken caps m l = refl

pub as_taken_by : (caps : Caps) (m : ℤ) (l : Out) (time tags : Bool) → is_on caps ServerTime ≡ time
    → is_on caps MessageTags && not (length l.tags == 0) ≡ tags → spelled_for caps m l ≡ spelled_with time tags m l
as_taken_by caps m l time tags e f =
    as_taken caps m l ∙ ap (λ (b : Bool). spelled_with b (is_on caps MessageTags && not (length l.tags == 0)) m l) e
    ∙ ap (λ (b : Bool). spelled_with time b m l) f
