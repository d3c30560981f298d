-- Whom a line is shown to: IRCv3 Capability Negotiation.
use Rattle.std.specs.Prelude.{ℕ, ◌==◌, Bool, List, [], ◌∷◌, length, if◌then◌else◌}
use Rattle.numerics.specs.declared.outgoing.Out.{Out}
use Rattle.registration.specs.declared.caps.Cap.{Cap}
use Rattle.registration.specs.Caps.{is_on}
use Rattle.roster.specs.declared.deed.Deed.{Deed}
use Rattle.roster.specs.LookBack.{caps}
use Rattle.transactions.specs.declared.effect.Effect.{Effect}
use Rattle.transactions.specs.declared.effect.Effect.TheVariants.{Show}

-- whether a session takes the lines of a capability
abbrev pub takes : List Deed → Cap → ℕ → Bool
takes fs cap t = is_on (caps fs t) cap

-- a line that nobody hears is no effect
unfoldable pub shows_to : List ℕ → Out → List Effect
shows_to hearers line = if length hearers == 0 then [] else Show hearers line ∷ []
