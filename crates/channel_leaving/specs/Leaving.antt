-- What all that leave a channel do: RFC 2812, sections 3.2.2 (PART) and 3.2.8 (KICK).
use Rattle.std.specs.Prelude.{ℕ, List, [], ◌∷◌}
use Rattle.channel_state.specs.declared.change.Change.TheVariants.{Left}
use Rattle.numerics.specs.declared.outgoing.Out.{Out}
use Rattle.roster.specs.declared.deed.Deed.TheVariants.{Changed}
use Rattle.transactions.specs.declared.effect.Effect.{Effect}
use Rattle.transactions.specs.declared.effect.Effect.TheVariants.{Establish, Show}
use Rattle.transactions.specs.Seen.{Seen}

-- a member leaves a channel, by itself or put out: all members before it are shown a line
abbrev pub leaves : Seen → ℕ → Out → List Effect
leaves k t line = Show k.state.members line ∷ Establish (Changed k.name (Left t)) ∷ []
