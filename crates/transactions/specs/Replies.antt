-- How a session is answered: RFC 2812, section 2.4.
use Rattle.std.specs.Prelude.{ℕ, List, [], ◌∷◌, map, Option, Some, None}
use Rattle.numerics.specs.declared.numeric.Numeric.{Numeric}
use Rattle.numerics.specs.declared.numeric.Numeric.TheVariants.{Away}
use Rattle.numerics.specs.Numerics.{numeric}
use Rattle.registration.specs.declared.settings.Settings.{Settings}
use Rattle.roster.specs.declared.deed.Deed.{Deed}
use Rattle.roster.specs.LookBack.{nick}
use Rattle.transactions.specs.declared.effect.Effect.{Effect}
use Rattle.transactions.specs.declared.effect.Effect.TheVariants.{Answer}
use Rattle.transactions.specs.Lines.{title}

-- a numeric, which names the session by its nickname
abbrev pub tells : Settings → List Deed → ℕ → Numeric → Effect
tells g fs s n = Answer (numeric g.server (title (nick fs s)) n)

-- several of them
abbrev pub tells_all : Settings → List Deed → ℕ → List Numeric → List Effect
tells_all g fs s ns = map (tells g fs s) ns

-- that a user is away, where it is (301)
abbrev pub away_told : Settings → List Deed → ℕ → List ℕ → Option (List ℕ) → List Effect
away_told g fs s n None = []
away_told g fs s n (Some text) = tells g fs s (Away n text) ∷ []
