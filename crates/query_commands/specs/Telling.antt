-- What a session is told by an answer so far.
use Rattle.std.specs.Prelude.{ℕ, List, [], ◌++◌, map}
use Rattle.numerics.specs.declared.numeric.Numeric.{Numeric}
use Rattle.numerics.specs.Numerics.{numeric}
use Rattle.registration.specs.declared.settings.Settings.{Settings}
use Rattle.roster.specs.declared.deed.Deed.{Deed}
use Rattle.roster.specs.LookBack.{nick}
use Rattle.transactions.specs.declared.effect.Effect.{Effect}
use Rattle.transactions.specs.declared.effect.Effect.TheVariants.{Answer}
use Rattle.transactions.specs.Lines.{title}

pub record Telling : Type 0 where
  -- the server's name
  pub server : List ℕ
  -- whom its lines name
  pub to : List ℕ
  pub items : List Numeric

-- nothing yet, to a session by its nickname
abbrev pub nothing_told : Settings → List Deed → ℕ → Telling
nothing_told g fs s = record { server = g.server; to = title (nick fs s); items = [] }

-- and these numerics, too
abbrev pub telling_more : Telling → List Numeric → Telling
telling_more t ns = record { server = t.server; to = t.to; items = t.items ++ ns }

-- what is answered with it
abbrev pub answers : Telling → List Effect
answers t = map (λ n. Answer (numeric t.server t.to n)) t.items
