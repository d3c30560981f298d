-- A verdict is just what effects do.
use Rattle.std.specs.Prelude.{◌≡◌, ℕ, List, [], ◌∷◌}
use Rattle.transactions.specs.declared.effect.Effect.{Effect}
use Rattle.transactions.specs.declared.effect.Effect.TheVariants.{Show}
use Rattle.transactions.specs.declared.verdict.ShownLine.{ShownLine}
use Rattle.transactions.specs.declared.verdict.Verdict.{Verdict}
use Rattle.transactions.specs.Effects.{deeds_of, reply, copies}

-- the lines that effects show, with their hearers, in order
abbrev pub lines_shown : List Effect → List ShownLine
lines_shown [] = []
lines_shown (Show hearers line ∷ es) = record { hearers = hearers; line = line } ∷ lines_shown es
lines_shown (e ∷ es) = lines_shown es

-- what comes of these effects of the record of s
pub record IsVerdict (v : Verdict) (s : ℕ) (es : List Effect) : Type 0 where
  pub deeds : v.deeds.items ≡ deeds_of es
  pub reply : v.reply.items ≡ reply s es
  pub copies : v.copies.items ≡ copies es
  pub others : v.others.items ≡ lines_shown es
