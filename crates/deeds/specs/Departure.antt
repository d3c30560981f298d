-- What it does that a session is gone: RFC 2812, section 3.1.7.
use Rattle.std.specs.Prelude.{ℕ, List, [], ◌∷◌}
use Rattle.chronicle.specs.declared.why.Why.{Why}
use Rattle.chronicle.specs.Reasons.{text}
use Rattle.roster.specs.declared.deed.Deed.{Deed}
use Rattle.roster.specs.declared.deed.Deed.TheVariants.{Gone}
use Rattle.roster.specs.LookBack.{why, parting_text, sharers}
use Rattle.transactions.specs.declared.effect.Effect.{Effect}
use Rattle.transactions.specs.declared.effect.Effect.TheVariants.{Establish, Show}
use Rattle.transactions.specs.Lines.{prefix, quit_line}

-- what others are told of its end: the text that its client gave, or the reason's own
abbrev pub farewell : Why → List ℕ → List ℕ
farewell w [] = text w
farewell w (x ∷ xs) = x ∷ xs

-- it is shown to each other that shares a channel with it, and then it leaves them
abbrev pub departs : List Deed → ℕ → List Effect
departs fs s = Show (sharers fs s) (quit_line (prefix fs s) (farewell (why fs s) (parting_text fs s)))
    ∷ Establish (Gone s) ∷ []
