-- What a record does is a list of effects, in order; what follows from them for its own session and for each other
-- (this project's own promise).
use Rattle.std.specs.Prelude.{ℕ, ◌==◌, List, [], ◌∷◌, ◌++◌, filter, map}
use Rattle.numerics.specs.declared.outgoing.Out.{Out}
use Rattle.roster.specs.declared.deed.Deed.{Deed}
use Rattle.transactions.specs.declared.effect.Effect.{Effect}
use Rattle.transactions.specs.declared.effect.Effect.TheVariants.{Establish, Answer, Show, Copy}

-- the facts that effects establish, in order
abbrev pub deeds_of : List Effect → List Deed
deeds_of [] = []
deeds_of (Establish d ∷ es) = d ∷ deeds_of es
deeds_of (e ∷ es) = deeds_of es

-- a line, as often as t is among its hearers: a list of members or of sharers has each once
abbrev pub lines_heard : List ℕ → Out → ℕ → List Out
lines_heard hearers line t = map (λ h. line) (filter (λ h. h == t) hearers)

-- the lines of an effect to the record's session s
abbrev pub reply_lines : ℕ → Effect → List Out
reply_lines s (Establish d) = []
reply_lines s (Answer line) = line ∷ []
reply_lines s (Show hearers line) = lines_heard hearers line s
reply_lines s (Copy line) = []

abbrev pub reply : ℕ → List Effect → List Out
reply s [] = []
reply s (e ∷ es) = reply_lines s e ++ reply s es

-- what the record's session sent to itself
abbrev pub copy_lines : Effect → List Out
copy_lines (Establish d) = []
copy_lines (Answer line) = []
copy_lines (Show hearers line) = []
copy_lines (Copy line) = line ∷ []

abbrev pub copies : List Effect → List Out
copies [] = []
copies (e ∷ es) = copy_lines e ++ copies es

-- the lines of an effect to another session t
abbrev pub shown_by : Effect → ℕ → List Out
shown_by (Establish d) t = []
shown_by (Answer line) t = []
shown_by (Show hearers line) t = lines_heard hearers line t
shown_by (Copy line) t = []

abbrev pub due : List Effect → ℕ → List Out
due [] t = []
due (e ∷ es) t = shown_by e t ++ due es t
