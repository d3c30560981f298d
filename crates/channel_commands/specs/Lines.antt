-- The lines that are shown of who leaves a channel, is invited to it, or sets its topic: RFC 2812, sections 3.2.2
-- (PART), 3.2.4 (TOPIC), 3.2.7 (INVITE) and 3.2.8 (KICK).
use Rattle.std.specs.Prelude.{ℕ, List, [], ◌∷◌, codes, true, false}
use Rattle.numerics.specs.declared.outgoing.Out.{Out}
use Rattle.numerics.specs.Outgoing.{line}

-- an empty text counts as none
abbrev pub part_line : List ℕ → List ℕ → List ℕ → Out
part_line from channel [] = line from (codes "PART") (channel ∷ []) false
part_line from channel (x ∷ xs) = line from (codes "PART") (channel ∷ (x ∷ xs) ∷ []) true

abbrev pub kick_line : List ℕ → List ℕ → List ℕ → List ℕ → Out
kick_line from channel nick text = line from (codes "KICK") (channel ∷ nick ∷ text ∷ []) true

abbrev pub invite_line : List ℕ → List ℕ → List ℕ → Out
invite_line from nick channel = line from (codes "INVITE") (nick ∷ channel ∷ []) false

abbrev pub topic_line : List ℕ → List ℕ → List ℕ → Out
topic_line from channel text = line from (codes "TOPIC") (channel ∷ text ∷ []) true
