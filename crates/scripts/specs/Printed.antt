-- What a script prints: this project's own promise.
use Rattle.std.specs.Prelude.{◌≡◌, ℕ, List, [], ◌∷◌, ◌++◌, Option, Some, None}
use Rattle.std.specs.Io.KnownBytes.{Appends}
use Rattle.interleave.specs.State.{State, empty_state}
use Rattle.scripts.specs.declared.header.Limits.{Limits}
use Rattle.scripts.specs.declared.script.ScriptStep.{ScriptStep}
use Rattle.scripts.specs.declared.reader.Stage.{Stage}
use Rattle.scripts.specs.declared.reader.Stage.TheVariants.{Head, Steps}
use Rattle.scripts.specs.Script.{step_of}
use Rattle.scripts.specs.Headers.{settings_of}
use Rattle.scripts.specs.Lines.{text_before, lines_of, limits_after, limits_of}
use Rattle.scripts.specs.Steps.{IsPerformed}

abbrev pub with_step : Option ScriptStep → List ScriptStep → List ScriptStep
with_step None more = more
with_step (Some step) more = step ∷ more

-- the steps that lines write, in order
abbrev pub steps_of : List (List ℕ) → List ScriptStep
steps_of [] = []
steps_of (line ∷ more) = with_step (step_of line) (steps_of more)

-- a server with these limits, before any step
abbrev pub start_of : Limits → State
start_of l = empty_state l.records (settings_of l) l.sendq l.workers

-- steps are performed in turn, from a state with the hosts of its sessions, and print a text
abbrev pub ArePerformed : List ScriptStep → List (List ℕ) → State → List ℕ → Type 0
ArePerformed [] hosts m text = text ≡ []
ArePerformed (step ∷ more) hosts m text =
    (first : List ℕ) × (rest : List ℕ) × (hosts' : List (List ℕ)) × (k : State)
    × IsPerformed step hosts m first hosts' k × ArePerformed more hosts' k rest × (text ≡ first ++ rest)

-- the steps of a script, on a server with the limits that it sets
abbrev pub IsPrinted : List ℕ → List ℕ → Type 0
IsPrinted script text = ArePerformed (steps_of (lines_of script)) [] (start_of (limits_of script)) text

-- ---- as the script comes

abbrev pub hosts_of : {L : Type 0} → Stage L → List (List ℕ)
hosts_of (Head l) = []
hosts_of (Steps player) = player.hosts.items

-- the server that a stage has, or sets up for the lines to come
abbrev pub server_of : {L : Type 0} → Stage L → List (List ℕ) → State
server_of (Head l) lines = start_of (limits_after l lines)
server_of (Steps player) lines = player.play

-- what lines print from a stage on
abbrev pub Prints : {L : Type 0} → Stage L → List (List ℕ) → List ℕ → Type 0
Prints stage lines text = ArePerformed (steps_of lines) (hosts_of stage) (server_of stage lines) text

-- the same where a line has begun, and this rest of the script comes
abbrev pub PrintsAhead : {L : Type 0} → Stage L → List ℕ → List ℕ → List ℕ → Type 0
PrintsAhead stage line rest text = Prints stage (text_before line (lines_of rest)) text

-- what a writer holds grows by a text of which this holds
abbrev pub Writes : Option (List ℕ) → Option (List ℕ) → (List ℕ → Type 0) → Type 0
Writes old new P = (text : List ℕ) × Appends old new text × P text

-- what is printed from the one stage on, after what was written, is printed from the other on
abbrev pub GoesOn : {L : Type 0} → Stage L → List ℕ → Stage L → List ℕ → List ℕ → List ℕ → Type 0
GoesOn stage line stage' line' octets written = (rest : List ℕ) (text : List ℕ) → PrintsAhead stage' line' rest text
    → PrintsAhead stage line (octets ++ rest) (written ++ text)
