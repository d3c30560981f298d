-- The lines of a script, the first that may not stand there, and the limits: this project's own choice.
use Rattle.std.specs.Prelude.{ℕ, ◌+◌, ◌==◌, Bool, false, true, ◌&&◌, if◌then◌else◌, List}
use Rattle.std.specs.Prelude.{[], ◌∷◌, ◌++◌, Option, Some, None, is_none}
use Rattle.std.specs.Option.{is_some}
use Rattle.scripts.specs.declared.header.Limits.{Limits}
use Rattle.scripts.specs.Script.{step_of}
use Rattle.scripts.specs.Headers.{default_limits, with_header, after_line, are_good}

-- a text stands before the first line
abbrev pub text_before : List ℕ → List (List ℕ) → List (List ℕ)
text_before text [] = []
text_before text (line ∷ more) = (text ++ line) ∷ more

-- LF parts the lines; the last one is what stands after the last LF
abbrev pub lines_of : List ℕ → List (List ℕ)
lines_of [] = [] ∷ []
lines_of (b ∷ bs) = if b == 10 then [] ∷ lines_of bs else text_before (b ∷ []) (lines_of bs)

abbrev pub is_step : List ℕ → Bool
is_step line = is_some (step_of line)

-- what headers set up to a line that is a header; no line is one after a step
abbrev pub header_by : Option Limits → List ℕ → Option Limits
header_by None line = None
header_by (Some l) line = with_header l line

-- a line that is not empty has to be a step, or a header where no step came before it
abbrev pub is_bad : Option Limits → List ℕ → Bool
is_bad head [] = false
is_bad head (b ∷ bs) = is_none (step_of (b ∷ bs)) && is_none (header_by head (b ∷ bs))

-- what headers have set after a line; nothing after a step
abbrev pub head_after : Option Limits → List ℕ → Option Limits
head_after None line = None
head_after (Some l) line = if is_step line then None else Some (after_line l line)

-- the number of the first bad line, where the first line has this number
abbrev pub first_bad : Option Limits → ℕ → List (List ℕ) → Option ℕ
first_bad head n [] = None
first_bad head n (line ∷ more) = if is_bad head line then Some n else first_bad (head_after head line) (n + 1) more

-- the number of a script's first bad line, from 1
abbrev pub bad_line_of : List ℕ → Option ℕ
bad_line_of script = first_bad (Some default_limits) 1 (lines_of script)

-- the limits that headers before the first step change these into
abbrev pub limits_after : Limits → List (List ℕ) → Limits
limits_after l [] = l
limits_after l (line ∷ more) = if is_step line then l else limits_after (after_line l line) more

-- the limits that a script sets
abbrev pub limits_of : List ℕ → Limits
limits_of script = limits_after default_limits (lines_of script)

-- what comes of looking at a script: its first bad line, and whether a server can be set up with its limits
pub record Check : Type 0 where
  pub bad : Option ℕ
  pub is_set : Bool

abbrev pub check_of : List ℕ → Check
check_of script = record { bad = bad_line_of script; is_set = are_good (limits_of script) }

-- whether a server can be set up; it was where a step came, and there are no limits any more
abbrev pub is_set_after : Option Limits → List (List ℕ) → Bool
is_set_after None lines = true
is_set_after (Some l) lines = are_good (limits_after l lines)

-- the same of lines, where the first one has this number
abbrev pub check_after : Option Limits → ℕ → List (List ℕ) → Check
check_after head n lines = record { bad = first_bad head n lines; is_set = is_set_after head lines }

-- the same where some lines have ended, the present line has begun, and this rest of the script comes
abbrev pub check_ahead : Option Limits → ℕ → List ℕ → List ℕ → Check
check_ahead head ended line rest = check_after head (ended + 1) (text_before line (lines_of rest))
