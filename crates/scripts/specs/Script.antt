-- A step as a line of a script: this project's own choice.
use Rattle.std.specs.Prelude.{ℕ, ◌-◌, ◌^◌, ◌==◌, ◌&&◌, if◌then◌else◌, List, [], ◌∷◌, length}
use Rattle.std.specs.Prelude.{take, slice_index, codes, Option, Some, None}
use Rattle.std.specs.Str.{bytes_eq}
use Rattle.std.specs.Option.{option_map}
use Rattle.line_grammar.specs.Lines.{before_space, after_space}
use Rattle.casemapping.specs.Names.{host_shape}
use Rattle.chronicle.specs.declared.ids.SessionId.{SessionId}
use Rattle.chronicle.specs.declared.ids.Moment.{Moment}
use Rattle.chronicle.specs.declared.why.Why.{Why}
use Rattle.chronicle.specs.declared.why.Why.TheVariants as why
use Rattle.chronicle.specs.Reasons as reason
use Rattle.interleave.specs.declared.worker.WorkerId.{WorkerId}
use Rattle.interleave.specs.declared.event.Event.TheVariants as event
use Rattle.interleave.specs.Steps.{IsWellShaped}
use Rattle.scripts.specs.Numbers.{number_below, moment_of}
use Rattle.scripts.specs.Escapes.{text_octets}
use Rattle.scripts.specs.declared.script.ScriptStep.{ScriptStep}
use Rattle.scripts.specs.declared.script.ScriptStep.TheVariants as step
use Rattle.scripts.specs.declared.script.Plain.{Plain}
use Rattle.scripts.specs.declared.script.Plain.TheVariants as plain
use Rattle.scripts.specs.declared.script.StepVerb.{StepVerb}
use Rattle.scripts.specs.declared.script.StepVerb.TheVariants as verb

-- what two readings make together, where both are there
abbrev pub both : {A B C : Type 0} → (A → B → C) → Option A → Option B → Option C
both f None b = None
both f (Some a) None = None
both f (Some a) (Some b) = Some (f a b)

-- the step that a line's first word asks for, where it takes no memory
abbrev pub plain_of : List ℕ → Option Plain
plain_of word =
    if bytes_eq word (codes "pick") then Some plain.Pick
    else if bytes_eq word (codes "begin") then Some plain.Begin
    else if bytes_eq word (codes "put") then Some plain.Put
    else if bytes_eq word (codes "end") then Some plain.End
    else if bytes_eq word (codes "back") then Some plain.Back
    else if bytes_eq word (codes "take") then Some plain.Take
    else if bytes_eq word (codes "hang") then Some plain.Hang
    else if bytes_eq word (codes "sweep") then Some plain.Sweep
    else if bytes_eq word (codes "reap") then Some plain.Reap
    else if bytes_eq word (codes "do") then Some plain.Do
    else if bytes_eq word (codes "tidy") then Some plain.Tidy
    else if bytes_eq word (codes "drain") then Some plain.Drain
    else if bytes_eq word (codes "tick") then Some plain.Tick
    else if bytes_eq word (codes "beat") then Some plain.Beat
    else None

-- the step that a line's first word asks for
abbrev pub verb_of : List ℕ → Option StepVerb
verb_of word =
    if bytes_eq word (codes "connect") then Some verb.Connect
    else if bytes_eq word (codes "feed") then Some verb.Feed
    else option_map (λ plain. verb.Plain plain) (plain_of word)

abbrev pub session_of : List ℕ → Option SessionId
session_of word = number_below (2 ^ 64) word

abbrev pub worker_of : List ℕ → Option WorkerId
worker_of word = number_below (2 ^ 64) word

abbrev pub host_of : List ℕ → Option (List ℕ)
host_of word = if host_shape word then Some word else None

-- the reason that has this word
abbrev pub why_of : List ℕ → Option Why
why_of word =
    if bytes_eq word (reason.word why.Quit) then Some why.Quit
    else if bytes_eq word (reason.word why.SendQ) then Some why.SendQ
    else if bytes_eq word (reason.word why.ReadEnded) then Some why.ReadEnded
    else if bytes_eq word (reason.word why.ReadFailed) then Some why.ReadFailed
    else if bytes_eq word (reason.word why.WriteFailed) then Some why.WriteFailed
    else if bytes_eq word (reason.word why.Memory) then Some why.Memory
    else if bytes_eq word (reason.word why.Shutdown) then Some why.Shutdown
    else if bytes_eq word (reason.word why.PingTimeout) then Some why.PingTimeout
    else None

-- what stands between a quote at the front and a quote at the end
abbrev pub in_quotes : List ℕ → Option (List ℕ)
in_quotes [] = None
in_quotes (q ∷ more) = if q == 34 && slice_index more (length more - 1) == 34 then Some (take (length more - 1) more)
    else None

abbrev pub text_of : Option (List ℕ) → Option (List ℕ)
text_of None = None
text_of (Some text) = text_octets text

-- W S WORD MS
abbrev pub hang_of : Option WorkerId → Option SessionId → Option Why → Option Moment → Option ScriptStep
hang_of (Some worker) (Some session) (Some why) (Some moment) = Some (step.One (event.Hang worker session why moment))
hang_of worker session why moment = None

-- what follows the first word makes the step: W S, W MS, W, S, W S WORD MS, S MS, or MS
abbrev pub plain_step : Plain → List ℕ → Option ScriptStep
plain_step plain.Pick words = both (λ worker session. step.One (event.Pick worker session))
    (worker_of (before_space words)) (session_of (after_space words))
plain_step plain.Begin words = both (λ worker moment. step.One (event.Begin worker moment))
    (worker_of (before_space words)) (moment_of (after_space words))
plain_step plain.Put words = option_map (λ worker. step.One (event.Put worker)) (worker_of words)
plain_step plain.End words = option_map (λ worker. step.One (event.End worker)) (worker_of words)
plain_step plain.Back words = option_map (λ worker. step.One (event.Back worker)) (worker_of words)
plain_step plain.Take words = option_map (λ session. step.One (event.Take session)) (session_of words)
plain_step plain.Hang words =
    let more = after_space words in
    let last = after_space more in
    hang_of (worker_of (before_space words)) (session_of (before_space more)) (why_of (before_space last))
    (moment_of (after_space last))
plain_step plain.Sweep words = both (λ worker moment. step.One (event.Sweep worker moment))
    (worker_of (before_space words)) (moment_of (after_space words))
plain_step plain.Reap words = option_map (λ session. step.One (event.Reap session)) (session_of words)
plain_step plain.Do words = both (λ session moment. step.Do session moment) (session_of (before_space words))
    (moment_of (after_space words))
plain_step plain.Tidy words = option_map (λ moment. step.Tidy moment) (moment_of words)
plain_step plain.Drain words = option_map (λ session. step.Drain session) (session_of words)
plain_step plain.Tick words = both (λ worker moment. step.One (event.Tick worker moment))
    (worker_of (before_space words)) (moment_of (after_space words))
plain_step plain.Beat words = option_map (λ moment. step.Beat moment) (moment_of words)

-- HOST MS, S "TEXT", or another
abbrev pub step_with : StepVerb → List ℕ → Option ScriptStep
step_with verb.Connect words = both (λ host moment. step.One (event.Connect host moment))
    (host_of (before_space words)) (moment_of (after_space words))
step_with verb.Feed words = both (λ session octets. step.One (event.Feed session octets))
    (session_of (before_space words)) (text_of (in_quotes (after_space words)))
step_with (verb.Plain plain) words = plain_step plain words

abbrev pub step_by : Option StepVerb → List ℕ → Option ScriptStep
step_by None words = None
step_by (Some verb) words = step_with verb words

-- the step that a line writes, words parted by one space
abbrev pub step_of : List ℕ → Option ScriptStep
step_of line = step_by (verb_of (before_space line)) (after_space line)

-- the host of a connect has a host's shape
abbrev pub NamesHost : ScriptStep → Type 0
NamesHost (step.One event) = IsWellShaped event
NamesHost (step.Do session moment) = Unit {0}
NamesHost (step.Tidy moment) = Unit {0}
NamesHost (step.Drain session) = Unit {0}
NamesHost (step.Beat moment) = Unit {0}
