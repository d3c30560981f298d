-- What CAP and AUTHENTICATE do: IRCv3 Capability Negotiation and SASL 3.1.
use Rattle.std.specs.Prelude.{ℕ, Bool, true, false, List, [], ◌∷◌, ◌++◌, map, codes, Some, None, if◌then◌else◌}
use Rattle.numerics.specs.declared.numeric.Numeric.TheVariants as numeric
use Rattle.numerics.specs.Numerics.{names_text}
use Rattle.registration.specs.declared.settings.Settings.{Settings}
use Rattle.registration.specs.declared.caps.Cap.{Cap}
use Rattle.registration.specs.declared.caps.Cap.TheVariants.{Sasl}
use Rattle.registration.specs.declared.enrol.CapAnswer.{CapAnswer}
use Rattle.registration.specs.declared.enrol.CapAnswer.TheVariants.{Acknowledged, Refused}
use Rattle.registration.specs.declared.enrol.SaslAnswer.{SaslAnswer}
use Rattle.registration.specs.declared.enrol.SaslAnswer.TheVariants.{AlreadyLoggedIn, Failed, Opened, UnknownMechanism}
use Rattle.registration.specs.declared.enrol.SaslAnswer.TheVariants.{Aborted, TooLong, Waits, LoggedIn}
use Rattle.registration.specs.Caps.{all_caps, cap_name, list_of}
use Rattle.registration.specs.Enrol.{cap_answer, holds, sasl_answer}
use Rattle.session_commands.specs.declared.session.CapSubcommand.{CapSubcommand}
use Rattle.session_commands.specs.declared.session.CapSubcommand.TheVariants.{Ls, List as ListCaps, Req, End}
use Rattle.roster.specs.declared.deed.Deed.{Deed}
use Rattle.roster.specs.declared.deed.Deed.TheVariants as deed
use Rattle.roster.specs.LookBack.{nick, caps, enrol}
use Rattle.transactions.specs.declared.effect.Effect.{Effect}
use Rattle.transactions.specs.declared.effect.Effect.TheVariants.{Establish, Answer}
use Rattle.transactions.specs.Lines.{title, prefix, cap_line, go_on_line}
use Rattle.transactions.specs.Replies.{tells}

-- ---- CAP

-- a capability with its value, where values are shown: the mechanism of SASL
abbrev pub cap_text : Bool → Cap → List ℕ
cap_text shows_values Sasl = if shows_values then codes "sasl=PLAIN" else codes "sasl"
cap_text shows_values cap = cap_name cap

-- names of capabilities, sorted
abbrev pub cap_list : Bool → List Cap → List ℕ
cap_list shows_values cs = names_text (map (cap_text shows_values) cs)

abbrev pub lists : Settings → List Deed → ℕ → List ℕ → List ℕ → Effect
lists g fs s subcommand list = Answer (cap_line g.server (title (nick fs s)) subcommand list)

-- the registration waits for the end of the negotiation
abbrev pub waits : List Deed → ℕ → List Effect
waits fs s = if holds (enrol fs s) then Establish (deed.HoldSet s true) ∷ [] else []

abbrev pub answers_req : Settings → List Deed → ℕ → List (List ℕ) → CapAnswer → List Effect
answers_req g fs s words (Acknowledged new) = lists g fs s (codes "ACK") (names_text words)
    ∷ Establish (deed.CapsSet s new) ∷ []
answers_req g fs s words Refused = lists g fs s (codes "NAK") (names_text words) ∷ []

abbrev pub negotiates : Settings → List Deed → ℕ → CapSubcommand → List Effect
negotiates g fs s (Ls shows_values) = lists g fs s (codes "LS") (cap_list shows_values all_caps) ∷ waits fs s
negotiates g fs s ListCaps = lists g fs s (codes "LIST") (cap_list false (list_of (caps fs s))) ∷ []
negotiates g fs s (Req words) = answers_req g fs s words (cap_answer (enrol fs s) words) ++ waits fs s
negotiates g fs s End = Establish (deed.HoldSet s false) ∷ []

-- ---- AUTHENTICATE

-- the exchange ends
abbrev pub closes : ℕ → Effect
closes s = Establish (deed.ExchangeSet s None)

abbrev pub sasl_answered : Settings → List Deed → ℕ → SaslAnswer → List Effect
sasl_answered g fs s AlreadyLoggedIn = tells g fs s numeric.SaslAlready ∷ []
sasl_answered g fs s Failed = tells g fs s numeric.SaslFail ∷ closes s ∷ []
sasl_answered g fs s Opened = Answer go_on_line ∷ Establish (deed.ExchangeSet s (Some [])) ∷ []
sasl_answered g fs s UnknownMechanism = tells g fs s numeric.SaslMechs ∷ tells g fs s numeric.SaslFail ∷ []
sasl_answered g fs s Aborted = tells g fs s numeric.SaslAborted ∷ closes s ∷ []
sasl_answered g fs s TooLong = tells g fs s numeric.SaslTooLong ∷ closes s ∷ []
sasl_answered g fs s (Waits so_far) = Establish (deed.ExchangeSet s (Some so_far)) ∷ []
sasl_answered g fs s (LoggedIn account) = tells g fs s (numeric.LoggedIn (prefix fs s) account)
    ∷ tells g fs s numeric.SaslSuccess ∷ Establish (deed.LoggedIn s account) ∷ closes s ∷ []

abbrev pub authenticates : Settings → List Deed → ℕ → List ℕ → List Effect
authenticates g fs s piece = sasl_answered g fs s (sasl_answer g.accounts (enrol fs s) piece)
