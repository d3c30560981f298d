-- What is known of a session while it registers, and what its commands are answered by that alone: RFC 2812, section
-- 3.1; IRCv3 Capability Negotiation and SASL 3.1.
use Rattle.std.specs.Prelude.{ℕ, ◌+◌, ◌==◌, nat_lt, Bool, true, false, not, ◌&&◌, ◌||◌, if◌then◌else◌, List}
use Rattle.std.specs.Prelude.{[], ◌∷◌, ◌++◌, length, codes, Option, Some, None, option_copied}
use Rattle.std.specs.Option.{is_some}
use Rattle.std.specs.Str.{bytes_eq}
use Rattle.casemapping.specs.Names.{nick_shape}
use Rattle.registration.specs.declared.accounts.Account.{Account}
use Rattle.registration.specs.declared.caps.Cap.TheVariants.{Sasl}
use Rattle.registration.specs.declared.caps.Caps.{Caps}
use Rattle.registration.specs.declared.enrol.Enrol.{Enrol}
use Rattle.registration.specs.declared.enrol.NickAnswer.{NickAnswer}
use Rattle.registration.specs.declared.enrol.NickAnswer.TheVariants.{Erroneous, InUse, Same, Taken}
use Rattle.registration.specs.declared.enrol.UserAnswer.{UserAnswer}
use Rattle.registration.specs.declared.enrol.UserAnswer.TheVariants.{Accepted, AlreadyTold}
use Rattle.registration.specs.declared.enrol.CapAnswer.{CapAnswer}
use Rattle.registration.specs.declared.enrol.CapAnswer.TheVariants.{Acknowledged, Refused}
use Rattle.registration.specs.declared.enrol.SaslAnswer.{SaslAnswer}
use Rattle.registration.specs.declared.enrol.SaslAnswer.TheVariants.{AlreadyLoggedIn, Failed, Opened, UnknownMechanism}
use Rattle.registration.specs.declared.enrol.SaslAnswer.TheVariants.{Aborted, TooLong, Waits, LoggedIn}
use Rattle.registration.specs.Accounts.{logged_in}
use Rattle.registration.specs.Caps.{after_request, is_on}
use Rattle.casemapping.specs.Fold.{is_same}
use Rattle.registration.specs.Plain.{Credentials, credentials_of}

-- what a session has told of itself, and by which account it is logged in
pub record Enrolment : Type 0 where
  pub nick : Option (List ℕ)
  pub user : Option (List ℕ)
  pub hold : Bool
  pub caps : Caps
  pub exchange : Option (List ℕ)
  pub account : Option (List ℕ)
  pub registered : Bool

abbrev pub enrolment : Enrol → Enrolment
enrolment e = record {
  nick = option_copied e.nick;
  user = option_copied e.user;
  hold = e.hold;
  caps = e.caps;
  exchange = option_copied e.exchange;
  account = option_copied e.account;
  registered = e.registered;
}

-- RFC 2812, section 3.1.2: the very same spelling changes nothing
abbrev pub is_own : Option (List ℕ) → List ℕ → Bool
is_own None nick = false
is_own (Some own) nick = bytes_eq own nick

unfoldable pub nick_answer : Enrolment → List ℕ → Bool → NickAnswer
nick_answer e nick held =
    if not (nick_shape nick) then Erroneous else (if held then InUse else (if is_own e.nick nick then Same else Taken))

-- RFC 2812, section 3.1.3: a user name is told once
abbrev pub user_answer : Enrolment → UserAnswer
user_answer e = if is_some e.user then AlreadyTold else Accepted

-- Capability Negotiation, "The CAP REQ subcommand"
abbrev pub answer_by : Option Caps → CapAnswer
answer_by None = Refused
answer_by (Some caps) = Acknowledged caps

abbrev pub cap_answer : Enrolment → List (List ℕ) → CapAnswer
cap_answer e words = answer_by (after_request e.caps words)

-- Capability Negotiation, "The CAP LS subcommand" and "The CAP REQ subcommand": they hold the registration
abbrev pub holds : Enrolment → Bool
holds e = not e.registered

-- RFC 2812, section 3.1, and Capability Negotiation, "The CAP END subcommand"
abbrev pub is_ready : Enrolment → Bool
is_ready e = is_some e.nick && is_some e.user && not e.hold && not e.registered

-- SASL 3.1, "The AUTHENTICATE Command": outside an exchange a word names a mechanism
abbrev pub sasl_start : List ℕ → SaslAnswer
sasl_start word = if is_same word (codes "PLAIN") then Opened else UnknownMechanism

-- the octets that a piece adds: 43 is `+`, which stands for none
abbrev pub sasl_octets : List ℕ → List ℕ
sasl_octets piece = if bytes_eq piece (43 ∷ []) then [] else piece

-- at most 400 octets a piece, and 1,200 (this project's own choice) in all
abbrev pub is_too_long : List ℕ → List ℕ → Bool
is_too_long so_far octets = nat_lt 400 (length octets) || nat_lt 1200 (length so_far + length octets)

-- the account by which a payload logs in
abbrev pub account_by : List Account → Option Credentials → Option (List ℕ)
account_by accounts None = None
account_by accounts (Some c) = logged_in accounts c.user c.password

abbrev pub ended_by : Option (List ℕ) → SaslAnswer
ended_by None = Failed
ended_by (Some account) = LoggedIn account

-- a piece of 400 octets is followed by another
abbrev pub gone_on : List Account → List ℕ → List ℕ → SaslAnswer
gone_on accounts so_far octets =
    if is_too_long so_far octets then TooLong else (if length octets == 400 then Waits (so_far ++ octets)
    else ended_by (account_by accounts (credentials_of (so_far ++ octets))))

-- 42 is `*`, which ends an exchange
abbrev pub sasl_step : List Account → Option (List ℕ) → List ℕ → SaslAnswer
sasl_step accounts None piece = sasl_start piece
sasl_step accounts (Some so_far) piece = if bytes_eq piece (42 ∷ []) then Aborted
    else gone_on accounts so_far (sasl_octets piece)

-- whether a text is kept from then on: what was sent, or by which account the session is logged in
abbrev pub keeps_text : SaslAnswer → Bool
keeps_text (Waits exchange) = true
keeps_text (LoggedIn account) = true
keeps_text answer = false

-- SASL 3.1, "Numerics used by this extension"
unfoldable pub sasl_answer : List Account → Enrolment → List ℕ → SaslAnswer
sasl_answer accounts e piece =
    if is_some e.account then AlreadyLoggedIn
    else (if is_on e.caps Sasl then sasl_step accounts e.exchange piece else Failed)
