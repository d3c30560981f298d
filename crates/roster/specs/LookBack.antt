-- What holds of sessions and channels, each looked up backwards in a list of facts, the newest first: RFC 2812,
-- section 1.2 (clients), RFC 2811, section 2 (channels), IRCv3 Capability Negotiation and SASL 3.1. What a session
-- had is given back when it is gone.
use Rattle.std.specs.Prelude.{ℕ, zero, suc, ◌+◌, Bool, true, false, not, ◌&&◌, ◌==◌, cond, List, []}
use Rattle.std.specs.Prelude.{◌∷◌, ◌++◌, filter, length, unwrap_or, Option, Some, None}
use Rattle.std.specs.List.{find, list_any}
use Rattle.casemapping.specs.Fold.{is_same}
use Rattle.channel_state.specs.declared.change.Change.{Change}
use Rattle.channel_state.specs.declared.change.Change.TheVariants as change
use Rattle.channel_state.specs.declared.modes.Modes.{Modes}
use Rattle.channel_state.specs.State.{State, among, is_some_one, nothing, made_by, with_change, after_gone, or_nothing}
use Rattle.chronicle.specs.declared.why.Why.{Why}
use Rattle.chronicle.specs.declared.why.Why.TheVariants.{SendQ}
use Rattle.roster.specs.declared.deed.Deed.{Deed}
use Rattle.roster.specs.declared.deed.Deed.TheVariants.{Opened, NickSet, UserSet, HoldSet, CapsSet}
use Rattle.roster.specs.declared.deed.Deed.TheVariants.{ExchangeSet, LoggedIn, Enrolled, AwaySet}
use Rattle.roster.specs.declared.deed.Deed.TheVariants.{InvisibleSet, ChannelMade, Changed, Ended, Gone}
use Rattle.registration.specs.declared.caps.Caps.{Caps}
use Rattle.registration.specs.Caps.{none_on}
use Rattle.registration.specs.Enrol.{Enrolment}

-- what the newest fact says that tells something
abbrev pub newest : {A : Type 0} → (Deed → Option A) → A → List Deed → A
newest tells none [] = none
newest tells none (d ∷ fs) = unwrap_or (tells d) (newest tells none fs)

-- facts after more of them, which stand in the order in which they were established
abbrev pub after : List Deed → List Deed → List Deed
after fs [] = fs
after fs (d ∷ ds) = after (d ∷ fs) ds

-- n numbers from k on
abbrev pub numbers : ℕ → ℕ → List ℕ
numbers k zero = []
numbers k (suc n) = k ∷ numbers (k + 1) n

-- the sessions that were opened, in order
abbrev pub opened_in : List Deed → List ℕ
opened_in [] = []
opened_in (Opened t h ∷ fs) = opened_in fs ++ t ∷ []
opened_in (d ∷ fs) = opened_in fs

-- ---- a session: what a fact tells of it, from its opening until it is gone

abbrev pub tells_host : ℕ → Deed → Option (List ℕ)
tells_host s (Opened t h) = cond (t == s) (Some h) None
tells_host s (Gone t) = cond (t == s) (Some []) None
tells_host s d = None

abbrev pub host : List Deed → ℕ → List ℕ
host fs s = newest (tells_host s) [] fs

abbrev pub tells_nick : ℕ → Deed → Option (Option (List ℕ))
tells_nick s (Opened t h) = cond (t == s) (Some None) None
tells_nick s (NickSet t n) = cond (t == s) (Some (Some n)) None
tells_nick s (Gone t) = cond (t == s) (Some None) None
tells_nick s d = None

abbrev pub nick : List Deed → ℕ → Option (List ℕ)
nick fs s = newest (tells_nick s) None fs

abbrev pub tells_user : ℕ → Deed → Option (Option (List ℕ))
tells_user s (Opened t h) = cond (t == s) (Some None) None
tells_user s (UserSet t u r) = cond (t == s) (Some (Some u)) None
tells_user s (Gone t) = cond (t == s) (Some None) None
tells_user s d = None

abbrev pub user : List Deed → ℕ → Option (List ℕ)
user fs s = newest (tells_user s) None fs

abbrev pub tells_real : ℕ → Deed → Option (Option (List ℕ))
tells_real s (Opened t h) = cond (t == s) (Some None) None
tells_real s (UserSet t u r) = cond (t == s) (Some (Some r)) None
tells_real s (Gone t) = cond (t == s) (Some None) None
tells_real s d = None

abbrev pub real : List Deed → ℕ → Option (List ℕ)
real fs s = newest (tells_real s) None fs

abbrev pub tells_held : ℕ → Deed → Option Bool
tells_held s (Opened t h) = cond (t == s) (Some false) None
tells_held s (HoldSet t on) = cond (t == s) (Some on) None
tells_held s (Gone t) = cond (t == s) (Some false) None
tells_held s d = None

-- whether its registration waits for the end of capability negotiation
abbrev pub is_on_hold : List Deed → ℕ → Bool
is_on_hold fs s = newest (tells_held s) false fs

abbrev pub tells_caps : ℕ → Deed → Option Caps
tells_caps s (Opened t h) = cond (t == s) (Some none_on) None
tells_caps s (CapsSet t caps) = cond (t == s) (Some caps) None
tells_caps s (Gone t) = cond (t == s) (Some none_on) None
tells_caps s d = None

-- its capabilities
abbrev pub caps : List Deed → ℕ → Caps
caps fs s = newest (tells_caps s) none_on fs

abbrev pub tells_exchange : ℕ → Deed → Option (Option (List ℕ))
tells_exchange s (Opened t h) = cond (t == s) (Some None) None
tells_exchange s (ExchangeSet t x) = cond (t == s) (Some x) None
tells_exchange s (Gone t) = cond (t == s) (Some None) None
tells_exchange s d = None

-- what it sent so far of an exchange of SASL that is open
abbrev pub exchange : List Deed → ℕ → Option (List ℕ)
exchange fs s = newest (tells_exchange s) None fs

abbrev pub tells_account : ℕ → Deed → Option (Option (List ℕ))
tells_account s (Opened t h) = cond (t == s) (Some None) None
tells_account s (LoggedIn t a) = cond (t == s) (Some (Some a)) None
tells_account s (Gone t) = cond (t == s) (Some None) None
tells_account s d = None

-- the account by which it is logged in
abbrev pub account : List Deed → ℕ → Option (List ℕ)
account fs s = newest (tells_account s) None fs

abbrev pub tells_registered : ℕ → Deed → Option Bool
tells_registered s (Opened t h) = cond (t == s) (Some false) None
tells_registered s (Enrolled t) = cond (t == s) (Some true) None
tells_registered s (Gone t) = cond (t == s) (Some false) None
tells_registered s d = None

abbrev pub registered : List Deed → ℕ → Bool
registered fs s = newest (tells_registered s) false fs

abbrev pub tells_away : ℕ → Deed → Option (Option (List ℕ))
tells_away s (Opened t h) = cond (t == s) (Some None) None
tells_away s (AwaySet t x) = cond (t == s) (Some x) None
tells_away s (Gone t) = cond (t == s) (Some None) None
tells_away s d = None

-- the text with which it is away (RFC 2812, section 4.1)
abbrev pub away : List Deed → ℕ → Option (List ℕ)
away fs s = newest (tells_away s) None fs

abbrev pub tells_invisible : ℕ → Deed → Option Bool
tells_invisible s (Opened t h) = cond (t == s) (Some false) None
tells_invisible s (InvisibleSet t on) = cond (t == s) (Some on) None
tells_invisible s (Gone t) = cond (t == s) (Some false) None
tells_invisible s d = None

-- whether it is hidden from those who aren't on its channels: user mode `i` (RFC 2812, section 3.1.5)
abbrev pub invisible : List Deed → ℕ → Bool
invisible fs s = newest (tells_invisible s) false fs

-- what is known of it while it registers
abbrev pub enrol : List Deed → ℕ → Enrolment
enrol fs s = record {
  nick = nick fs s;
  user = user fs s;
  hold = is_on_hold fs s;
  caps = caps fs s;
  exchange = exchange fs s;
  account = account fs s;
  registered = registered fs s;
}

-- the same after one fact more
abbrev pub enrol_after : ℕ → Deed → Enrolment → Enrolment
enrol_after s d e =
    record {
      nick = unwrap_or (tells_nick s d) e.nick;
      user = unwrap_or (tells_user s d) e.user;
      hold = unwrap_or (tells_held s d) e.hold;
      caps = unwrap_or (tells_caps s d) e.caps;
      exchange = unwrap_or (tells_exchange s d) e.exchange;
      account = unwrap_or (tells_account s d) e.account;
      registered = unwrap_or (tells_registered s d) e.registered;
    }

abbrev pub tells_why : ℕ → Deed → Option Why
tells_why s (Opened t h) = cond (t == s) (Some SendQ) None
tells_why s (Ended t w x) = cond (t == s) (Some w) None
tells_why s (Gone t) = cond (t == s) (Some SendQ) None
tells_why s d = None

-- why it ended; where that was never told its outbox was full
abbrev pub why : List Deed → ℕ → Why
why fs s = newest (tells_why s) SendQ fs

abbrev pub tells_parting : ℕ → Deed → Option (List ℕ)
tells_parting s (Opened t h) = cond (t == s) (Some []) None
tells_parting s (Ended t w x) = cond (t == s) (Some x) None
tells_parting s (Gone t) = cond (t == s) (Some []) None
tells_parting s d = None

-- the text that its client gave when it ended
abbrev pub parting_text : List Deed → ℕ → List ℕ
parting_text fs s = newest (tells_parting s) [] fs

abbrev pub is_named : Option (List ℕ) → List ℕ → Bool
is_named None n = false
is_named (Some m) n = is_same m n

-- the session that holds a nickname
abbrev pub holder : List Deed → List ℕ → Option ℕ
holder fs n = find (λ t. is_named (nick fs t) n) (opened_in fs)

abbrev pub when_registered : List Deed → Option ℕ → Option ℕ
when_registered fs None = None
when_registered fs (Some s) = cond (registered fs s) (Some s) None

-- the user of a nickname: the registered session that holds it
abbrev pub user_named : List Deed → List ℕ → Option ℕ
user_named fs n = when_registered fs (holder fs n)

-- ---- a channel, read back no further than the deed that made it

-- whether a session is on a channel
abbrev pub tells_seat : ℕ → Change → Option Bool
tells_seat s (change.Joined t) = cond (t == s) (Some true) None
tells_seat s (change.Left t) = cond (t == s) (Some false) None
tells_seat s x = None

abbrev pub tells_on : ℕ → List ℕ → Deed → Option Bool
tells_on s c (ChannelMade t k) = cond (is_same k c) (Some (t == s)) None
tells_on s c (Changed k x) = cond (is_same k c) (tells_seat s x) None
tells_on s c (Gone t) = cond (t == s) (Some false) None
tells_on s c d = None

abbrev pub on : List Deed → ℕ → List ℕ → Bool
on fs s c = newest (tells_on s c) false fs

-- a channel after one more fact. It ends with its last member, and what belonged to it is given back
abbrev pub state_after : Deed → List ℕ → State → State
state_after (ChannelMade t k) c st = cond (is_same k c) (made_by t) st
state_after (Changed k x) c st = cond (is_same k c) (or_nothing (with_change x st)) st
state_after (Gone t) c st = or_nothing (after_gone t st)
state_after d c st = st

-- a channel: who is on it and with which rank, its modes, topic and bans, and who is invited
abbrev pub state : List Deed → List ℕ → State
state [] c = nothing
state (d ∷ fs) c = state_after d c (state fs c)

-- those on a channel, in the order of joining
abbrev pub members : List Deed → List ℕ → List ℕ
members fs c = (state fs c).members

-- whether a session is a channel's operator, and whether it has a voice there, since it joined
abbrev pub is_operator : List Deed → ℕ → List ℕ → Bool
is_operator fs s c = among s (state fs c).operators

abbrev pub has_voice : List Deed → ℕ → List ℕ → Bool
has_voice fs s c = among s (state fs c).voices

-- whether a session is invited, and whether by an operator the last time
abbrev pub invited : List Deed → ℕ → List ℕ → Bool
invited fs s c = among s (state fs c).invited

abbrev pub has_pardon : List Deed → ℕ → List ℕ → Bool
has_pardon fs s c = among s (state fs c).pardoned

abbrev pub mode : List Deed → List ℕ → Modes
mode fs c = (state fs c).modes

abbrev pub topic : List Deed → List ℕ → Option (List ℕ)
topic fs c = (state fs c).topic

abbrev pub bans : List Deed → List ℕ → List (List ℕ)
bans fs c = (state fs c).bans

-- whether a channel is there: it has a member
abbrev pub has_member : List Deed → List ℕ → Bool
has_member fs c = is_some_one (members fs c)

abbrev pub tells_name : List ℕ → Deed → Option (List ℕ)
tells_name c (ChannelMade t k) = cond (is_same k c) (Some k) None
tells_name c d = None

-- a channel's name as it was first spelled
abbrev pub name : List Deed → List ℕ → List ℕ
name fs c = newest (tells_name c) c fs

-- the name of a channel that is there
abbrev pub name_of : List Deed → List ℕ → Option (List ℕ)
name_of fs c = cond (has_member fs c) (Some (name fs c)) None

-- the channels that are there, in the order of making. One ends with its last member
abbrev pub channels : List Deed → List (List ℕ)
channels [] = []
channels (ChannelMade t k ∷ fs) = channels fs ++ k ∷ []
channels (Changed k x ∷ fs) = filter (has_member (Changed k x ∷ fs)) (channels fs)
channels (Gone t ∷ fs) = filter (has_member (Gone t ∷ fs)) (channels fs)
channels (d ∷ fs) = channels fs

-- on how many channels a session is
abbrev pub channel_count : List Deed → ℕ → ℕ
channel_count fs s = length (filter (on fs s) (channels fs))

-- a name is taken out, however it is spelled, or put at the end
abbrev pub without_name : List ℕ → List (List ℕ) → List (List ℕ)
without_name c cs = filter (λ k. not (is_same k c)) cs

abbrev pub with_last_name : List ℕ → List (List ℕ) → List (List ℕ)
with_last_name c cs = without_name c cs ++ c ∷ []

abbrev pub is_join : ℕ → Change → Bool
is_join s (change.Joined t) = t == s
is_join s x = false

-- the channels that a session joined, by the last join of each. Who makes one joins it
abbrev pub joins : List Deed → ℕ → List (List ℕ)
joins [] s = []
joins (ChannelMade t k ∷ fs) s = cond (t == s) (with_last_name k (joins fs s)) (joins fs s)
joins (Changed k x ∷ fs) s = cond (is_join s x) (with_last_name k (joins fs s)) (joins fs s)
joins (d ∷ fs) s = joins fs s

-- a session's channels: those of them that it is on
abbrev pub channels_on : List Deed → ℕ → List (List ℕ)
channels_on fs s = filter (on fs s) (joins fs s)

-- ---- who shares a channel

-- whether two sessions share a channel
abbrev pub share : List Deed → ℕ → ℕ → Bool
share fs s t = list_any (λ c. on fs s c && on fs t c) (channels fs)

-- the other sessions that share a channel with s, each once, in order
abbrev pub sharers : List Deed → ℕ → List ℕ
sharers fs s = filter (λ t. share fs s t && not (s == t)) (opened_in fs)
