-- What PRIVMSG, NOTICE and TAGMSG do: RFC 2812, sections 3.3.1 and 3.3.2, IRCv3 message-tags and IRCv3 echo-message;
-- and who may speak on a channel: RFC 2811, sections 4.2.3, 4.2.4 and 4.3.1.
use Rattle.std.specs.Prelude.{ℕ, Bool, true, not, ◌&&◌, ◌||◌, ◌==◌, nat_lt, List, [], ◌∷◌, ◌++◌}
use Rattle.std.specs.Prelude.{filter, length, slice_index_or, Option, Some, None, if◌then◌else◌}
use Rattle.std.specs.List.{flat_map}
use Rattle.channel_state.specs.State.{State, among, is_banned, without}
use Rattle.numerics.specs.declared.numeric.Numeric.{Numeric}
use Rattle.numerics.specs.declared.outgoing.Out.{Out}
use Rattle.numerics.specs.declared.numeric.Numeric.TheVariants.{NoSuchChannel, CannotSendToChan}
use Rattle.numerics.specs.declared.numeric.Numeric.TheVariants.{NoSuchNick, TooManyTargets}
use Rattle.registration.specs.declared.caps.Cap.TheVariants.{EchoMessage, MessageTags}
use Rattle.registration.specs.declared.settings.Settings.{Settings}
use Rattle.registration.specs.Caps.{is_on}
use Rattle.roster.specs.declared.deed.Deed.{Deed}
use Rattle.roster.specs.LookBack.{nick, away, caps, user_named, state, name_of}
use Rattle.transactions.specs.declared.effect.Effect.{Effect}
use Rattle.transactions.specs.declared.effect.Effect.TheVariants.{Answer, Show, Copy}
use Rattle.transactions.specs.Lines.{title, prefix}
use Rattle.transactions.specs.Replies.{away_told, tells}
pub use Rattle.transactions.specs.Targets.{names_channel}
use Rattle.talk_commands.specs.declared.verb.Verb.{Verb}
use Rattle.talk_commands.specs.declared.verb.Verb.TheVariants.{Privmsg, Notice, Tagmsg}
use Rattle.talk_commands.specs.Lines.{Sent, sent_line}

-- a numeric, which NOTICE never gets
abbrev pub answers : Settings → List Deed → ℕ → Verb → Numeric → List Effect
answers g fs s Notice n = []
answers g fs s v n = tells g fs s n ∷ []

-- ---- whom it reaches

-- TAGMSG reaches those alone who take tags, and nobody where it has none
abbrev pub is_reached : List Deed → Verb → List ℕ → ℕ → Bool
is_reached fs Tagmsg tags t = not (length tags == 0) && is_on (caps fs t) MessageTags
is_reached fs v tags t = true

abbrev pub reaches : List Deed → Sent → ℕ → Bool
reaches fs b t = is_reached fs b.verb b.tags t

-- its sender gets it back as a part of the answer, if it wants to
abbrev pub echoes : List Deed → ℕ → Sent → Out → List Effect
echoes fs s b l = if is_on (caps fs s) EchoMessage && reaches fs b s then Answer l ∷ [] else []

-- ---- a channel

-- whether a session may speak: a rank there lifts every bar
abbrev pub has_rank : State → ℕ → Bool
has_rank k s = among s k.operators || among s k.voices

abbrev pub is_barred : State → ℕ → List ℕ → Bool
is_barred k s source = k.modes.moderated || (k.modes.no_outside && not (among s k.members)) || is_banned k source

abbrev pub may_speak : State → ℕ → List ℕ → Bool
may_speak k s source = has_rank k s || not (is_barred k s source)

-- to the other members of a channel
abbrev pub shows : List Deed → ℕ → Sent → List ℕ → Out → List Effect
shows fs s b members l = Show (filter (reaches fs b) (without s members)) l ∷ echoes fs s b l

abbrev pub to_open : Settings → List Deed → ℕ → Sent → List ℕ → State → List Effect
to_open g fs s b n k =
    if may_speak k s (prefix fs s) then shows fs s b k.members (sent_line b (prefix fs s) n)
    else answers g fs s b.verb (CannotSendToChan n)

abbrev pub to_channel : Settings → List Deed → ℕ → Sent → List ℕ → Option (List ℕ) → List Effect
to_channel g fs s b c None = answers g fs s b.verb (NoSuchChannel c)
to_channel g fs s b c (Some n) = to_open g fs s b n (state fs c)

-- ---- a user

-- what a session sends to itself is given to it besides
abbrev pub keeps : List Deed → ℕ → Sent → Out → List Effect
keeps fs s b l = if reaches fs b s then Copy l ∷ [] else []

abbrev pub delivers : List Deed → ℕ → Sent → ℕ → Out → List Effect
delivers fs s b t l = (if t == s then keeps fs s b l else Show (filter (reaches fs b) (t ∷ [])) l ∷ [])
    ++ echoes fs s b l

-- the sender of a PRIVMSG is told that the user is away
abbrev pub tells_away : Settings → List Deed → ℕ → Verb → ℕ → Option (List ℕ) → List Effect
tells_away g fs s Privmsg t text = away_told g fs s (title (nick fs t)) text
tells_away g fs s v t text = []

abbrev pub to_user : Settings → List Deed → ℕ → Sent → List ℕ → Option ℕ → List Effect
to_user g fs s b n None = answers g fs s b.verb (NoSuchNick n)
to_user g fs s b n (Some t) = delivers fs s b t (sent_line b (prefix fs s) (title (nick fs t)))
    ++ tells_away g fs s b.verb t (away fs t)

-- ---- several targets

abbrev pub to_one : Settings → List Deed → ℕ → Sent → List ℕ → List Effect
to_one g fs s b target =
    if names_channel target then to_channel g fs s b target (name_of fs target)
    else to_user g fs s b target (user_named fs target)

-- to each target in turn, or to nobody where there are more than four
abbrev pub sends : Settings → List Deed → ℕ → Sent → List (List ℕ) → List Effect
sends g fs s b targets =
    if nat_lt 4 (length targets) then answers g fs s b.verb (TooManyTargets (slice_index_or targets 4 []))
    else flat_map (to_one g fs s b) targets
