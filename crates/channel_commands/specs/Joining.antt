-- What JOIN does: RFC 2812, section 3.2.1, and RFC 2811, section 4 (keys, limits, bans and invitations); IRCv3
-- extended-join and away-notify.
use Rattle.std.specs.Prelude.{ℕ, Bool, false, not, filter, ◌&&◌, nat_le, List, [], ◌∷◌}
use Rattle.std.specs.Prelude.{◌++◌, length, Option, Some, None, if◌then◌else◌}
use Rattle.std.specs.Str.{bytes_eq}
use Rattle.casemapping.specs.Names.{channel_shape}
use Rattle.channel_state.specs.declared.change.Change.TheVariants.{Joined}
use Rattle.channel_state.specs.State.{State, among, is_banned, made_by, with_change, without}
use Rattle.command_params.specs.declared.join_targets.JoinTarget.{JoinTarget}
use Rattle.numerics.specs.declared.numeric.Numeric.{Numeric}
use Rattle.numerics.specs.declared.numeric.Numeric.TheVariants.{NoSuchChannel, TooManyChannels, Topic}
use Rattle.registration.specs.declared.caps.Cap.TheVariants.{AwayNotify, ExtendedJoin}
use Rattle.registration.specs.declared.settings.Settings.{Settings}
use Rattle.roster.specs.declared.deed.Deed.{Deed}
use Rattle.roster.specs.declared.deed.Deed.TheVariants.{ChannelMade, Changed}
use Rattle.roster.specs.LookBack.{account, away, channel_count, real}
use Rattle.transactions.specs.declared.effect.Effect.{Effect}
use Rattle.transactions.specs.declared.effect.Effect.TheVariants.{Establish}
use Rattle.transactions.specs.Seen.{Seen}
use Rattle.transactions.specs.Hearers.{shows_to, takes}
use Rattle.transactions.specs.Lines.{prefix, join_line, extended_join_line, away_line}
use Rattle.transactions.specs.declared.denials.Denial.{Denial}
use Rattle.transactions.specs.declared.denials.Denial.TheVariants.{BadChannelKey, BannedFromChan}
use Rattle.transactions.specs.declared.denials.Denial.TheVariants.{InviteOnlyChan, ChannelIsFull}
use Rattle.transactions.specs.Denials.{numeric_for}
use Rattle.transactions.specs.Replies.{tells, tells_all}
use Rattle.query_commands.specs.Names.{names_told}
use Rattle.channel_commands.specs.Found.{channel_of}
use Rattle.channel_commands.specs.Each.{each_counted}

-- ---- who may join a channel that is there

abbrev pub has_other_key : Option (List ℕ) → List ℕ → Bool
has_other_key None key = false
has_other_key (Some k) key = not (bytes_eq k key)

-- a ban fits whoever joins. Whom an operator invited isn't stopped by it
abbrev pub is_stopped : State → ℕ → List ℕ → Bool
is_stopped k s from = is_banned k from && not (among s k.pardoned)

abbrev pub is_uninvited : State → ℕ → Bool
is_uninvited k s = k.modes.invite_only && not (among s k.invited)

abbrev pub has_members : Option ℕ → ℕ → Bool
has_members None n = false
has_members (Some limit) n = nat_le limit n

-- what bars it, the first that does
unfoldable pub bar_of : State → ℕ → List ℕ → List ℕ → Option Denial
bar_of k s from key =
    if has_other_key k.modes.key key then Some BadChannelKey
    else if is_stopped k s from then Some BannedFromChan
    else if is_uninvited k s then Some InviteOnlyChan
    else if has_members k.modes.limit (length k.members) then Some ChannelIsFull
    else None

-- ---- a session on a channel that it joined just now

abbrev pub topic_told : Seen → Option (List ℕ) → List Numeric
topic_told k None = []
topic_told k (Some topic) = Topic k.name topic ∷ []

-- what it is told: the topic, where there is one, and who is on the channel
abbrev pub arrival_told : Settings → List Deed → ℕ → Seen → List Numeric
arrival_told g fs0 s k = topic_told k k.state.topic ++ names_told g fs0 s k

-- the two forms in which a join is shown
abbrev pub takes_extended : List Deed → ℕ → Bool
takes_extended fs t = takes fs ExtendedJoin t

abbrev pub takes_plain : List Deed → ℕ → Bool
takes_plain fs t = not (takes fs ExtendedJoin t)

-- who takes extended-join is shown its account and real name, and all others that it joined
abbrev pub join_shown : List Deed → ℕ → List ℕ → Seen → List Effect
join_shown fs s from k =
    shows_to (filter (takes_plain fs) k.state.members) (join_line from k.name)
    ++ shows_to (filter (takes_extended fs) k.state.members)
    (extended_join_line from k.name (account fs s) (real fs s))

-- where it is away, the others that take away-notify are shown so
abbrev pub absence_shown : List Deed → ℕ → List ℕ → Seen → Option (List ℕ) → List Effect
absence_shown fs s from k None = []
absence_shown fs s from k (Some text) = shows_to (without s (filter (takes fs AwayNotify) k.state.members))
    (away_line from (Some text))

-- what members are shown, by the facts before the line
unfoldable pub arrival_shown : List Deed → ℕ → List ℕ → Seen → List Effect
arrival_shown fs0 s from k = join_shown fs0 s from k ++ absence_shown fs0 s from k (away fs0 s)

-- the members, and then it itself. Nicknames are those of the facts before the line, which JOIN doesn't change
unfoldable pub arrives : Settings → List Deed → List Deed → ℕ → List ℕ → Seen → List Effect
arrives g fs0 fs s from k = arrival_shown fs0 s from k ++ tells_all g fs s (arrival_told g fs0 s k)

-- ---- JOIN of one channel, by a session that is on n channels

-- it makes one that isn't there
abbrev pub makes : Settings → List Deed → List Deed → ℕ → List ℕ → List ℕ → List Effect
makes g fs0 fs s from c = Establish (ChannelMade s c) ∷ arrives g fs0 (ChannelMade s c ∷ fs) s from
    (record { name = c; state = made_by s })

abbrev pub enters : Settings → List Deed → List Deed → ℕ → List ℕ → Seen → List Effect
enters g fs0 fs s from k = Establish (Changed k.name (Joined s)) ∷ arrives g fs0
    (Changed k.name (Joined s) ∷ fs) s from (record { name = k.name; state = with_change (Joined s) k.state })

-- unless something bars it
abbrev pub enters_unless : Settings → List Deed → List Deed → ℕ → List ℕ → Seen → Option Denial → List Effect
enters_unless g fs0 fs s from k None = enters g fs0 fs s from k
enters_unless g fs0 fs s from k (Some bar) = tells g fs s (numeric_for bar k.name) ∷ []

abbrev pub joins_seen : Settings → List Deed → List Deed → ℕ → List ℕ → ℕ → JoinTarget → Option Seen → List Effect
joins_seen g fs0 fs s from n t None = if nat_le 20 n then tells g fs s (TooManyChannels t.channel) ∷ []
    else makes g fs0 fs s from t.channel
joins_seen g fs0 fs s from n t (Some k) =
    if among s k.state.members then []
    else if nat_le 20 n then tells g fs s (TooManyChannels k.name) ∷ []
    else enters_unless g fs0 fs s from k (bar_of k.state s from t.key)

abbrev pub joins_one : Settings → List Deed → ℕ → List ℕ → List Deed → ℕ → JoinTarget → List Effect
joins_one g fs0 s from fs n t =
    if not (channel_shape t.channel) then tells g fs s (NoSuchChannel t.channel) ∷ []
    else joins_seen g fs0 fs s from n t (channel_of fs t.channel)

-- ---- JOIN

abbrev pub joins : Settings → List Deed → ℕ → List JoinTarget → List Effect
joins g fs s ts = each_counted (joins_one g fs s (prefix fs s)) fs (channel_count fs s) ts
