-- What JOIN, PART, KICK, INVITE, TOPIC and MODE show, and to whom.
use Rattle.std.proofs.Common.{◌≡◌, ℕ, Bool, false, not, ◌&&◌, ◌==◌, nat_le, List, [], ◌∷◌}
use Rattle.std.proofs.Common.{filter, slice_get, Option, Some, None, refl}
use Rattle.std.specs.List.{list_any}
use Rattle.casemapping.specs.Names.{channel_shape}
use Rattle.channel_state.specs.declared.change.Change.TheVariants.{Joined, Left, Invited, TopicSet}
use Rattle.channel_state.specs.State.{among, with_change, made_by, without}
use Rattle.command_params.specs.declared.join_targets.JoinTarget.{JoinTarget}
use Rattle.numerics.specs.declared.numeric.Numeric.TheVariants.{Away, ChanOPrivsNeeded, Inviting, NoSuchChannel}
use Rattle.numerics.specs.declared.numeric.Numeric.TheVariants.{NoSuchNick, NotOnChannel, NoTopic, TooManyChannels}
use Rattle.numerics.specs.declared.numeric.Numeric.TheVariants.{TooManyTargets, Topic, UModeIs, UModeUnknownFlag}
use Rattle.numerics.specs.declared.numeric.Numeric.TheVariants.{UserNotInChannel, UserOnChannel, UsersDontMatch}
use Rattle.numerics.specs.declared.outgoing.Out.{Out}
use Rattle.registration.specs.declared.caps.Cap.TheVariants.{AwayNotify}
use Rattle.registration.specs.declared.settings.Settings.{Settings}
use Rattle.roster.specs.declared.deed.Deed.{Deed}
use Rattle.roster.specs.declared.deed.Deed.TheVariants.{ChannelMade, Changed, InvisibleSet}
use Rattle.roster.specs.LookBack.{account, after, away, channel_count, user_named, invisible, nick, real}
use Rattle.transactions.specs.declared.denials.Denial.{Denial}
use Rattle.transactions.specs.declared.effect.Effect.TheVariants.{Establish, Answer, Show}
use Rattle.transactions.specs.Denials.{numeric_for}
use Rattle.transactions.specs.Effects.{deeds_of}
use Rattle.transactions.specs.Hearers.{shows_to, takes}
use Rattle.transactions.specs.Lines.{away_line, extended_join_line, join_line, prefix, title}
use Rattle.transactions.specs.Replies.{tells, tells_all}
use Rattle.transactions.specs.Seen.{Seen, seen}
use Rattle.channel_commands.specs.Found.{channel_of, user_of}
use Rattle.channel_commands.specs.Inviting.{away_told, invites, invites_found, invites_seen, invites_user}
use Rattle.channel_commands.specs.Joining.{absence_shown, bar_of, arrives, enters, enters_unless}
use Rattle.channel_commands.specs.Joining.{arrival_shown, join_shown, joins, joins_one, joins_seen, makes}
use Rattle.channel_commands.specs.Joining.{takes_extended, takes_plain, arrival_told}
use Rattle.channel_commands.specs.Leaving.{kick_text, kicks, kicks_each, kicks_found, kicks_one, kicks_seen}
use Rattle.channel_commands.specs.Leaving.{kicks_user, parts, parts_one, parts_seen}
use Rattle.channel_leaving.specs.Leaving.{leaves}
use Rattle.channel_commands.specs.Lines.{invite_line, kick_line, part_line, topic_line}
use Rattle.channel_commands.specs.Topics.{sets_topic, topic_of, topic_served, topic_shown}
use Rattle.channel_commands.specs.Topics.{topic_text, topics, topics_seen}
use Rattle.mode_commands.specs.declared.letters.ModeChange.{ModeChange}
use Rattle.mode_commands.specs.declared.steps.ModeStep.{ModeStep}
use Rattle.mode_commands.specs.declared.steps.ModeStep.TheVariants as step
use Rattle.mode_commands.specs.ChannelModes.{asks_bans, ban_numerics, channel_modes, does, does_changes}
use Rattle.mode_commands.specs.ChannelModes.{refusal_numeric, shows_changes, takes_changes, tells_modes}
use Rattle.mode_commands.specs.ChannelModes as modes_of
use Rattle.mode_commands.specs.Letters.{asked_changes, asks}
use Rattle.mode_commands.specs.Lines.{mode_line}
use Rattle.mode_commands.specs.Modes.{modes, names_channel, of_channel, of_user}
use Rattle.mode_commands.specs.Steps.{agree, all_shown, steps}
use Rattle.mode_commands.specs.UserModes.{hides, invisible_after, is_known, modes_text}
use Rattle.mode_commands.specs.UserModes.{own_modes, tells_unknown}
use Rattle.record_laws.specs.Laws.{IsEachOnce}
use Rattle.roster.proofs.OnceLaws.{eq, distinct-one, once_changed}
use Rattle.record_laws.proofs.Once.{once-filter, once-without}
use Rattle.record_laws.proofs.Fits.{Fit, SeenOnce, either, found_once, in_turn, in_turn_counted, is_batch, joined}
use Rattle.record_laws.proofs.Fits.{more, none, only, seen_once, some_shown, told, told_all, told_only}

-- ---- JOIN

arrival : (fs : List Deed) (s : ℕ) (from : List ℕ) (k : Seen) → IsEachOnce k.state.members
    → Fit (arrival_shown fs s from k)
unfolding arrival_shown
arrival fs s from k once = joined (join_shown fs s from k) (absence_shown fs s from k (away fs s)) both
    (absence (away fs s))
  where
    members : (p : ℕ → Bool) → IsEachOnce (filter p k.state.members)
    members p = once-filter p k.state.members once

    some : (p : ℕ → Bool) (l : Out) → is_batch l ≡ false → Fit (shows_to (filter p k.state.members) l)
    some p l plain = some_shown (filter p k.state.members) l (members p) plain

    both : Fit (join_shown fs s from k)
    both =
        let plain = join_line from k.name in
        let extended = extended_join_line from k.name (account fs s) (real fs s) in
        joined (shows_to (filter (takes_plain fs) k.state.members) plain)
        (shows_to (filter (takes_extended fs) k.state.members) extended) (some (takes_plain fs) plain refl)
        (some (takes_extended fs) extended refl)

    absence : (text : Option (List ℕ)) → Fit (absence_shown fs s from k text)
    absence None = none
    absence (Some text) =
        let takers = filter (takes fs AwayNotify) k.state.members in
        some_shown (without s takers) (away_line from (Some text))
        (once-without s takers (members (takes fs AwayNotify))) refl

entry : (g : Settings) (fs0 fs : List Deed) (s : ℕ) (from : List ℕ) (k : Seen) → IsEachOnce k.state.members
    → Fit (arrives g fs0 fs s from k)
unfolding arrives
entry g fs0 fs s from k once = joined (arrival_shown fs0 s from k) (tells_all g fs s (arrival_told g fs0 s k))
    (arrival fs0 s from k once) (told_all g fs s (arrival_told g fs0 s k))

making : (g : Settings) (fs0 fs : List Deed) (s : ℕ) (from c : List ℕ) → Fit (makes g fs0 fs s from c)
making g fs0 fs s from c =
    let k : Seen = record { name = c; state = made_by s } in
    more (Establish (ChannelMade s c)) (arrives g fs0 (ChannelMade s c ∷ fs) s from k) refl
    (entry g fs0 (ChannelMade s c ∷ fs) s from k (distinct-one eq s))

entering : (g : Settings) (fs0 fs : List Deed) (s : ℕ) (from : List ℕ) (k : Seen) → IsEachOnce k.state.members
    → Fit (enters g fs0 fs s from k)
entering g fs0 fs s from k once =
    let joined_now : Seen = record { name = k.name; state = with_change (Joined s) k.state } in
    let d = Changed k.name (Joined s) in
    more (Establish d) (arrives g fs0 (d ∷ fs) s from joined_now) refl
    (entry g fs0 (d ∷ fs) s from joined_now (once_changed (Joined s) k.state once))

unless_barred : (g : Settings) (fs0 fs : List Deed) (s : ℕ) (from : List ℕ) (k : Seen) (bar : Option Denial)
    → IsEachOnce k.state.members → Fit (enters_unless g fs0 fs s from k bar)
unless_barred g fs0 fs s from k None once = entering g fs0 fs s from k once
unless_barred g fs0 fs s from k (Some bar) once = told_only g fs s (numeric_for bar k.name)

joining_seen : (g : Settings) (fs0 fs : List Deed) (s : ℕ) (from : List ℕ) (n : ℕ) (t : JoinTarget)
    (o : Option Seen) → SeenOnce o → Fit (joins_seen g fs0 fs s from n t o)
joining_seen g fs0 fs s from n t None once =
    either (nat_le 20 n) (tells g fs s (TooManyChannels t.channel) ∷ []) (makes g fs0 fs s from t.channel)
    (told_only g fs s (TooManyChannels t.channel)) (making g fs0 fs s from t.channel)
joining_seen g fs0 fs s from n t (Some k) once =
    let bar = bar_of k.state s from t.key in
    either (among s k.state.members) [] _ none
    (either (nat_le 20 n) (tells g fs s (TooManyChannels k.name) ∷ []) (enters_unless g fs0 fs s from k bar)
    (told_only g fs s (TooManyChannels k.name)) (unless_barred g fs0 fs s from k bar once))

joining_one : (g : Settings) (fs0 : List Deed) (s : ℕ) (from : List ℕ) (fs : List Deed) (n : ℕ) (t : JoinTarget)
    → Fit (joins_one g fs0 s from fs n t)
joining_one g fs0 s from fs n t =
    either (not (channel_shape t.channel)) (tells g fs s (NoSuchChannel t.channel) ∷ [])
    (joins_seen g fs0 fs s from n t (channel_of fs t.channel))
    (told_only g fs s (NoSuchChannel t.channel))
    (joining_seen g fs0 fs s from n t (channel_of fs t.channel) (found_once fs t.channel))

pub joining : (g : Settings) (fs : List Deed) (s : ℕ) (ts : List JoinTarget) → Fit (joins g fs s ts)
joining g fs s ts = in_turn_counted (joins_one g fs s (prefix fs s)) (joining_one g fs s (prefix fs s)) fs
    (channel_count fs s) ts

-- ---- PART and KICK

leaving : (k : Seen) (t : ℕ) (l : Out) → IsEachOnce k.state.members → is_batch l ≡ false → Fit (leaves k t l)
leaving k t l once p = let d = Establish (Changed k.name (Left t)) in
    more (Show k.state.members l) (d ∷ []) (once, p) (only d refl)

part_plain : (from c text : List ℕ) → is_batch (part_line from c text) ≡ false
part_plain from c [] = refl
part_plain from c (x ∷ xs) = refl

parting_seen : (g : Settings) (fs : List Deed) (s : ℕ) (from text c : List ℕ) (o : Option Seen) → SeenOnce o
    → Fit (parts_seen g fs s from text c o)
parting_seen g fs s from text c None once = told_only g fs s (NoSuchChannel c)
parting_seen g fs s from text c (Some k) once =
    let l = part_line from k.name text in
    either (not (among s k.state.members)) (tells g fs s (NotOnChannel k.name) ∷ []) (leaves k s l)
    (told_only g fs s (NotOnChannel k.name)) (leaving k s l once (part_plain from k.name text))

parting_one : (g : Settings) (s : ℕ) (from text : List ℕ) (fs : List Deed) (c : List ℕ)
    → Fit (parts_one g s from text fs c)
parting_one g s from text fs c = parting_seen g fs s from text c (channel_of fs c) (found_once fs c)

pub parting : (g : Settings) (fs : List Deed) (s : ℕ) (cs : List (List ℕ)) (text : List ℕ) → Fit (parts g fs s cs text)
parting g fs s cs text = in_turn (parts_one g s (prefix fs s) text) (parting_one g s (prefix fs s) text) fs cs

kicking_user : (g : Settings) (fs0 fs : List Deed) (s : ℕ) (from text c : List ℕ) (t : ℕ) (o : Option Seen)
    → SeenOnce o → Fit (kicks_user g fs0 fs s from text c t o)
kicking_user g fs0 fs s from text c t None once = told_only g fs s (UserNotInChannel (title (nick fs0 t)) c)
kicking_user g fs0 fs s from text c t (Some k) once =
    let l = kick_line from c (title (nick fs0 t)) text in let no = UserNotInChannel (title (nick fs0 t)) c in
    either (not (among t k.state.members)) (tells g fs s no ∷ []) (leaves k t l) (told_only g fs s no)
    (leaving k t l once refl)

kicking_found : (g : Settings) (fs0 fs : List Deed) (s : ℕ) (from text c n : List ℕ) (o : Option ℕ)
    → Fit (kicks_found g fs0 fs s from text c n o)
kicking_found g fs0 fs s from text c n None = told_only g fs s (NoSuchNick n)
kicking_found g fs0 fs s from text c n (Some t) = kicking_user g fs0 fs s from text c t (channel_of fs c)
    (found_once fs c)

kicking_one : (g : Settings) (fs0 : List Deed) (s : ℕ) (from text c : List ℕ) (fs : List Deed) (n : List ℕ)
    → Fit (kicks_one g fs0 s from text c fs n)
kicking_one g fs0 s from text c fs n = kicking_found g fs0 fs s from text c n (user_of fs0 n)

kicking_each : (g : Settings) (fs : List Deed) (s : ℕ) (ns : List (List ℕ)) (text c : List ℕ) (o : Option (List ℕ))
    → Fit (kicks_each g fs s ns text c o)
kicking_each g fs s ns text c None = let words = kick_text fs s text in
    in_turn (kicks_one g fs s (prefix fs s) words c) (kicking_one g fs s (prefix fs s) words c) fs ns
kicking_each g fs s ns text c (Some fifth) = told_only g fs s (TooManyTargets fifth)

kicking_seen : (g : Settings) (fs : List Deed) (s : ℕ) (ns : List (List ℕ)) (text c : List ℕ) (o : Option Seen)
    → Fit (kicks_seen g fs s ns text c o)
kicking_seen g fs s ns text c None = told_only g fs s (NoSuchChannel c)
kicking_seen g fs s ns text c (Some k) =
    either (not (among s k.state.members)) (tells g fs s (NotOnChannel k.name) ∷ []) _
    (told_only g fs s (NotOnChannel k.name))
    (either (not (among s k.state.operators)) (tells g fs s (ChanOPrivsNeeded k.name) ∷ [])
    (kicks_each g fs s ns text k.name (slice_get ns 4)) (told_only g fs s (ChanOPrivsNeeded k.name))
    (kicking_each g fs s ns text k.name (slice_get ns 4)))

pub kicking : (g : Settings) (fs : List Deed) (s : ℕ) (c : List ℕ) (ns : List (List ℕ)) (text : List ℕ)
    → Fit (kicks g fs s c ns text)
kicking g fs s c ns text = kicking_seen g fs s ns text c (channel_of fs c)

-- ---- INVITE

away_fits : (g : Settings) (fs : List Deed) (s : ℕ) (n : List ℕ) (o : Option (List ℕ)) → Fit (away_told g fs s n o)
away_fits g fs s n None = none
away_fits g fs s n (Some text) = told_only g fs s (Away n text)

inviting_user : (g : Settings) (fs : List Deed) (s t : ℕ) (n : List ℕ) (k : Seen) → Fit (invites_user g fs s t n k)
inviting_user g fs s t n k =
    let d = Establish (Changed k.name (Invited t (among s k.state.operators))) in
    let rest = away_told g fs s n (away fs t) in
    more (Show (t ∷ []) (invite_line (prefix fs s) n k.name)) (d ∷ tells g fs s (Inviting n k.name) ∷ rest)
    (distinct-one eq t, refl)
    (more d (tells g fs s (Inviting n k.name) ∷ rest) refl (more (tells g fs s (Inviting n k.name)) rest
    (told g fs s (Inviting n k.name)) (away_fits g fs s n (away fs t))))

inviting_seen : (g : Settings) (fs : List Deed) (s t : ℕ) (n c : List ℕ) (o : Option Seen)
    → Fit (invites_seen g fs s t n c o)
inviting_seen g fs s t n c None = told_only g fs s (NoSuchChannel c)
inviting_seen g fs s t n c (Some k) =
    either (not (among s k.state.members)) (tells g fs s (NotOnChannel k.name) ∷ []) _
    (told_only g fs s (NotOnChannel k.name))
    (either (among t k.state.members) (tells g fs s (UserOnChannel n k.name) ∷ []) _
    (told_only g fs s (UserOnChannel n k.name))
    (either (k.state.modes.invite_only && not (among s k.state.operators))
    (tells g fs s (ChanOPrivsNeeded k.name) ∷ []) (invites_user g fs s t n k)
    (told_only g fs s (ChanOPrivsNeeded k.name)) (inviting_user g fs s t n k)))

inviting_found : (g : Settings) (fs : List Deed) (s : ℕ) (n c : List ℕ) (o : Option ℕ)
    → Fit (invites_found g fs s n c o)
inviting_found g fs s n c None = told_only g fs s (NoSuchNick n)
inviting_found g fs s n c (Some t) = inviting_seen g fs s t (title (nick fs t)) c (channel_of fs c)

pub inviting : (g : Settings) (fs : List Deed) (s : ℕ) (n c : List ℕ) → Fit (invites g fs s n c)
inviting g fs s n c = inviting_found g fs s n c (user_of fs n)

-- ---- TOPIC

showing_topic : (g : Settings) (fs : List Deed) (s : ℕ) (c : List ℕ) (o : Option (List ℕ))
    → Fit (topic_shown g fs s c o)
showing_topic g fs s c None = told_only g fs s (NoTopic c)
showing_topic g fs s c (Some topic) = told_only g fs s (Topic c topic)

setting_topic : (fs : List Deed) (s : ℕ) (k : Seen) (text : List ℕ) → IsEachOnce k.state.members
    → Fit (sets_topic fs s k text)
setting_topic fs s k text once =
    let d = Establish (Changed k.name (TopicSet (topic_of text))) in
    let show = Show k.state.members (topic_line (prefix fs s) k.name text) in
    more d (show ∷ []) refl (only show (once, refl))

serving_topic : (g : Settings) (fs : List Deed) (s : ℕ) (k : Seen) (o : Option (List ℕ))
    → IsEachOnce k.state.members → Fit (topic_served g fs s k o)
unfolding topic_served
serving_topic g fs s k None once = showing_topic g fs s k.name k.state.topic
serving_topic g fs s k (Some text) once =
    either (k.state.modes.topic_locked && not (among s k.state.operators))
    (tells g fs s (ChanOPrivsNeeded k.name) ∷ []) (sets_topic fs s k (topic_text text))
    (told_only g fs s (ChanOPrivsNeeded k.name)) (setting_topic fs s k (topic_text text) once)

topic_seen : (g : Settings) (fs : List Deed) (s : ℕ) (c : List ℕ) (text : Option (List ℕ)) (o : Option Seen)
    → SeenOnce o → Fit (topics_seen g fs s c text o)
topic_seen g fs s c text None once = told_only g fs s (NoSuchChannel c)
topic_seen g fs s c text (Some k) once =
    either (not (among s k.state.members)) (tells g fs s (NotOnChannel k.name) ∷ []) (topic_served g fs s k text)
    (told_only g fs s (NotOnChannel k.name)) (serving_topic g fs s k text once)

pub topic : (g : Settings) (fs : List Deed) (s : ℕ) (c : List ℕ) (text : Option (List ℕ)) → Fit (topics g fs s c text)
topic g fs s c text = topic_seen g fs s c text (channel_of fs c) (found_once fs c)

-- ---- MODE

doing : (g : Settings) (s : ℕ) (c : List ℕ) (fs : List Deed) (x : ModeStep) → Fit (does g s c fs x)
doing g s c fs step.Nothing = none
doing g s c fs (step.Refused why) = told_only g fs s (refusal_numeric c why)
doing g s c fs (step.Changes x shown) = only (Establish (Changed c x)) refl

doing_each : (g : Settings) (s : ℕ) (c : List ℕ) (fs : List Deed) (xs : List ModeStep)
    → Fit (modes_of.in_turn g s c fs xs)
doing_each g s c fs [] = none
doing_each g s c fs (x ∷ xs) = let later = after fs (deeds_of (does g s c fs x)) in
    joined (does g s c fs x) (modes_of.in_turn g s c later xs) (doing g s c fs x) (doing_each g s c later xs)

showing_changes : (from c : List ℕ) (members : List ℕ) (bs : List ModeChange) → IsEachOnce members
    → Fit (shows_changes from c members bs)
showing_changes from c members [] once = none
showing_changes from c members (a ∷ bs) once = only (Show members (mode_line from c (a ∷ bs))) (once, refl)

changing : (g : Settings) (fs : List Deed) (s : ℕ) (k : Seen) (bs : List ModeChange) → IsEachOnce k.state.members
    → Fit (takes_changes g fs s k bs)
changing g fs s k bs once =
    let xs = steps fs k.state bs in
    joined (modes_of.in_turn g s k.name fs xs) (shows_changes (prefix fs s) k.name k.state.members (all_shown xs))
    (doing_each g s k.name fs xs) (showing_changes (prefix fs s) k.name k.state.members (all_shown xs) once)

changing_by : (g : Settings) (fs : List Deed) (s : ℕ) (k : Seen) (bs : List ModeChange) → IsEachOnce k.state.members
    → Fit (does_changes g fs s k bs)
changing_by g fs s k bs once =
    either (asks_bans bs) (tells_all g fs s (ban_numerics k)) _ (told_all g fs s (ban_numerics k))
    (either (among s k.state.operators) (takes_changes g fs s k bs) (tells g fs s (ChanOPrivsNeeded k.name) ∷ [])
    (changing g fs s k bs once) (told_only g fs s (ChanOPrivsNeeded k.name)))

of_a_channel : (g : Settings) (fs : List Deed) (s : ℕ) (k : Seen) (changes : List (List ℕ))
    → IsEachOnce k.state.members → Fit (channel_modes g fs s k changes)
of_a_channel g fs s k [] once = only (tells_modes g fs s k) (told g fs s _)
of_a_channel g fs s k (letters ∷ params) once = changing_by g fs s k (asked_changes letters params) once

if_a_channel : (g : Settings) (fs : List Deed) (s : ℕ) (target : List ℕ) (changes : List (List ℕ)) (o : Option Seen)
    → SeenOnce o → Fit (of_channel g fs s target changes o)
if_a_channel g fs s target changes None once = told_only g fs s (NoSuchChannel target)
if_a_channel g fs s target changes (Some k) once = of_a_channel g fs s k changes once

hiding : (fs : List Deed) (s : ℕ) (is : Bool) → Fit (hides fs s is)
hiding fs s is =
    let d = Establish (InvisibleSet s is) in
    let l = Answer (mode_line (prefix fs s) (title (nick fs s)) (asks is 105 None)) in
    either (agree is (invisible fs s)) [] (d ∷ l ∷ []) none (more d (l ∷ []) refl (only l refl))

telling_unknown : (g : Settings) (fs : List Deed) (s : ℕ) (bs : List ModeChange) → Fit (tells_unknown g fs s bs)
telling_unknown g fs s bs = either (list_any (λ a. not (is_known a)) bs) (tells g fs s UModeUnknownFlag ∷ []) []
    (told_only g fs s UModeUnknownFlag) none

own : (g : Settings) (fs : List Deed) (s : ℕ) (changes : List (List ℕ)) → Fit (own_modes g fs s changes)
own g fs s [] = told_only g fs s (UModeIs (modes_text (invisible fs s)))
own g fs s (letters ∷ params) =
    let bs = asked_changes letters [] in let is = invisible_after (invisible fs s) bs in
    joined (tells_unknown g fs s bs) (hides fs s is) (telling_unknown g fs s bs) (hiding fs s is)

if_a_user : (g : Settings) (fs : List Deed) (s : ℕ) (target : List ℕ) (changes : List (List ℕ)) (o : Option ℕ)
    → Fit (of_user g fs s target changes o)
if_a_user g fs s target changes None = told_only g fs s (NoSuchNick target)
if_a_user g fs s target changes (Some t) = either (t == s) (own_modes g fs s changes)
    (tells g fs s UsersDontMatch ∷ []) (own g fs s changes) (told_only g fs s UsersDontMatch)

pub moding : (g : Settings) (fs : List Deed) (s : ℕ) (target : List ℕ) (changes : List (List ℕ))
    → Fit (modes g fs s target changes)
moding g fs s target changes =
    either (names_channel target) (of_channel g fs s target changes (seen fs target)) (of_user g fs s target changes
    (user_named fs target)) (if_a_channel g fs s target changes (seen fs target) (seen_once fs target))
    (if_a_user g fs s target changes (user_named fs target))
