-- What a channel has, each by the newest fact that tells of it, read back no further than the fact that made the
-- channel: RFC 2811, sections 2 to 4.
use Rattle.std.specs.Prelude.{ℕ, Bool, true, false, ◌==◌, cond, List, Option, Some, None}
use Rattle.casemapping.specs.Fold.{is_same}
use Rattle.channel_state.specs.declared.change.Change.{Change}
use Rattle.channel_state.specs.declared.change.Change.TheVariants.{Joined, Left, RankSet, FlagSet, KeySet, LimitSet}
use Rattle.channel_state.specs.declared.change.Change.TheVariants.{TopicSet, BanSet, BanLifted, Invited}
use Rattle.channel_state.specs.declared.change.Rank.TheVariants.{Operator, Voice}
use Rattle.channel_state.specs.declared.modes.Flag.{Flag}
use Rattle.channel_state.specs.declared.modes.Flag.TheVariants.{InviteOnly, Moderated, NoOutside, Secret, TopicLocked}
use Rattle.roster.specs.declared.deed.Deed.{Deed}
use Rattle.roster.specs.declared.deed.Deed.TheVariants.{ChannelMade, Changed, Gone}
use Rattle.roster.specs.LookBack.{newest}

-- what a fact tells of channel c: what its making gives, what a change tells, and what is told where a session is gone
abbrev pub tells_of : {A : Type 0} → (ℕ → A) → (Change → Option A) → (ℕ → Option A) → List ℕ → Deed → Option A
tells_of made told gone c (ChannelMade t k) = cond (is_same k c) (Some (made t)) None
tells_of made told gone c (Changed k x) = cond (is_same k c) (told x) None
tells_of made told gone c (Gone t) = gone t
tells_of made told gone c d = None

abbrev pub topic_told : Change → Option (Option (List ℕ))
topic_told (TopicSet topic) = Some topic
topic_told x = None

-- the topic that was set last
abbrev pub last_topic : List Deed → List ℕ → Option (List ℕ)
last_topic fs c = newest (tells_of (λ t. None) topic_told (λ t. None) c) None fs

-- a new channel is closed to texts from outside, with a topic for operators
abbrev pub flag_made : Flag → Bool
flag_made NoOutside = true
flag_made TopicLocked = true
flag_made f = false

abbrev pub flag_told : Flag → Change → Option Bool
flag_told InviteOnly (FlagSet InviteOnly on) = Some on
flag_told Moderated (FlagSet Moderated on) = Some on
flag_told NoOutside (FlagSet NoOutside on) = Some on
flag_told Secret (FlagSet Secret on) = Some on
flag_told TopicLocked (FlagSet TopicLocked on) = Some on
flag_told f x = None

-- whether a flag was set, and not cleared since
abbrev pub last_flag : List Deed → Flag → List ℕ → Bool
last_flag fs f c = newest (tells_of (λ t. flag_made f) (flag_told f) (λ t. None) c) false fs

abbrev pub key_told : Change → Option (Option (List ℕ))
key_told (KeySet key) = Some key
key_told x = None

-- the key that was set last
abbrev pub last_key : List Deed → List ℕ → Option (List ℕ)
last_key fs c = newest (tells_of (λ t. None) key_told (λ t. None) c) None fs

abbrev pub limit_told : Change → Option (Option ℕ)
limit_told (LimitSet limit) = Some limit
limit_told x = None

-- the limit that was set last
abbrev pub last_limit : List Deed → List ℕ → Option ℕ
last_limit fs c = newest (tells_of (λ t. None) limit_told (λ t. None) c) None fs

abbrev pub ban_told : List ℕ → Change → Option Bool
ban_told m (BanSet b) = cond (is_same b m) (Some true) None
ban_told m (BanLifted b) = cond (is_same b m) (Some false) None
ban_told m x = None

-- whether a mask was banned, and not lifted since, however it is spelled
abbrev pub last_ban : List Deed → List ℕ → List ℕ → Bool
last_ban fs m c = newest (tells_of (λ t. false) (ban_told m) (λ t. None) c) false fs

-- what a session had it has no more when it is gone
abbrev pub gone_told : ℕ → ℕ → Option Bool
gone_told s t = cond (t == s) (Some false) None

abbrev pub operator_told : ℕ → Change → Option Bool
operator_told s (Joined t) = cond (t == s) (Some false) None
operator_told s (Left t) = cond (t == s) (Some false) None
operator_told s (RankSet t Operator on) = cond (t == s) (Some on) None
operator_told s x = None

-- whether a session is an operator since it joined last. Who makes a channel is one
abbrev pub last_operator : List Deed → ℕ → List ℕ → Bool
last_operator fs s c = newest (tells_of (λ t. t == s) (operator_told s) (gone_told s) c) false fs

abbrev pub voice_told : ℕ → Change → Option Bool
voice_told s (Joined t) = cond (t == s) (Some false) None
voice_told s (Left t) = cond (t == s) (Some false) None
voice_told s (RankSet t Voice on) = cond (t == s) (Some on) None
voice_told s x = None

-- whether a session has a voice since it joined last
abbrev pub last_voice : List Deed → ℕ → List ℕ → Bool
last_voice fs s c = newest (tells_of (λ t. false) (voice_told s) (gone_told s) c) false fs

abbrev pub invited_told : ℕ → Change → Option Bool
invited_told s (Joined t) = cond (t == s) (Some false) None
invited_told s (Invited t by_operator) = cond (t == s) (Some true) None
invited_told s x = None

-- whether a session was invited since it joined last
abbrev pub last_invited : List Deed → ℕ → List ℕ → Bool
last_invited fs s c = newest (tells_of (λ t. false) (invited_told s) (gone_told s) c) false fs

abbrev pub pardoned_told : ℕ → Change → Option Bool
pardoned_told s (Joined t) = cond (t == s) (Some false) None
pardoned_told s (Invited t by_operator) = cond (t == s) (Some by_operator) None
pardoned_told s x = None

-- whether the last of these invitations came from an operator
abbrev pub last_pardoned : List Deed → ℕ → List ℕ → Bool
last_pardoned fs s c = newest (tells_of (λ t. false) (pardoned_told s) (gone_told s) c) false fs
