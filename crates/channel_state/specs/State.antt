-- A channel: who is on it and with which rank, its modes, topic and bans, and who is invited: RFC 2811, sections 2
-- to 4.
use Rattle.std.specs.Prelude.{ℕ, Bool, true, false, not, ◌==◌, cond, List, [], ◌∷◌, ◌++◌, filter, Option, None}
use Rattle.std.specs.List.{list_any}
use Rattle.casemapping.specs.Fold.{is_same}
use Rattle.casemapping.specs.Mask.{fits}
use Rattle.channel_state.specs.declared.modes.Flag.{Flag}
use Rattle.channel_state.specs.declared.modes.Flag.TheVariants.{InviteOnly, Moderated, NoOutside, Secret, TopicLocked}
use Rattle.channel_state.specs.declared.modes.Modes.{Modes}
use Rattle.channel_state.specs.declared.change.Rank.TheVariants.{Operator, Voice}
use Rattle.channel_state.specs.declared.change.Change.{Change}
use Rattle.channel_state.specs.declared.change.Change.TheVariants.{Joined, Left, RankSet, FlagSet, KeySet, LimitSet}
use Rattle.channel_state.specs.declared.change.Change.TheVariants.{TopicSet, BanSet, BanLifted, Invited}

pub record State : Type 0 where
  -- sessions, in the order of joining
  pub members : List ℕ
  -- those of them with a rank
  pub operators : List ℕ
  pub voices : List ℕ
  -- the sessions that are invited, and those of them whose last invitation came from an operator
  pub invited : List ℕ
  pub pardoned : List ℕ
  pub modes : Modes
  pub topic : Option (List ℕ)
  -- masks, in the order of setting
  pub bans : List (List ℕ)

-- ---- sessions

abbrev pub among : ℕ → List ℕ → Bool
among t ts = list_any (λ u. u == t) ts

abbrev pub without : ℕ → List ℕ → List ℕ
without s ts = filter (λ t. not (t == s)) ts

-- a session is put at the end
abbrev pub with_last : ℕ → List ℕ → List ℕ
with_last t ts = without t ts ++ t ∷ []

abbrev pub is_some_one : List ℕ → Bool
is_some_one [] = false
is_some_one (t ∷ ts) = true

abbrev pub with_rank : ℕ → Bool → List ℕ → List ℕ
with_rank t on ts = cond on (with_last t ts) (without t ts)

-- ---- modes

abbrev pub no_modes : Modes
no_modes = record {
  invite_only = false;
  moderated = false;
  no_outside = false;
  secret = false;
  topic_locked = false;
  key = None;
  limit = None;
}

-- whether a flag is set
abbrev pub is_set : Flag → Modes → Bool
is_set InviteOnly m = m.invite_only
is_set Moderated m = m.moderated
is_set NoOutside m = m.no_outside
is_set Secret m = m.secret
is_set TopicLocked m = m.topic_locked

-- a flag is set or cleared
abbrev pub with_flag : Flag → Bool → Modes → Modes
with_flag InviteOnly on m = record m { invite_only = on }
with_flag Moderated on m = record m { moderated = on }
with_flag NoOutside on m = record m { no_outside = on }
with_flag Secret on m = record m { secret = on }
with_flag TopicLocked on m = record m { topic_locked = on }

-- ---- a channel

-- one that isn't there: nobody is on it
abbrev pub nothing : State
nothing = record {
  members = [];
  operators = [];
  voices = [];
  invited = [];
  pardoned = [];
  modes = no_modes;
  topic = None;
  bans = [];
}

-- one that a session made: it is its operator, and the channel is closed to texts from outside, with a topic for
-- operators
abbrev pub made_by : ℕ → State
made_by t = record nothing {
  members = t ∷ [];
  operators = t ∷ [];
  modes = record no_modes { no_outside = true; topic_locked = true };
}

-- whether a ban fits a source, nick!user@host
abbrev pub is_banned : State → List ℕ → Bool
is_banned k source = list_any (λ mask. fits mask source) k.bans

-- a session's invitation is used up
abbrev pub invite_used : ℕ → State → State
invite_used t k = record k { invited = without t k.invited; pardoned = without t k.pardoned }

-- a session is on it no more, and has no rank there
abbrev pub left_by : ℕ → State → State
left_by t k = record k {
  members = without t k.members;
  operators = without t k.operators;
  voices = without t k.voices;
}

-- what a change makes of it. Who joins uses its invitation up
abbrev pub with_change : Change → State → State
with_change (Joined t) k = invite_used t (record k { members = with_last t k.members })
with_change (Left t) k = left_by t k
with_change (RankSet t Operator on) k = record k { operators = with_rank t on k.operators }
with_change (RankSet t Voice on) k = record k { voices = with_rank t on k.voices }
with_change (FlagSet flag on) k = record k { modes = with_flag flag on k.modes }
with_change (KeySet key) k = record k { modes = record k.modes { key = key } }
with_change (LimitSet limit) k = record k { modes = record k.modes { limit = limit } }
with_change (TopicSet topic) k = record k { topic = topic }
with_change (BanSet mask) k = record k { bans = k.bans ++ mask ∷ [] }
with_change (BanLifted mask) k = record k { bans = filter (λ m. not (is_same m mask)) k.bans }
with_change (Invited t by_operator) k = record k {
  invited = with_last t k.invited;
  pardoned = with_rank t by_operator k.pardoned;
}

-- a session is gone from it
abbrev pub after_gone : ℕ → State → State
after_gone t k = invite_used t (left_by t k)

-- a channel ends with its last member
abbrev pub or_nothing : State → State
or_nothing k = cond (is_some_one k.members) k nothing
