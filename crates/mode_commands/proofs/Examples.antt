-- The definitions at work, computed: a user who made a channel, and another on it.
use Rattle.std.proofs.Common.{◌≡◌, ℕ, pos, true, false, List, [], ◌∷◌, codes, decimal, Some, None, refl}
use Rattle.casemapping.specs.Fold.{fold_of, is_same}
use Rattle.numerics.specs.declared.numeric.Numeric.{Numeric}
use Rattle.numerics.specs.declared.numeric.Numeric.TheVariants.{UModeIs, ChannelModeIs, BanList, EndOfBanList}
use Rattle.numerics.specs.declared.numeric.Numeric.TheVariants.{NoSuchNick, NoSuchChannel, NeedMoreParams, UnknownMode}
use Rattle.numerics.specs.declared.numeric.Numeric.TheVariants.{ChanOPrivsNeeded, UModeUnknownFlag, UsersDontMatch}
use Rattle.numerics.specs.Numerics.{numeric}
use Rattle.numerics.specs.Outgoing.{line}
use Rattle.registration.specs.declared.settings.Settings.{Settings}
use Rattle.channel_state.specs.declared.modes.Flag.TheVariants.{InviteOnly, NoOutside}
use Rattle.channel_state.specs.declared.change.Rank.TheVariants.{Operator, Voice}
use Rattle.channel_state.specs.declared.change.Change.TheVariants.{Joined, RankSet, FlagSet, KeySet}
use Rattle.channel_state.specs.declared.change.Change.TheVariants.{LimitSet, BanSet, BanLifted}
use Rattle.roster.specs.declared.deed.Deed.{Deed}
use Rattle.roster.specs.declared.deed.Deed.TheVariants.{Opened, NickSet, UserSet, Enrolled}
use Rattle.roster.specs.declared.deed.Deed.TheVariants.{InvisibleSet, ChannelMade, Changed}
use Rattle.transactions.specs.declared.effect.Effect.{Effect}
use Rattle.transactions.specs.declared.effect.Effect.TheVariants.{Establish, Answer, Show}
use Rattle.transactions.specs.Lines.{prefix}
use Rattle.mode_commands.specs.Parameters.{full_mask, is_key, limit_of}
use Rattle.mode_commands.specs.Steps.{flag_of, step}
use Rattle.mode_commands.specs.Lines.{letters_set}
use Rattle.mode_commands.specs.Modes.{modes}

abbrev server : Settings
server = record {
  server = codes "irc.example";
  info = codes "halld";
  version = codes "halld-1";
  created = pos 0;
  motd = None;
  accounts = [];
  sessions = 1024;
}

-- the newest fact stands first
abbrev enters : ℕ → List ℕ → List ℕ → List ℕ → List Deed → List Deed
enters s nick user host fs = Enrolled s ∷ UserSet s user nick ∷ NickSet s nick ∷ Opened s host ∷ fs

abbrev meets : List Deed
meets = Changed (codes "#a") (Joined 2) ∷ ChannelMade 1 (codes "#a") ∷ enters 2 (codes "bo") (codes "b")
    (codes "h2") (enters 1 (codes "al") (codes "a") (codes "h1") [])

abbrev says : ℕ → List Deed → List ℕ → List (List ℕ) → List Effect
says s fs target changes = modes server fs s target changes

abbrev told : List ℕ → Numeric → Effect
told nick n = Answer (numeric (codes "irc.example") nick n)

abbrev changes : List ℕ → List (List ℕ)
changes letters = letters ∷ []

-- six letters, of which one is unknown and one has no effect
six_letters : says 1 meets (codes "#A") (codes "+vxi-n+tk" ∷ codes "BO" ∷ codes "secret" ∷ [])
    ≡ Establish (Changed (codes "#a") (RankSet 2 Voice true)) ∷ told (codes "al") (UnknownMode 120 (codes "#a"))
    ∷ Establish (Changed (codes "#a") (FlagSet InviteOnly true))
    ∷ Establish (Changed (codes "#a") (FlagSet NoOutside false))
    ∷ Establish (Changed (codes "#a") (KeySet (Some (codes "secret")))) ∷ Show (1 ∷ 2 ∷ []) (line (codes "al!a@h1")
    (codes "MODE") (codes "#a" ∷ codes "+vi-n+k" ∷ codes "bo" ∷ codes "secret" ∷ []) false) ∷ []
unfolding fold_of is_same prefix full_mask is_key flag_of step
six_letters = refl

-- nothing is shown where nothing changed; from the fifth letter with a parameter such letters are skipped with them
without_effect : (says 1 meets (codes "#a") (codes "+nt-vl" ∷ codes "bo" ∷ []) ≡ [])
    × (says 1 meets (codes "#a") (codes "-vvvvv+i" ∷ codes "bo" ∷ codes "bo" ∷ codes "bo"
    ∷ codes "bo" ∷ codes "dee" ∷ []) ≡ Establish (Changed (codes "#a") (FlagSet InviteOnly true))
    ∷ Show (1 ∷ 2 ∷ []) (line (codes "al!a@h1") (codes "MODE") (codes "#a" ∷ codes "+i" ∷ []) false) ∷ [])
unfolding fold_of is_same prefix full_mask is_key flag_of step
without_effect = (refl, refl)

-- who gives its rank up in a line takes the letters after it all the same
gives_up : says 1 meets (codes "#a") (codes "-ol" ∷ codes "al" ∷ [])
    ≡ Establish (Changed (codes "#a") (RankSet 1 Operator false)) ∷ Show (1 ∷ 2 ∷ [])
    (line (codes "al!a@h1") (codes "MODE") (codes "#a" ∷ codes "-o" ∷ codes "al" ∷ []) false) ∷ []
unfolding fold_of is_same prefix full_mask is_key flag_of step
gives_up = refl

-- ---- bans

abbrev bans : List Deed
bans = Changed (codes "#a") (BanSet (codes "*!e@h9")) ∷ Changed (codes "#a") (BanSet (codes "dee!*@*")) ∷ meets

-- masks are completed, and are one however they are spelled
masks : (full_mask (codes "x") ≡ codes "x!*@*") × (full_mask (codes "x@y") ≡ codes "*!x@y")
    × (full_mask (codes "x!y") ≡ codes "x!y@*") × (full_mask (codes "x!y@z") ≡ codes "x!y@z")
    × (full_mask (codes "a@b!c") ≡ codes "a@b!c@*")
unfolding full_mask
masks = (refl, refl, refl, refl, refl)

same_mask : says 1 bans (codes "#a") (codes "+b-b" ∷ codes "DEE" ∷ codes "E@h9" ∷ [])
    ≡ Establish (Changed (codes "#a") (BanLifted (codes "*!E@h9"))) ∷ Show (1 ∷ 2 ∷ [])
    (line (codes "al!a@h1") (codes "MODE") (codes "#a" ∷ codes "-b" ∷ codes "*!E@h9" ∷ []) false) ∷ []
unfolding fold_of is_same prefix full_mask is_key flag_of step
same_mask = refl

-- all are told the bans
ban_list : says 2 bans (codes "#a") (changes (codes "+b"))
    ≡ told (codes "bo") (BanList (codes "#a") (codes "dee!*@*")) ∷ told (codes "bo")
    (BanList (codes "#a") (codes "*!e@h9")) ∷ told (codes "bo") (EndOfBanList (codes "#a")) ∷ []
unfolding fold_of is_same prefix full_mask is_key flag_of step
ban_list = refl

-- ---- keys and limits

limits : (limit_of (codes "007") ≡ Some 7) × (limit_of (codes "65535") ≡ Some 65535)
    × (limit_of (codes "65536") ≡ None) × (limit_of (codes "0") ≡ None) × (limit_of [] ≡ None)
    × (limit_of (codes "1x") ≡ None)
limits = (refl, refl, refl, refl, refl, refl)

abbrev locked : List Deed
locked = Changed (codes "#a") (LimitSet (Some 7)) ∷ Changed (codes "#a") (KeySet (Some (codes "secret")))
    ∷ enters 3 (codes "cy") (codes "c") (codes "h3") meets

-- the key is told members alone
what_is_set : (says 2 locked (codes "#a") [] ≡ told (codes "bo") (ChannelModeIs (codes "#a")
    (codes "+klnt") (codes "secret" ∷ decimal 7 ∷ [])) ∷ []) × (says 3 locked (codes "#a") []
    ≡ told (codes "cy") (ChannelModeIs (codes "#a") (codes "+klnt") (codes "*" ∷ decimal 7 ∷ [])) ∷ [])
unfolding fold_of is_same prefix full_mask is_key flag_of step letters_set
what_is_set = (refl, refl)

-- and isn't shown where it is taken away
key_and_limit : says 1 locked (codes "#a") (codes "-lk+l" ∷ codes "any" ∷ codes "010" ∷ [])
    ≡ Establish (Changed (codes "#a") (LimitSet None)) ∷ Establish (Changed (codes "#a") (KeySet None))
    ∷ Establish (Changed (codes "#a") (LimitSet (Some 10)))
    ∷ Show (1 ∷ 2 ∷ []) (line (codes "al!a@h1") (codes "MODE")
    (codes "#a" ∷ codes "-lk+l" ∷ codes "*" ∷ decimal 10 ∷ []) false) ∷ []
unfolding fold_of is_same prefix full_mask is_key flag_of step
key_and_limit = refl

-- ---- who is refused

refused : (says 2 meets (codes "#a") (changes (codes "+")) ≡ told (codes "bo") (ChanOPrivsNeeded (codes "#a")) ∷ [])
    × (says 1 meets (codes "#a") (changes (codes "+")) ≡ [])
    × (says 1 meets (codes "#b") [] ≡ told (codes "al") (NoSuchChannel (codes "#b")) ∷ [])
    × (says 1 meets (codes "#a") (changes (codes "+o")) ≡ told (codes "al") (NeedMoreParams (codes "MODE")) ∷ [])
unfolding fold_of is_same prefix full_mask is_key flag_of step
refused = (refl, refl, refl, refl)

-- ---- users

own : says 1 meets (codes "AL") (codes "+xiy" ∷ codes "z" ∷ []) ≡ told (codes "al") UModeUnknownFlag ∷ Establish
    (InvisibleSet 1 true) ∷ Answer (line (codes "al!a@h1") (codes "MODE") (codes "al" ∷ codes "+i" ∷ []) false) ∷ []
unfolding fold_of is_same prefix
own = refl

users : (says 1 (InvisibleSet 1 true ∷ meets) (codes "al") [] ≡ told (codes "al") (UModeIs (codes "+i")) ∷ [])
    × (says 1 meets (codes "al") (changes (codes "+i-i")) ≡ [])
    × (says 1 meets (codes "bo") (changes (codes "+i")) ≡ told (codes "al") UsersDontMatch ∷ [])
    × (says 1 meets [] [] ≡ told (codes "al") (NoSuchNick []) ∷ [])
unfolding fold_of is_same prefix
users = (refl, refl, refl, refl)
