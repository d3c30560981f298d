-- What INVITE does: RFC 2812, section 3.2.7.
use Rattle.std.specs.Prelude.{ℕ, not, ◌&&◌, List, [], ◌∷◌, Option, Some, None, if◌then◌else◌}
use Rattle.channel_state.specs.declared.change.Change.TheVariants.{Invited}
use Rattle.channel_state.specs.State.{among}
use Rattle.numerics.specs.declared.numeric.Numeric.TheVariants.{NoSuchNick, NoSuchChannel, NotOnChannel}
use Rattle.numerics.specs.declared.numeric.Numeric.TheVariants.{UserOnChannel, ChanOPrivsNeeded, Inviting}
use Rattle.registration.specs.declared.settings.Settings.{Settings}
use Rattle.roster.specs.declared.deed.Deed.{Deed}
use Rattle.roster.specs.declared.deed.Deed.TheVariants.{Changed}
use Rattle.roster.specs.LookBack.{nick, away}
use Rattle.transactions.specs.declared.effect.Effect.{Effect}
use Rattle.transactions.specs.declared.effect.Effect.TheVariants.{Establish, Show}
use Rattle.transactions.specs.Seen.{Seen}
use Rattle.transactions.specs.Lines.{title, prefix}
use Rattle.transactions.specs.Replies.{tells}
pub use Rattle.transactions.specs.Replies.{away_told}
use Rattle.channel_commands.specs.Found.{channel_of, user_of}
use Rattle.channel_commands.specs.Lines.{invite_line}

-- the invited user is shown it. Of several invitations the last counts
abbrev pub invites_user : Settings → List Deed → ℕ → ℕ → List ℕ → Seen → List Effect
invites_user g fs s t n k =
    Show (t ∷ []) (invite_line (prefix fs s) n k.name)
    ∷ Establish (Changed k.name (Invited t (among s k.state.operators)))
    ∷ tells g fs s (Inviting n k.name)
    ∷ away_told g fs s n (away fs t)

-- a user of nickname n
abbrev pub invites_seen : Settings → List Deed → ℕ → ℕ → List ℕ → List ℕ → Option Seen → List Effect
invites_seen g fs s t n c None = tells g fs s (NoSuchChannel c) ∷ []
invites_seen g fs s t n c (Some k) =
    if not (among s k.state.members) then tells g fs s (NotOnChannel k.name) ∷ []
    else if among t k.state.members then tells g fs s (UserOnChannel n k.name) ∷ []
    else if k.state.modes.invite_only && not (among s k.state.operators)
    then tells g fs s (ChanOPrivsNeeded k.name) ∷ []
    else invites_user g fs s t n k

abbrev pub invites_found : Settings → List Deed → ℕ → List ℕ → List ℕ → Option ℕ → List Effect
invites_found g fs s n c None = tells g fs s (NoSuchNick n) ∷ []
invites_found g fs s n c (Some t) = invites_seen g fs s t (title (nick fs t)) c (channel_of fs c)

abbrev pub invites : Settings → List Deed → ℕ → List ℕ → List ℕ → List Effect
invites g fs s n c = invites_found g fs s n c (user_of fs n)
