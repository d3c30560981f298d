-- The definitions at work, computed. Sessions 1 to 3 are al, bo and cy.
use Rattle.std.proofs.Common.{◌≡◌, ℕ, Bool, true, false, List, [], ◌∷◌, ◌++◌, codes, Some, refl}
use Rattle.channel_state.specs.declared.change.Change.TheVariants.{Joined, Left, FlagSet}
use Rattle.channel_state.specs.State.{made_by}
use Rattle.channel_state.specs.declared.modes.Flag.TheVariants.{InviteOnly}
use Rattle.command_params.specs.declared.join_targets.JoinTarget.{JoinTarget}
use Rattle.registration.specs.declared.settings.Settings.{Settings}
use Rattle.registration.specs.declared.caps.Cap.TheVariants.{AwayNotify, ExtendedJoin}
use Rattle.registration.specs.Caps.{none_on, caps_with}
use Rattle.roster.specs.declared.deed.Deed.{Deed}
use Rattle.roster.specs.declared.deed.Deed.TheVariants.{Opened, NickSet, UserSet, CapsSet, LoggedIn}
use Rattle.roster.specs.declared.deed.Deed.TheVariants.{AwaySet, Enrolled, ChannelMade, Changed}
use Rattle.roster.specs.LookBack.{after}
use Rattle.transactions.specs.declared.effect.Effect.TheVariants.{Show}
use Rattle.transactions.specs.Effects.{deeds_of}
use Rattle.transactions.specs.Hearers.{shows_to}
use Rattle.transactions.specs.Seen.{Seen}
use Rattle.line_grammar.specs.Spelling.{bare_line}
use Rattle.numerics.specs.declared.outgoing.Out.{Out}
use Rattle.numerics.specs.Cut.{cut_lines}
use Rattle.numerics.specs.Numerics.{numeric, row_line}
use Rattle.numerics.specs.Outgoing.{line, room}
use Rattle.query_commands.specs.Names.{member_name}
use Rattle.query_commands.specs.Visible.{members_for}
use Rattle.channel_commands.specs.Found.{channel_of, user_of}
use Rattle.channel_commands.specs.Joining.{joins, bar_of, arrives, arrival_shown}
use Rattle.channel_commands.specs.Leaving.{kicks}
use Rattle.casemapping.specs.Fold.{fold_of, is_same}
use Rattle.casemapping.specs.Names.{channel_shape}

abbrev target : List ℕ → JoinTarget
target channel = record { channel = channel; key = [] }

-- a user s of nickname n
abbrev user : ℕ → List ℕ → List Deed
user s n = Opened s (codes "h") ∷ NickSet s n ∷ UserSet s n n ∷ Enrolled s ∷ []

abbrev three : List Deed
three = after [] (user 1 (codes "al") ++ user 2 (codes "bo") ++ user 3 (codes "cy"))

-- al joins three channels, of which one is for the invited alone: what it makes and where it comes
joined_two_of_three :
    (g : Settings) → deeds_of (joins (record g { server = codes "s" })
    (Changed (codes "#b") (FlagSet InviteOnly true) ∷ ChannelMade 2 (codes "#c") ∷ ChannelMade 2 (codes "#b")
    ∷ three) 1 (target (codes "#a") ∷ target (codes "#B") ∷ target (codes "#C") ∷ []))
    ≡ ChannelMade 1 (codes "#a") ∷ Changed (codes "#c") (Joined 1) ∷ []
unfolding arrives arrival_shown shows_to channel_of bar_of channel_shape member_name members_for cut_lines room
    numeric row_line
    bare_line is_same fold_of
joined_two_of_three g = refl

-- bo made a channel, cy joined it, and now al does
abbrev come : Seen
come = record { name = codes "#a"; state = record (made_by 2) { members = 2 ∷ 3 ∷ 1 ∷ [] } }

-- bo has asked for both
abbrev asked : List Deed
asked = CapsSet 2 (caps_with (caps_with none_on AwayNotify true) ExtendedJoin true) ∷ three

abbrev al_says : List ℕ → List (List ℕ) → Bool → Out
al_says = line (codes "al!al@h")

members_are_shown :
    (arrival_shown three 1 (codes "al!al@h") come
    ≡ Show (2 ∷ 3 ∷ 1 ∷ []) (al_says (codes "JOIN") (codes "#a" ∷ []) false) ∷ [])
    × (arrival_shown asked 1 (codes "al!al@h") come ≡ Show (3 ∷ 1 ∷ []) (al_says (codes "JOIN") (codes "#a" ∷ [])
    false) ∷ Show (2 ∷ []) (al_says (codes "JOIN") (codes "#a" ∷ codes "*" ∷ codes "al" ∷ []) true) ∷ [])
    × (arrival_shown (AwaySet 1 (Some (codes "out")) ∷ LoggedIn 1 (codes "Al") ∷ asked) 1 (codes "al!al@h") come
    ≡ Show (3 ∷ 1 ∷ []) (al_says (codes "JOIN") (codes "#a" ∷ []) false)
    ∷ Show (2 ∷ []) (al_says (codes "JOIN") (codes "#a" ∷ codes "Al" ∷ codes "al" ∷ []) true)
    ∷ Show (2 ∷ []) (al_says (codes "AWAY") (codes "out" ∷ []) true) ∷ [])
unfolding arrival_shown shows_to
members_are_shown = (refl, refl, refl)

-- al kicks bo, itself and cy, who is put out although al is gone by then
kicked_itself_among_others :
    (g : Settings) → deeds_of (kicks g (Changed (codes "#a") (Joined 3) ∷ Changed (codes "#a") (Joined 2)
    ∷ ChannelMade 1 (codes "#a") ∷ three) 1 (codes "#A") (codes "bo" ∷ codes "al" ∷ codes "CY" ∷ []) [])
    ≡ Changed (codes "#a") (Left 2) ∷ Changed (codes "#a") (Left 1) ∷ Changed (codes "#a") (Left 3) ∷ []
unfolding channel_of user_of is_same fold_of
kicked_itself_among_others g = refl
