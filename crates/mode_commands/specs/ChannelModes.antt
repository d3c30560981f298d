-- MODE of a channel: RFC 2812, section 3.2.3.
use Rattle.std.specs.Prelude.{ℕ, Bool, false, ◌==◌, ◌&&◌, not, List, [], ◌∷◌, ◌++◌, map, codes, is_some, if◌then◌else◌}
use Rattle.numerics.specs.declared.numeric.Numeric.{Numeric}
use Rattle.numerics.specs.declared.numeric.Numeric.TheVariants.{NeedMoreParams, NoSuchNick, UserNotInChannel}
use Rattle.numerics.specs.declared.numeric.Numeric.TheVariants.{UnknownMode, ChannelModeIs, BanList}
use Rattle.numerics.specs.declared.numeric.Numeric.TheVariants.{EndOfBanList, ChanOPrivsNeeded}
use Rattle.registration.specs.declared.settings.Settings.{Settings}
use Rattle.channel_state.specs.State.{among}
use Rattle.roster.specs.declared.deed.Deed.{Deed}
use Rattle.roster.specs.declared.deed.Deed.TheVariants.{Changed}
use Rattle.roster.specs.LookBack.{after}
use Rattle.transactions.specs.declared.effect.Effect.{Effect}
use Rattle.transactions.specs.declared.effect.Effect.TheVariants.{Establish, Show}
use Rattle.transactions.specs.Effects.{deeds_of}
use Rattle.transactions.specs.Lines.{prefix}
use Rattle.transactions.specs.Replies.{tells, tells_all}
use Rattle.transactions.specs.Seen.{Seen}
use Rattle.mode_commands.specs.declared.letters.ModeChange.{ModeChange}
use Rattle.mode_commands.specs.declared.steps.ModeStep.{ModeStep}
use Rattle.mode_commands.specs.declared.steps.ModeStep.TheVariants as step
use Rattle.mode_commands.specs.declared.steps.Refusal.{Refusal}
use Rattle.mode_commands.specs.declared.steps.Refusal.TheVariants.{LacksParameter, Nobody, NotMember, Unknown}
use Rattle.mode_commands.specs.Letters.{asked_changes}
use Rattle.mode_commands.specs.Lines.{mode_line, letters_set, params_set}
use Rattle.mode_commands.specs.Steps.{steps, all_shown}

-- ---- what is told

abbrev pub tells_modes : Settings → List Deed → ℕ → Seen → Effect
tells_modes g fs s k = tells g fs s
    (ChannelModeIs k.name (letters_set k.state.modes) (params_set (among s k.state.members) k.state.modes))

abbrev pub ban_numerics : Seen → List Numeric
ban_numerics k = map (BanList k.name) k.state.bans ++ EndOfBanList k.name ∷ []

-- ---- what is changed

-- the numeric of a letter that is refused, of a channel named c
abbrev pub refusal_numeric : List ℕ → Refusal → Numeric
refusal_numeric c LacksParameter = NeedMoreParams (codes "MODE")
refusal_numeric c (Nobody n) = NoSuchNick n
refusal_numeric c (NotMember n) = UserNotInChannel n c
refusal_numeric c (Unknown letter) = UnknownMode letter c

-- a letter of a channel named c is refused, has no effect, or changes it
abbrev pub does : Settings → ℕ → List ℕ → List Deed → ModeStep → List Effect
does g s c fs step.Nothing = []
does g s c fs (step.Refused why) = tells g fs s (refusal_numeric c why) ∷ []
does g s c fs (step.Changes x shown) = Establish (Changed c x) ∷ []

-- letters in turn, each over the facts that those before it leave
abbrev pub in_turn : Settings → ℕ → List ℕ → List Deed → List ModeStep → List Effect
in_turn g s c fs [] = []
in_turn g s c fs (x ∷ xs) = does g s c fs x ++ in_turn g s c (after fs (deeds_of (does g s c fs x))) xs

-- members see in one line what changed on a channel named c
abbrev pub shows_changes : List ℕ → List ℕ → List ℕ → List ModeChange → List Effect
shows_changes from c members [] = []
shows_changes from c members (a ∷ bs) = Show members (mode_line from c (a ∷ bs)) ∷ []

-- all members before the line see it
abbrev pub takes_steps : Settings → List Deed → ℕ → List ℕ → List ℕ → Seen → List ModeStep → List Effect
takes_steps g fs s from c k xs = in_turn g s k.name fs xs ++ shows_changes from c k.state.members (all_shown xs)

abbrev pub takes_changes : Settings → List Deed → ℕ → Seen → List ModeChange → List Effect
takes_changes g fs s k bs = takes_steps g fs s (prefix fs s) k.name k (steps fs k.state bs)

-- ---- the command

-- whether `b` without a parameter is all that is asked
abbrev pub asks_bans : List ModeChange → Bool
asks_bans (a ∷ []) = a.letter == 98 && not (is_some a.param)
asks_bans bs = false

-- all are told the bans; operators alone change modes
abbrev pub does_changes : Settings → List Deed → ℕ → Seen → List ModeChange → List Effect
does_changes g fs s k bs =
    if asks_bans bs then tells_all g fs s (ban_numerics k)
    else if among s k.state.operators then takes_changes g fs s k bs
    else tells g fs s (ChanOPrivsNeeded k.name) ∷ []

abbrev pub channel_modes : Settings → List Deed → ℕ → Seen → List (List ℕ) → List Effect
channel_modes g fs s k [] = tells_modes g fs s k ∷ []
channel_modes g fs s k (letters ∷ params) = does_changes g fs s k (asked_changes letters params)
