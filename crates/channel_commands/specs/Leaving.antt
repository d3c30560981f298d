-- What PART and KICK do: RFC 2812, sections 3.2.2 and 3.2.8.
use Rattle.std.specs.Prelude.{ℕ, not, List, [], ◌∷◌, take, slice_get, Option, Some, None, if◌then◌else◌}
use Rattle.channel_state.specs.State.{among}
use Rattle.numerics.specs.declared.numeric.Numeric.TheVariants.{NoSuchChannel, NotOnChannel, ChanOPrivsNeeded}
use Rattle.numerics.specs.declared.numeric.Numeric.TheVariants.{TooManyTargets, NoSuchNick, UserNotInChannel}
use Rattle.registration.specs.declared.settings.Settings.{Settings}
use Rattle.roster.specs.declared.deed.Deed.{Deed}
use Rattle.roster.specs.LookBack.{nick}
use Rattle.transactions.specs.declared.effect.Effect.{Effect}
use Rattle.transactions.specs.Seen.{Seen}
use Rattle.transactions.specs.Lines.{title, prefix}
use Rattle.transactions.specs.Replies.{tells}
use Rattle.channel_leaving.specs.Leaving.{leaves}
use Rattle.channel_commands.specs.Found.{channel_of, user_of}
use Rattle.channel_commands.specs.Each.{each}
use Rattle.channel_commands.specs.Lines.{part_line, kick_line}

-- ---- PART

abbrev pub parts_seen : Settings → List Deed → ℕ → List ℕ → List ℕ → List ℕ → Option Seen → List Effect
parts_seen g fs s from text c None = tells g fs s (NoSuchChannel c) ∷ []
parts_seen g fs s from text c (Some k) = if not (among s k.state.members) then tells g fs s (NotOnChannel k.name)
    ∷ [] else leaves k s (part_line from k.name text)

abbrev pub parts_one : Settings → ℕ → List ℕ → List ℕ → List Deed → List ℕ → List Effect
parts_one g s from text fs c = parts_seen g fs s from text c (channel_of fs c)

abbrev pub parts : Settings → List Deed → ℕ → List (List ℕ) → List ℕ → List Effect
parts g fs s cs text = each (parts_one g s (prefix fs s) text) fs cs

-- ---- KICK

-- the text, cut to 200 octets; without one the kicker's nickname
unfoldable pub kick_text : List Deed → ℕ → List ℕ → List ℕ
kick_text fs s [] = title (nick fs s)
kick_text fs s (x ∷ xs) = take 200 (x ∷ xs)

-- a user is put out of a channel, where it is on it. The channel may have ended by a kick before: c is its name as
-- it was first spelled
abbrev pub kicks_user : Settings → List Deed → List Deed → ℕ → List ℕ → List ℕ → List ℕ → ℕ → Option Seen → List Effect
kicks_user g fs0 fs s from text c t None = tells g fs s (UserNotInChannel (title (nick fs0 t)) c) ∷ []
kicks_user g fs0 fs s from text c t (Some k) =
    if not (among t k.state.members) then tells g fs s (UserNotInChannel (title (nick fs0 t)) c) ∷ []
    else leaves k t (kick_line from c (title (nick fs0 t)) text)

abbrev pub kicks_found : Settings → List Deed → List Deed → ℕ → List ℕ → List ℕ → List ℕ → List ℕ → Option ℕ
    → List Effect
kicks_found g fs0 fs s from text c n None = tells g fs s (NoSuchNick n) ∷ []
kicks_found g fs0 fs s from text c n (Some t) = kicks_user g fs0 fs s from text c t (channel_of fs c)

-- one nickname. Who has it is looked up in the facts before the line
abbrev pub kicks_one : Settings → List Deed → ℕ → List ℕ → List ℕ → List ℕ → List Deed → List ℕ → List Effect
kicks_one g fs0 s from text c fs n = kicks_found g fs0 fs s from text c n (user_of fs0 n)

-- four nicknames at most
abbrev pub kicks_each : Settings → List Deed → ℕ → List (List ℕ) → List ℕ → List ℕ → Option (List ℕ) → List Effect
kicks_each g fs s ns text c None = each (kicks_one g fs s (prefix fs s) (kick_text fs s text) c) fs ns
kicks_each g fs s ns text c (Some fifth) = tells g fs s (TooManyTargets fifth) ∷ []

abbrev pub kicks_seen : Settings → List Deed → ℕ → List (List ℕ) → List ℕ → List ℕ → Option Seen → List Effect
kicks_seen g fs s ns text c None = tells g fs s (NoSuchChannel c) ∷ []
kicks_seen g fs s ns text c (Some k) =
    if not (among s k.state.members) then tells g fs s (NotOnChannel k.name) ∷ []
    else if not (among s k.state.operators) then tells g fs s (ChanOPrivsNeeded k.name) ∷ []
    else kicks_each g fs s ns text k.name (slice_get ns 4)

abbrev pub kicks : Settings → List Deed → ℕ → List ℕ → List (List ℕ) → List ℕ → List Effect
kicks g fs s c ns text = kicks_seen g fs s ns text c (channel_of fs c)
