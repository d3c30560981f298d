-- What AWAY does: RFC 2812, section 4.1, and IRCv3 away-notify.
use Rattle.std.specs.Prelude.{ℕ, ◌==◌, Bool, true, false, List, [], ◌∷◌, filter, length}
use Rattle.std.specs.Prelude.{take, Option, Some, None, if◌then◌else◌}
use Rattle.std.specs.Str.{bytes_eq}
use Rattle.numerics.specs.declared.numeric.Numeric.{Numeric}
use Rattle.numerics.specs.declared.numeric.Numeric.TheVariants.{UnAway, NowAway}
use Rattle.registration.specs.declared.caps.Cap.TheVariants.{AwayNotify}
use Rattle.registration.specs.declared.settings.Settings.{Settings}
use Rattle.roster.specs.declared.deed.Deed.{Deed}
use Rattle.roster.specs.declared.deed.Deed.TheVariants.{AwaySet}
use Rattle.roster.specs.LookBack.{away, sharers}
use Rattle.transactions.specs.declared.effect.Effect.{Effect}
use Rattle.transactions.specs.declared.effect.Effect.TheVariants.{Establish}
use Rattle.transactions.specs.Hearers.{shows_to, takes}
use Rattle.transactions.specs.Lines.{away_line, prefix}
use Rattle.transactions.specs.Replies.{tells}

-- the most octets of a text that are kept
abbrev pub AWAYLEN : ℕ
AWAYLEN = 200

-- away with a text, or here again where it is empty
abbrev pub new_away : List ℕ → Option (List ℕ)
new_away text = if length text == 0 then None else Some (take AWAYLEN text)

abbrev pub is_same_text : Option (List ℕ) → Option (List ℕ) → Bool
is_same_text None None = true
is_same_text (Some a) (Some b) = bytes_eq a b
is_same_text a b = false

-- whom it is shown, where something changes: who shares a channel and takes away-notify
abbrev pub away_hearers : List Deed → ℕ → Option (List ℕ) → List ℕ
away_hearers fs s text = if is_same_text (away fs s) text then [] else filter (takes fs AwayNotify) (sharers fs s)

abbrev pub away_answer : Option (List ℕ) → Numeric
away_answer None = UnAway
away_answer (Some text) = NowAway

abbrev pub goes_as : Settings → List Deed → ℕ → Option (List ℕ) → List Effect
goes_as g fs s text = Establish (AwaySet s text) ∷ tells g fs s (away_answer text)
    ∷ shows_to (away_hearers fs s text) (away_line (prefix fs s) text)

abbrev pub goes_away : Settings → List Deed → ℕ → List ℕ → List Effect
goes_away g fs s text = goes_as g fs s (new_away text)
