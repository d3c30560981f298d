-- MODE of a user: RFC 2812, section 3.1.5.
use Rattle.std.specs.Prelude.{ℕ, Bool, not, ◌==◌, cond, List, [], ◌∷◌, ◌++◌, codes, None, if◌then◌else◌}
use Rattle.std.specs.List.{list_any}
use Rattle.numerics.specs.declared.numeric.Numeric.TheVariants.{UModeIs, UModeUnknownFlag}
use Rattle.registration.specs.declared.settings.Settings.{Settings}
use Rattle.roster.specs.declared.deed.Deed.{Deed}
use Rattle.roster.specs.declared.deed.Deed.TheVariants.{InvisibleSet}
use Rattle.roster.specs.LookBack.{nick, invisible}
use Rattle.transactions.specs.declared.effect.Effect.{Effect}
use Rattle.transactions.specs.declared.effect.Effect.TheVariants.{Establish, Answer}
use Rattle.transactions.specs.Lines.{title, prefix}
use Rattle.transactions.specs.Replies.{tells}
use Rattle.mode_commands.specs.declared.letters.ModeChange.{ModeChange}
use Rattle.mode_commands.specs.Letters.{asks, asked_changes}
use Rattle.mode_commands.specs.Lines.{mode_line}
use Rattle.mode_commands.specs.Steps.{agree}

-- `i` is the one mode of a user
abbrev pub is_known : ModeChange → Bool
is_known a = a.letter == 105

abbrev pub modes_text : Bool → List ℕ
modes_text is = cond is (codes "+i") (codes "+")

-- whether the session is invisible after the letters
abbrev pub invisible_after : Bool → List ModeChange → Bool
invisible_after was [] = was
invisible_after was (a ∷ bs) = invisible_after (cond (is_known a) a.on was) bs

-- letters that aren't known are told once
abbrev pub tells_unknown : Settings → List Deed → ℕ → List ModeChange → List Effect
tells_unknown g fs s bs = if list_any (λ a. not (is_known a)) bs then tells g fs s UModeUnknownFlag ∷ [] else []

-- the session alone sees what changed
abbrev pub hides : List Deed → ℕ → Bool → List Effect
hides fs s is =
    if agree is (invisible fs s) then []
    else Establish (InvisibleSet s is) ∷ Answer (mode_line (prefix fs s) (title (nick fs s)) (asks is 105 None)) ∷ []

abbrev pub takes_own : Settings → List Deed → ℕ → List ModeChange → List Effect
takes_own g fs s bs = tells_unknown g fs s bs ++ hides fs s (invisible_after (invisible fs s) bs)

-- a session's own modes. Parameters after the letters count for nothing
abbrev pub own_modes : Settings → List Deed → ℕ → List (List ℕ) → List Effect
own_modes g fs s [] = tells g fs s (UModeIs (modes_text (invisible fs s))) ∷ []
own_modes g fs s (letters ∷ params) = takes_own g fs s (asked_changes letters [])
