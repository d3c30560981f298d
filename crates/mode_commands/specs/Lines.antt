-- The lines and texts that show modes: RFC 2812, sections 3.1.5, 3.2.3 and 5.1.
use Rattle.std.specs.Prelude.{ℕ, Bool, false, cond, List, [], ◌∷◌, ◌++◌, codes, decimal}
use Rattle.std.specs.Prelude.{Option, Some, None, is_some, option_to_list}
use Rattle.channel_state.specs.declared.modes.Modes.{Modes}
use Rattle.numerics.specs.declared.outgoing.Out.{Out}
use Rattle.numerics.specs.Outgoing.{line}
use Rattle.mode_commands.specs.declared.letters.ModeChange.{ModeChange}
use Rattle.mode_commands.specs.Steps.{agree}

-- a sign, where it differs from the one before
abbrev pub sign : Bool → List ℕ
sign on = cond on (codes "+") (codes "-")

abbrev pub sign_after : Option Bool → Bool → List ℕ
sign_after None on = sign on
sign_after (Some was) on = cond (agree was on) [] (sign on)

-- letters in order, after a letter with this sign
abbrev pub letters_after : Option Bool → List ModeChange → List ℕ
letters_after was [] = []
letters_after was (a ∷ bs) = (sign_after was a.on ++ a.letter ∷ []) ++ letters_after (Some a.on) bs

-- and their parameters
abbrev pub params_of : List ModeChange → List (List ℕ)
params_of [] = []
params_of (a ∷ bs) = option_to_list a.param ++ params_of bs

abbrev pub mode_line : List ℕ → List ℕ → List ModeChange → Out
mode_line from target shown = line from (codes "MODE") (target ∷ letters_after None shown ∷ params_of shown) false

-- ---- what is set on a channel: `+` and the letters, sorted

abbrev pub letter_where : Bool → List ℕ → List ℕ
letter_where is letter = cond is letter []

unfoldable pub letters_set : Modes → List ℕ
letters_set m =
    codes "+" ++ letter_where m.invite_only (codes "i") ++ letter_where (is_some m.key) (codes "k")
    ++ letter_where (is_some m.limit) (codes "l")
    ++ letter_where m.moderated (codes "m") ++ letter_where m.no_outside (codes "n")
    ++ letter_where m.secret (codes "s") ++ letter_where m.topic_locked (codes "t")

-- the key is told members alone
abbrev pub key_told : Bool → Option (List ℕ) → List (List ℕ)
key_told is_member None = []
key_told is_member (Some key) = cond is_member key (codes "*") ∷ []

abbrev pub limit_told : Option ℕ → List (List ℕ)
limit_told None = []
limit_told (Some limit) = decimal limit ∷ []

-- the parameters of what is set, in the order of their letters
abbrev pub params_set : Bool → Modes → List (List ℕ)
params_set is_member m = key_told is_member m.key ++ limit_told m.limit
