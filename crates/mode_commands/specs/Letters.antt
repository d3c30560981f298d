-- The letters of MODE with their signs and parameters: RFC 2812, section 3.2.3.
use Rattle.std.specs.Prelude.{ℕ, ◌-◌, Bool, true, false, ◌==◌, ◌&&◌, ◌||◌, List, [], ◌∷◌}
use Rattle.std.specs.Prelude.{◌++◌, Option, Some, None, if◌then◌else◌}
use Rattle.mode_commands.specs.declared.letters.ModeChange.{ModeChange}

-- what is known as letters are read: the sign in force, how many letters with a parameter may still come, and the
-- parameters that are left
pub record Reading : Type 0 where
  pub on : Bool
  pub room : ℕ
  pub params : List (List ℕ)

-- the letters that take a parameter: `o`, `v`, `b` and `k`, and `l` where it is set
abbrev pub takes_param : Bool → ℕ → Bool
takes_param on letter = letter == 111 || letter == 118 || letter == 98 || letter == 107 || (letter == 108 && on)

abbrev pub asks : Bool → ℕ → Option (List ℕ) → List ModeChange
asks on letter param = record { on = on; letter = letter; param = param } ∷ []

-- a letter that takes the next parameter, where there is one; past the fourth it is skipped with it
abbrev pub with_next : Reading → ℕ → List (List ℕ) → List ModeChange
with_next r letter [] = asks r.on letter None
with_next r letter (p ∷ ps) = if r.room == 0 then [] else asks r.on letter (Some p)

abbrev pub past_next : Reading → List (List ℕ) → Reading
past_next r [] = r
past_next r (p ∷ ps) = record { on = r.on; room = r.room - 1; params = ps }

-- what a letter asks for; `+` and `-` ask for nothing
abbrev pub letter_asks : Reading → ℕ → List ModeChange
letter_asks r letter =
    if letter == 43 then []
    else if letter == 45 then []
    else if takes_param r.on letter then with_next r letter r.params
    else asks r.on letter None

-- what is known after a letter
abbrev pub past : Reading → ℕ → Reading
past r letter =
    if letter == 43 then record { on = true; room = r.room; params = r.params }
    else if letter == 45 then record { on = false; room = r.room; params = r.params }
    else if takes_param r.on letter then past_next r r.params
    else r

-- letter by letter
abbrev pub letters_ask : Reading → List ℕ → List ModeChange
letters_ask r [] = []
letters_ask r (letter ∷ letters) = letter_asks r letter ++ letters_ask (past r letter) letters

-- `+` is in force at first, and four letters with a parameter are served
abbrev pub asked_changes : List ℕ → List (List ℕ) → List ModeChange
asked_changes letters params = letters_ask (record { on = true; room = 4; params = params }) letters
