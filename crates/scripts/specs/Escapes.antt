-- How a script's text spells octets, and how a note prints them: this project's own choice.
use Rattle.std.specs.Prelude.{ℕ, ◌+◌, ◌-◌, ◌<◌, ◌*◌, ◌/◌, ◌%◌, ◌==◌, ◌&&◌, ◌||◌, not, nat_le}
use Rattle.std.specs.Prelude.{if◌then◌else◌, List, [], ◌∷◌, Option, Some, None, flat_map}
use Rattle.std.specs.Char.{digit_char}
use Rattle.std.specs.Option.{option_map}
use Rattle.scripts.specs.declared.escape.EscapePlace.{EscapePlace}
use Rattle.scripts.specs.declared.escape.EscapePlace.TheVariants.{Between, Escape, FirstDigit, SecondDigit}

-- printable ASCII but the backslash stands for itself, any other octet is `\xhh`
abbrev pub printed_octet : ℕ → List ℕ
printed_octet b = if nat_le 32 b && nat_le b 126 && not (b == 92) then b ∷ []
    else 92 ∷ 120 ∷ digit_char (b / 16) ∷ digit_char (b % 16) ∷ []

abbrev pub printed_text : List ℕ → List ℕ
printed_text bs = flat_map printed_octet bs

-- the octet that follows, before what the rest spells
abbrev pub then_octet : ℕ → Option (List ℕ) → Option (List ℕ)
then_octet b more = option_map (λ bs. b ∷ bs) more

-- what a letter after a backslash stands for, `x` apart
abbrev pub escaped_octet : ℕ → Option ℕ
escaped_octet b = if b == 114 then Some 13 else if b == 110 then Some 10
    else if b == 92 || b == 34 then Some b else None

-- the value of a hexadecimal digit of either case
abbrev pub hexadecimal : ℕ → Option ℕ
hexadecimal b = if nat_le 48 b && nat_le b 57 then Some (b - 48) else if nat_le 97 b
    && nat_le b 102 then Some (b - 87) else if nat_le 65 b && nat_le b 70 then Some (b - 55) else None

-- a first hexadecimal digit is below 16
abbrev pub HasDigit : EscapePlace → Type 0
HasDigit Between = Unit {0}
HasDigit Escape = Unit {0}
HasDigit FirstDigit = Unit {0}
HasDigit (SecondDigit high) = high < 16

-- what the rest of a text spells from a place on
abbrev pub octets_from : EscapePlace → List ℕ → Option (List ℕ)
octets_from Between [] = Some []
octets_from Escape [] = None
octets_from FirstDigit [] = None
octets_from (SecondDigit high) [] = None
octets_from Between (b ∷ bs) = if b == 92 then octets_from Escape bs else if b == 34 then None
    else then_octet b (octets_from Between bs)
octets_from Escape (b ∷ bs) = if b == 120 then octets_from FirstDigit bs
    else elim (escaped_octet b) [ None ↦ None | Some e ↦ then_octet e (octets_from Between bs) ]
octets_from FirstDigit (b ∷ bs) = elim (hexadecimal b) [ None ↦ None | Some high ↦ octets_from (SecondDigit high) bs ]
octets_from (SecondDigit high) (b ∷ bs) = elim (hexadecimal b) [
  | None ↦ None
  | Some low ↦ then_octet (16 * high + low) (octets_from Between bs)
]

-- the octets that the text between the quotes spells; nothing for a text with a quote or another escape
abbrev pub text_octets : List ℕ → Option (List ℕ)
text_octets text = octets_from Between text
