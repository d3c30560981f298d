-- What a target is of a text or of MODE: RFC 2812, sections 2.3.1 and 3.1.5, and RFC 2811, section 2.1.
use Rattle.std.specs.Prelude.{ℕ, Bool, false, ◌||◌, ◌==◌, List, [], ◌∷◌}

-- a name that begins like a channel's: 35 is `#`, 38 is `&`
abbrev pub names_channel : List ℕ → Bool
names_channel [] = false
names_channel (b ∷ bs) = b == 35 || b == 38
