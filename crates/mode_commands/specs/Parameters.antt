-- Parameters of modes: masks (RFC 2812, section 2.5; RFC 2811, section 4.3), keys and limits (RFC 2811, sections
-- 4.2.9 and 4.2.10). What isn't well formed, and how it is completed, is this project's own.
use Rattle.std.specs.Prelude.{ℕ, ◌+◌, ◌*◌, ◌-◌, nat_le, Bool, not, ◌==◌, ◌&&◌, ◌||◌, cond, List, []}
use Rattle.std.specs.Prelude.{◌∷◌, ◌++◌, codes, Option, Some, None, if◌then◌else◌}
use Rattle.std.specs.List.{list_any}
use Rattle.line_grammar.specs.Spelling.{needs_colon}
use Rattle.casemapping.specs.Names.{is_digit}

abbrev pub has_octet : ℕ → List ℕ → Bool
has_octet octet text = list_any (λ b. b == octet) text

-- what follows the first `!`
abbrev pub after_bang : List ℕ → Option (List ℕ)
after_bang [] = None
after_bang (b ∷ bs) = cond (b == 33) (Some bs) (after_bang bs)

abbrev pub completed_by : List ℕ → Option (List ℕ) → List ℕ
completed_by mask None = if has_octet 64 mask then codes "*!" ++ mask else mask ++ codes "!*@*"
completed_by mask (Some rest) = if has_octet 64 rest then mask else mask ++ codes "@*"

-- `x` becomes `x!*@*`, `x@y` becomes `*!x@y`, and `x!y` becomes `x!y@*`
unfoldable pub full_mask : List ℕ → List ℕ
full_mask mask = completed_by mask (after_bang mask)

-- a key can be a parameter by itself, and has no comma
unfoldable pub is_key : List ℕ → Bool
is_key key = not (needs_colon key || has_octet 44 key)

-- a number from its digits, where it is one from 1 to 65535
abbrev pub limit_from : ℕ → List ℕ → Option ℕ
limit_from n [] = if n == 0 then None else Some n
limit_from n (d ∷ ds) = if is_digit d && nat_le (n * 10 + (d - 48)) 65535 then limit_from (n * 10 + (d - 48)) ds
    else None

abbrev pub limit_of : List ℕ → Option ℕ
limit_of text = limit_from 0 text
