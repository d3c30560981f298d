-- Numbers of a script: this project's own choice.
use Rattle.std.specs.Prelude.{ℕ, ◌+◌, ◌-◌, ◌*◌, ◌^◌, ◌&&◌, nat_lt, if◌then◌else◌, List}
use Rattle.std.specs.Prelude.{[], ◌∷◌, fold, Option, Some, None, pos}
use Rattle.std.specs.List.{list_all}
use Rattle.std.specs.Char.{is_ascii_digit}
use Rattle.std.specs.Option.{option_map}
use Rattle.chronicle.specs.declared.ids.Moment.{Moment}

-- what decimal digits are worth; leading zeros count for nothing
abbrev pub value_of : List ℕ → ℕ
value_of ds = fold (λ n d. 10 * n + (d - 48)) 0 ds

-- one or more decimal digits and nothing else, worth less than the limit
abbrev pub number_below : ℕ → List ℕ → Option ℕ
number_below limit [] = None
number_below limit (d ∷ ds) =
    if list_all is_ascii_digit (d ∷ ds) && nat_lt (value_of (d ∷ ds)) limit then Some (value_of (d ∷ ds)) else None

-- a number with one more digit at its end, where it is below 2 ^ 64
abbrev pub with_digit : ℕ → ℕ → Option ℕ
with_digit n d = if is_ascii_digit d && nat_lt (10 * n + (d - 48)) (2 ^ 64) then Some (10 * n + (d - 48)) else None

-- a moment is a number that an i64 holds
abbrev pub moment_of : List ℕ → Option Moment
moment_of ds = option_map (λ n. pos n) (number_below (2 ^ 63) ds)
