-- What is wrong with settings that a server doesn't start with: this project's own.
use Rattle.std.specs.Prelude.{ℕ, nat_le, ◌==◌, ◌-◌, if◌then◌else◌, not, List, length, Option, Some, None}
use Rattle.std.specs.Prelude.{slice_index_or}
use Rattle.registration.specs.Settings.{is_text}
use Rattle.serving_options.specs.declared.faults.TextFault.{TextFault}
use Rattle.serving_options.specs.declared.faults.TextFault.TheVariants.{TooLong, EndsWithCr, HasControl}

-- what is wrong with a line of the message of the day: its length before its octets
abbrev pub fault_of_line : List ℕ → Option TextFault
fault_of_line line = if is_text 400 line then None else
    if not (nat_le (length line) 400) then Some TooLong else
    if slice_index_or line (length line - 1) 0 == 13 then Some EndsWithCr else Some HasControl
