-- Parameters that may be left out: RFC 2812, section 2.3.1.
use Rattle.std.specs.Prelude.{◌≡◌, ℕ, List, [], ◌∷◌, Option, Some, None, Result, Ok, Err, IsOk}
use Rattle.command_params.specs.declared.name.CommandName.{CommandName}
use Rattle.command_params.specs.declared.fault.ReadFault.{ReadFault}
use Rattle.command_params.specs.declared.fault.ReadFault.TheVariants.{NeedMoreParams, Memory}

-- the first, which is empty where there is none
abbrev pub first_or_empty : List (List ℕ) → List ℕ
first_or_empty [] = []
first_or_empty (p ∷ ps) = p

abbrev pub first_or_none : List (List ℕ) → Option (List ℕ)
first_or_none [] = None
first_or_none (p ∷ ps) = Some p

-- 461: too few parameters for the command
abbrev pub needs_more : {A : Type 0} → CommandName → Result A ReadFault
needs_more command = Err (NeedMoreParams command)

-- what holds for want of memory, and what of any other fault
abbrev pub at_fault : ReadFault → Type 0 → Type 0 → Type 0
at_fault Memory wanting fails = wanting
at_fault fault wanting fails = fails

-- what was read is what is asked for, or the fault of its shape; memory is wanting only where there is no other fault
abbrev pub IsRead : {A : Type 0} → Result A ReadFault → Result A ReadFault → Type 0
IsRead asked (Ok command) = asked ≡ Ok command
IsRead asked (Err fault) = at_fault fault (IsOk asked) (asked ≡ Err fault)
