-- What a fault says of the script, and that a play ended well: this project's own choice.
use Rattle.std.specs.Prelude.{◌≡◌, true, false, Some, None}
use Rattle.scripts.specs.declared.entry.PlayFault.{PlayFault}
use Rattle.scripts.specs.declared.entry.PlayFault.TheVariants.{BadLine, BadSettings, ReadFailed, WriteFailed, Memory}
use Rattle.scripts.specs.Lines.{Check}

-- a bad line is the first one, and bad settings are those of the headers before the first step
abbrev pub IsFaultOf : Check → PlayFault → Type 0
IsFaultOf told (BadLine n) = told.bad ≡ Some n
IsFaultOf told BadSettings = told.is_set ≡ false
IsFaultOf told ReadFailed = Unit {0}
IsFaultOf told WriteFailed = Unit {0}
IsFaultOf told Memory = Unit {0}

-- no line is bad, and the settings are good
abbrev pub IsGood : Check → Type 0
IsGood told = (told.bad ≡ None) × (told.is_set ≡ true)

-- a fault that no script is to blame for
abbrev pub IsOutside : PlayFault → Type 0
IsOutside (BadLine n) = ⊥
IsOutside BadSettings = ⊥
IsOutside ReadFailed = Unit {0}
IsOutside WriteFailed = Unit {0}
IsOutside Memory = Unit {0}
