-- How far a script has come, as its lines tell it: this project's own choice.
use Rattle.std.specs.Prelude.{◌≡◌, List, [], Option, Some, None}
use Rattle.atomic_table.specs.Seated.{TableId}
use Rattle.register.specs.Shown.{RegisterView}
use Rattle.scripts.specs.declared.header.Limits.{Limits}
use Rattle.scripts.specs.declared.reader.Stage.{Stage}
use Rattle.scripts.specs.declared.reader.Stage.TheVariants.{Head, Steps}

-- the limits that headers have set, where no step has come
abbrev pub head_of : {L : Type 0} → Stage L → Option Limits
head_of (Head l) = Some l
head_of (Steps player) = None

-- a register is there that has this name and no session yet
abbrev pub IsFree : TableId → Option (RegisterView (Unit {0})) → Type 0
IsFree table None = ⊥
IsFree table (Some r) = (r.table ≡ table) × (r.rows ≡ [])

-- until a step has come, one is there
abbrev pub IsReady : {L : Type 0} → TableId → Stage L → Option (RegisterView (Unit {0})) → Type 0
IsReady table (Head l) register = IsFree table register
IsReady table (Steps player) register = Unit {0}
