-- What clauses know of a script's input and of the output of its notes: this project's own choice.
use Rattle.std.specs.Prelude.{ℕ, ◌+◌, ◌<◌, ◌≤◌, ◌⊎◌}
use Rattle.scripts.specs.declared.entry.PlayFault.{PlayFault}
use Rattle.scripts.specs.declared.entry.PlayFault.TheVariants.{BadLine, BadSettings, ReadFailed, WriteFailed, Memory}

-- the reader, how often it was read, and how often it failed
pub record Reading (R : Type 0) : Type 0 where
  pub inner : R
  pub reads : ℕ
  pub failures : ℕ

-- the writer, and how often it failed
pub record Writing (W : Type 0) : Type 0 where
  pub inner : W
  pub failures : ℕ

-- a write is called failed where the writer failed; nothing is told of reads
abbrev pub IsWrites : ℕ → ℕ → PlayFault → Type 0
IsWrites before after (BadLine n) = Unit {0}
IsWrites before after BadSettings = Unit {0}
IsWrites before after ReadFailed = ⊥
IsWrites before after WriteFailed = before < after
IsWrites before after Memory = Unit {0}

-- a read is called failed where the reader failed, or the script took a million reads, and a write where the writer
-- failed
abbrev pub HasCause : {R W : Type 0} → Reading R → Reading R → Writing W → Writing W → PlayFault → Type 0
HasCause i j o p (BadLine n) = Unit {0}
HasCause i j o p BadSettings = Unit {0}
HasCause i j o p ReadFailed = (i.failures < j.failures) ⊎ (i.reads + 1000000 ≤ j.reads)
HasCause i j o p WriteFailed = o.failures < p.failures
HasCause i j o p Memory = Unit {0}
