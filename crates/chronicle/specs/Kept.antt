-- What clauses see of the records that a journal keeps: words of private contracts.
use Rattle.std.specs.Prelude.{ℕ, List}
use Rattle.chronicle.specs.declared.record.Record.{Record}

-- the records in order, and how many more may be added without memory
pub record RecordList : Type 0 where
  pub items : List Record
  pub free : ℕ
