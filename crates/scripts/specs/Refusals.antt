-- The names of refusals, which a note says after `refused`: this project's own choice.
use Rattle.std.specs.Prelude.{ℕ, List, codes}
use Rattle.ledger.specs.declared.refusals.OpenRefusal.{OpenRefusal}
use Rattle.ledger.specs.declared.refusals.OpenRefusal.TheVariants as opening
use Rattle.ledger.specs.declared.refusals.LineRefusal.{LineRefusal}
use Rattle.ledger.specs.declared.refusals.LineRefusal.TheVariants as accepting
use Rattle.ledger.specs.declared.refusals.HangRefusal.{HangRefusal}
use Rattle.ledger.specs.declared.refusals.HangRefusal.TheVariants as hanging
use Rattle.ledger.specs.declared.refusals.SweepRefusal.{SweepRefusal}
use Rattle.ledger.specs.declared.refusals.SweepRefusal.TheVariants as sweeping
use Rattle.ledger.specs.declared.refusals.TickRefusal.{TickRefusal}
use Rattle.ledger.specs.declared.refusals.TickRefusal.TheVariants as ticking
use Rattle.ledger.specs.declared.refusals.ReapRefusal.{ReapRefusal}
use Rattle.ledger.specs.declared.refusals.ReapRefusal.TheVariants as reaping
use Rattle.interleave.specs.declared.event.BookRefusal.{BookRefusal}
use Rattle.interleave.specs.declared.event.BookRefusal.TheVariants as book
use Rattle.interleave.specs.declared.event.StepRefusal.{StepRefusal}
use Rattle.interleave.specs.declared.event.StepRefusal.TheVariants as step

abbrev pub open_name : OpenRefusal → List ℕ
open_name opening.Busy = codes "Busy"
open_name opening.TooManySessions = codes "TooManySessions"
open_name opening.JournalFull = codes "JournalFull"
open_name opening.BadMoment = codes "BadMoment"
open_name opening.Memory = codes "Memory"

abbrev pub line_name : LineRefusal → List ℕ
line_name accepting.Busy = codes "Busy"
line_name accepting.WrongTurn = codes "WrongTurn"
line_name accepting.Shut = codes "Shut"
line_name accepting.JournalFull = codes "JournalFull"
line_name accepting.BadMoment = codes "BadMoment"
line_name accepting.Memory = codes "Memory"

abbrev pub hang_name : HangRefusal → List ℕ
hang_name hanging.Busy = codes "Busy"
hang_name hanging.NoSession = codes "NoSession"
hang_name hanging.Shut = codes "Shut"
hang_name hanging.BadMoment = codes "BadMoment"

abbrev pub sweep_name : SweepRefusal → List ℕ
sweep_name sweeping.Busy = codes "Busy"
sweep_name sweeping.BadMoment = codes "BadMoment"
sweep_name sweeping.Memory = codes "Memory"

abbrev pub tick_name : TickRefusal → List ℕ
tick_name ticking.Busy = codes "Busy"
tick_name ticking.BadMoment = codes "BadMoment"
tick_name ticking.JournalFull = codes "JournalFull"
tick_name ticking.Memory = codes "Memory"

abbrev pub reap_name : ReapRefusal → List ℕ
reap_name reaping.Busy = codes "Busy"
reap_name reaping.Stranger = codes "Stranger"
reap_name reaping.NotGone = codes "NotGone"

abbrev pub book_name : BookRefusal → List ℕ
book_name (book.Open refusal) = open_name refusal
book_name (book.Line refusal) = line_name refusal
book_name (book.Hang refusal) = hang_name refusal
book_name (book.Sweep refusal) = sweep_name refusal
book_name (book.Tick refusal) = tick_name refusal
book_name (book.Reap refusal) = reap_name refusal

-- a refusal of the book has its own name
abbrev pub refusal_name : StepRefusal → List ℕ
refusal_name step.NoSession = codes "NoSession"
refusal_name step.NoWorker = codes "NoWorker"
refusal_name step.Locked = codes "Locked"
refusal_name step.NotHolding = codes "NotHolding"
refusal_name step.HasJob = codes "HasJob"
refusal_name step.NoJob = codes "NoJob"
refusal_name step.InFlight = codes "InFlight"
refusal_name step.NothingRead = codes "NothingRead"
refusal_name step.NothingLeft = codes "NothingLeft"
refusal_name step.PutsLeft = codes "PutsLeft"
refusal_name (step.Book refusal) = book_name refusal
refusal_name step.Memory = codes "Memory"
