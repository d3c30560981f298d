use Rattle.std.proofs.Common.{◌++◌, ◌+◌, ◌≤◌, List, Result, length, drop, vec_len, vec_capacity}
use Rattle.interleave.specs.declared.event.Note.{Note}
use Rattle.interleave.specs.declared.event.StepRefusal.{StepRefusal}
use Rattle.interleave.specs.State.{State}
use Rattle.interleave.specs.Runs.{IsRun}
use Rattle.interleave.proofs.play.Play.run.Given as goal

-- a run over what is left makes a run over all
abbrev pub invariant-loop-event : goal.invariant-loop-event
invariant-loop-event g l =
    record {
      room : vec_len l.notes + length (drop l.event-index l.events) ≤ vec_capacity l.notes;
      run : (rs : List (Result Note StepRefusal)) (k : State) → IsRun l.self (drop l.event-index l.events) rs k
          → IsRun l.fn.self l.events (l.notes.items ++ rs) k;
    }
