use Rattle.std.proofs.Common.{◌≡◌, ◌++◌, drop}
use Rattle.std.specs.Prelude.{flat_map, codes}
use Rattle.chronicle.specs.declared.ids.SessionId.{SessionId}
use Rattle.scripts.specs.Notes.{label_line, done_text}
use Rattle.scripts.proofs.notes.write_done.Given as goal

abbrev pub invariant-loop-session : goal.invariant-loop-session
invariant-loop-session l = l.out.items ++ flat_map (λ (s : SessionId). label_line (codes "missed") s)
    (drop l.session-index l.session-items) ≡ l.fn.out.items ++ done_text l.label l.done
