use Rattle.std.proofs.Common.{◌≡◌, ◌+◌, ◌-◌, ◌≤◌, length, drop}
use Rattle.websocket_front.specs.Lines.{line_length}
use Rattle.websocket_front.proofs.sending.line_end.Given as goal

-- no CR LF begins so far
abbrev pub invariant-loop-end : goal.invariant-loop-end
invariant-loop-end l =
    (l.end ≤ length l.text)
    × (l.place + line_length (drop l.place l.text) ≡ l.end + line_length (drop l.end l.text))

abbrev pub decreases-loop-end : goal.decreases-loop-end
decreases-loop-end l = length l.text - l.end
