use Rattle.std.proofs.Common.{◌≡◌, ◌≤◌, ◌+◌, ◌++◌, ℕ, List, drop}
use Rattle.scripts.specs.Lines.{check_ahead}
use Rattle.scripts.specs.Stages.{head_of, IsReady}
use Rattle.scripts.specs.Printed.{PrintsAhead, Writes}
use Rattle.scripts.proofs.reader.Reader.feed.Given as goal

-- the same is told, seen from here
abbrev pub invariant-loop-octet : goal.invariant-loop-octet
invariant-loop-octet g l =
    record {
      ready : IsReady g.L.Naming.table l.self.stage l.self.register;
      ended : l.self.ended ≤ l.fn.self.ended + l.octet-index;
      same : l.output.failures ≡ l.fn.output.failures;
      ahead : (rest : List ℕ)
          → check_ahead (head_of l.self.stage) l.self.ended l.self.line.items (drop l.octet-index l.block ++ rest)
          ≡ check_ahead (head_of l.fn.self.stage) l.fn.self.ended l.fn.self.line.items (l.block ++ rest);
      printed : Writes (g.W.Write.contents l.fn.output.inner) (g.W.Write.contents l.output.inner) (λ w. (rest : List ℕ)
          (text : List ℕ) → PrintsAhead l.self.stage l.self.line.items (drop l.octet-index l.block ++ rest) text
          → PrintsAhead l.fn.self.stage l.fn.self.line.items (l.block ++ rest) (w ++ text));
    }
