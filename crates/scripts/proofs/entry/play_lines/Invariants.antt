use Rattle.std.proofs.Common.{◌≡◌, ◌≤◌, ◌+◌, ◌*◌, ◌++◌, ℕ, List, Some}
use Rattle.std.specs.Option.{option_map}
use Rattle.scripts.specs.Lines.{check_ahead}
use Rattle.scripts.specs.Stages.{head_of, IsReady}
use Rattle.scripts.specs.Printed.{PrintsAhead, Writes}
use Rattle.scripts.proofs.entry.play_lines.Given as goal

-- the same is told, seen from here
abbrev pub invariant-loop : goal.invariant-loop
invariant-loop g l =
    record {
      ready : IsReady g.L.Naming.table l.reader.stage l.reader.register;
      ended : l.reader.ended ≤ l.fn.reader.ended + 4096 * l.counter;
      same : l.output.failures ≡ l.fn.output.failures;
      reads : l.input.reads ≡ l.fn.input.reads + l.counter;
      low : l.fn.input.failures ≤ l.input.failures;
      ahead : (script : List ℕ) → g.R.Read.remaining l.fn.input.inner ≡ Some script → option_map
          (check_ahead (head_of l.reader.stage) l.reader.ended l.reader.line.items) (g.R.Read.remaining l.input.inner)
          ≡ Some (check_ahead (head_of l.fn.reader.stage) l.fn.reader.ended l.fn.reader.line.items script);
      printed : Writes (g.W.Write.contents l.fn.output.inner) (g.W.Write.contents l.output.inner) (λ w. (script : List
          ℕ)
          → g.R.Read.remaining l.fn.input.inner ≡ Some script
          → (rest : List ℕ) × (g.R.Read.remaining l.input.inner ≡ Some rest)
          × ((text : List ℕ) → PrintsAhead l.reader.stage l.reader.line.items rest text
          → PrintsAhead l.fn.reader.stage l.fn.reader.line.items script (w ++ text)));
    }
