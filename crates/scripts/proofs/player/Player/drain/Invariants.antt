use Rattle.std.proofs.Common.{◌≡◌, List, ℕ}
use Rattle.std.specs.Io.KnownBytes.{Appends}
use Rattle.scripts.specs.Notes.{host_of}
use Rattle.scripts.specs.Steps.{AreTaken}
use Rattle.scripts.proofs.player.Player.drain.Given as goal

-- so many items so far
abbrev pub invariant-loop : goal.invariant-loop
invariant-loop g l =
    record {
      taken : (text : List ℕ)
          × AreTaken l.counter l.session (host_of l.fn.self.hosts.items l.session) l.fn.self.play text l.self.play
          × Appends (g.W.Write.contents l.fn.output.inner) (g.W.Write.contents l.output.inner) text;
      hosts : l.self.hosts.items ≡ l.fn.self.hosts.items;
      same : l.output.failures ≡ l.fn.output.failures;
    }
