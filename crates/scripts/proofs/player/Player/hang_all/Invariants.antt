use Rattle.std.proofs.Common.{◌≡◌}
use Rattle.scripts.proofs.Late.{HungSoFar}
use Rattle.scripts.proofs.player.Player.hang_all.Given as goal

-- so many sessions so far
abbrev pub invariant-loop : goal.invariant-loop
invariant-loop g l =
    record {
      hung : HungSoFar l.counter l.moment l.fn.self.play l.self.play (g.W.Write.contents l.fn.output.inner)
          (g.W.Write.contents l.output.inner);
      hosts : l.self.hosts.items ≡ l.fn.self.hosts.items;
      same : l.output.failures ≡ l.fn.output.failures;
    }
