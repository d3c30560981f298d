-- the stream had or took nothing so often
use Rattle.std.proofs.Common.{◌≡◌}
use Rattle.websocket_front.proofs.greeting.greet.Given as goal

abbrev pub invariant-loop-turn : goal.invariant-loop-turn
invariant-loop-turn g l = l.greeting ≡ l.turn
