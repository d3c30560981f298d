use Rattle.scripts.specs.Steps.{ArePut}
use Rattle.scripts.proofs.worker_one.put_all.Given as goal

-- so many puts so far, none of them refused
abbrev pub invariant-loop : goal.invariant-loop
invariant-loop g l = ArePut l.counter l.fn.play l.play
