use Rattle.std.proofs.Common.{◌≡◌, ◌-◌, ◌<◌, ◌≤◌, ℕ, length, slice_index_or}
use Rattle.ledger.specs.declared.fan_out.Hearing.{Hearing}
use Rattle.ledger.proofs.plan.run_end.Given as goal

-- what stands before belongs to the session
abbrev pub invariant-loop-end : goal.invariant-loop-end
invariant-loop-end l = record {
  after : l.from < l.end;
  within : l.end ≤ length l.heard;
  run : (d : Hearing) (i : ℕ) → l.from ≤ i → i < l.end
      → (slice_index_or l.heard i d).session ≡ (slice_index_or l.heard l.from d).session;
}

abbrev pub decreases-loop-end : goal.decreases-loop-end
decreases-loop-end l = length l.heard - l.end
