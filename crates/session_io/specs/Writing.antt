-- What came of writing, and when nothing more is written: this project's own.
use Rattle.std.specs.Prelude.{◌≡◌, ◌<◌, ◌⊎◌, ℕ, true, [], length, Result, IfOk, OnErr}
use Rattle.deliveries.specs.declared.writing.WriteFault.{WriteFault}
use Rattle.wire.specs.Wired.{Wired, ends, IsSameWire}
use Rattle.wire.specs.declared.wire.Flow.{Flow}
use Rattle.wire.specs.declared.wire.Flow.TheVariants.{Idle, More, Behind, Ended}

-- the wire of this session was pumped, and stands so: it is idle only where all went out and the outbox was found
-- empty, more may wait only where something was taken, it is behind only where the stream answered that it takes
-- nothing now, and it fails only where the stream answered that it takes no more
pub record Pumps (w v : Wired) (t : ℕ) (flow : Result Flow WriteFault) : Type 0 where
  pub same : IsSameWire w v
  pub session : v.session ≡ t
  pub idle : IfOk flow (λ f. f ≡ Idle → (v.rest ≡ []) × (v.waiting ≡ []) × (w.empties < v.empties))
  pub more : IfOk flow (λ f. f ≡ More → length w.taken < length v.taken)
  pub behind : IfOk flow (λ f. f ≡ Behind → w.pauses < v.pauses)
  pub ended : IfOk flow (λ f. f ≡ Ended → (v.rest ≡ []) × (v.waiting ≡ []) × (ends v.taken ≡ true))
  pub fault : OnErr flow (0 < v.faults)

-- nothing more is to be written on the wire of this session, which was pumped: the session's last item went out; or it
-- was shut, all went out, and the outbox was found empty; or the stream answered that it takes no more
pub record IsWritten (shut : Type 0) (t : ℕ) (w v : Wired) : Type 0 where
  pub session : v.session ≡ t
  pub over :
      ((v.rest ≡ []) × (v.waiting ≡ []) × (ends v.taken ≡ true))
      ⊎ ((shut × (v.rest ≡ []) × (v.waiting ≡ []) × (w.empties < v.empties)) ⊎ (0 < v.faults))
