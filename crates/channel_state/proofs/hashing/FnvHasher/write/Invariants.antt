use Rattle.std.proofs.Common.{◌≡◌, take, fold}
use Rattle.channel_state.specs.Hashing.{fnv_step}
use Rattle.channel_state.proofs.hashing.FnvHasher.write.Given as goal

abbrev pub invariant-loop-octet : goal.invariant-loop-octet
invariant-loop-octet l = l.hash ≡ fold fnv_step l.fn.self.hash (take l.octet-index l.bytes)
