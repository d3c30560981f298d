-- FNV-1a, in 64 bits.
use Rattle.std.specs.Prelude.{ℕ, ◌*◌, ◌%◌, ◌^◌, List, fold, bit_xor}
use Rattle.channel_state.specs.declared.hashing.Fnv.{Fnv}

-- a round for an octet
abbrev pub fnv_step : ℕ → ℕ → ℕ
fnv_step hash octet = (bit_xor hash octet * 0x100000001b3) % 2 ^ 64

abbrev pub fnv_write : Fnv → List ℕ → Fnv
fnv_write h octets = record { hash = fold fnv_step h.hash octets }
