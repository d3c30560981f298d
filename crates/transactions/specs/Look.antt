-- A channel as it is looked at, in the roster or in a copy: this project's own choice.
use Rattle.std.specs.Prelude.{ℕ}
use Rattle.transactions.specs.declared.seen_channel.Look.{Look}
use Rattle.transactions.specs.declared.seen_channel.Look.TheVariants.{Kept, Copied}
use Rattle.transactions.specs.Seen.{Seen}

-- the channel that is looked at
abbrev pub looked_at : Look → Seen
looked_at (Kept name state) = record { name = name.now; state = state.now.state }
looked_at (Copied name state) = record { name = name; state = state.state }

-- for how many changes there is room: what is kept isn't changed
abbrev pub look_room : Look → ℕ
look_room (Kept name state) = 0
look_room (Copied name state) = state.room
