-- Limits of what a server is started with: this project's own choice.
use Rattle.std.specs.Prelude.{◌≡◌, ◌≤◌, ⊤, None, IsSome}
use Rattle.serving_options.specs.declared.command_line.ServeOptions.{ServeOptions}
use Rattle.serving_options.specs.declared.command_line.Subcommand.{Subcommand}
use Rattle.serving_options.specs.declared.command_line.Subcommand.TheVariants.{Play, Serve, Check, Account}

pub record IsWithinLimits (o : ServeOptions) : Type 0 where
  pub some_workers : 1 ≤ o.workers
  pub few_workers : o.workers ≤ 64
  pub some_items : 1 ≤ o.sendq
  pub few_items : o.sendq ≤ 4096
  pub some_octets : 65536 ≤ o.sendq_bytes
  pub few_octets : o.sendq_bytes ≤ 1073741824
  pub some_records : 1 ≤ o.limit
  pub few_records : o.limit ≤ 10000000
  pub small_journal : 65536 ≤ o.journal_bytes
  pub large_journal : o.journal_bytes ≤ 68719476736

-- it listens somewhere: where not by TCP, by WebSocket
abbrev pub IsSomewhere : ServeOptions → Type 0
IsSomewhere o = o.tcp ≡ None → IsSome o.ws

abbrev pub IsAskedWithinLimits : Subcommand → Type 0
IsAskedWithinLimits Play = ⊤
IsAskedWithinLimits (Serve o) = IsWithinLimits o
IsAskedWithinLimits (Check o) = IsWithinLimits o
IsAskedWithinLimits (Account name) = ⊤

abbrev pub IsAskedSomewhere : Subcommand → Type 0
IsAskedSomewhere Play = ⊤
IsAskedSomewhere (Serve o) = IsSomewhere o
IsAskedSomewhere (Check o) = IsSomewhere o
IsAskedSomewhere (Account name) = ⊤
