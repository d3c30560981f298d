use Rattle.std.proofs.Common.{◌≡◌, ◌++◌, map, take}
use Rattle.numerics.specs.declared.numeric.Numeric.TheVariants.{BanList}
use Rattle.mode_commands.proofs.channel_modes.push_bans.Given as goal

abbrev pub invariant-loop-ban : goal.invariant-loop-ban
invariant-loop-ban l = l.numerics.items ≡ l.fn.numerics.items ++ map (BanList l.channel) (take l.ban-index l.bans)
