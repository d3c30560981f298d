use Rattle.std.proofs.Common.{◌≡◌, [], ◌∷◌, ◌++◌, drop}
use Rattle.transactions.specs.TransactionView.{grown}
use Rattle.transactions.specs.Seen.{IsSeen}
use Rattle.mode_commands.specs.ChannelModes.{in_turn}
use Rattle.mode_commands.specs.Steps.{steps, all_shown}
use Rattle.mode_commands.proofs.channel_modes.take_each.Given as goal

abbrev pub invariant-loop-change : goal.invariant-loop-change
invariant-loop-change l = let d = l.fn.tx in let k = l.fn.seen in
    let xs = drop l.change-index l.others ++ l.last ∷ [] in record {
      settings : l.tx.settings ≡ d.settings;
      base : l.tx.base ≡ d.base;
      grown : grown l.tx (in_turn d.settings l.session k.name l.tx.facts (steps d.base l.seen.state xs))
          ≡ grown d (in_turn d.settings l.session k.name d.facts (steps d.base k.state l.changes));
      shown : l.shown.items ++ all_shown (steps d.base l.seen.state xs)
          ≡ l.fn.shown.items ++ all_shown (steps d.base k.state l.changes);
      name : l.seen.name ≡ k.name;
      known : IsSeen l.tx.facts l.seen;
    }
