use Rattle.std.proofs.Common.{List, ℕ, ap, ◌∙◌}
use Rattle.std.specs.Map.{lookup}
use Rattle.std.specs.Str.{bytes_eq}
use Rattle.roster.specs.Table.{Table}
use Rattle.roster.specs.declared.tables.Channel.{Channel}
use Rattle.roster.specs.Tables.{channel_of}
use Rattle.roster.proofs.Keyed.{found_keyed}
use Rattle.roster.proofs.channels.Channels.find.Goals as goal

pub returns-in-Ok : goal.returns-in-Ok
returns-in-Ok c =
    let es = c.self.inside.channels.entries in let n = c.args.name.now in
    c.get.ensures.value ∙ ap (λ (k : List ℕ). lookup (bytes_eq k) es) c.in-Ok.ensures
    ∙ found_keyed es n c.self.invariant ∙ ap (λ (t : Table Channel). channel_of t.list n) c.self.view_is
