use Rattle.std.proofs.Common.{subst}
use Rattle.std.specs.Map.{values_of}
use Rattle.roster.specs.Table.{Table}
use Rattle.roster.specs.declared.tables.Channel.{Channel}
use Rattle.roster.specs.Stands.{Alike}
use Rattle.roster.proofs.Copies.{alike_copied, keyed_copied}
use Rattle.roster.proofs.channels.Channels.try_clone.Goals as goal

pub invariant_of-result : goal.invariant_of-result
invariant_of-result c = keyed_copied c.self.inside.channels.entries c.in_ok-clone.field-0.entries
    c.in_ok-clone.ensures.cases c.self.invariant

pub returns : goal.returns
returns c = subst (λ (t : Table Channel). Alike t.list (values_of c.in_ok-clone.field-0.entries)) c.self.view_is
    (alike_copied c.self.inside.channels.entries c.in_ok-clone.field-0.entries c.in_ok-clone.ensures.cases)
