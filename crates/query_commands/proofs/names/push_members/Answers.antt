use Rattle.std.proofs.Common.{◌≡◌, List, OnOk, subst}
use Rattle.numerics.specs.declared.numeric.Numeric.{Numeric}
use Rattle.query_commands.specs.Telling.{telling_more}
use Rattle.query_commands.proofs.Members.{told_to_member}
use Rattle.query_commands.proofs.names.push_members.Goals as goal

pub returns : goal.returns
returns c =
    let d = c.args.tx.now in
    let name = c.args.name.now in let k = c.args.state.now.state in
    subst (λ (ns : List Numeric). OnOk c.push_all.result (c.push_all.new.telling ≡ telling_more c.args.telling.now ns))
    (told_to_member d.settings d.base c.args.session name k c.args.members.now c.requires) c.push_all.ensures
