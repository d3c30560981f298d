use Rattle.std.proofs.Common.{ap, ◌∙◌}
use Rattle.roster.specs.Tables.{holds_name}
use Rattle.roster.proofs.Notes.{kept_note}
use Rattle.roster.proofs.channel_lists.Names.thin.Goals as goal

pub returns-clause-notes : goal.returns-clause-notes
returns-clause-notes c = λ k it e. ap (holds_name k) c.prune.ensures.notes
    ∙ kept_note c.args.channels.now.list c.args.session k c.args.self.now.notes it e
