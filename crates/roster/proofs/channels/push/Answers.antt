use Rattle.std.proofs.Common.{is_ok, ap, ◌∙◌}
use Rattle.std.specs.Str.{bytes_eq}
use Rattle.indexmap.proofs.CallerLemmas.{insert_entry-new}
use Rattle.roster.proofs.Keyed.{on_ok}
use Rattle.roster.proofs.channels.push.Goals as goal

pub returns-clause-entries : goal.returns-clause-entries
returns-clause-entries c = on_ok _ c.insert.result (ap is_ok c.unwrap.ensures) c.insert.ensures.entries
    ∙ insert_entry-new bytes_eq c.args.channels.now c.args.key c.args.channel c.requires.absent
