use Rattle.scripts.proofs.Faults.{good_by, bad_by}
use Rattle.scripts.proofs.reader.new_player.Goals as goal

pub returns-in-Ok-clause-ok : goal.returns-in-Ok-clause-ok
returns-in-Ok-clause-ok g c = good_by c.in_ok-settings.settings c.args.limits.now c.in_ok-settings.ensures
    c.in-Ok.ensures.ok.1

pub returns-in-Err-BadSettings-clause-fault : goal.returns-in-Err-BadSettings-clause-fault
returns-in-Err-BadSettings-clause-fault g c = bad_by c.in_ok-settings.settings c.args.limits.now
    c.in_ok-settings.ensures (c.in-Err-BadSettings.ensures.bad c.in-Err-BadSettings.field-0-is)
