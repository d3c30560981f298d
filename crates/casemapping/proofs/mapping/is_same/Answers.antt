use Rattle.casemapping.proofs.SameNames.{is_same-test}
use Rattle.casemapping.proofs.mapping.is_same.Goals as goal

pub returns-clause-test : goal.returns-clause-test
returns-clause-test c = is_same-test c.args.a.now c.args.b.now c.agree_in_all.result c.agree_in_all.ensures.0
    c.agree_in_all.ensures.1
