use Rattle.casemapping.proofs.Fits.{fits-test}
use Rattle.casemapping.proofs.mask.matches.Goals as goal

pub returns-clause-test : goal.returns-clause-test
returns-clause-test c = fits-test c.args.mask.now c.args.text.now c.is_match.result c.is_match.ensures.0
    c.is_match.ensures.1
