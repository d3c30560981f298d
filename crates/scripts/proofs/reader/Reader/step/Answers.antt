use Rattle.std.proofs.lemmas.Result.{err_from_is_err_and}
use Rattle.scripts.proofs.reader.Reader.step.Goals as goal

pub returns-in_err-set_up-clause-cause : goal.returns-in_err-set_up-clause-cause
returns-in_err-set_up-clause-cause g c =
    let p = err_from_is_err_and c.from_residual.result c.from_residual.ensures.1 in
    rw (p.1, p.2) (c.in_err-set_up.ensures.unasked _ _)
