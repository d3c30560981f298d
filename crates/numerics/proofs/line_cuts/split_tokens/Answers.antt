use Rattle.std.proofs.Common.{ap, subst, sym, ◌∙◌, arith}
use Rattle.std.specs.List.{All, flat_map}
use Rattle.std.proofs.lemmas.Result.{IfOk-weaker}
use Rattle.numerics.specs.Cut.{AreFull, IsWithin, most_tokens}
use Rattle.numerics.proofs.Cuts.{joined-cut, within-cut, full-cut}
use Rattle.numerics.proofs.line_cuts.split_tokens.Goals as goal

pub returns-clause-joined : goal.returns-clause-joined
returns-clause-joined c = IfOk-weaker c.cut.result _ _ (λ lines e. ap (flat_map (λ line. line)) e
    ∙ joined-cut c.args.room most_tokens c.args.tokens.items) c.cut.ensures

pub returns-clause-fit : goal.returns-clause-fit
returns-clause-fit c = IfOk-weaker c.cut.result _ _ (λ lines e. subst (All (IsWithin c.args.room most_tokens))
    (sym e) (within-cut c.args.room most_tokens c.args.tokens.items (λ h. omega arith) c.requires)) c.cut.ensures

pub returns-clause-full : goal.returns-clause-full
returns-clause-full c = IfOk-weaker c.cut.result _ _ (λ lines e. subst (AreFull c.args.room most_tokens) (sym e)
    (full-cut c.args.room most_tokens c.args.tokens.items)) c.cut.ensures
