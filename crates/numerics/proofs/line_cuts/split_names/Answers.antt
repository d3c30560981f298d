use Rattle.std.proofs.Common.{◌≡◌, ◌<◌, length, ap, subst, sym, ◌∙◌, arith}
use Rattle.std.proofs.lemmas.Grind.{common_steps}
use Rattle.std.specs.List.{All, flat_map}
use Rattle.std.proofs.lemmas.Result.{IfOk-weaker}
use Rattle.numerics.specs.Cut.{AreFull, IsWithin}
use Rattle.numerics.proofs.Cuts.{joined-cut, within-cut, full-cut}
use Rattle.numerics.proofs.line_cuts.split_names.Goals as goal

pub returns-clause-joined : goal.returns-clause-joined
returns-clause-joined c = IfOk-weaker c.cut.result _ _ (λ lines e. ap (flat_map (λ line. line)) e
    ∙ joined-cut c.args.room c.len-most.result c.args.names.items) c.cut.ensures

pub returns-clause-fit : goal.returns-clause-fit
returns-clause-fit c = λ short.
    let room = c.args.room in
    let most = c.len-most.result in let is : most ≡ length c.args.names.items = grind (arith, common_steps) in
    IfOk-weaker c.cut.result _ _
    (λ lines e. subst (λ m. All (IsWithin room m) lines.items) is (subst (All (IsWithin room most)) (sym e)
    (within-cut room most c.args.names.items (λ h. subst (λ m. 0 < m) (sym is) h) short))) c.cut.ensures

pub returns-clause-full : goal.returns-clause-full
returns-clause-full c =
    let room = c.args.room in
    let most = c.len-most.result in let is : most ≡ length c.args.names.items = grind (arith, common_steps) in
    IfOk-weaker c.cut.result _ _ (λ lines e. subst (λ m. AreFull room m lines.items) is
    (subst (AreFull room most) (sym e) (full-cut room most c.args.names.items))) c.cut.ensures
