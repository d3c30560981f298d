use Rattle.std.proofs.Common.{ℕ, ◌+◌, Bool, List, [], ◌∷◌, ◌++◌, filter, not, drop, ap, ◌∙◌, append_assoc}
use Rattle.roster.specs.LookBack.{invisible}
use Rattle.transactions.proofs.Turns.{filter_more}
use Rattle.query_commands.proofs.visible.shown_members.Goals as goal

pub loop-member-preserved : goal.loop-member-preserved
loop-member-preserved c =
    let p : ℕ → Bool = λ t. not (invisible c.args.roster.now.facts t) in
    let xs = c.args.members.now in
    let i = c.loop-member.member-index in let x = c.member-item.result in let old = c.loop-member.shown in
    ap (λ (ts : List ℕ). ts ++ filter p (drop (i + 1) xs)) c.in_ok-push_shown.ensures
    ∙ append_assoc old (filter p (x ∷ [])) (filter p (drop (i + 1) xs)) ∙ ap (λ (ts : List ℕ). old ++ ts)
    (filter_more p xs i x c.loop-member-test.true c.member-item.is) ∙ c.loop-member.invariant
