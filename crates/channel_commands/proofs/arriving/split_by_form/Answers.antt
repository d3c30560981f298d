use Rattle.std.proofs.Common.{◌≡◌, ℕ, ◌+◌, Bool, List, [], ◌∷◌, ◌++◌, filter, drop, ap, ◌∙◌, append_assoc}
use Rattle.transactions.proofs.Turns.{filter_more}
use Rattle.channel_commands.specs.Joining.{takes_extended, takes_plain}
use Rattle.channel_commands.proofs.arriving.split_by_form.Goals as goal

pub loop-session-preserved : goal.loop-session-preserved
loop-session-preserved c =
    let fs = c.args.roster.now.facts in
    let xs = c.args.sessions.now in let i = c.loop-session.session-index in let x = c.session-item.result in
    let step : (p : ℕ → Bool) (old new : List ℕ) → new ≡ old ++ filter p (x ∷ [])
    → old ++ filter p (drop i xs) ≡ filter p xs → new ++ filter p (drop (i + 1) xs) ≡ filter p xs =
    λ p old new e before. ap (λ (ts : List ℕ). ts ++ filter p (drop (i + 1) xs)) e
    ∙ append_assoc old (filter p (x ∷ [])) (filter p (drop (i + 1) xs)) ∙ ap
    (λ (ts : List ℕ). old ++ ts) (filter_more p xs i x c.loop-session-test.true c.session-item.is) ∙ before in
    record {
      extended = step (takes_extended fs) c.loop-session.extended _ c.in_ok-push_by_form.ensures.extended
          c.loop-session.invariant.extended;
      plain = step (takes_plain fs) c.loop-session.plain _ c.in_ok-push_by_form.ensures.plain
          c.loop-session.invariant.plain;
    }
