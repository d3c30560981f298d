use Rattle.std.proofs.Common.{◌++◌, ◌∷◌, [], map, take, sym, ap, ◌∙◌, append_assoc}
use Rattle.registration.specs.declared.caps.Caps.{Caps}
use Rattle.ledger.specs.FanOut.{hearing_of}
use Rattle.ledger.proofs.FanOut.{heard_more}
use Rattle.ledger.proofs.fan_out.hear_each.Goals as goal

pub loop-hearer-preserved : goal.loop-hearer-preserved
loop-hearer-preserved c =
    let fs = c.args.roster.now.facts in let n = c.args.line in let hs = c.args.hearers.now in
    let k = c.loop-hearer.hearer-index in let h = c.hearer-item.result in let had = c.args.heard.now.items in
    let f = hearing_of fs n in
    c.in_ok-push.ensures.items
    ∙ ap (λ (cs : Caps). c.loop-hearer.heard.items ++ record { session = h; caps = cs; line = n } ∷ [])
    c.caps_of-caps.ensures
    ∙ ap (λ xs. xs ++ f h ∷ []) c.loop-hearer.invariant
    ∙ append_assoc had (map f (take k hs)) (f h ∷ [])
    ∙ ap (λ xs. had ++ xs) (sym (heard_more f hs k h c.loop-hearer-test.true c.hearer-item.is))
