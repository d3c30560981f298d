use Rattle.std.proofs.Common.{arith, ◌≡◌, List, ◌∷◌, ◌+◌, drop, sym, ap, ◌∙◌}
use Rattle.std.proofs.lemmas.Grind.{common_steps}
use Rattle.std.specs.List.{flat_map}
use Rattle.registration.specs.declared.settings.Settings.{Settings}
use Rattle.roster.specs.declared.deed.Deed.{Deed}
use Rattle.roster.specs.LookBack.{after}
use Rattle.transactions.specs.TransactionView.{TransactionView, grown}
use Rattle.transactions.proofs.Replay.{grown_grown}
use Rattle.talk_commands.specs.Talking.{to_one}
use Rattle.talk_commands.proofs.Quiet.{one-quiet}
use Rattle.talk_commands.proofs.talking.send_to_each.Goals as goal

pub loop-target-preserved : goal.loop-target-preserved
loop-target-preserved c =
    let d = c.args.tx.now in
    let e = c.loop-target.tx in let i = c.loop-target.target-index in let xs = c.args.targets.now in
    let s = c.args.session in
    let b = c.args.sending.now in let x = c.target-item.result in let h = c.loop-target.invariant in
    let row = to_one d.settings d.facts s b in
    let is : c.send_to.new.tx ≡ grown e (row x) =
    c.in_ok-send_to.ensures ∙ ap (λ (g : Settings). grown e (to_one g e.facts s b x)) h.settings ∙ ap
    (λ (fs : List Deed). grown e (to_one d.settings fs s b x)) h.facts in
    let next : drop i xs ≡ x ∷ drop (i + 1) xs = let inside = c.loop-target-test.true in
    let at_i = c.target-item.is in grind (arith, common_steps) in
    record {
      settings = ap (λ (k : TransactionView). k.settings) is ∙ h.settings;
      base = ap (λ (k : TransactionView). k.base) is ∙ h.base;
      facts = ap (λ (k : TransactionView). k.facts) is ∙ ap (after e.facts) (one-quiet d.settings d.facts s b x)
          ∙ h.facts;
      sent = ap (λ (k : TransactionView). grown k (flat_map row (drop (i + 1) xs))) is ∙ grown_grown e (row x)
          (flat_map row (drop (i + 1) xs)) ∙ ap (λ ys. grown e (flat_map row ys)) (sym next) ∙ h.sent;
    }
