use Rattle.std.proofs.Common.{◌≡◌, ℕ, List, ◌+◌, length, drop, ap, sym, ◌∙◌}
use Rattle.registration.specs.declared.settings.Settings.{Settings}
use Rattle.roster.specs.declared.deed.Deed.{Deed}
use Rattle.transactions.specs.TransactionView.{TransactionView, grown}
use Rattle.transactions.specs.Effects.{deeds_of}
use Rattle.channel_commands.specs.Each.{each_counted}
use Rattle.channel_commands.specs.Joining.{joins_one}
use Rattle.channel_commands.proofs.Lists.{counted_more, counted_done}
use Rattle.channel_commands.proofs.joining.join_each.Goals as goal

pub loop-target-preserved : goal.loop-target-preserved
loop-target-preserved c =
    let a = c.args in let g = a.tx.now.settings in let fs0 = a.tx.now.base in
    let row = joins_one g fs0 a.session a.from.now in
    let xs = a.targets.now in
    let i = c.loop-target.target-index in
    let d = c.loop-target.tx in let n = c.loop-target.joined in let x = c.target-item.result in
    let here : joins_one d.settings d.base a.session a.from.now d.facts n x ≡ row d.facts n x =
    ap (λ (h : Settings). joins_one h d.base a.session a.from.now d.facts n x) c.loop-target.invariant.settings
    ∙ ap (λ (fs : List Deed). joins_one g fs a.session a.from.now d.facts n x) c.loop-target.invariant.base in
    let one : c.join_one.new.tx ≡ grown d (row d.facts n x) = c.in_ok-joined.ensures.grown ∙ ap (grown d) here in
    let count : c.in_ok-joined.joined ≡ n + length (deeds_of (row d.facts n x)) = c.in_ok-joined.ensures.count ∙ ap
    (λ es. n + length (deeds_of es)) here in
    record {
      settings = ap (λ (e : TransactionView). e.settings) one ∙ c.loop-target.invariant.settings;
      base = ap (λ (e : TransactionView). e.base) one ∙ c.loop-target.invariant.base;
      done =
          ap (λ (m : ℕ). grown c.join_one.new.tx
          (each_counted row c.join_one.new.tx.facts m (drop (i + 1) xs))) count
          ∙ ap (λ (e : TransactionView). grown e
          (each_counted row e.facts (n + length (deeds_of (row d.facts n x))) (drop (i + 1) xs))) one
          ∙ counted_more row d n xs i x c.loop-target-test.true c.target-item.is ∙ c.loop-target.invariant.done;
    }

pub returns : goal.returns
returns c =
    let a = c.args in
    sym (counted_done (joins_one a.tx.now.settings a.tx.now.base a.session a.from.now) c.loop-target.tx
    c.loop-target.joined a.targets.now c.loop-target.target-index c.loop-target-test.false)
    ∙ c.loop-target.invariant.done
