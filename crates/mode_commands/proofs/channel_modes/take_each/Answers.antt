use Rattle.std.proofs.Common.{◌≡◌, ◌+◌, ◌++◌, List, [], ◌∷◌, ℕ, drop, refl, ap, ◌∙◌}
use Rattle.registration.specs.declared.settings.Settings.{Settings}
use Rattle.channel_state.specs.State.{State}
use Rattle.roster.specs.declared.deed.Deed.{Deed}
use Rattle.transactions.specs.TransactionView.{TransactionView, grown}
use Rattle.transactions.specs.Seen.{Seen}
use Rattle.mode_commands.specs.declared.letters.ModeChange.{ModeChange}
use Rattle.mode_commands.specs.ChannelModes.{does, in_turn}
use Rattle.mode_commands.specs.Steps.{step, after_mode, steps, shown_by, all_shown}
use Rattle.mode_commands.proofs.Turns.{turn_more, shown_more}
use Rattle.mode_commands.proofs.channel_modes.take_each.Goals as goal

pub loop-change-preserved : goal.loop-change-preserved
loop-change-preserved c =
    let g = c.args.tx.now.settings in
    let b = c.args.tx.now.base in let s = c.args.session in let n = c.args.seen.now.name in
    let xs = c.in-Some.others.now in
    let zs = c.in-Some.last.now ∷ [] in let i = c.loop-change.change-index in let inv = c.loop-change.invariant in
    let d = c.loop-change.tx in
    let l = c.loop-change.seen in let k = l.state in let x = c.change-item.result in let y = step b k x in
    let same : step d.base k x ≡ y = ap (λ (fs : List Deed). step fs k x) inv.base in
    let grew : c.take_change.new.tx ≡ grown d (does g s n d.facts y) =
    c.in_ok-take_change.ensures.grown ∙ ap (λ z. grown d (does d.settings s l.name d.facts z)) same ∙ ap
    (λ (h : Settings). grown d (does h s l.name d.facts y)) inv.settings ∙ ap
    (λ (m : List ℕ). grown d (does g s m d.facts y)) inv.name in
    let now : c.take_change.new.seen.state ≡ after_mode y k = ap
    (λ (z : Seen). z.state) (c.in_ok-take_change.ensures.seen refl) ∙ ap (λ z. after_mode z k) same in
    let rest = drop (i + 1) xs ++ zs in
    record {
      settings = ap (λ (e : TransactionView). e.settings) grew ∙ inv.settings;
      base = ap (λ (e : TransactionView). e.base) grew ∙ inv.base;
      grown = ap (λ (z : State). grown c.take_change.new.tx
          (in_turn g s n c.take_change.new.tx.facts (steps b z rest))) now ∙ ap
          (λ (e : TransactionView). grown e (in_turn g s n e.facts (steps b (after_mode y k) rest))) grew
          ∙ turn_more b k xs i zs g s n d x c.loop-change-test.true c.change-item.is ∙ inv.grown;
      shown = ap (λ (z : State). c.take_change.new.shown.items ++ all_shown (steps b z rest)) now ∙ ap
          (λ (zs : List ModeChange). zs ++ all_shown (steps b (after_mode y k) rest))
          (c.in_ok-take_change.ensures.shown ∙ ap (λ z. c.loop-change.shown.items ++ shown_by z) same)
          ∙ shown_more b k xs i zs c.loop-change.shown.items x c.loop-change-test.true c.change-item.is ∙ inv.shown;
      name = ap (λ (z : Seen). z.name) (c.in_ok-take_change.ensures.seen refl) ∙ inv.name;
      known = c.in_ok-take_change.ensures.known refl;
    }
