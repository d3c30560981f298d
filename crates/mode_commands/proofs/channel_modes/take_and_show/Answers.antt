use Rattle.std.proofs.Common.{◌≡◌, ◌++◌, List, ap, ◌∙◌, subst, OnOk}
use Rattle.channel_state.specs.State.{State}
use Rattle.transactions.specs.declared.effect.Effect.{Effect}
use Rattle.transactions.specs.TransactionView.{grown}
use Rattle.transactions.proofs.Replay.{on_grown}
use Rattle.mode_commands.specs.declared.letters.ModeChange.{ModeChange}
use Rattle.mode_commands.specs.ChannelModes.{in_turn, shows_changes}
use Rattle.mode_commands.specs.Steps.{steps, all_shown}
use Rattle.mode_commands.proofs.channel_modes.take_and_show.Goals as goal

pub returns : goal.returns
returns c =
    let d = c.args.tx.now in let k = c.args.seen.now in let from = c.args.from.now in let n = c.args.channel.now in
    let xs = steps d.base k.state c.args.changes.now in
    let first = in_turn d.settings c.args.session k.name d.facts xs in
    let shown : c.deref.result.now ≡ all_shown xs = c.deref.ensures.value ∙ c.in_ok-take_each.ensures.shown ∙ ap
    (λ (ys : List ModeChange). ys ++ all_shown xs) c.new-shown.ensures.items in
    let members = c.in_ok-members.ensures ∙ c.members.ensures ∙ ap (λ (x : State). x.members) c.state.ensures in
    let same = ap (λ ts. shows_changes from n ts c.deref.result.now) members
    ∙ ap (shows_changes from n k.state.members) shown in
    subst (λ (es : List Effect). OnOk c.show_changes.result (c.show_changes.new.tx ≡ grown d (first ++ es))) same
    (on_grown c.show_changes.result d c.take_each.new.tx c.show_changes.new.tx first (shows_changes from n
    c.in_ok-members.members c.deref.result.now) c.in_ok-take_each.ensures.grown c.show_changes.ensures)
