use Rattle.std.proofs.Common.{◌≡◌, ℕ, List, Option, Some, OnOk, sym, ap, ◌∙◌, subst}
use Rattle.channel_state.specs.State.{State}
use Rattle.roster.specs.declared.deed.Deed.{Deed}
use Rattle.roster.specs.LookBack.{name_of, state}
use Rattle.transactions.specs.TransactionView.{grown}
use Rattle.talk_commands.specs.Talking.{to_channel, to_open}
use Rattle.talk_commands.proofs.talking.send_to_channel.Goals as goal

pub returns : goal.returns
returns c =
    let d = c.args.tx.now in
    let fs = d.facts in
    let ch = c.args.channel.now in
    let s = c.args.session in let b = c.args.sending.now in let n = c.in-Some.name.now in
    let facts : c.before-2.result.now.facts ≡ fs = c.before-2.ensures.facts ∙ sym c.requires in
    let named : Some n ≡ name_of fs ch = c.in-Some.ensures.name ∙ ap
    (λ (x : List Deed). name_of x c.as_slice.result.now) facts ∙ ap (name_of fs) c.as_slice.ensures in
    let stated : c.in-Some.state.now.state ≡ state fs ch = c.in-Some.ensures.state ∙ ap
    (λ (x : List Deed). state x c.as_slice.result.now) facts ∙ ap (state fs) c.as_slice.ensures in
    subst (λ (o : Option (List ℕ)). OnOk c.send_to_open.result
    (c.send_to_open.new.tx ≡ grown d (to_channel d.settings fs s b ch o))) named
    (subst (λ (k : State). OnOk c.send_to_open.result
    (c.send_to_open.new.tx ≡ grown d (to_open d.settings fs s b n k))) stated c.send_to_open.ensures)
