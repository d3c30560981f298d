use Rattle.std.proofs.Common.{◌≡◌, [], ◌∷◌, ◌++◌, OnOk, ap, subst, ◌∙◌}
use Rattle.channel_state.specs.declared.change.Change.TheVariants.{Joined}
use Rattle.channel_state.specs.State.{State}
use Rattle.roster.specs.declared.deed.Deed.TheVariants.{Changed}
use Rattle.transactions.specs.declared.effect.Effect.TheVariants.{Establish}
use Rattle.transactions.specs.TransactionView.{TransactionView, grown}
use Rattle.transactions.proofs.Replay.{grown_grown}
use Rattle.query_commands.specs.Names.{with_members}
use Rattle.channel_commands.specs.Joining.{arrives}
use Rattle.channel_commands.proofs.Rows.{entered_joined}
use Rattle.channel_commands.proofs.joining.come.Goals as goal

pub returns : goal.returns
returns c =
    let d = c.args.tx.now in let s = c.args.session in let from = c.args.from.now in let k = c.args.seen.now in
    let step = Establish (Changed k.name (Joined s)) ∷ [] in let e = grown d step in
    let members : c.as_slice.result.now ≡ k.state.members ++ s ∷ [] =
    c.as_slice.ensures ∙ c.in_ok-members.ensures ∙ ap
    (λ ts. ts ++ s ∷ []) (c.members.ensures ∙ ap (λ (x : State). x.members) c.state.ensures) in
    let shown : arrives e.settings e.base e.facts s from
    (with_members c.name.result.now c.state-2.result.now.state c.as_slice.result.now)
    ≡ arrives e.settings e.base e.facts s from (with_members k.name k.state (k.state.members ++ s ∷ [])) =
    ap (λ n. arrives e.settings e.base e.facts s from
    (with_members n c.state-2.result.now.state c.as_slice.result.now)) c.name.ensures
    ∙ ap (λ (x : State). arrives e.settings e.base e.facts s from (with_members k.name x c.as_slice.result.now))
    c.state-2.ensures
    ∙ ap (λ ts. arrives e.settings e.base e.facts s from (with_members k.name k.state ts)) members in
    let all = shown ∙ entered_joined e.settings e.base e.facts s from k.name k.state c.requires.away in
    subst (λ (f : TransactionView). OnOk c.enter.result (c.enter.new.tx ≡ f))
    (ap (λ (x : TransactionView). grown x (arrives x.settings x.base x.facts s from (with_members c.name.result.now
    c.state-2.result.now.state c.as_slice.result.now))) c.in_ok-establish_change.ensures
    ∙ ap (grown e) all ∙ grown_grown d step _) c.enter.ensures
