use Rattle.std.proofs.Common.{arith, ◌≡◌, Some, None, slice_get, sym, ap, ◌∙◌}
use Rattle.std.proofs.lemmas.Grind.{common_steps}
use Rattle.std.specs.Option.{option_map, option_map_or}
use Rattle.channel_state.specs.Held.{ChannelView}
use Rattle.channel_state.specs.State.{nothing}
use Rattle.roster.specs.declared.tables.Channel.{Channel}
use Rattle.roster.specs.Known.{Known}
use Rattle.roster.specs.LookBack.{channels, name_of, state}
use Rattle.roster.specs.Tables.{channel_of}
use Rattle.roster.proofs.ChannelNames.{names_of-get, owned, owned_at}
use Rattle.roster.proofs.roster.Roster.nth_channel.Goals as goal

pub returns-in-Some-clause-name : goal.returns-in-Some-clause-name
returns-in-Some-clause-name c =
    let r = c.self.inside in let i = c.args.place in
    let it : slice_get r.channels.list i ≡ Some c.in-Some.channel.now = grind (arith, common_steps) in
    sym (
    ap (λ (k : Known). slice_get (channels k.facts) i) (sym c.self.view_is) ∙ ap
    (λ cs. slice_get cs i) c.self.invariant.0.channels.channels ∙ names_of-get r.channels.list i
    ∙ ap (option_map (λ (k : Channel). k.name)) it)

pub returns-in-Some-clause-spelled : goal.returns-in-Some-clause-spelled
returns-in-Some-clause-spelled c =
    let r = c.self.inside in let i = c.args.place in let k = c.in-Some.channel.now in
    let it : slice_get r.channels.list i ≡ Some k = grind (arith, common_steps) in
    let found : channel_of r.channels.list k.name ≡ Some k = owned_at r.channels.list r.channels.list i k
    (owned r.channels.list c.self.invariant.0.channels.apart) it in
    ap (λ (f : Known). name_of f.facts k.name) (sym c.self.view_is) ∙ sym (c.self.invariant.0.channels.names k.name)
    ∙ ap (option_map (λ (x : Channel). x.name)) found

pub returns-in-Some-clause-state : goal.returns-in-Some-clause-state
returns-in-Some-clause-state c =
    let r = c.self.inside in let i = c.args.place in let k = c.in-Some.channel.now in
    let it : slice_get r.channels.list i ≡ Some k = grind (arith, common_steps) in
    let found : channel_of r.channels.list k.name ≡ Some k = owned_at r.channels.list r.channels.list i k
    (owned r.channels.list c.self.invariant.0.channels.apart) it in
    ap (λ (h : ChannelView). h.state) c.get.ensures
    ∙ sym (ap (λ (f : Known). state f.facts k.name) (sym c.self.view_is)
    ∙ sym (c.self.invariant.0.channels.states k.name) ∙ ap
    (λ o. option_map_or (λ (x : Channel). x.held.state) o nothing) found)

pub returns-in-None-clause-name : goal.returns-in-None-clause-name
returns-in-None-clause-name c =
    let r = c.self.inside in let i = c.args.place in
    let none : slice_get r.channels.list i ≡ None = grind (arith, common_steps) in
    sym (
    ap (λ (k : Known). slice_get (channels k.facts) i) (sym c.self.view_is) ∙ ap
    (λ cs. slice_get cs i) c.self.invariant.0.channels.channels ∙ names_of-get r.channels.list i
    ∙ ap (option_map (λ (k : Channel). k.name)) none)
