use Rattle.std.proofs.Common.{List, arith, sym, ap, ◌∙◌, subst}
use Rattle.std.specs.Map.{values_of}
use Rattle.channel_state.specs.Held.{ChannelView}
use Rattle.channel_state.specs.State.{is_some_one, with_change}
use Rattle.roster.specs.Table.{Table}
use Rattle.roster.specs.declared.tables.Channel.{Channel}
use Rattle.roster.specs.Tables.{state_in, Reholds}
use Rattle.roster.specs.Stands.{AreHeld, AreHeldBut}
use Rattle.roster.proofs.Bools.{not_true, not_false}
use Rattle.roster.proofs.Keyed.{seen, unseen, now_keyed, now_list, room_at}
use Rattle.roster.proofs.Keyed.{reholds_found, reholds_none, held_with, held_but}
use Rattle.roster.proofs.channels.Channels.change_keyed.Goals as goal

pub returns-in_default-clause-reholds : goal.returns-in_default-clause-reholds
returns-in_default-clause-reholds c =
    let a = c.self.inside in
    let n = c.args.name.now in
    let ks = c.args.self.now.list in let view = ap (λ (t : Table Channel). t.list) c.self.view_is in
    let out = unseen a.channels.entries ks c.args.key.now n c.requires.key c.self.invariant view
    c.in_default.ensures.value in
    let same = ap (λ m. values_of m.entries) c.get_mut.follows.holds-at-none ∙ view in
    subst (λ (ls : List Channel). Reholds ks ls n (with_change c.args.change (state_in ks n)) 1) (sym same)
    (reholds_none ks n (with_change c.args.change) 1 out)

pub change-requires : goal.change-requires
change-requires c =
    let a = c.self.inside in
    let x = c.in-Some.channel.now in let n = c.args.name.now in let ks = c.args.self.now.list in
    let at = seen a.channels.entries a.channels.entries ks c.args.key.now n x x.held c.requires.key c.self.invariant
    (ap (λ (t : Table Channel). t.list) c.self.view_is) c.in-Some.ensures.value in
    let same = room_at ks n x at in let r = c.requires.room in omega arith

pub invariant_of-self-2 : goal.invariant_of-self-2
invariant_of-self-2 c =
    let a = c.self.inside in let x = c.in-Some.channel.now in let h = c.change.new.self in
    now_keyed a.channels.entries _ c.args.self.now.list c.args.key.now c.args.name.now x h c.requires.key
    c.self.invariant (ap (λ (t : Table Channel). t.list) c.self.view_is) c.in-Some.ensures.value
    (c.get_mut.follows.holds _).0

pub returns-clause-reholds : goal.returns-clause-reholds
returns-clause-reholds c =
    let a = c.self.inside in
    let x = c.in-Some.channel.now in
    let n = c.args.name.now in let ks = c.args.self.now.list in let h = c.change.new.self in
    let view = ap (λ (t : Table Channel). t.list) c.self.view_is in
    let at = seen a.channels.entries a.channels.entries ks c.args.key.now n x h c.requires.key c.self.invariant view
    c.in-Some.ensures.value in
    let list = now_list a.channels.entries _ ks c.args.key.now n x h c.requires.key c.self.invariant view
    c.in-Some.ensures.value (c.get_mut.follows.holds _).0 in
    reholds_found ks _ n x h (with_change c.args.change) 1 at list c.change.ensures.state
    (let r = c.change.ensures.room in omega arith)

pub returns-clause-ended : goal.returns-clause-ended
returns-clause-ended c = λ e.
    let a = c.self.inside in
    let x = c.in-Some.channel.now in
    let n = c.args.name.now in
    let ks = c.args.self.now.list in
    let h = c.change.new.self in let view = ap (λ (t : Table Channel). t.list) c.self.view_is in
    let list = now_list a.channels.entries _ ks c.args.key.now n x h c.requires.key c.self.invariant view
    c.in-Some.ensures.value (c.get_mut.follows.holds _).0 in
    subst (AreHeldBut n) (sym list) (held_but ks n h (sym (c.is_there.ensures ∙ ap
    (λ (k : ChannelView). is_some_one k.state.members) c.get.ensures) ∙ not_true c.is_there.result e) c.requires.held)

pub returns-clause-held : goal.returns-clause-held
returns-clause-held c = λ e.
    let a = c.self.inside in
    let x = c.in-Some.channel.now in
    let n = c.args.name.now in
    let ks = c.args.self.now.list in
    let h = c.change.new.self in let view = ap (λ (t : Table Channel). t.list) c.self.view_is in
    let list = now_list a.channels.entries _ ks c.args.key.now n x h c.requires.key c.self.invariant view
    c.in-Some.ensures.value (c.get_mut.follows.holds _).0 in
    subst AreHeld (sym list) (held_with ks n h (sym (c.is_there.ensures ∙ ap
    (λ (k : ChannelView). is_some_one k.state.members) c.get.ensures) ∙ not_false c.is_there.result e) c.requires.held)
