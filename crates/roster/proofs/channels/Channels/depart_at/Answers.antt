use Rattle.std.proofs.Common.{◌≡◌, true, Some, None, List, slice_get, arith, sym, ap, ◌∙◌, subst}
use Rattle.casemapping.specs.Fold.{is_same}
use Rattle.channel_state.specs.Held.{ChannelView}
use Rattle.channel_state.specs.State.{is_some_one, after_gone}
use Rattle.roster.specs.Table.{Table}
use Rattle.roster.specs.declared.tables.Channel.{Channel}
use Rattle.roster.specs.Stands.{AreHeld, AreHeldBut}
use Rattle.roster.proofs.Bools.{not_true, not_false}
use Rattle.roster.proofs.Keyed.{keyed_at, values_at, some_same, reholds_found, held_with, held_but}
use Rattle.roster.proofs.Places.{named_so, set_at_place}
use Rattle.roster.proofs.channels.Channels.depart_at.Goals as goal

pub unreachable-requires : goal.unreachable-requires
unreachable-requires c =
    let p = c.requires.at in
    let none : slice_get c.args.self.now.list c.args.place ≡ None = sym
    (c.in_default.ensures.value ∙ ap (λ (t : Table Channel). slice_get t.list c.args.place) c.self.view_is) in
    let f : Some p.0 ≡ None = sym p.1 ∙ none in cc

pub invariant_of-self : goal.invariant_of-self
invariant_of-self c = keyed_at c.self.inside.channels.entries c.args.place c.in-Some.channel.now c.depart.new.self
    c.self.invariant (sym c.in-Some.ensures.value)

pub returns-clause-reholds : goal.returns-clause-reholds
returns-clause-reholds c =
    let ks = c.args.self.now.list in
    let n = c.args.name.now in
    let i = c.args.place in let x = c.in-Some.channel.now in let h = c.depart.new.self in let p = c.requires.at in
    let view = ap (λ (t : Table Channel). t.list) c.self.view_is in
    let at : slice_get ks i
    ≡ Some x = sym (c.in-Some.ensures.value ∙ ap (λ (ls : List Channel). slice_get ls i) view) in
    let it = some_same p.0 x (sym p.1 ∙ at) in
    let same : is_same x.name n ≡ true = ap (λ (y : Channel). is_same y.name n) (sym it) ∙ named_so ks n p.0 p.2 in
    let list = values_at c.self.inside.channels.entries ks i (record { name = x.name; held = h }) view
    ∙ set_at_place ks i n x h c.requires.apart at same in
    reholds_found ks _ n x h (after_gone c.args.session) 0 (p.2 ∙ ap (λ (y : Channel). Some y) it) list
    c.depart.ensures.state (let r = c.depart.ensures.room in omega arith)

pub returns-clause-ended : goal.returns-clause-ended
returns-clause-ended c = λ e.
    let ks = c.args.self.now.list in
    let n = c.args.name.now in
    let i = c.args.place in let x = c.in-Some.channel.now in let h = c.depart.new.self in let p = c.requires.at in
    let view = ap (λ (t : Table Channel). t.list) c.self.view_is in
    let at : slice_get ks i
    ≡ Some x = sym (c.in-Some.ensures.value ∙ ap (λ (ls : List Channel). slice_get ls i) view) in
    let it = some_same p.0 x (sym p.1 ∙ at) in
    let same : is_same x.name n ≡ true = ap (λ (y : Channel). is_same y.name n) (sym it) ∙ named_so ks n p.0 p.2 in
    let list = values_at c.self.inside.channels.entries ks i (record { name = x.name; held = h }) view
    ∙ set_at_place ks i n x h c.requires.apart at same in
    subst (AreHeldBut n) (sym list) (held_but ks n h (sym (c.is_there.ensures ∙ ap
    (λ (k : ChannelView). is_some_one k.state.members) c.get.ensures) ∙ not_true c.is_there.result e) c.requires.held)

pub returns-clause-held : goal.returns-clause-held
returns-clause-held c = λ e.
    let ks = c.args.self.now.list in
    let n = c.args.name.now in
    let i = c.args.place in let x = c.in-Some.channel.now in let h = c.depart.new.self in let p = c.requires.at in
    let view = ap (λ (t : Table Channel). t.list) c.self.view_is in
    let at : slice_get ks i
    ≡ Some x = sym (c.in-Some.ensures.value ∙ ap (λ (ls : List Channel). slice_get ls i) view) in
    let it = some_same p.0 x (sym p.1 ∙ at) in
    let same : is_same x.name n ≡ true = ap (λ (y : Channel). is_same y.name n) (sym it) ∙ named_so ks n p.0 p.2 in
    let list = values_at c.self.inside.channels.entries ks i (record { name = x.name; held = h }) view
    ∙ set_at_place ks i n x h c.requires.apart at same in
    subst AreHeld (sym list) (held_with ks n h (sym (c.is_there.ensures ∙ ap
    (λ (k : ChannelView). is_some_one k.state.members) c.get.ensures) ∙ not_false c.is_there.result e) c.requires.held)
