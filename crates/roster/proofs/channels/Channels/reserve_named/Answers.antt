use Rattle.std.proofs.Common.{List, arith, sym, ap, ◌∙◌, subst}
use Rattle.std.specs.Map.{values_of}
use Rattle.roster.specs.Table.{Table}
use Rattle.roster.specs.declared.tables.Channel.{Channel}
use Rattle.roster.specs.Stands.{Alike, Reserves}
use Rattle.roster.proofs.MadeRoom.{alike_refl, alike_with}
use Rattle.roster.proofs.Keyed.{seen, unseen, now_keyed, now_list, some_same, with_same, on_ok_map, on_err_map}
use Rattle.roster.proofs.Keyed.{reserves_none}
use Rattle.roster.proofs.channels.Channels.reserve_named.Goals as goal

pub returns-in_err-key-clause-alike : goal.returns-in_err-key-clause-alike
returns-in_err-key-clause-alike c = alike_refl c.args.self.now.list

pub returns-in_default-clause-alike : goal.returns-in_default-clause-alike
returns-in_default-clause-alike c =
    let none = ap (λ m. values_of m.entries) c.get_mut.follows.holds-at-none ∙ ap
    (λ (t : Table Channel). t.list) c.self.view_is in
    subst (λ (ks : List Channel). Alike c.args.self.now.list ks) (sym none) (alike_refl c.args.self.now.list)

pub returns-in_default-clause-reserved : goal.returns-in_default-clause-reserved
returns-in_default-clause-reserved c =
    let a = c.self.inside in
    let n = c.args.name.now in
    let ks = c.args.self.now.list in let view = ap (λ (t : Table Channel). t.list) c.self.view_is in
    let out = unseen a.channels.entries ks c.in_ok-key.key n c.in_ok-key.ensures c.self.invariant view
    c.in_default.ensures.value in
    let same = ap (λ m. values_of m.entries) c.get_mut.follows.holds-at-none ∙ view in
    subst (λ (ls : List Channel). Reserves ks ls n c.args.changes) (sym same) (reserves_none ks n c.args.changes out)

pub invariant_of-self-2 : goal.invariant_of-self-2
invariant_of-self-2 c =
    let a = c.self.inside in let x = c.in-Some.channel.now in let h = c.reserve.new.self in
    now_keyed a.channels.entries _ c.args.self.now.list c.in_ok-key.key c.args.name.now x h c.in_ok-key.ensures
    c.self.invariant (ap (λ (t : Table Channel). t.list) c.self.view_is) c.in-Some.ensures.value
    (c.get_mut.follows.holds _).0

pub returns-clause-alike : goal.returns-clause-alike
returns-clause-alike c =
    let a = c.self.inside in
    let x = c.in-Some.channel.now in
    let h = c.reserve.new.self in
    let n = c.args.name.now in
    let ks = c.args.self.now.list in let view = ap (λ (t : Table Channel). t.list) c.self.view_is in
    let at = seen a.channels.entries a.channels.entries ks c.in_ok-key.key n x h c.in_ok-key.ensures
    c.self.invariant view c.in-Some.ensures.value in
    let list = now_list a.channels.entries _ ks c.in_ok-key.key n x h c.in_ok-key.ensures c.self.invariant view
    c.in-Some.ensures.value (c.get_mut.follows.holds _).0 in
    subst (λ (ls : List Channel). Alike ks ls) (sym list) (alike_with ks n h
    (λ y e. c.reserve.ensures.state ∙ ap (λ (z : Channel). z.held.state) (some_same x y (sym at ∙ e))))

pub returns-clause-reserved : goal.returns-clause-reserved
returns-clause-reserved c =
    let a = c.self.inside in
    let x = c.in-Some.channel.now in
    let h = c.reserve.new.self in
    let n = c.args.name.now in
    let ks = c.args.self.now.list in let view = ap (λ (t : Table Channel). t.list) c.self.view_is in
    let list = now_list a.channels.entries _ ks c.in_ok-key.key n x h c.in_ok-key.ensures c.self.invariant view
    c.in-Some.ensures.value (c.get_mut.follows.holds _).0 in
    on_ok_map c.reserve.result (λ e. record { held = h; reserved = list; room = omega arith }) c.reserve.ensures.room

pub returns-clause-err : goal.returns-clause-err
returns-clause-err c =
    let a = c.self.inside in
    let x = c.in-Some.channel.now in
    let h = c.reserve.new.self in
    let n = c.args.name.now in
    let ks = c.args.self.now.list in let view = ap (λ (t : Table Channel). t.list) c.self.view_is in
    let at = seen a.channels.entries a.channels.entries ks c.in_ok-key.key n x h c.in_ok-key.ensures
    c.self.invariant view c.in-Some.ensures.value in
    let list = now_list a.channels.entries _ ks c.in_ok-key.key n x h c.in_ok-key.ensures c.self.invariant view
    c.in-Some.ensures.value (c.get_mut.follows.holds _).0 in
    on_err_map c.reserve.result (λ e. list ∙ with_same ks n x h at e) c.reserve.ensures.err
