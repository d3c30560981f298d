use Rattle.std.proofs.Common.{List, slice_get, sym, ap, ◌∙◌, subst}
use Rattle.std.specs.Map.{values_of}
use Rattle.channel_state.specs.State.{after_gone}
use Rattle.roster.specs.Table.{Table}
use Rattle.roster.specs.declared.tables.Channel.{Channel}
use Rattle.roster.specs.Stands.{AreApart, AreHeldBut}
use Rattle.roster.specs.Tables.{with_someone, AreKeyed}
use Rattle.roster.proofs.ChannelTable.{apart-with}
use Rattle.roster.proofs.Keyed.{held_as, all_populated, reholds_none}
use Rattle.roster.proofs.Places.{named_so, at_place_with, removed_at_place, keyed_removed_at}
use Rattle.roster.proofs.channels.Channels.leave.Goals as goal

pub returns-in_default-clause-departs : goal.returns-in_default-clause-departs
returns-in_default-clause-departs c =
    let ks = c.args.self.now.list in
    record {
      between = ks;
      reholds = reholds_none ks c.args.name.now
          (after_gone c.args.session) 0 c.in_default.ensures;
      ended = sym (all_populated ks c.requires.held);
    }

pub invariant_of-self : goal.invariant_of-self
invariant_of-self c = subst AreKeyed (sym c.take_out_at.ensures.entries)
    (keyed_removed_at c.self.inside.channels.entries c.in-Some.place c.self.invariant)

pub returns-then-depart_at-clause-departs : goal.returns-then-depart_at-clause-departs
returns-then-depart_at-clause-departs c =
    let ks = c.args.self.now.list in
    let es = c.self.inside.channels.entries in
    let n = c.args.name.now in
    let i = c.in-Some.place in let p = c.in-Some.ensures in let r = c.depart_at.ensures.reholds in let h = r.held in
    let view = ap (λ (t : Table Channel). t.list) c.self.view_is in
    let list = view ∙ r.changed in let same = named_so ks n p.0 p.2 in
    let apart = subst AreApart (sym list) (apart-with ks n h c.requires.apart) in
    let at = ap (λ (ls : List Channel). slice_get ls i) list ∙ at_place_with ks i n p.0 h c.requires.apart p.1 same in
    let but = subst (AreHeldBut n) (sym view) (c.depart_at.ensures.ended c.if-depart_at.true) in
    record {
      between = c.depart_at.new.self.list;
      reholds = r;
      ended = ap values_of c.take_out_at.ensures.entries
          ∙ removed_at_place es i n (held_as p.0 h) apart at same but ∙ ap with_someone view;
    }

pub returns-else-depart_at-clause-departs : goal.returns-else-depart_at-clause-departs
returns-else-depart_at-clause-departs c =
    record {
      between = c.depart_at.new.self.list;
      reholds = c.depart_at.ensures.reholds;
      ended = sym (all_populated c.depart_at.new.self.list (c.depart_at.ensures.held c.if-depart_at.false));
    }
