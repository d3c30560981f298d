use Rattle.std.proofs.Common.{List, ℕ, sym, ap, ◌∙◌, subst}
use Rattle.std.specs.Map.{values_of, remove_entry}
use Rattle.std.specs.Str.{bytes_eq}
use Rattle.roster.specs.Table.{Table}
use Rattle.roster.specs.declared.tables.Channel.{Channel}
use Rattle.roster.specs.Stands.{AreHeldBut}
use Rattle.roster.specs.Tables.{with_someone, AreKeyed}
use Rattle.roster.proofs.Keyed.{removed_keyed, keyed_removed, all_populated}
use Rattle.roster.proofs.channels.Channels.change.Goals as goal

pub invariant_of-self : goal.invariant_of-self
invariant_of-self c =
    let es = c.self.inside.channels.entries in let n = c.args.name.now in
    let gone = c.take_out.ensures.entries ∙ ap (λ (k : List ℕ). remove_entry (bytes_eq k) es) c.requires.key in
    subst AreKeyed (sym gone) (keyed_removed es n c.self.invariant)

pub returns-then-change_keyed-clause-changes : goal.returns-then-change_keyed-clause-changes
returns-then-change_keyed-clause-changes c =
    let es = c.self.inside.channels.entries in
    let n = c.args.name.now in let view = ap (λ (t : Table Channel). t.list) c.self.view_is in
    let gone = c.take_out.ensures.entries ∙ ap (λ (k : List ℕ). remove_entry (bytes_eq k) es) c.requires.key in
    let but = subst (AreHeldBut n) (sym view) (c.change_keyed.ensures.ended c.if-change_keyed.true) in
    record {
      between = c.change_keyed.new.self.list;
      reholds = c.change_keyed.ensures.reholds;
      ended = ap values_of gone ∙ removed_keyed es n c.self.invariant but ∙ ap with_someone view;
    }

pub returns-else-change_keyed-clause-changes : goal.returns-else-change_keyed-clause-changes
returns-else-change_keyed-clause-changes c =
    record {
      between = c.change_keyed.new.self.list;
      reholds = c.change_keyed.ensures.reholds;
      ended = sym
          (all_populated c.change_keyed.new.self.list (c.change_keyed.ensures.held c.if-change_keyed.false));
    }
