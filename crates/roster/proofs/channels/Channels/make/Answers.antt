use Rattle.std.proofs.Common.{arith, ◌≡◌, ◌≤◌, ◌∷◌, ◌++◌, [], suc, List, ℕ, sym, ap, ◌∙◌, subst}
use Rattle.std.proofs.lemmas.Grind.{common_steps}
use Rattle.std.specs.Map.{lookup, values_of}
use Rattle.std.specs.Str.{bytes_eq}
use Rattle.roster.specs.Table.{Table}
use Rattle.roster.specs.declared.tables.Channel.{Channel}
use Rattle.roster.specs.Tables.{channel_of, AreKeyed}
use Rattle.roster.specs.Stands.{AreSpare}
use Rattle.roster.proofs.MadeRoom.{spare_last, spare_less}
use Rattle.roster.proofs.Keyed.{found_keyed, values-push, keyed-push}
use Rattle.roster.proofs.channels.Channels.make.Goals as goal

pub make-requires : goal.make-requires
make-requires c =
    let m = c.in-Some.held in let ms = c.pop.new.self.items in
    let e : c.args.spare.now.items ≡ ms ++ m ∷ [] = grind (arith, common_steps) in
    let r = (spare_last 1 ms m (subst (AreSpare 1) e c.requires.empty)).2 in omega arith

pub push-requires-clause-absent : goal.push-requires-clause-absent
push-requires-clause-absent c =
    let es = c.self.inside.channels.entries in let n = c.args.name in
    ap (λ (k : List ℕ). lookup (bytes_eq k) es) c.requires.key ∙ found_keyed es n c.self.invariant ∙ ap
    (λ (t : Table Channel). channel_of t.list n) c.self.view_is ∙ c.requires.absent

pub invariant_of-self : goal.invariant_of-self
invariant_of-self c =
    let es = c.self.inside.channels.entries in
    let e : List ℕ × Channel = (c.args.key, record { name = c.args.name; held = c.make.new.self }) in
    subst AreKeyed (sym c.push.ensures.entries) (keyed-push es e c.self.invariant c.requires.key)

pub returns-in-Some-clause-made : goal.returns-in-Some-clause-made
returns-in-Some-clause-made c =
    let es = c.self.inside.channels.entries in
    let e : List ℕ × Channel = (c.args.key, record { name = c.args.name; held = c.make.new.self }) in
    let m = c.in-Some.held in let ms = c.pop.new.self.items in
    let s : c.args.spare.now.items ≡ ms ++ m ∷ [] = grind (arith, common_steps) in
    λ n a.
    let last = spare_last (suc n) ms m (subst (AreSpare (suc n)) s a) in
    let more = last.2 in let kept = c.make.ensures.room in let l : n ≤ suc n = omega arith in (
      record {
        held = c.make.new.self;
        added = ap values_of c.push.ensures.entries ∙ values-push es e ∙ ap
            (λ (t : Table Channel). t.list ++ e.1 ∷ []) c.self.view_is;
        state = c.make.ensures.state;
        room = omega arith;
      },
      spare_less (suc n) n ms l last.0,
    )
