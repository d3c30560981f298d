use Rattle.std.proofs.Common.{arith, ◌≤◌, ◌∷◌, ◌++◌, [], ℕ, List, length, take, sym, ap, ◌∙◌, subst}
use Rattle.std.proofs.lemmas.List.{take_more, take_all}
use Rattle.roster.specs.Stands.{LeavesThose}
use Rattle.roster.proofs.Going.{leaves_none, leaves_one, leaves_more}
use Rattle.roster.proofs.channels.Channels.leave_each.Goals as goal

pub loop-name-init : goal.loop-name-init
loop-name-init c = record {
  leaves = leaves_none c.args.self.now.list c.requires.apart c.requires.held
      c.args.session;
  room = omega arith;
}

pub leave-requires : goal.leave-requires
leave-requires c = record { apart = c.loop-name.invariant.leaves.apart; held = c.loop-name.invariant.leaves.held }

pub loop-name-preserved : goal.loop-name-preserved
loop-name-preserved c =
    let i = c.loop-name.name-index in
    let ns = c.args.names.now in let n = c.name-item.result in let v = c.loop-name.invariant.leaves in
    let ks = c.args.self.now.list in
    let mid = c.loop-name.self.list in let ls = c.leave.new.self.list in let t = c.args.session in
    let step = leaves_one mid ls c.as_slice.result.now t v.apart v.held c.leave.ensures.departs in
    let names = ap (λ (x : List ℕ). take i ns ++ x ∷ []) (c.as_slice.ensures ∙ c.name-item.is)
    ∙ sym (take_more ns i n c.loop-name-test.true) in
    record {
      leaves = subst (λ (cs : List (List ℕ)). LeavesThose ks ls cs t) names
          (leaves_more ks mid ls (take i ns) (c.as_slice.result.now ∷ []) t v step);
      room = let first = c.loop-name.invariant.room in let later = c.leave.ensures.room in omega arith;
    }

pub returns-clause-leaves : goal.returns-clause-leaves
returns-clause-leaves c =
    let i = c.loop-name.name-index in
    let ns = c.args.names.now in let l : length ns ≤ i = let out = c.loop-name-test.false in omega arith in
    subst (λ (cs : List (List ℕ)). LeavesThose c.args.self.now.list c.loop-name.self.list cs c.args.session)
    (take_all i ns l) c.loop-name.invariant.leaves
