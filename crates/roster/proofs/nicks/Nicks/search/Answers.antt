use Rattle.std.proofs.Common.{◌≡◌, List, ℕ, rules, sym, ap, ◌∙◌, subst}
use Rattle.std.proofs.lemmas.Map.Iter.{rest_more, rest_all}
use Rattle.std.specs.Map.Iter.{deref_pair}
use Rattle.casemapping.specs.Fold.{name_fold, is_same}
use Rattle.roster.specs.Tables.{held_by}
use Rattle.roster.proofs.Nicknames.{passed, hit}
use Rattle.roster.proofs.nicks.Nicks.search.Goals as goal

pub loop-key-init : goal.loop-key-init
loop-key-init c = search rules

pub loop-key-preserved : goal.loop-key-preserved
loop-key-preserved c =
    let n = c.args.nick.now in let k = c.in-Some.key.now in
    let first = rest_more deref_pair c.loop-key.key-iterator c.next.new.self c.next.result
    (c.in-Some.key, c.in-Some.session) c.in-Some.is c.next.ensures.steps in
    let low = subst (λ (j : List ℕ). name_fold j ≡ j) c.as_slice.ensures.octets c.as_slice.ensures.lower_case in
    let miss = ap (λ (j : List ℕ). is_same j n) (sym c.as_slice.ensures.octets) ∙ sym c.is_same.ensures.test
    ∙ c.if-is_same.false in
    sym (passed c.loop-key.key-iterator c.next.new.self k n c.in-Some.session.now first low miss)
    ∙ c.loop-key.invariant

pub returns-then-is_same : goal.returns-then-is_same
returns-then-is_same c =
    let n = c.args.nick.now in let k = c.in-Some.key.now in
    let first = rest_more deref_pair c.loop-key.key-iterator c.next.new.self c.next.result
    (c.in-Some.key, c.in-Some.session) c.in-Some.is c.next.ensures.steps in
    let low = subst (λ (j : List ℕ). name_fold j ≡ j) c.as_slice.ensures.octets c.as_slice.ensures.lower_case in
    let it = ap (λ (j : List ℕ). is_same j n) (sym c.as_slice.ensures.octets) ∙ sym c.is_same.ensures.test
    ∙ c.if-is_same.true in
    sym (hit c.loop-key.key-iterator c.next.new.self k n c.in-Some.session.now first low it) ∙ c.loop-key.invariant

pub returns : goal.returns
returns c =
    let none = rest_all deref_pair c.loop-key.key-iterator c.next.new.self c.next.result c.in-None.is
    c.next.ensures.steps in
    sym (ap (λ es. held_by es (name_fold c.args.nick.now)) none) ∙ c.loop-key.invariant
