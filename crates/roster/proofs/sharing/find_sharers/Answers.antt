use Rattle.std.proofs.Common.{◌≡◌, ℕ, List, eqb, ap, ◌∙◌, subst}
use Rattle.std.proofs.lemmas.List.Filters.{dedup_is}
use Rattle.std.specs.Result.{IfOk}
use Rattle.std.specs.List.{flat_map}
use Rattle.roster.specs.Lists.{row_of}
use Rattle.roster.specs.Tables.{members_in, mates_in}
use Rattle.roster.proofs.Rising.{sorted_once}
use Rattle.roster.proofs.Mates.{mated_are}
use Rattle.roster.proofs.sharing.find_sharers.Goals as goal

pub returns : goal.returns
returns c =
    let ks = c.args.channels.now.list in
    let s = c.args.session in let n = c.args.count in let cs = (row_of c.args.people.now.list s).list in
    let xs = c.in_ok-numbers.numbers.items in
    let ys = c.sort_unstable.new.self.items in let zs = c.dedup.new.self.items in
    let all = c.in_ok-numbers.ensures ∙ ap (flat_map (members_in ks)) c.names.ensures in
    let once = dedup_is eqb ys zs c.dedup.ensures.filtered in
    let has = sorted_once (members_in ks) cs xs ys zs all c.sort_unstable.ensures.permutation
    c.sort_unstable.ensures.sorted once in
    let told = mated_are ks cs s n zs has.0 has.1 in
    let seen = ap (λ (ts : List ℕ). mates_in s n ts) c.deref.ensures.value ∙ told in
    subst (λ (ts : List ℕ). IfOk c.mates_of.result (λ v. v ≡ ts)) seen c.mates_of.ensures
