use Rattle.std.proofs.Common.{arith, ◌≡◌, ◌<◌, ◌++◌, [], length, take, drop, get_or, slice_set, ap, ◌∙◌}
use Rattle.std.proofs.lemmas.List.{append-nil}
use Rattle.std.proofs.lemmas.List.Edits.{map_over_more}
use Rattle.std.proofs.lemmas.Grind.{common_steps}
use Rattle.casemapping.specs.Fold.{fold_of, name_fold}
use Rattle.casemapping.proofs.folded_name.fold_all.Goals as goal

pub loop-octet-preserved : goal.loop-octet-preserved
loop-octet-preserved c =
    let i = c.loop-octet.octet-index in
    let xs = c.args.octets.now.items in let ys = c.loop-octet.octet-items in let x = get_or ys i 0 in
    let l : i < length xs = omega arith in
    let is : x ≡ get_or ys i x = grind (arith, common_steps) in
    ap (λ y. slice_set ys i y) c.fold.ensures ∙ map_over_more fold_of xs ys i x l c.loop-octet.invariant is

pub returns : goal.returns
returns c =
    let i = c.loop-octet.octet-index in let xs = c.args.octets.now.items in
    let all : take i xs ≡ xs = let out = c.loop-octet-test.false in grind (arith, common_steps) in
    let none : drop i xs ≡ [] = let out = c.loop-octet-test.false in grind (arith, common_steps) in
    let ys = c.loop-octet.octet-items in
    let whole : ys ≡ name_fold xs = c.loop-octet.invariant ∙ ap (λ zs. name_fold zs ++ drop i xs) all ∙ ap
    (λ zs. name_fold xs ++ zs) none ∙ append-nil (name_fold xs) in
    let same : take c.args.octets.now.len (ys ++ drop (length ys) xs) ≡ ys = let ok = c.args.octets.now.ok in
    let n = c.loop-octet.auto.octet-items in grind (arith, common_steps) in
    same ∙ whole
