use Rattle.std.proofs.Common.{ℕ, ◌+◌, ◌<◌, subst, List, flat_map, slice_get, drop, ap, ◌∙◌}
use Rattle.numerics.specs.declared.numeric.Numeric.{Numeric}
use Rattle.roster.specs.LookBack.{channels}
use Rattle.query_commands.specs.Visible.{of_one}
use Rattle.query_commands.specs.Telling.{Telling, telling_more}
use Rattle.query_commands.specs.Listing.{list_told}
use Rattle.query_commands.proofs.Told.{more_more}
use Rattle.query_commands.proofs.Lists.{place_more}
use Rattle.query_commands.proofs.listing.push_all.Goals as goal

pub loop-place-preserved : goal.loop-place-preserved
loop-place-preserved c =
    let f = list_told c.args.roster.now.facts c.args.session in
    let cs = channels c.args.roster.now.facts in let i = c.loop-place.place in let old = c.loop-place.telling in
    ap (λ (t : Telling). telling_more t (flat_map f (drop (i + 1) cs))) c.in_ok-push_at.ensures ∙ more_more old
    (of_one f (slice_get cs i)) (flat_map f (drop (i + 1) cs)) ∙ ap (λ (ns : List Numeric). telling_more old ns)
    (place_more f cs i (subst (λ (n : ℕ). i < n) c.channel_count-place-end.ensures c.loop-place-test.true))
    ∙ c.loop-place.invariant
