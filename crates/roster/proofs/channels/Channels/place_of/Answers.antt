use Rattle.std.proofs.Common.{List, slice_get, sym, ap, ◌∙◌}
use Rattle.roster.specs.Table.{Table}
use Rattle.roster.specs.declared.tables.Channel.{Channel}
use Rattle.roster.proofs.Keyed.{seen, unseen}
use Rattle.roster.proofs.Places.{found_place}
use Rattle.roster.proofs.channels.Channels.place_of.Goals as goal

pub returns-in-Some : goal.returns-in-Some
returns-in-Some c =
    let es = c.self.inside.channels.entries in
    let ks = c.args.self.now.list in
    let n = c.args.name.now in
    let i = c.in-Some.place in let k = c.in-Some.field-0-1.now in let x = c.in-Some.field-0-2.now in
    let view = ap (λ (t : Table Channel). t.list) c.self.view_is in (
      x,
      ap (λ (ls : List Channel). slice_get ls i) (sym view) ∙ found_place es i k x c.in-Some.ensures.entry,
      seen es es ks c.in-Ok.key n x x.held c.in-Ok.ensures c.self.invariant view c.in-Some.ensures.value,
    )

pub returns-in-Ok : goal.returns-in-Ok
returns-in-Ok c =
    let es = c.self.inside.channels.entries in let view = ap (λ (t : Table Channel). t.list) c.self.view_is in
    unseen es c.args.self.now.list c.in-Ok.key c.args.name.now c.in-Ok.ensures c.self.invariant view
    c.in-None.ensures.value
