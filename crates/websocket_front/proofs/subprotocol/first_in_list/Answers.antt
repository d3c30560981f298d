use Rattle.std.proofs.Common.{◌+◌, refl, sym, ◌∙◌, arith}
use Rattle.websocket_front.proofs.Naming.{named_first, named_within, named_past, none_is}
use Rattle.websocket_front.proofs.subprotocol.first_in_list.Goals as goal
use Rattle.websocket_front.proofs.subprotocol.first_in_list.Goals.{then-is_separator+else-is_some, else-is_separator}

pub loop-place-init : goal.loop-place-init
loop-place-init c = record { begun = omega arith; found = named_first c.args.value.now }

pub loop-place-preserved : goal.loop-place-preserved
loop-place-preserved c =
    let value = c.args.value.now in
    let place = c.loop-place.place in
    let start = c.loop-place.start in
    let inv = c.loop-place.invariant in
    elim c.if-is_separator.branch [
      | then-is_separator+else-is_some w ↦
          let parts = sym c.is_separator.ensures ∙ w.if-is_separator.true in
          let none = sym w.by_name-found.ensures ∙ none_is w.by_name-found.result
          (sym w.is_some.ensures ∙ w.if-is_some.false) in
          rw w.start-is (record {
            begun = omega arith;
            found = named_past value start place (place + 1) c.loop-place-test.true parts none refl ∙ inv.found;
          })
      | else-is_separator w ↦
          let goes_on = sym c.is_separator.ensures ∙ w.if-is_separator.false in
          rw w.start-is (record {
            begun = omega arith;
            found = named_within value start place inv.begun c.loop-place-test.true goes_on ∙ inv.found;
          })
    ]
