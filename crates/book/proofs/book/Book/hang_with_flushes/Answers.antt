use Rattle.std.proofs.lemmas.Grind.{common_steps}
use Rattle.std.proofs.Common.{◌≡◌, arith, true, false, sym, ◌∙◌}
use Rattle.book.proofs.Tells.{hung_tells}
use Rattle.book.proofs.book.Book.hang_with_flushes.Goals as goal
use Rattle.book.proofs.book.Book.hang_with_flushes.Goals.{then-not-hung, else-not-hung}

pub returns-clause-flushes : goal.returns-clause-flushes
returns-clause-flushes g c =
    let m = c.args.self.now in let k = c.hang.new.self in let s = c.args.session in
    let old = c.args.flushes.now in let hung = c.in_ok-hung.ensures.outcome in
    elim c.if-not-hung.branch [
      | then-not-hung w ↦
          rw w.flushes-is (hung_tells g.O.Outbox.accepts g.O.Outbox.refuses m k s c.args.why c.args.moment old
          w.note_in_room.new.self hung.may.known.from_1 hung.may.not_shut hung.ok w.note_in_room.ensures.kept
          (λ none. w.note_in_room.ensures.flushes))
      | else-not-hung w ↦
          let missed : c.in_ok-hung.hung.missed ≡ true = grind (arith, common_steps) in
          rw w.flushes-is (hung_tells g.O.Outbox.accepts g.O.Outbox.refuses m k s c.args.why c.args.moment old old
          hung.may.known.from_1 hung.may.not_shut hung.ok (λ t is. is)
          (λ none. absurd (let f : true ≡ false = sym missed ∙ hung.missed ∙ none in cc)))
    ]
