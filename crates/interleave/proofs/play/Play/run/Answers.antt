use Rattle.std.proofs.Common.{arith, ◌≡◌, [], ◌++◌, drop, refl, sym, subst, append-nil, append_assoc, ◌∙◌}
use Rattle.std.proofs.lemmas.Grind.{common_steps}
use Rattle.interleave.specs.State.{in_hand, unread, taken_of, queue_of, planned_for}
use Rattle.interleave.specs.Runs.{IsRun, taken_in}
use Rattle.chronicle.specs.History.{accepted}
use Rattle.interleave.proofs.Order.{prefix_rises}
use Rattle.interleave.proofs.Runs.{run_taken, run_accepted}
use Rattle.interleave.proofs.Whole.{play-whole}
use Rattle.interleave.proofs.play.Play.run.Goals as goal

pub returns-clause-run : goal.returns-clause-run
returns-clause-run g c =
    let l = c.loop-event in let es = c.args.events.now in
    let done : drop l.event-index es ≡ [] = grind (arith, common_steps) in
    subst (λ rs. IsRun c.args.self.now es rs l.self) (append-nil l.notes.items)
    (l.invariant.run [] l.self (subst (λ xs. IsRun l.self xs [] l.self) (sym done) refl))

pub returns-clause-taken_is_owed : goal.returns-clause-taken_is_owed
returns-clause-taken_is_owed g c = run_taken c.args.self.now c.loop-event.self c.args.events.now
    c.loop-event.notes.items c.sound-2.ensures (returns-clause-run g c)

pub returns-clause-accepted_is_sent : goal.returns-clause-accepted_is_sent
returns-clause-accepted_is_sent g c = run_accepted c.args.self.now c.loop-event.self c.args.events.now
    c.loop-event.notes.items c.sound-2.ensures (returns-clause-run g c)

-- what waits and what is planned is the rest
pub returns-clause-taken_is_prefix : goal.returns-clause-taken_is_prefix
returns-clause-taken_is_prefix g c t from to =
    let k = c.loop-event.self in (
      queue_of k t ++ planned_for k t,
      sym (append_assoc (taken_of c.args.self.now t ++ taken_in t c.args.events.now
          c.loop-event.notes.items) (queue_of k t) (planned_for k t)) ∙ returns-clause-taken_is_owed g c t from to,
    )

-- what no worker has begun is the rest
pub returns-clause-accepted_is_prefix : goal.returns-clause-accepted_is_prefix
returns-clause-accepted_is_prefix g c t from to =
    let k = c.loop-event.self in (
      in_hand k t ++ unread k t,
      sym (append_assoc (accepted k.book.history t) (in_hand k t) (unread k t))
          ∙ returns-clause-accepted_is_sent g c t from to,
    )

pub returns-clause-in_order : goal.returns-clause-in_order
returns-clause-in_order g c t from to =
    prefix_rises c.loop-event.self.book.settings c.loop-event.self.book.history t (taken_of c.args.self.now t
    ++ taken_in t c.args.events.now c.loop-event.notes.items) (returns-clause-taken_is_prefix g c t from to)

pub returns-in_err-reserve-clause-error_at_most : goal.returns-in_err-reserve-clause-error_at_most
returns-in_err-reserve-clause-error_at_most g c = c.error_at_most_after_the_close.ensures _ _

pub returns-clause-error_at_most : goal.returns-clause-error_at_most
returns-clause-error_at_most g c = c.error_at_most_after_the_close.ensures _ _

pub returns-in_err-reserve-clause-answered_once : goal.returns-in_err-reserve-clause-answered_once
returns-in_err-reserve-clause-answered_once g c = c.labelled_once.ensures _ _ c.sound.ensures.book.legal

pub returns-clause-answered_once : goal.returns-clause-answered_once
returns-clause-answered_once g c = c.labelled_once.ensures _ _ c.sound-2.ensures.book.legal

pub returns-in_err-reserve-clause-labelled_first : goal.returns-in_err-reserve-clause-labelled_first
returns-in_err-reserve-clause-labelled_first g c = c.labelled_first.ensures _ _

pub returns-in_err-reserve-clause-lone_unbatched : goal.returns-in_err-reserve-clause-lone_unbatched
returns-in_err-reserve-clause-lone_unbatched g c = c.lone_line_unbatched.ensures _ _ c.sound.ensures.book.legal

pub returns-in_err-reserve-clause-batch_closed : goal.returns-in_err-reserve-clause-batch_closed
returns-in_err-reserve-clause-batch_closed g c = c.batch_closed.ensures _ _

pub returns-clause-labelled_first : goal.returns-clause-labelled_first
returns-clause-labelled_first g c = c.labelled_first.ensures _ _

pub returns-clause-lone_unbatched : goal.returns-clause-lone_unbatched
returns-clause-lone_unbatched g c = c.lone_line_unbatched.ensures _ _ c.sound-2.ensures.book.legal

pub returns-clause-batch_closed : goal.returns-clause-batch_closed
returns-clause-batch_closed g c = c.batch_closed.ensures _ _

pub returns-in_err-reserve-clause-answered_whole : goal.returns-in_err-reserve-clause-answered_whole
returns-in_err-reserve-clause-answered_whole g c = play-whole c.answered_once_and_whole.ensures _ c.sound.ensures
    c.accounts_are_named.ensures

pub returns-clause-answered_whole : goal.returns-clause-answered_whole
returns-clause-answered_whole g c = play-whole c.answered_once_and_whole.ensures _ c.sound-2.ensures
    c.accounts_are_named-2.ensures
