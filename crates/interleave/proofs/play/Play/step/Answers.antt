use Rattle.interleave.proofs.Order.{sound_owed, sound_accepted}
use Rattle.interleave.proofs.Whole.{play-whole}
use Rattle.interleave.proofs.play.Play.step.Goals as goal

pub returns-clause-taken_is_owed : goal.returns-clause-taken_is_owed
returns-clause-taken_is_owed g c = sound_owed _ c.sound.ensures

pub returns-clause-accepted_is_sent : goal.returns-clause-accepted_is_sent
returns-clause-accepted_is_sent g c = sound_accepted _ c.sound.ensures

pub returns-clause-taken_is_prefix : goal.returns-clause-taken_is_prefix
returns-clause-taken_is_prefix g c t from to = (c.taken_in_order.ensures _ c.sound.ensures t from to).1

pub returns-clause-accepted_is_prefix : goal.returns-clause-accepted_is_prefix
returns-clause-accepted_is_prefix g c = c.accepted_is_prefix_of_sent.ensures _ c.sound.ensures

pub returns-clause-in_order : goal.returns-clause-in_order
returns-clause-in_order g c t from to = (c.taken_in_order.ensures _ c.sound.ensures t from to).0

pub returns-clause-error_at_most : goal.returns-clause-error_at_most
returns-clause-error_at_most g c = c.error_at_most_after_the_close.ensures _ _

pub returns-clause-answered_once : goal.returns-clause-answered_once
returns-clause-answered_once g c = c.labelled_once.ensures _ _ c.sound.ensures.book.legal

pub returns-clause-labelled_first : goal.returns-clause-labelled_first
returns-clause-labelled_first g c = c.labelled_first.ensures _ _

pub returns-clause-lone_unbatched : goal.returns-clause-lone_unbatched
returns-clause-lone_unbatched g c = c.lone_line_unbatched.ensures _ _ c.sound.ensures.book.legal

pub returns-clause-batch_closed : goal.returns-clause-batch_closed
returns-clause-batch_closed g c = c.batch_closed.ensures _ _

pub returns-clause-answered_whole : goal.returns-clause-answered_whole
returns-clause-answered_whole g c = play-whole c.answered_once_and_whole.ensures _ c.sound.ensures
    c.accounts_are_named.ensures
