use Rattle.interleave.proofs.Whole.{answered-whole}
use Rattle.interleave.proofs.laws.answered_once_and_whole.Goals as goal

pub returns : goal.returns
returns c = answered-whole c.once_in_order.ensures c.labelled_once.ensures c.one_item_counts.ensures
    c.one_line_has_the_label.ensures c.lone_line_is_whole.ensures c.several_lines_are_whole.ensures
    c.answers_are_clean.ensures c.no_line_opens_a_batch.ensures c.records_open_no_others.ensures
