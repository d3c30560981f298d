-- The words of this crate that the files of each topic take: what a transaction is, what is seen of a channel, who
-- hears, and what is told.
pub use Rattle.transactions.specs.TransactionView.{grown}
pub use Rattle.transactions.specs.Seen.{IsSeen, seen}
pub use Rattle.transactions.specs.Effects.{copy_lines, deeds_of, lines_heard, reply_lines}
pub use Rattle.transactions.specs.Hearers.{shows_to}
pub use Rattle.transactions.specs.Lines.{away_line, extended_join_line, join_line, pong_line, prefix, title}
pub use Rattle.transactions.specs.Replies.{away_told, tells, tells_all}
pub use Rattle.transactions.specs.Denials.{numeric_for}
