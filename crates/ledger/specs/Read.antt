-- What is read of a piece before its line is begun.
use Rattle.std.specs.Prelude.{◌≡◌, ℕ, List, Option, None, if◌then◌else◌}
use Rattle.line_grammar.specs.declared.splitter.Piece.{Piece}
use Rattle.chronicle.specs.History.{is_quit}
use Rattle.commands.specs.declared.asked.Asked.{Asked}
use Rattle.commands.specs.Asked.{asked_of, asks_for_quit}
use Rattle.registration.specs.declared.caps.Caps.{Caps}
use Rattle.labels_batches.specs.Labels.{piece_label, takes_labels}

-- what a piece asks for, by which its session quits or not, and its label, whether or not that counts
pub record IsReadOf (piece : Piece) (asked : Asked) (label : Option (List ℕ)) : Type 0 where
  pub asks : asked ≡ asked_of piece
  pub quits : asks_for_quit asked ≡ is_quit piece
  pub labelled : label ≡ piece_label piece

-- a label as it counts for a session of these capabilities
abbrev pub label_for : Caps → Option (List ℕ) → Option (List ℕ)
label_for caps label = if takes_labels caps then label else None
