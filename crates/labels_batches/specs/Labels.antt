-- Which label a line has: IRCv3 labeled-response. The most octets of a label are this project's own.
use Rattle.std.specs.Prelude.{ℕ, Bool, ◌&&◌, not, ◌==◌, nat_le, List, length, codes, Option, Some, None, if◌then◌else◌}
use Rattle.line_grammar.specs.declared.message.Message.{Message}
use Rattle.line_grammar.specs.declared.splitter.Piece.{Piece}
use Rattle.line_grammar.specs.declared.splitter.Piece.TheVariants.{Line, TooLong}
use Rattle.line_grammar.specs.Reading.{reading}
use Rattle.message_tags.specs.Tags.{tag}
use Rattle.registration.specs.declared.caps.Cap.TheVariants.{Batch, LabeledResponse}
use Rattle.registration.specs.declared.caps.Caps.{Caps}
use Rattle.registration.specs.Caps.{is_on}

-- of 1 to 64 octets
abbrev pub is_label : List ℕ → Bool
is_label value = not (length value == 0) && nat_le (length value) 64

abbrev pub as_label : Option (List ℕ) → Option (List ℕ)
as_label None = None
as_label (Some value) = if is_label value then Some value else None

-- the value of the last tag `label`; what is no message has none
abbrev pub message_label : Option Message → Option (List ℕ)
message_label None = None
message_label (Some m) = as_label (tag m.tags (codes "label"))

-- a line that is too long isn't read for one
abbrev pub piece_label : Piece → Option (List ℕ)
piece_label TooLong = None
piece_label (Line line) = message_label (reading line)

-- labels count where both capabilities are on
abbrev pub takes_labels : Caps → Bool
takes_labels caps = is_on caps LabeledResponse && is_on caps Batch

abbrev pub label_of : Caps → Piece → Option (List ℕ)
label_of caps piece = if takes_labels caps then piece_label piece else None
