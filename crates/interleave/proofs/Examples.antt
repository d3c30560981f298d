-- The definitions at work, computed: a session that takes labels sends a PING with one.
use Rattle.std.proofs.Common.{◌≡◌, inl, ℕ, pos, map, List, [], ◌∷◌, ◌++◌, codes, None, refl, arith}
use Rattle.std.specs.Str.{is_utf8, chars}
use lib.Utf8.{encode}
use Rattle.line_grammar.specs.declared.splitter.Piece.TheVariants.{Line}
use Rattle.line_grammar.specs.Reading.{parameters, reading, with_command}
use Rattle.line_grammar.specs.Spelling.{bare_line}
use Rattle.message_tags.specs.Tags.{counting_tags, key_shape, last_value}
use Rattle.casemapping.specs.Fold.{fold_of}
use Rattle.chronicle.specs.declared.record.Kind.TheVariants.{Opened, Said}
use Rattle.chronicle.specs.History.{Rec, is_quit}
use Rattle.numerics.specs.Outgoing.{octets}
use Rattle.registration.specs.declared.settings.Settings.{Settings}
use Rattle.registration.specs.Caps.{after_request}
use Rattle.labels_batches.specs.Rendered.{spelled_line}
use Rattle.answer_octets.specs.Laws.{IsLoneText}
use Rattle.answer_octets.specs.TextLines.{label_answers}
use Rattle.transactions.specs.Lines.{prefix}
use Rattle.commands.specs.Asked.{asked_of}
use Rattle.commands.specs.Names.{known_name}
use Rattle.commands.specs.Commands.{command_by, command_of}
use Rattle.deliveries.specs.declared.delivery.Delivery.TheVariants.{Lines}
use Rattle.deliveries.specs.Owed.{owed}
use Rattle.interleave.specs.Laws.{IsRequest, Request, record_of}
use Rattle.interleave.specs.Whole.{IsAnsweredWhole, copies_text, octets_of}

abbrev server : Settings
server = record {
  server = codes "irc.example";
  info = codes "halld";
  version = codes "halld-1";
  created = pos 0;
  motd = None;
  accounts = [];
  sessions = 1024;
}

abbrev before : List Rec
before =
    record {
      number = 2;
      moment = pos 0;
      kind = Said 1 0 (Line (codes "CAP REQ :labeled-response batch"));
      missed = [];
    } ∷ record { number = 1; moment = pos 0; kind = Opened 1 (codes "h1"); missed = [] } ∷ []

abbrev asks : Request
asks = record {
  before = before;
  later = [];
  number = 3;
  moment = pos 0;
  missed = [];
  session = 1;
  index = 1;
  piece = Line (codes "@label=a\\sb PING x");
  label = codes "a b";
}

abbrev history : List Rec
history = record_of asks ∷ before

abbrev crlf : List ℕ
crlf = 13 ∷ 10 ∷ []

abbrev pong : List ℕ
pong = codes "@label=a\\sb :irc.example PONG irc.example x"

-- its label counts, unescaped
counts : IsRequest server history asks
unfolding reading parameters with_command asked_of command_of command_by known_name after_request fold_of is_quit
    counting_tags key_shape last_value is_utf8 chars encode
counts = record { split = refl; counts = refl; no_quit = refl; met = refl }

-- what the history owes the session
owes : owed server history 1
    ≡ Lines 2 (codes ":irc.example CAP * ACK :labeled-response batch" ++ crlf) ∷ Lines 3 (pong ++ crlf) ∷ []
unfolding reading parameters with_command asked_of command_of command_by known_name after_request fold_of is_quit
    prefix
    octets bare_line spelled_line counting_tags key_shape last_value is_utf8 chars encode
owes = refl

-- one line with a label is of record 3, and none of record 2
labels :
    ((host : List ℕ) → label_answers (map (octets_of host) (owed server history 1)) 3 ≡ 1)
    × ((host : List ℕ) → label_answers (map (octets_of host) (owed server history 1)) 2 ≡ 0)
unfolding reading parameters with_command asked_of command_of command_by known_name after_request fold_of is_quit
    prefix
    octets bare_line spelled_line counting_tags key_shape last_value is_utf8 chars encode
labels = ((λ host. refl), (λ host. refl))

-- of the same answer twice, two
twice : label_answers ((3, pong ++ crlf) ∷ (3, pong ++ crlf) ∷ []) 3 ≡ 2
unfolding counting_tags key_shape last_value is_utf8 chars encode
twice = refl

lone : IsLoneText (codes "a b") (copies_text server asks) (pong ++ crlf)
unfolding reading parameters with_command asked_of command_of command_by known_name after_request fold_of is_quit
    prefix
    octets bare_line spelled_line counting_tags key_shape last_value is_utf8 chars encode
lone = record { line = pong; lines = refl; labelled = refl; opens_none = λ e. absurd (cc) }

answered : IsAnsweredWhole server history asks
unfolding reading parameters with_command asked_of command_of command_by known_name after_request fold_of is_quit
    prefix
    octets bare_line spelled_line counting_tags key_shape last_value is_utf8 chars encode
answered = record {
  text = pong ++ crlf;
  owes = (1, omega arith, refl);
  once = labels.0;
  whole = inl lone;
}

-- ---- and the premise is needed: a piece of two lines would be answered by two lines with a label

abbrev asks_in_two : Request
asks_in_two = record asks { piece = Line (codes "@label=a PING :x" ++ crlf ++ codes "@label=a FOO") }

two_labels : label_answers (map (octets_of (codes "h1")) (owed server (record_of asks_in_two ∷ before) 1)) 3 ≡ 2
unfolding reading parameters with_command asked_of command_of command_by known_name after_request fold_of is_quit
    prefix
    octets bare_line spelled_line counting_tags key_shape last_value is_utf8 chars encode
two_labels = refl
