-- An answer to a labelled line is answered once, and whole, as whoever receives its octets reads them: IRCv3
-- labeled-response ("Servers") and IRCv3 batch.
use Rattle.std.specs.Prelude.{◌≡◌, ◌≢◌, ℕ, ◌+◌, ℤ, ◌≤◌, Bool, true, List, ◌∷◌, ◌++◌, map, length, codes, decimal}
use Rattle.std.specs.Prelude.{Option, Some, None, take}
use Rattle.std.specs.List.{All, list_all}
use Rattle.line_grammar.specs.Spelling.{is_text_octet, is_word_octet}
use Rattle.casemapping.specs.Names.{channel_shape, host_shape, nick_shape}
use Rattle.line_grammar.specs.declared.message.Message.{Message}
use Rattle.line_grammar.specs.declared.splitter.Piece.{Piece}
use Rattle.line_grammar.specs.declared.splitter.Piece.TheVariants.{Line}
use Rattle.line_grammar.specs.Lines.{lines}
use Rattle.line_grammar.specs.Reading.{is_command, reading}
use Rattle.message_tags.specs.ClientOnly.{client_only_data}
use Rattle.message_tags.specs.Tags.{counting_tags}
use Rattle.numerics.specs.declared.outgoing.Out.{Out}
use Rattle.numerics.specs.Outgoing.{line, out_text}
use Rattle.numerics.specs.Numerics.{numeric, row}
use Rattle.numerics.specs.declared.numeric.Numeric.{Numeric}
use Rattle.registration.specs.declared.caps.Caps.{Caps}
use Rattle.registration.specs.declared.settings.Settings.{Settings}
use Rattle.registration.specs.Settings.{IsWellSet}
use Rattle.labels_batches.specs.declared.answers.AnswerTag.{AnswerTag}
use Rattle.labels_batches.specs.declared.answers.AnswerTag.TheVariants.{Label}
use Rattle.labels_batches.specs.declared.answers.Tagged.{Tagged}
use Rattle.labels_batches.specs.Answers.{whole_answer, tagged_as}
use Rattle.labels_batches.specs.Labels.{label_of}
use Rattle.labels_batches.specs.Rendered.{with_end, text_as, tag_block}
use Rattle.labels_batches.specs.Whole.{OpensNoBatch}
use Rattle.answer_octets.specs.TextLines.{command_of, label_lines, line_words, tag_in, text_lines, label_answers}
use Rattle.answer_octets.specs.Clean.{HasText, IsClean, IsCleanAnswer, IsCleanTagged, IsMoment}
use Rattle.answer_octets.specs.Clean.{IsRelayed, IsServer, IsTagText, IsTextRow, IsWordOf, is_no_nul, is_one_line}

-- a line as it goes out, without its CR LF
abbrev pub line_of : Caps → ℤ → Tagged → List ℕ
line_of caps m t = with_end (tag_block caps m t) ++ take 510 (out_text t.line)

-- the label that was put to a line
abbrev pub label_value : Option AnswerTag → Option (List ℕ)
label_value (Some (Label label)) = Some label
label_value tag = None

-- the first line has the label and opens no batch; the lines of the copies follow
pub record IsLoneText (label copies text : List ℕ) : Type 0 where
  pub line : List ℕ
  pub lines : text_lines text ≡ line ∷ text_lines copies
  pub labelled : tag_in line (codes "label") ≡ Some label
  pub opens_none : command_of line ≢ codes "BATCH"

-- the first line has the label and opens a batch, two lines or more follow with its reference, and then the line that
-- ends it; the lines of the copies follow
pub record IsBatchText (label reference copies text : List ℕ) : Type 0 where
  pub opening : List ℕ
  pub between : List (List ℕ)
  pub ending : List ℕ
  pub lines : text_lines text ≡ opening ∷ between ++ ending ∷ text_lines copies
  pub labelled : tag_in opening (codes "label") ≡ Some label
  pub opens : line_words opening ≡ codes "BATCH +" ++ reference ++ codes " labeled-response"
  pub several : 2 ≤ length between
  pub in_batch : All (λ l. tag_in l (codes "batch") ≡ Some reference) between
  pub ends : line_words ending ≡ codes "BATCH -" ++ reference

-- ---- laws

-- a text of clean lines is cut into them again, and none of them has a NUL, a CR or an LF
abbrev pub LinesAreCut : Type 0
LinesAreCut = (caps : Caps) (m : ℤ) (ts : List Tagged) → IsMoment m → All IsCleanTagged ts
    → (text_lines (text_as caps m ts) ≡ map (line_of caps m) ts)
    × (list_all (list_all is_text_octet) (text_lines (text_as caps m ts)) ≡ true)

-- the label that is read of a line is the one that was put to it
abbrev pub LabelIsRead : Type 0
LabelIsRead = (caps : Caps) (m : ℤ) (t : Tagged) → IsMoment m → IsCleanTagged t
    → tag_in (line_of caps m t) (codes "label") ≡ label_value t.tag

-- the text of an answer under a label has one line with a label
abbrev pub OneLabel : Type 0
OneLabel = (caps : Caps) (m : ℤ) (server label : List ℕ) (n : ℕ) (reply copies : List Out)
    → IsCleanAnswer m server label n reply copies
    → label_lines (text_as caps m (whole_answer server (Some label) n reply copies)) ≡ 1

-- an answer of one line at most is one line, which opens no batch where the line itself is no BATCH
abbrev pub LoneIsWhole : Type 0
LoneIsWhole = (caps : Caps) (m : ℤ) (server label : List ℕ) (n : ℕ) (reply copies : List Out)
    → IsCleanAnswer m server label n reply copies → length reply ≤ 1 → OpensNoBatch reply
    → IsLoneText label (text_as caps m (map (tagged_as None) copies))
    (text_as caps m (whole_answer server (Some label) n reply copies))

-- an answer of several is a batch that is closed, whose reference is the record's number
abbrev pub SeveralAreWhole : Type 0
SeveralAreWhole = (caps : Caps) (m : ℤ) (server label : List ℕ) (n : ℕ) (reply copies : List Out)
    → IsCleanAnswer m server label n reply copies → 2 ≤ length reply
    → IsBatchText label (decimal n) (text_as caps m (map (tagged_as None) copies))
    (text_as caps m (whole_answer server (Some label) n reply copies))

-- a label that counts is a text without NUL
abbrev pub CountedLabelIsText : Type 0
CountedLabelIsText = (caps : Caps) (piece : Piece) (label : List ℕ) → label_of caps piece ≡ Some label
    → IsTagText label

-- ---- where the octets come from

-- no piece of a stream has a CR or an LF
abbrev pub PiecesAreOneLine : Type 0
PiecesAreOneLine = (stream : List ℕ) → list_all is_one_line (lines stream) ≡ true

-- so what is read of a piece has no NUL, CR or LF, and its tag data no space
abbrev pub ReadIsText : Type 0
ReadIsText = (line : List ℕ) (message : Message) → is_one_line (Line line) ≡ true → reading line ≡ Some message
    → HasText message

-- the tags that are passed on are clients' alone, and end no line
abbrev pub RelayedIsClients : Type 0
RelayedIsClients = (tags : List ℕ) → list_all is_no_nul tags ≡ true
    → IsRelayed (client_only_data (counting_tags tags))

-- a line is clean whose source is a word, whose command is one and whose parameters are text
abbrev pub LineIsClean : Type 0
LineIsClean = (from command : List ℕ) (params : List (List ℕ)) (colon : Bool) → list_all is_word_octet from ≡ true
    → is_command command ≡ true → list_all (list_all is_text_octet) params ≡ true
    → length from + length command ≤ 500 → IsClean (line from command params colon)

-- a numeric is clean, whichever it is, where it names somebody by a text and its words and its text have no NUL, CR or
-- LF
abbrev pub NumericIsClean : Type 0
NumericIsClean = (server to : List ℕ) (n : Numeric) → IsServer server → list_all is_text_octet to ≡ true
    → IsTextRow (row server n) → IsClean (numeric server to n)

-- names of the right shape are words
abbrev pub NicksAreWords : Type 0
NicksAreWords = (nick : List ℕ) → nick_shape nick ≡ true → IsWordOf 30 nick

abbrev pub HostsAreWords : Type 0
HostsAreWords = (host : List ℕ) → host_shape host ≡ true → IsWordOf 63 host

abbrev pub ChannelsAreWords : Type 0
ChannelsAreWords = (channel : List ℕ) → channel_shape channel ≡ true → IsWordOf 50 channel

-- so is the server's name
abbrev pub SettingsNameAServer : Type 0
SettingsNameAServer = (g : Settings) → IsWellSet g → IsServer g.server

-- where one item has a number, its lines alone count
abbrev pub OneItemCounts : Type 0
OneItemCounts = (before later : List (ℕ × List ℕ)) (n : ℕ) (text : List ℕ) → All (λ i. i.0 ≢ n) before
    → All (λ i. i.0 ≢ n) later → label_answers (before ++ (n, text) ∷ later) n ≡ label_lines text

-- whom a session's lines come from is a word
abbrev pub PrefixIsWord : Type 0
PrefixIsWord = (nick user host : List ℕ) → IsWordOf 30 nick → IsWordOf 16 user → IsWordOf 63 host
    → IsWordOf 111 (nick ++ codes "!" ++ user ++ codes "@" ++ host)
