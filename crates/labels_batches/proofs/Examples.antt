-- The definitions at work, computed.
use Rattle.std.proofs.Common.{◌≡◌, ℕ, pos, true, false, replicate, List, [], ◌∷◌, ◌++◌, codes, Some, None, refl}
use Rattle.std.specs.Str.{is_utf8, chars}
use Rattle.std.specs.Fmt.{digits}
use lib.Utf8.{encode}
use Rattle.line_grammar.specs.declared.splitter.Piece.TheVariants.{Line, TooLong}
use Rattle.line_grammar.specs.Reading.{reading, parameters, with_command}
use Rattle.line_grammar.specs.Spelling.{bare_line}
use Rattle.message_tags.specs.Tags.{counting_tags, key_shape, last_value}
use Rattle.numerics.specs.declared.outgoing.Out.{Out}
use Rattle.numerics.specs.CivilTime.{time_text, civil_date, falls_in}
use Rattle.numerics.specs.Outgoing.{line, octets}
use Rattle.registration.specs.declared.caps.Cap.TheVariants.{Batch, LabeledResponse, MessageTags, ServerTime}
use Rattle.registration.specs.declared.caps.Caps.{Caps}
use Rattle.registration.specs.Caps.{none_on, caps_with}
use Rattle.labels_batches.specs.Labels.{label_of}
use Rattle.labels_batches.specs.Answers.{whole_answer}
use Rattle.labels_batches.specs.Rendered.{text_as, spelled_line}

abbrev server : List ℕ
server = codes "irc.example"

abbrev crlf : List ℕ
crlf = 13 ∷ 10 ∷ []

abbrev on : Caps
on = caps_with (caps_with none_on Batch true) LabeledResponse true

abbrev pong : Out
pong = line server (codes "PONG") (server ∷ codes "x" ∷ []) false

abbrev hi : List ℕ → Out
hi tags = record (line (codes "al!a@h1") (codes "PRIVMSG") (codes "al" ∷ codes "hi" ∷ []) true) { tags = tags }

-- no line is acknowledged, and one line has the label
short :
    (text_as on (pos 0) (whole_answer server (Some (codes "8")) 5 [] []) ≡ codes "@label=8 :irc.example ACK" ++ crlf)
    × (text_as on (pos 0) (whole_answer server (Some (codes "a;b c")) 4 (pong ∷ []) [])
    ≡ codes "@label=a\\:b\\sc :irc.example PONG irc.example x" ++ crlf)
    × (text_as on (pos 0) (whole_answer server None 4 (pong ∷ []) []) ≡ codes ":irc.example PONG irc.example x"
    ++ crlf)
unfolding spelled_line octets bare_line
short = (refl, refl, refl)

-- several lines stand in a batch
batch :
    text_as on (pos 0) (whole_answer server (Some (codes "j")) 9 (pong ∷ pong ∷ []) [])
    ≡ codes "@label=j :irc.example BATCH +9 labeled-response" ++ crlf
    ++ codes "@batch=9 :irc.example PONG irc.example x" ++ crlf
    ++ codes "@batch=9 :irc.example PONG irc.example x" ++ crlf ++ codes ":irc.example BATCH -9" ++ crlf
unfolding spelled_line octets bare_line digits
batch = refl

-- who sends to itself gets the echo with the label, and then the text
to_oneself : text_as on (pos 0) (whole_answer server (Some (codes "s")) 9 (hi [] ∷ []) (hi [] ∷ []))
    ≡ codes "@label=s :al!a@h1 PRIVMSG al :hi" ++ crlf ++ codes ":al!a@h1 PRIVMSG al :hi" ++ crlf
unfolding spelled_line octets bare_line
to_oneself = refl

-- the label, the moment, and the tags of another client, each for who takes it
all_tags :
    (text_as (caps_with (caps_with on ServerTime true) MessageTags true) (pos 0)
    (whole_answer server (Some (codes "7")) 4 (hi (codes "+k=v") ∷ []) [])
    ≡ codes "@label=7;time=1970-01-01T00:00:00.000Z;+k=v :al!a@h1 PRIVMSG al :hi" ++ crlf)
    × (text_as (caps_with none_on MessageTags true) (pos 0) (whole_answer server None 4 (hi (codes "+k=v") ∷ []) [])
    ≡ codes "@+k=v :al!a@h1 PRIVMSG al :hi" ++ crlf)
    × (text_as none_on (pos 0) (whole_answer server None 4 (hi (codes "+k=v") ∷ []) [])
    ≡ codes ":al!a@h1 PRIVMSG al :hi" ++ crlf)
unfolding spelled_line octets bare_line time_text civil_date falls_in
all_tags = (refl, refl, refl)

-- which label a line has
labels :
    (label_of on (Line (codes "@label=7;label=8 PING x")) ≡ Some (codes "8"))
    × (label_of on (Line (codes "@label=a\\:b PING x")) ≡ Some (codes "a;b"))
    × (label_of on (Line (codes "@label= PING x")) ≡ None)
    × (label_of on (Line (codes "@label=" ++ replicate 64 108 ++ codes " PING x")) ≡ Some (replicate 64 108))
    × (label_of on (Line (codes "@label=" ++ replicate 65 108 ++ codes " PING x")) ≡ None)
    × (label_of (caps_with on Batch false) (Line (codes "@label=7 PING x")) ≡ None)
    × (label_of on (Line (codes "@label=7 P-")) ≡ None)
    × (label_of on TooLong ≡ None)
unfolding reading parameters with_command counting_tags key_shape last_value is_utf8 chars encode
labels = (refl, refl, refl, refl, refl, refl, refl, refl)
