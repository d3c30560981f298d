-- The definitions at work, computed.
use Rattle.std.proofs.Common.{◌≡◌, ℕ, List, [], ◌∷◌, ◌++◌, codes, Some, None, refl}
use Rattle.std.proofs.Common.{pos, false, true, inl, inr, arith}
use Rattle.std.specs.Str.{is_utf8, chars}
use Rattle.std.proofs.lemmas.List.Elements.{All-cons, All-nil}
use Rattle.std.proofs.lemmas.Str.{IsUtf8-from_is_utf8}
use Rattle.jiff_core.proofs.SignedLemmas.{signed_arith}
use Rattle.numerics.specs.declared.outgoing.Out.{Out}
use Rattle.numerics.specs.Outgoing.{line}
use Rattle.answer_octets.specs.Clean.{IsClean, IsCleanAnswer, IsMoment, IsTagText}
use lib.Utf8.{encode}
use Rattle.message_tags.specs.Tags.{counting_tags, key_shape, last_value}
use Rattle.answer_octets.specs.TextLines.{command_of, label_lines, line_words, tag_in, text_lines}

abbrev crlf : List ℕ
crlf = 13 ∷ 10 ∷ []

-- CR and LF end a line together alone, and what doesn't end is none
cutting :
    (text_lines (codes "a" ++ crlf ++ crlf ++ codes "b" ++ 13 ∷ codes "c" ++ 10 ∷ codes "d" ++ crlf ++ codes "e")
    ≡ codes "a" ∷ [] ∷ (codes "b" ++ 13 ∷ codes "c" ++ 10 ∷ codes "d") ∷ [])
    × (text_lines [] ≡ [])
cutting = (refl, refl)

-- a label counts wherever it stands in a line's tags, once for each line
counting :
    (label_lines (codes "@label=7 :s PONG" ++ crlf) ≡ 1)
    × (label_lines (codes "@time=x;label=7 :s PONG" ++ crlf) ≡ 1)
    × (label_lines (codes "@label=7;label=8 :s PONG" ++ crlf) ≡ 1)
    × (label_lines (codes "@label=7 :s PONG" ++ crlf ++ codes "@label=7 :s PONG" ++ crlf) ≡ 2)
    × (label_lines (codes "@label=7 :s PONG" ++ 10 ∷ codes "@label=7 :s PONG" ++ crlf) ≡ 1)
unfolding counting_tags key_shape last_value is_utf8 chars encode
counting = (refl, refl, refl, refl, refl)

-- and nowhere else
not_counting :
    (label_lines (codes ":s PONG :@label=7" ++ crlf) ≡ 0)
    × (label_lines (codes "@+label=7 :s PONG" ++ crlf) ≡ 0)
    × (label_lines (codes "@batch=7 :s PONG label=7" ++ crlf) ≡ 0)
    × (label_lines (codes " @label=7 :s PONG" ++ crlf) ≡ 0)
    × (label_lines (codes "@label=7 :s PONG") ≡ 0)
unfolding counting_tags key_shape last_value is_utf8 chars encode
not_counting = (refl, refl, refl, refl, refl)

-- what is read of a tag, and what a line says
reading :
    (tag_in (codes "@label=a\\:b\\sc :s PONG") (codes "label") ≡ Some (codes "a;b c"))
    × (tag_in (codes "@batch=9;label=a :s PONG") (codes "batch") ≡ Some (codes "9"))
    × (tag_in (codes ":s PONG") (codes "label") ≡ None)
    × (line_words (codes "@label=j :irc.example BATCH +9 labeled-response") ≡ codes "BATCH +9 labeled-response")
    × (line_words (codes "@label=j ACK") ≡ codes "ACK")
    × (command_of (codes ":irc.example BATCH -9") ≡ codes "BATCH")
unfolding counting_tags key_shape last_value is_utf8 chars encode
reading = (refl, refl, refl, refl, refl, refl)

-- ---- what the laws take is there

abbrev server : List ℕ
server = codes "irc.example"

abbrev pong : Out
pong = line server (codes "PONG") (server ∷ codes "x" ∷ []) false

abbrev hi : Out
hi = record (line (codes "al!a@h1") (codes "PRIVMSG") (codes "al" ∷ codes "hi there" ∷ []) true) {
  tags = codes "+k=v";
}

pong-clean : IsClean pong
pong-clean = record { source = refl; command = refl; params = refl; tags = refl; clients = refl; fits = omega arith }

hi-clean : IsClean hi
hi-clean = record { source = refl; command = refl; params = refl; tags = refl; clients = refl; fits = omega arith }

label-text : IsTagText (codes "a;b c")
unfolding is_utf8 chars encode
label-text = record { is_text = IsUtf8-from_is_utf8 (codes "a;b c") refl; no_nul = refl }

first-moment : IsMoment (pos 0)
first-moment (inl early) = omega (arith, signed_arith, early)
first-moment (inr late) = omega (arith, signed_arith, late)

clean-answer : IsCleanAnswer (pos 0) server (codes "a;b c") 9 (hi ∷ pong ∷ []) (hi ∷ [])
clean-answer = record {
  moment = first-moment;
  server_is = record { word = refl; short = omega arith };
  number = omega arith;
  label_is = label-text;
  reply_is = All-cons IsClean hi (pong ∷ []) hi-clean (All-cons IsClean pong [] pong-clean (All-nil IsClean));
  copies_are = All-cons IsClean hi [] hi-clean (All-nil IsClean);
}
