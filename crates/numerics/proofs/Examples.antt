-- The definitions at work, computed.
use Rattle.std.proofs.Common.{◌≡◌, ℕ, List, [], ◌∷◌, ◌++◌, codes, pos, Some, None, true, false, refl}
use Rattle.line_grammar.specs.Spelling.{bare_line}
use Rattle.numerics.specs.declared.numeric.Numeric.{Numeric}
use Rattle.numerics.specs.declared.numeric.Numeric.TheVariants as numeric
use Rattle.numerics.specs.declared.prefix.Prefix.TheVariants.{Operator}
use Rattle.numerics.specs.Outgoing.{line, octets, room}
use Rattle.numerics.specs.Numerics.{numeric as numeric_line, row_line}
use Rattle.numerics.specs.Support.{tokens}
use Rattle.numerics.specs.Cut.{cut_lines}
use Rattle.numerics.specs.CivilTime.{falls_in, civil_date, time_text}

-- ---- lines

abbrev crlf : List ℕ
crlf = 13 ∷ 10 ∷ []

octets_of_a_join : octets (line (codes "al!a@h1") (codes "JOIN") (codes "#a" ∷ []) false)
    ≡ codes ":al!a@h1 JOIN #a" ++ crlf
unfolding octets bare_line
octets_of_a_join = refl

octets_of_a_text : octets (line (codes "al!a@h1") (codes "PRIVMSG") (codes "#a" ∷ codes "hi there" ∷ []) true)
    ≡ codes ":al!a@h1 PRIVMSG #a :hi there" ++ crlf
unfolding octets bare_line
octets_of_a_text = refl

-- the client's tags aren't among them
octets_without_a_source : octets (record {
  tags = codes "+k=b";
  source = None;
  command = codes "ERROR";
  params = codes "Client Quit" ∷ [];
  colon = true;
}) ≡ codes "ERROR :Client Quit" ++ crlf
unfolding octets bare_line
octets_without_a_source = refl

room_of_a_line : room (line (codes "s") (codes "353") (codes "al" ∷ codes "=" ∷ codes "#a" ∷ [] ∷ []) true) ≡ 494
unfolding room bare_line
room_of_a_line = refl

-- ---- numerics to al, from a server s

abbrev shows : Numeric → List ℕ → Type 0
shows n text = octets (numeric_line (codes "s") (codes "al") n) ≡ text ++ crlf

greeting : shows (numeric.Welcome (codes "al!a@h1")) (codes ":s 001 al :Welcome to the Internet Relay Network al!a@h1")
    × shows (numeric.YourHost (codes "halld-1")) (codes ":s 002 al :Your host is s, running version halld-1")
    × shows (numeric.MyInfo (codes "halld-1")) (codes ":s 004 al s halld-1 i biklmnostv")
unfolding octets bare_line numeric_line row_line
greeting = (refl, refl, refl)

support : shows (numeric.ISupport tokens) (codes
    ":s 005 al AWAYLEN=200 CASEMAPPING=rfc1459 CHANLIMIT=#&:20 CHANMODES=b,k,l,imnst CHANNELLEN=50 CHANTYPES=#& KICKLEN=200 MAXLIST=b:60 MODES=4 NICKLEN=30 PREFIX=(ov)@+ TOPICLEN=300 :are supported by this server")
unfolding octets bare_line numeric_line row_line
support = refl

queries : shows (numeric.WhoisUser (codes "bo") (codes "b") (codes "h2") (codes "Bo B"))
    (codes ":s 311 al bo b h2 * :Bo B")
    × shows (numeric.ChannelModeIs (codes "#a") (codes "+klt") (codes "*" ∷ codes "5" ∷ []))
    (codes ":s 324 al #a +klt * 5")
    × shows (numeric.WhoReply (record {
      channel = codes "#a";
      user = codes "b";
      host = codes "h2";
      nick = codes "bo";
      away = true;
      prefix = Some Operator;
      real = codes "Bo B";
    }))
    (codes ":s 352 al #a b h2 s bo G@ :0 Bo B")
    × shows (numeric.NamReply false (codes "#a") (codes "@al" ∷ codes "bo" ∷ [])) (codes ":s 353 al = #a :@al bo")
    × shows numeric.MotdStart (codes ":s 375 al :- s Message of the day - ")
unfolding octets bare_line numeric_line row_line
queries = (refl, refl, refl, refl, refl)

errors : shows (numeric.NoSuchNick (codes "bo")) (codes ":s 401 al bo :No such nick/channel")
    × shows (numeric.NoSuchNick []) (codes ":s 401 al * :No such nick/channel")
    × shows (numeric.InvalidCapCmd (codes "a b")) (codes ":s 410 al * :Invalid CAP command")
    × shows (numeric.NoRecipient (codes "PRIVMSG")) (codes ":s 411 al :No recipient given (PRIVMSG)")
    × shows (numeric.UnknownCommand (codes "FOO")) (codes ":s 421 al FOO :Unknown command")
    × shows (numeric.UnknownMode 58 (codes "#Mixed")) (codes ":s 472 al * :is unknown mode char to me for #Mixed")
    × shows (numeric.LoggedIn (codes "*!*@h1") (codes "al")) (codes ":s 900 al *!*@h1 al :You are now logged in as al")
unfolding octets bare_line numeric_line row_line
errors = (refl, refl, refl, refl, refl, refl, refl)

-- ---- lists cut into lines

-- `bo cy` has five octets, and a line has three words at most
lists : (cut_lines 5 3 (codes "bo" ∷ codes "cy" ∷ codes "d" ∷ codes "e" ∷ codes "f" ∷ codes "g" ∷ [])
    ≡ (codes "bo" ∷ codes "cy" ∷ []) ∷ (codes "d" ∷ codes "e" ∷ codes "f" ∷ []) ∷ (codes "g" ∷ []) ∷ [])
    × (cut_lines 4 3 (codes "bo" ∷ codes "cy" ∷ []) ≡ (codes "bo" ∷ []) ∷ (codes "cy" ∷ []) ∷ [])
    × (cut_lines 5 3 [] ≡ [])
unfolding cut_lines
lists = (refl, refl, refl)

-- ---- moments

-- the first one; a leap day; the last one
moments : (time_text (pos 0) ≡ codes "1970-01-01T00:00:00.000Z")
    × (time_text (pos 951782400123) ≡ codes "2000-02-29T00:00:00.123Z")
    × (time_text (pos 253370764799999) ≡ codes "9998-12-31T23:59:59.999Z")
unfolding time_text civil_date falls_in
moments = (refl, refl, refl)
