-- The definitions at work, computed: sessions that register, log in and are refused, and two people who meet in a
-- channel.
use Rattle.std.proofs.Common.{◌≡◌, ℕ, ◌+◌, pos, List, [], ◌∷◌, ◌++◌, length, codes, replicate, None, refl}
use Rattle.base64.proofs.OnLiterals.{base64_on_literals}
use Rattle.sha2.specs.Sha256.{sha256, first_words, schedule, rounds, compress, hash_after, digest_bytes}
use Rattle.line_grammar.specs.declared.splitter.Piece.TheVariants.{Line}
use Rattle.line_grammar.specs.Reading.{reading, parameters, with_command}
use Rattle.line_grammar.specs.Spelling.{bare_line}
use Rattle.casemapping.specs.Fold.{fold_of}
use Rattle.casemapping.specs.Names.{nick_shape, channel_shape}
use Rattle.chronicle.specs.declared.record.Kind.{Kind}
use Rattle.chronicle.specs.declared.record.Kind.TheVariants.{Opened, Said, Gone}
use Rattle.chronicle.specs.declared.why.Why.TheVariants.{Quit}
use Rattle.chronicle.specs.History.{Rec, is_quit}
use Rattle.numerics.specs.Outgoing.{octets, room}
use Rattle.numerics.specs.Numerics.{numeric, row_line}
use Rattle.numerics.specs.Cut.{cut_lines}
use Rattle.numerics.specs.CivilTime.{falls_in, civil_date, time_text}
use Rattle.registration.specs.declared.accounts.Account.{Account}
use Rattle.registration.specs.declared.settings.Settings.{Settings}
use Rattle.registration.specs.Accounts.{logged_in}
use Rattle.registration.specs.Caps.{after_request}
use Rattle.registration.specs.Enrol.{nick_answer, sasl_answer}
use Rattle.registration.specs.Plain.{credentials_of}
use Rattle.commands.specs.Asked.{asked_of}
use Rattle.commands.specs.Names.{known_name}
use Rattle.commands.specs.Commands.{command_by, command_of}
use Rattle.casemapping.specs.Fold.{is_same}
use Rattle.roster.specs.LookBack.{members}
use Rattle.channel_commands.specs.Found.{channel_of}
use Rattle.transactions.specs.Hearers.{shows_to}
use Rattle.channel_commands.specs.Joining.{bar_of, arrives, arrival_shown}
use Rattle.query_commands.specs.Names.{member_name}
use Rattle.query_commands.specs.Visible.{members_for}
use Rattle.std.specs.Str.{is_utf8, chars}
use lib.Utf8.{encode}
use Rattle.message_tags.specs.Tags.{counting_tags, key_shape, last_value}
use Rattle.message_tags.specs.ClientOnly.{client_only_data}
use Rattle.labels_batches.specs.Rendered.{spelled_line}
use Rattle.deeds.specs.Deeds.{facts}
use Rattle.transactions.specs.Lines.{prefix}
use Rattle.deliveries.specs.declared.delivery.Delivery.{Delivery}
use Rattle.deliveries.specs.declared.delivery.Delivery.TheVariants.{Lines, Last}
use Rattle.deliveries.specs.Owed.{owed}

-- records that nobody missed, at moment 0; the newest stands first
abbrev records : List Kind → List Rec
records [] = []
records (k ∷ ks) = record { number = length ks + 1; moment = pos 0; kind = k; missed = [] } ∷ records ks

-- lines that a session says one after another, from line i on, after other records
abbrev says : ℕ → ℕ → List (List ℕ) → List Kind → List Kind
says s i [] ks = ks
says s i (x ∷ xs) ks = says s (i + 1) xs (Said s i (Line x) ∷ ks)

abbrev server : List Account → Settings
server accounts = record {
  server = codes "irc.example";
  info = codes "halld";
  version = codes "halld-1";
  created = pos 0;
  motd = None;
  accounts = accounts;
  sessions = 1024;
}

-- what the first session is owed for lines of it
abbrev owes : List Account → List (List ℕ) → List Delivery
owes accounts xs = owed (server accounts) (records (says 1 0 xs (Opened 1 (codes "h1") ∷ []))) 1

abbrev crlf : List ℕ
crlf = 13 ∷ 10 ∷ []

abbrev greets : List ℕ → List ℕ → List ℕ
greets nick rest =
    codes ":irc.example 001 " ++ nick ++ codes " :Welcome to the Internet Relay Network " ++ nick ++ rest ++ crlf
    ++ codes ":irc.example 002 " ++ nick ++ codes " :Your host is irc.example, running version halld-1" ++ crlf
    ++ codes ":irc.example 003 " ++ nick ++ codes " :This server was created 1970-01-01T00:00:00.000Z" ++ crlf
    ++ codes ":irc.example 004 " ++ nick ++ codes " irc.example halld-1 i biklmnostv" ++ crlf
    ++ codes ":irc.example 005 " ++ nick ++ codes
    " AWAYLEN=200 CASEMAPPING=rfc1459 CHANLIMIT=#&:20 CHANMODES=b,k,l,imnst CHANNELLEN=50 CHANTYPES=#& KICKLEN=200 MAXLIST=b:60 MODES=4 NICKLEN=30 PREFIX=(ov)@+ TOPICLEN=300 :are supported by this server"
    ++ crlf
    ++ codes ":irc.example 422 " ++ nick ++ codes " :MOTD File is missing" ++ crlf

abbrev welcome : List ℕ
welcome = greets (codes "al") (codes "!a@h1")

abbrev starts : List (List ℕ)
starts = codes "NICK al" ∷ codes "USER a 0 * :Al" ∷ []

-- ---- a session registers

registers : owes [] starts ≡ Lines 3 welcome ∷ []
unfolding reading parameters with_command asked_of command_of command_by known_name nick_answer fold_of nick_shape
    is_same
    is_quit prefix octets bare_line numeric row_line cut_lines time_text civil_date falls_in spelled_line
registers = refl

-- before it is registered it may not join; a message of too few parameters is told so first, and an unknown command
-- whoever sends it
is_refused : owes [] (codes "JOIN #a" ∷ codes "JOIN" ∷ codes "FOO" ∷ codes "tagmsg" ∷ codes "NOTICE" ∷ [])
    ≡ Lines 2 (codes ":irc.example 451 * :You have not registered" ++ crlf)
    ∷ Lines 3 (codes ":irc.example 461 * JOIN :Not enough parameters" ++ crlf)
    ∷ Lines 4 (codes ":irc.example 421 * FOO :Unknown command" ++ crlf)
    ∷ Lines 5 (codes ":irc.example 411 * :No recipient given (TAGMSG)" ++ crlf) ∷ []
unfolding reading parameters with_command asked_of command_of command_by known_name fold_of is_quit prefix octets
    bare_line
    numeric row_line spelled_line
is_refused = refl

-- ---- a session logs in

abbrev accounts : List Account
accounts = record { name = codes "al"; salt = codes "a"; digest = sha256 (codes "abc") } ∷ []

abbrev asks : List (List ℕ)
asks = codes "CAP REQ sasl" ∷ codes "AUTHENTICATE PLAIN" ∷ []

abbrev asked : List Delivery
asked = Lines 2 (codes ":irc.example CAP * ACK :sasl" ++ crlf) ∷ Lines 3 (codes "AUTHENTICATE +" ++ crlf) ∷ []

abbrev failed : List ℕ
failed = codes ":irc.example 904 * :SASL authentication failed" ++ crlf

logs_in : owes accounts (asks ++ codes "AUTHENTICATE AGFsAGJj" ∷ [])
    ≡ asked ++ Lines 4 (codes ":irc.example 900 * *!*@h1 al :You are now logged in as al" ++ crlf
    ++ codes ":irc.example 903 * :SASL authentication successful" ++ crlf) ∷ []
unfolding reading parameters with_command asked_of command_of command_by known_name after_request sasl_answer fold_of
    credentials_of base64_on_literals logged_in first_words schedule rounds compress hash_after digest_bytes sha256
    is_quit prefix octets bare_line numeric row_line spelled_line is_same
logs_in = refl

wrong_password : owes accounts (asks ++ codes "AUTHENTICATE AGFsAGJk" ∷ []) ≡ asked ++ Lines 4 failed ∷ []
unfolding reading parameters with_command asked_of command_of command_by known_name after_request sasl_answer fold_of
    credentials_of base64_on_literals logged_in first_words schedule rounds compress hash_after digest_bytes sha256
    is_quit prefix octets bare_line numeric row_line spelled_line is_same
wrong_password = refl

ends_it : owes accounts (asks ++ codes "AUTHENTICATE *" ∷ [])
    ≡ asked ++ Lines 4 (codes ":irc.example 906 * :SASL authentication aborted" ++ crlf) ∷ []
unfolding reading parameters with_command asked_of command_of command_by known_name after_request sasl_answer fold_of
    is_quit prefix octets bare_line numeric row_line spelled_line is_same
ends_it = refl

abbrev piece : List ℕ
piece = codes "AUTHENTICATE " ++ replicate 400 65

-- a piece of 400 octets waits for another
pieces : owes accounts (asks ++ piece ∷ codes "AUTHENTICATE +" ∷ []) ≡ asked ++ Lines 5 failed ∷ []
unfolding reading parameters with_command asked_of command_of command_by known_name after_request sasl_answer fold_of
    credentials_of base64_on_literals is_quit prefix octets bare_line numeric row_line spelled_line is_same
pieces = refl

too_many : owes accounts (asks ++ piece ∷ piece ∷ piece ∷ codes "AUTHENTICATE A" ∷ [])
    ≡ asked ++ Lines 7 (codes ":irc.example 905 * :SASL message too long" ++ crlf) ∷ []
unfolding reading parameters with_command asked_of command_of command_by known_name after_request sasl_answer fold_of
    is_quit prefix octets bare_line numeric row_line spelled_line is_same
too_many = refl

-- registration waits for the end of the negotiation, and ends an exchange
within_one : owes accounts (asks ++ starts ++ codes "CAP END" ∷ [])
    ≡ asked ++ Lines 6 (codes ":irc.example 906 al :SASL authentication aborted" ++ crlf ++ welcome) ∷ []
unfolding reading parameters with_command asked_of command_of command_by known_name after_request nick_answer
    sasl_answer
    fold_of nick_shape is_same is_quit prefix octets bare_line numeric row_line cut_lines time_text civil_date falls_in
    spelled_line
within_one = refl

-- ---- two people in a channel, one of whom has another name then and leaves

abbrev names : List ℕ → List ℕ → List ℕ
names to those = codes ":irc.example 353 " ++ to ++ codes " = #a :" ++ those ++ crlf ++ codes ":irc.example 366 "
    ++ to ++ codes " #a :End of NAMES list" ++ crlf

abbrev meets : List Kind
meets = says 2 0 (codes "NICK bo" ∷ codes "USER b 0 * :Bo" ∷ codes "JOIN #A" ∷ [])
    (Opened 2 (codes "h2") ∷ says 1 0 (starts ++ codes "JOIN #a" ∷ []) (Opened 1 (codes "h1") ∷ []))

abbrev story : List Kind
story = Gone 1 ∷ says 1 3 (codes "NICK BO" ∷ codes "NICK alf" ∷ codes "QUIT :bye" ∷ [])
    (says 2 3 (codes "PRIVMSG #a :hi" ∷ []) meets)

members_then : members (facts (server []) (records meets)) (codes "#a") ≡ 1 ∷ 2 ∷ []
unfolding reading parameters with_command asked_of command_of command_by known_name nick_answer fold_of nick_shape
    channel_shape is_same is_quit cut_lines channel_of bar_of arrives arrival_shown shows_to member_name members_for
    room numeric
    row_line bare_line prefix octets spelled_line counting_tags key_shape client_only_data
members_then = refl

owed_to_who_leaves : owed (server []) (records story) 1
    ≡ Lines 3 welcome ∷ Lines 4 (codes ":al!a@h1 JOIN #a" ++ crlf ++ names (codes "al") (codes "@al"))
    ∷ Lines 8 (codes ":bo!b@h2 JOIN #a" ++ crlf) ∷ Lines 9 (codes ":bo!b@h2 PRIVMSG #a :hi" ++ crlf)
    ∷ Lines 10 (codes ":irc.example 433 al BO :Nickname is already in use" ++ crlf)
    ∷ Lines 11 (codes ":al!a@h1 NICK alf" ++ crlf) ∷ Last 12 Quit ∷ []
unfolding reading parameters with_command asked_of command_of command_by known_name nick_answer fold_of nick_shape
    channel_shape is_same is_quit prefix octets bare_line numeric row_line cut_lines time_text civil_date
    falls_in channel_of
    bar_of arrives arrival_shown shows_to member_name members_for room spelled_line counting_tags key_shape
    client_only_data
owed_to_who_leaves = refl

shown_to_who_stays : owed (server []) (records story) 2
    ≡ Lines 7 (greets (codes "bo") (codes "!b@h2"))
    ∷ Lines 8 (codes ":bo!b@h2 JOIN #a" ++ crlf ++ names (codes "bo") (codes "@al bo"))
    ∷ Lines 11 (codes ":al!a@h1 NICK alf" ++ crlf) ∷ Lines 13 (codes ":alf!a@h1 QUIT :bye" ++ crlf) ∷ []
unfolding reading parameters with_command asked_of command_of command_by known_name nick_answer fold_of nick_shape
    channel_shape is_same is_quit prefix octets bare_line numeric row_line cut_lines time_text civil_date
    falls_in channel_of
    bar_of arrives arrival_shown shows_to member_name members_for room spelled_line counting_tags key_shape
    client_only_data
shown_to_who_stays = refl

-- a line with a label is answered with it
labelled :
    owes [] (codes "CAP REQ :batch labeled-response server-time" ∷ codes "@label=7 PING x" ∷ codes "@label=8 PONG"
    ∷ codes "@label=9 QUIT" ∷ [])
    ≡ Lines 2 (codes ":irc.example CAP * ACK :batch labeled-response server-time" ++ crlf)
    ∷ Lines 3 (codes "@label=7;time=1970-01-01T00:00:00.000Z :irc.example PONG irc.example x" ++ crlf)
    ∷ Lines 4 (codes "@label=8;time=1970-01-01T00:00:00.000Z :irc.example ACK" ++ crlf) ∷ Last 5 Quit ∷ []
unfolding reading parameters with_command asked_of command_of command_by known_name after_request is_quit octets
    bare_line
    time_text civil_date falls_in spelled_line counting_tags key_shape last_value is_utf8 chars encode
labelled = refl
