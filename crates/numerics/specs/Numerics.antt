-- The numerics: RFC 2812, section 5, and those of IRCv3 (capability negotiation, SASL 3.1). Where a standard has no
-- text, or many servers have another, the text is this project's own.
use Rattle.std.specs.Prelude.{ℕ, Bool, List, [], ◌∷◌, ◌++◌, map, cond, codes}
use Rattle.std.specs.Prelude.{decimal, Option, Some, None, is_some, option_to_list}
use Rattle.std.specs.List.{concat, join_by}
use Rattle.line_grammar.specs.Spelling.{needs_colon}
use Rattle.numerics.specs.declared.outgoing.Out.{Out}
use Rattle.numerics.specs.declared.prefix.Prefix.{Prefix}
use Rattle.numerics.specs.declared.prefix.Prefix.TheVariants.{Operator, Voice}
use Rattle.numerics.specs.declared.numeric.Numeric.{Numeric}
use Rattle.numerics.specs.declared.numeric.Numeric.TheVariants.{Welcome, YourHost, Created, MyInfo, ISupport, UModeIs}
use Rattle.numerics.specs.declared.numeric.Numeric.TheVariants.{Away, UnAway, NowAway, WhoisUser, WhoisServer}
use Rattle.numerics.specs.declared.numeric.Numeric.TheVariants.{EndOfWho, EndOfWhois, WhoisChannels, ListReply}
use Rattle.numerics.specs.declared.numeric.Numeric.TheVariants.{ListEnd, ChannelModeIs, NoTopic, Topic, Inviting}
use Rattle.numerics.specs.declared.numeric.Numeric.TheVariants.{WhoReply, NamReply, EndOfNames, BanList, EndOfBanList}
use Rattle.numerics.specs.declared.numeric.Numeric.TheVariants.{Motd, MotdStart, EndOfMotd, NoSuchNick, NoSuchServer}
use Rattle.numerics.specs.declared.numeric.Numeric.TheVariants.{NoSuchChannel, CannotSendToChan, TooManyChannels}
use Rattle.numerics.specs.declared.numeric.Numeric.TheVariants.{TooManyTargets, NoOrigin, InvalidCapCmd, NoRecipient}
use Rattle.numerics.specs.declared.numeric.Numeric.TheVariants.{NoTextToSend, InputTooLong, UnknownCommand, NoMotd}
use Rattle.numerics.specs.declared.numeric.Numeric.TheVariants.{NoNicknameGiven, ErroneousNickname, NicknameInUse}
use Rattle.numerics.specs.declared.numeric.Numeric.TheVariants.{UserNotInChannel, NotOnChannel, UserOnChannel}
use Rattle.numerics.specs.declared.numeric.Numeric.TheVariants.{NotRegistered, NeedMoreParams, AlreadyRegistered}
use Rattle.numerics.specs.declared.numeric.Numeric.TheVariants.{ChannelIsFull, UnknownMode, InviteOnlyChan}
use Rattle.numerics.specs.declared.numeric.Numeric.TheVariants.{BannedFromChan, BadChannelKey, ChanOPrivsNeeded}
use Rattle.numerics.specs.declared.numeric.Numeric.TheVariants.{UModeUnknownFlag, UsersDontMatch, LoggedIn}
use Rattle.numerics.specs.declared.numeric.Numeric.TheVariants.{SaslSuccess, SaslFail, SaslTooLong, SaslAborted}
use Rattle.numerics.specs.declared.numeric.Numeric.TheVariants.{SaslAlready, SaslMechs}
use Rattle.numerics.specs.Outgoing.{line}

-- `@` marks an operator, `+` who has voice
abbrev pub mark : Prefix → ℕ
mark Operator = 64
mark Voice = 43

abbrev pub marks : Option Prefix → List ℕ
marks None = []
marks (Some prefix) = mark prefix ∷ []

-- here or gone, then the mark
abbrev pub flags : Bool → Option Prefix → List ℕ
flags away prefix = cond away (codes "G") (codes "H") ++ marks prefix

-- whether a channel is secret
abbrev pub sign : Bool → List ℕ
sign secret = cond secret (codes "@") (codes "=")

-- names in a row, a space between each two
abbrev pub names_text : List (List ℕ) → List ℕ
names_text names = join_by (λ name. name) (codes " ") names

-- what a numeric says after whom it goes to: its code, its words, and a text after a colon where it has one
pub record RowForm : Type 0 where
  pub code : List ℕ
  pub words : List (List ℕ)
  pub text : Option (List ℕ)

abbrev pub says : List ℕ → List (List ℕ) → List ℕ → RowForm
says code words text = record { code = code; words = words; text = Some text }

abbrev pub lists : List ℕ → List (List ℕ) → RowForm
lists code words = record { code = code; words = words; text = None }

-- the table
abbrev pub row : List ℕ → Numeric → RowForm
row server (Welcome source) = says (codes "001") [] (codes "Welcome to the Internet Relay Network " ++ source)
row server (YourHost version) = says (codes "002") []
    (concat (codes "Your host is " ∷ server ∷ codes ", running version " ∷ version ∷ []))
row server (Created time) = says (codes "003") [] (codes "This server was created " ++ time)
row server (MyInfo version) = lists (codes "004") (server ∷ version ∷ codes "i" ∷ codes "biklmnostv" ∷ [])
row server (ISupport tokens) = says (codes "005") tokens (codes "are supported by this server")
row server (UModeIs modes) = lists (codes "221") (modes ∷ [])
row server (Away nick text) = says (codes "301") (nick ∷ []) text
row server UnAway = says (codes "305") [] (codes "You are no longer marked as being away")
row server NowAway = says (codes "306") [] (codes "You have been marked as being away")
row server (WhoisUser nick user host real) = says (codes "311") (nick ∷ user ∷ host ∷ codes "*" ∷ []) real
row server (WhoisServer nick info) = says (codes "312") (nick ∷ server ∷ []) info
row server (EndOfWho name) = says (codes "315") (name ∷ []) (codes "End of WHO list")
row server (EndOfWhois nick) = says (codes "318") (nick ∷ []) (codes "End of WHOIS list")
row server (WhoisChannels nick channels) = says (codes "319") (nick ∷ []) (names_text channels)
row server (ListReply channel members topic) = says (codes "322") (channel ∷ decimal members ∷ []) topic
row server ListEnd = says (codes "323") [] (codes "End of LIST")
row server (ChannelModeIs channel modes params) = lists (codes "324") (channel ∷ modes ∷ params)
row server (NoTopic channel) = says (codes "331") (channel ∷ []) (codes "No topic is set")
row server (Topic channel topic) = says (codes "332") (channel ∷ []) topic
row server (Inviting nick channel) = lists (codes "341") (nick ∷ channel ∷ [])
row server (WhoReply who) = says (codes "352") (who.channel ∷ who.user ∷ who.host ∷ server ∷ who.nick
    ∷ flags who.away who.prefix ∷ []) (codes "0 " ++ who.real)
row server (NamReply secret channel names) = says (codes "353") (sign secret ∷ channel ∷ []) (names_text names)
row server (EndOfNames channel) = says (codes "366") (channel ∷ []) (codes "End of NAMES list")
row server (BanList channel mask) = lists (codes "367") (channel ∷ mask ∷ [])
row server (EndOfBanList channel) = says (codes "368") (channel ∷ []) (codes "End of channel ban list")
row server (Motd text) = says (codes "372") [] (codes "- " ++ text)
row server MotdStart = says (codes "375") [] (concat (codes "- " ∷ server ∷ codes " Message of the day - " ∷ []))
row server EndOfMotd = says (codes "376") [] (codes "End of MOTD command")
row server (NoSuchNick name) = says (codes "401") (name ∷ []) (codes "No such nick/channel")
row server (NoSuchServer name) = says (codes "402") (name ∷ []) (codes "No such server")
row server (NoSuchChannel channel) = says (codes "403") (channel ∷ []) (codes "No such channel")
row server (CannotSendToChan channel) = says (codes "404") (channel ∷ []) (codes "Cannot send to channel")
row server (TooManyChannels channel) = says (codes "405") (channel ∷ []) (codes "You have joined too many channels")
row server (TooManyTargets target) = says (codes "407") (target ∷ []) (codes "Too many targets")
row server NoOrigin = says (codes "409") [] (codes "No origin specified")
row server (InvalidCapCmd subcommand) = says (codes "410") (subcommand ∷ []) (codes "Invalid CAP command")
row server (NoRecipient command) = says (codes "411") []
    (concat (codes "No recipient given (" ∷ command ∷ codes ")" ∷ []))
row server NoTextToSend = says (codes "412") [] (codes "No text to send")
row server InputTooLong = says (codes "417") [] (codes "Input line was too long")
row server (UnknownCommand command) = says (codes "421") (command ∷ []) (codes "Unknown command")
row server NoMotd = says (codes "422") [] (codes "MOTD File is missing")
row server NoNicknameGiven = says (codes "431") [] (codes "No nickname given")
row server (ErroneousNickname nick) = says (codes "432") (nick ∷ []) (codes "Erroneous nickname")
row server (NicknameInUse nick) = says (codes "433") (nick ∷ []) (codes "Nickname is already in use")
row server (UserNotInChannel nick channel) = says (codes "441") (nick ∷ channel ∷ [])
    (codes "They aren't on that channel")
row server (NotOnChannel channel) = says (codes "442") (channel ∷ []) (codes "You're not on that channel")
row server (UserOnChannel nick channel) = says (codes "443") (nick ∷ channel ∷ []) (codes "is already on channel")
row server NotRegistered = says (codes "451") [] (codes "You have not registered")
row server (NeedMoreParams command) = says (codes "461") (command ∷ []) (codes "Not enough parameters")
row server AlreadyRegistered = says (codes "462") [] (codes "Unauthorized command (already registered)")
row server (ChannelIsFull channel) = says (codes "471") (channel ∷ []) (codes "Cannot join channel (+l)")
row server (UnknownMode letter channel) = says (codes "472") ((letter ∷ []) ∷ [])
    (codes "is unknown mode char to me for " ++ channel)
row server (InviteOnlyChan channel) = says (codes "473") (channel ∷ []) (codes "Cannot join channel (+i)")
row server (BannedFromChan channel) = says (codes "474") (channel ∷ []) (codes "Cannot join channel (+b)")
row server (BadChannelKey channel) = says (codes "475") (channel ∷ []) (codes "Cannot join channel (+k)")
row server (ChanOPrivsNeeded channel) = says (codes "482") (channel ∷ []) (codes "You're not channel operator")
row server UModeUnknownFlag = says (codes "501") [] (codes "Unknown MODE flag")
row server UsersDontMatch = says (codes "502") [] (codes "Cannot change mode for other users")
row server (LoggedIn source account) = says (codes "900") (source ∷ account ∷ [])
    (codes "You are now logged in as " ++ account)
row server SaslSuccess = says (codes "903") [] (codes "SASL authentication successful")
row server SaslFail = says (codes "904") [] (codes "SASL authentication failed")
row server SaslTooLong = says (codes "905") [] (codes "SASL message too long")
row server SaslAborted = says (codes "906") [] (codes "SASL authentication aborted")
row server SaslAlready = says (codes "907") [] (codes "You have already authenticated using SASL")
row server SaslMechs = says (codes "908") (codes "PLAIN" ∷ []) (codes "are available SASL mechanisms")

-- a word that can't stand as a middle parameter is shown as `*`
abbrev pub middle_of : List ℕ → List ℕ
middle_of word = cond (needs_colon word) (codes "*") word

-- a row as a line from a server
unfoldable pub row_line : List ℕ → List ℕ → RowForm → Out
row_line server to r = line server r.code (to ∷ (map middle_of r.words ++ option_to_list r.text)) (is_some r.text)

-- `:server NNN to ..`
unfoldable pub numeric : List ℕ → List ℕ → Numeric → Out
numeric server to n = row_line server to (row server n)
