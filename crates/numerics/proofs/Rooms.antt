-- How long the lines are that tell names.
use Rattle.std.proofs.Common.{◌≡◌, ℕ, ◌+◌, ◌-◌, ◌<◌, ◌≤◌, Bool, true, false, List, [], length, arith, length-append}
use Rattle.line_grammar.specs.Spelling.{bare_line}
use Rattle.numerics.specs.declared.numeric.Numeric.TheVariants.{NamReply, WhoisChannels}
use Rattle.numerics.specs.Numerics.{numeric, row_line, middle_of, names_text}
use Rattle.numerics.specs.Outgoing.{room, out_text}

length-names : (server to channel : List ℕ) (secret : Bool) (names : List (List ℕ))
    → length (out_text (numeric server to (NamReply secret channel names)))
    ≡ length server + length to + length (middle_of channel) + 11 + length (names_text names)
unfolding numeric row_line bare_line
length-names server to channel true names = simp length-append (omega arith)
length-names server to channel false names = simp length-append (omega arith)

length-channels : (server to nick : List ℕ) (channels : List (List ℕ))
    → length (out_text (numeric server to (WhoisChannels nick channels)))
    ≡ length server + length to + length (middle_of nick) + 9 + length (names_text channels)
unfolding numeric row_line bare_line
length-channels server to nick channels = simp length-append (omega arith)

pub room-names : (server to channel : List ℕ) (secret : Bool)
    → room (numeric server to (NamReply secret channel []))
    ≡ 510 - (length server + length to + length (middle_of channel) + 11)
unfolding room
room-names server to channel secret = omega (arith, length-names server to channel secret [])

pub whole-names : (server to channel : List ℕ) (secret : Bool) (names : List (List ℕ))
    → 0 < room (numeric server to (NamReply secret channel []))
    → length (names_text names) ≤ room (numeric server to (NamReply secret channel []))
    → length (out_text (numeric server to (NamReply secret channel names))) ≤ 510
whole-names server to channel secret names some fit = omega
    (arith, length-names server to channel secret names, room-names server to channel secret, some, fit)

pub room-channels : (server to nick : List ℕ) → room (numeric server to (WhoisChannels nick []))
    ≡ 510 - (length server + length to + length (middle_of nick) + 9)
unfolding room
room-channels server to nick = omega (arith, length-channels server to nick [])

pub whole-channels : (server to nick : List ℕ) (channels : List (List ℕ))
    → 0 < room (numeric server to (WhoisChannels nick []))
    → length (names_text channels) ≤ room (numeric server to (WhoisChannels nick []))
    → length (out_text (numeric server to (WhoisChannels nick channels))) ≤ 510
whole-channels server to nick channels some fit = omega
    (arith, length-channels server to nick channels, room-channels server to nick, some, fit)
