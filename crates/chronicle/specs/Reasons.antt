-- Why a session ended: this project's own reasons, which ERROR and QUIT lines tell (RFC 2812, sections 3.1.7 and
-- 3.7.4).
use Rattle.std.specs.Prelude.{ℕ, List, codes}
use Rattle.chronicle.specs.declared.why.Why.{Why}
use Rattle.chronicle.specs.declared.why.Why.TheVariants.{Quit, SendQ, ReadEnded, ReadFailed, WriteFailed}
use Rattle.chronicle.specs.declared.why.Why.TheVariants.{Memory, Shutdown, PingTimeout}

-- the word of a script
abbrev pub word : Why → List ℕ
word Quit = codes "quit"
word SendQ = codes "sendq"
word ReadEnded = codes "ended"
word ReadFailed = codes "readfail"
word WriteFailed = codes "writefail"
word Memory = codes "memory"
word Shutdown = codes "shutdown"
word PingTimeout = codes "timeout"

-- what users are shown
abbrev pub text : Why → List ℕ
text Quit = codes "Client Quit"
text SendQ = codes "Max SendQ exceeded"
text ReadEnded = codes "Connection closed"
text ReadFailed = codes "Read error"
text WriteFailed = codes "Write error"
text Memory = codes "Out of memory"
text Shutdown = codes "Server shutting down"
text PingTimeout = codes "Ping timeout"
