-- A header as a line of a script, and what headers set: this project's own choice.
use Rattle.std.specs.Prelude.{ℕ, pos, ◌^◌, nat_le, ◌&&◌, Bool, if◌then◌else◌, List}
use Rattle.std.specs.Prelude.{[], ◌∷◌, ◌++◌, codes, Option, Some, None}
use Rattle.std.specs.Str.{bytes_eq}
use Rattle.std.specs.Result.{result_ok}
use Rattle.line_grammar.specs.Lines.{before_space, after_space}
use Rattle.registration.specs.declared.accounts.Account.{Account}
use Rattle.registration.specs.declared.settings.Settings.{Settings}
use Rattle.line_grammar.specs.Parts.{is_empty}
use Rattle.registration.specs.Accounts.{with_line}
use Rattle.registration.specs.Settings.{is_motd}
use Rattle.scripts.specs.Numbers.{number_below}
use Rattle.scripts.specs.Script.{both}
use Rattle.scripts.specs.declared.header.Limits.{Limits}
use Rattle.scripts.specs.declared.header.Setting.{Setting}
use Rattle.scripts.specs.declared.header.Setting.TheVariants as setting
use Rattle.scripts.specs.declared.header.Header.{Header}

-- the setting that a line's first word names
abbrev pub setting_of : List ℕ → Option Setting
setting_of word =
    if bytes_eq word (codes "limit") then Some setting.Limit
    else if bytes_eq word (codes "sendq") then Some setting.Sendq
    else if bytes_eq word (codes "workers") then Some setting.Workers
    else if bytes_eq word (codes "sessions") then Some setting.Sessions
    else None

-- the setting with its value that a line writes
abbrev pub header_of : List ℕ → Option Header
header_of line = both (λ setting value. record { setting = setting; value = value })
    (setting_of (before_space line)) (number_below (2 ^ 64) (after_space line))

-- where no header sets another: 1,000,000 records, 256 items in an outbox, 2 workers and 1,024 sessions, no message
-- of the day and no account
abbrev pub default_limits : Limits
default_limits = record { sessions = 1024; records = 1000000; workers = 2; sendq = 256; motd = []; accounts = [] }

-- one setting has another value
abbrev pub with_value : Limits → Setting → ℕ → Limits
with_value l setting.Limit n = record l { records = n }
with_value l setting.Sendq n = record l { sendq = n }
with_value l setting.Workers n = record l { workers = n }
with_value l setting.Sessions n = record l { sessions = n }

abbrev pub with_number : Limits → Option Header → Option Limits
with_number l None = None
with_number l (Some header) = Some (with_value l header.setting header.value)

-- one more line of the message of the day
abbrev pub with_motd : Limits → List ℕ → Limits
with_motd l text = record l { motd = l.motd ++ text ∷ [] }

-- the accounts after one more line of their file, which isn't empty and has no fault
abbrev pub account_after : List Account → List ℕ → Option (List Account)
account_after accounts text = if is_empty text then None else result_ok (with_line accounts text)

abbrev pub with_accounts : Limits → Option (List Account) → Option Limits
with_accounts l None = None
with_accounts l (Some accounts) = Some (record l { accounts = accounts })

-- after a line, where it is a header: `motd` has a space after it
abbrev pub with_header : Limits → List ℕ → Option Limits
with_header l line =
    if bytes_eq line (codes "motd") then None
    else if bytes_eq (before_space line) (codes "motd") then Some (with_motd l (after_space line))
    else if bytes_eq (before_space line) (codes "account") then with_accounts l
    (account_after l.accounts (after_space line))
    else with_number l (header_of line)

abbrev pub unless_none : Limits → Option Limits → Limits
unless_none l None = l
unless_none l (Some k) = k

-- after a line that may be a header
abbrev pub after_line : Limits → List ℕ → Limits
after_line l line = unless_none l (with_header l line)

abbrev pub motd_of : List (List ℕ) → Option (List (List ℕ))
motd_of [] = None
motd_of (line ∷ lines) = Some (line ∷ lines)

-- what a script's server is told when it starts
abbrev pub settings_of : Limits → Settings
settings_of l = record {
  server = codes "irc.example";
  info = codes "halld";
  version = codes "halld-1";
  created = pos 0;
  motd = motd_of l.motd;
  accounts = l.accounts;
  sessions = l.sessions;
}

abbrev pub is_within : ℕ → ℕ → ℕ → Bool
is_within least most n = nat_le least n && nat_le n most

-- whether a script's server may be set up so
abbrev pub are_good : Limits → Bool
are_good l = is_within 1 1024 l.sessions && (is_within 1 10000000 l.records
    && (is_within 1 64 l.workers && (is_within 1 4096 l.sendq && is_motd (motd_of l.motd))))
