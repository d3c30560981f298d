-- The limits of what a server is told when it starts: this project's own choice.
use Rattle.std.specs.Prelude.{◌≡◌, ℕ, pos, ◌≤ℤ◌, ◌≤◌, nat_le, Bool, true, not, ◌&&◌}
use Rattle.std.specs.Prelude.{List, [], length, Option, Some, None}
use Rattle.std.specs.List.{list_all}
use Rattle.line_grammar.specs.Spelling.{is_text_octet, needs_colon}
use Rattle.casemapping.specs.Names.{host_shape}
use Rattle.registration.specs.declared.settings.Settings.{Settings}

-- at most so many octets, none of them NUL, CR or LF
abbrev pub is_text : ℕ → List ℕ → Bool
is_text most text = nat_le (length text) most && list_all is_text_octet text

-- a text that isn't empty, has no space and doesn't begin with a colon
abbrev pub is_version : List ℕ → Bool
is_version version = not (needs_colon version) && is_text 30 version

abbrev pub lines_of : Option (List (List ℕ)) → List (List ℕ)
lines_of None = []
lines_of (Some lines) = lines

abbrev pub is_motd : Option (List (List ℕ)) → Bool
is_motd motd = list_all (is_text 400) (lines_of motd)

pub record IsWellSet (s : Settings) : Type 0 where
  pub some_sessions : 1 ≤ s.sessions
  pub few_sessions : s.sessions ≤ 1024
  pub server : host_shape s.server ≡ true
  pub from_1970 : pos 0 ≤ℤ s.created
  pub to_9998 : s.created ≤ℤ pos 253370764799999
  pub version : is_version s.version ≡ true
  pub info : is_text 100 s.info ≡ true
  pub motd : is_motd s.motd ≡ true
