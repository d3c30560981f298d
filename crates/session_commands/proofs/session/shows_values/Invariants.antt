use Rattle.std.proofs.Common.{◌≡◌, take, true, min}
use Rattle.std.specs.List.{list_all}
use Rattle.casemapping.specs.Names.{is_digit}
use Rattle.session_commands.specs.Session.{number_of}
use Rattle.session_commands.proofs.session.shows_values.Given as goal

abbrev pub invariant-loop-octet : goal.invariant-loop-octet
invariant-loop-octet l = record {
  digits : list_all is_digit (take l.octet-index l.version) ≡ true;
  so_far : l.number ≡ min (number_of (take l.octet-index l.version)) 302;
}
