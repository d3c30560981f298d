use Rattle.std.proofs.Common.{◌≡◌, ◌++◌, take}
use Rattle.roster.proofs.sharing.push_numbers.Given as goal

abbrev pub invariant-loop-session : goal.invariant-loop-session
invariant-loop-session l = l.numbers.items ≡ l.fn.numbers.items ++ take l.session-index l.sessions
