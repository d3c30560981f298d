use Rattle.std.proofs.Common.{◌≡◌, ◌+◌, ◌≤◌, [], length}
use Rattle.registration.specs.Accounts.{accounts_from}
use Rattle.line_grammar.specs.Parts.{octets_left, parts, parts_left}
use Rattle.registration.proofs.AccountLines.{AreReadBefore}
use Rattle.registration.proofs.accounts.Accounts.read.Given as goal

abbrev pub invariant-loop-rest : goal.invariant-loop-rest
invariant-loop-rest l = record {
  so_far : accounts_from (parts_left 10 l.rest) l.number l.accounts ≡ accounts_from (parts 10 l.fn.file) 1 [];
  few : l.number + octets_left l.rest ≤ length l.fn.file + 2;
  before : AreReadBefore (parts 10 l.fn.file) (parts_left 10 l.rest) l.number l.accounts;
}

abbrev pub decreases-loop-rest : goal.decreases-loop-rest
decreases-loop-rest l = octets_left l.rest
