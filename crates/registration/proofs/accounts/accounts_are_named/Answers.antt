use Rattle.registration.proofs.Named.{accounts-named}
use Rattle.registration.proofs.accounts.accounts_are_named.Goals as goal

pub returns : goal.returns
returns c = accounts-named
