use Rattle.std.proofs.Common.{rules, ◌≡◌, Option, IfSome, sym, subst}
use Rattle.transactions.specs.Seen.{Seen, IsSeen, seen}
use Rattle.transactions.proofs.Named.{known, known_ok}
use Rattle.transactions.proofs.transaction.Transaction.find.Goals as goal

pub returns-then-touches-clause-known : goal.returns-then-touches-clause-known
returns-then-touches-clause-known c = known_ok c.channels_have_one_name.ensures c.spelled_names_are_names.ensures
    c.args.self.now.facts c.args.channel.now c.changed_channel.result c.changed_channel.ensures

pub returns-clause-known : goal.returns-clause-known
returns-clause-known c =
    let fs = c.args.self.now.facts in let n = c.args.channel.now in
    let same : c.known_channel.result ≡ seen fs n = search rules in
    subst (λ (o : Option Seen). IfSome o (IsSeen fs)) (sym same)
    (known c.channels_have_one_name.ensures c.spelled_names_are_names.ensures fs n)
