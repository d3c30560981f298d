use Rattle.std.proofs.Common.{◌≡◌, ◌+◌, ℕ, Option, IfOk, OnOk, length, sym, ◌∙◌, subst}
use Rattle.transactions.specs.declared.seen_channel.Seen.{Seen}
use Rattle.transactions.specs.TransactionView.{grown}
use Rattle.transactions.specs.Effects.{deeds_of}
use Rattle.channel_commands.specs.Joining.{joins_seen}
use Rattle.channel_commands.proofs.joining.join_named.Goals as goal

pub returns-in-Some-clause-count : goal.returns-in-Some-clause-count
returns-in-Some-clause-count c =
    let d = c.args.tx.now in let here = sym c.in-Some.is ∙ c.in_ok-seen.ensures.channel in
    subst (λ (o : Option Seen). IfOk c.join_there.result
    (λ (n : ℕ). n ≡ c.args.count + length (deeds_of (joins_seen d.settings d.base d.facts c.args.session
    c.args.from.now c.args.count c.args.target.now o)))) here c.join_there.ensures.count

pub returns-in-Some-clause-grown : goal.returns-in-Some-clause-grown
returns-in-Some-clause-grown c =
    let d = c.args.tx.now in let here = sym c.in-Some.is ∙ c.in_ok-seen.ensures.channel in
    subst (λ (o : Option Seen). OnOk c.join_there.result (c.join_there.new.tx ≡ grown d (joins_seen
    d.settings d.base d.facts c.args.session c.args.from.now c.args.count c.args.target.now o)))
    here c.join_there.ensures.grown
