use Rattle.std.proofs.Common.{◌≡◌, true, false, rules}
use Rattle.message_tags.proofs.ValueLemmas.{length_left_of}
use Rattle.message_tags.proofs.escaping.is_escape.Goals as goal

pub returns-then-not-after_backslash : goal.returns-then-not-after_backslash
returns-then-not-after_backslash c = λ rest. let a : c.args.after_backslash ≡ false = search rules in
    rw a (length_left_of false c.args.octet rest)

pub returns-else-not-after_backslash : goal.returns-else-not-after_backslash
returns-else-not-after_backslash c = λ rest. let a : c.args.after_backslash ≡ true = search rules in
    rw a (length_left_of true c.args.octet rest)
