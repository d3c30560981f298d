use Rattle.std.proofs.Common.{Err, ap, rules}
use Rattle.line_grammar.specs.Parts.{parts, parts_left}
use Rattle.registration.proofs.AccountLines.{next_line, one_more, up_to}
use Rattle.registration.proofs.accounts.Accounts.read.Goals as goal

pub returns-in-Err-clause-memory : goal.returns-in-Err-clause-memory
returns-in-Err-clause-memory c = λ is.
    let more = parts_left 10 c.split_first.result.1 in
    let before = next_line (parts 10 c.args.file.now) c.loop-rest.rest c.in-Some.left c.split_first.result.0.now
    more c.loop-rest.number c.loop-rest.accounts c.in-Some.is c.split_first.ensures.parts
    c.loop-rest.invariant.before in
    up_to (parts 10 c.args.file.now) more c.split_first.result.0.now c.loop-rest.number c.loop-rest.accounts before
    (c.in-Err.ensures.memory (ap Err is))

pub loop-rest-preserved : goal.loop-rest-preserved
loop-rest-preserved c =
    let more = parts_left 10 c.split_first.result.1 in
    let before = next_line (parts 10 c.args.file.now) c.loop-rest.rest c.in-Some.left c.split_first.result.0.now
    more c.loop-rest.number c.loop-rest.accounts c.in-Some.is c.split_first.ensures.parts
    c.loop-rest.invariant.before in
    record {
      so_far = search rules;
      few = search rules;
      before = one_more (parts 10 c.args.file.now) more c.split_first.result.0.now c.loop-rest.number
          c.loop-rest.accounts c.read_line.new.self before c.in_default-read_line.ensures.ok;
    }
