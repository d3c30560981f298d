use Rattle.std.proofs.Common.{◌≡◌, None, rules}
use Rattle.line_grammar.specs.declared.message.Message.{Message}
use Rattle.std.specs.Option.{option_map}
use Rattle.line_grammar.specs.Reading.{parameters, reading, with_command}
use Rattle.line_grammar.proofs.Spelled.{reading_is_reads, none_spelled}
use Rattle.line_grammar.proofs.grammar.parse.Goals as goal

pub returns-then-not-is_command-clause-unspelled : goal.returns-then-not-is_command-clause-unspelled
unfolding reading with_command
returns-then-not-is_command-clause-unspelled c = λ e. none_spelled c.args.line.now
    (let none : reading c.args.line.now ≡ None = search rules in none)

pub returns-clause-spelled : goal.returns-clause-spelled
unfolding reading with_command
returns-clause-spelled c =
    let more = parameters 14 c.split_word.result.1.now in
    let found : Message = record {
      tags = c.split_tags.result.0.now;
      source = option_map (λ s. s.now)
          c.split_source.result.0;
      command = c.split_word.result.0.now;
      params = more.0;
      colon = more.1;
    } in
    reading_is_reads c.args.line.now found (search rules)
