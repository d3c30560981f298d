use Rattle.std.proofs.Common.{◌≡◌, ◌++◌, ◌∙◌, ap}
use Rattle.std.specs.Option.{option_to_list}
use Rattle.std.proofs.lemmas.Result.{on_ok_weaker}
use Rattle.line_grammar.specs.Lines.{kept_of, lines, open_line}
use Rattle.line_grammar.specs.Steps.{kept_with, ended_piece}
use Rattle.line_grammar.proofs.Streams.{fed_fresh, fed_within, fed_over}
use Rattle.line_grammar.proofs.splitter.Splitter.feed.Goals as goal

pub returns-else-is_err-clause-ok : goal.returns-else-is_err-clause-ok
returns-else-is_err-clause-ok c =
    on_ok_weaker c.feed_fresh-fed.result (λ fed stream was. fed_fresh stream c.args.octets.now c.args.self.now _ _ _
    (c.is_fresh.ensures c.if-is_fresh.true) was fed.0 fed.1) c.feed_fresh-fed.ensures.ok

pub returns-in_default-clause-ok : goal.returns-in_default-clause-ok
returns-in_default-clause-ok c =
    on_ok_weaker c.extend.result (λ grown stream was. fed_within stream c.args.octets.now c.args.self.now
    c.extend.new.self c.args.out.now.items c.in_default.ensures was grown) c.extend.ensures.ok

pub returns-clause-ok : goal.returns-clause-ok
returns-clause-ok c = λ stream was.
    let front = c.in-Some.front.now in let rest = c.in-Some.rest.now in
    let next : c.extend-2.new.self ≡ kept_of (open_line rest) = c.in_ok-extend.ensures.ok ∙ ap
    (λ k. kept_with k c.in_ok-last.last.now) c.new-next.ensures ∙ ap kept_of c.in_ok-last.ensures.rest in
    let found : c.push_lines.new.out.items ≡ lines rest = c.in_ok-last.ensures.lines ∙ ap
    (λ xs. xs ++ lines rest) c.new-found.ensures.items in
    let grown : c.push_reserved.new.out.items ≡ c.args.out.now.items ++ (option_to_list c.end.result ++ lines rest) =
    c.push_reserved.ensures ∙ ap (λ xs. c.reserve.new.self.items ++ (option_to_list c.end.result ++ xs)) found ∙ ap
    (λ xs. xs ++ (option_to_list c.end.result ++ lines rest)) c.in_ok-reserve.ensures.items in
    fed_over stream c.args.octets.now front rest c.args.self.now _ _
    (option_to_list c.end.result) c.args.out.now.items _ c.in-Some.ensures was c.in_ok-extend-2.ensures.ok
    (c.end.ensures ∙ ap ended_piece c.replace.ensures.value) (c.replace.ensures.after ∙ next) grown
