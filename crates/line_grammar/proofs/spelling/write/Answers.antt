use Rattle.std.proofs.Common.{◌∙◌, sym, ap, subst}
use Rattle.std.specs.List.{list_all}
use Rattle.line_grammar.specs.Grammar.{Reads}
use Rattle.line_grammar.specs.Reading.{reading}
use Rattle.line_grammar.specs.Spelling.{is_text_octet}
use Rattle.line_grammar.proofs.Spelled.{reads_is_reading}
use Rattle.line_grammar.proofs.Written.{written_reads, spelling_is_text, plain_found}
use Rattle.line_grammar.proofs.spelling.write.Goals as goal

pub returns-clause-is_read : goal.returns-clause-is_read
returns-clause-is_read c = λ writable.
    let m = c.args.message.now in
    let plain = plain_found m _ _ _ _ c.any_needs_colon.ensures c.split_at.ensures.front c.as_slice-params.ensures
    c.count_plain.ensures c.if-any_needs_colon.false in
    ap reading c.in_ok-line.ensures ∙ reads_is_reading _ m (written_reads m writable plain)

pub returns-clause-spells : goal.returns-clause-spells
returns-clause-spells c = λ writable.
    let m = c.args.message.now in
    let plain = plain_found m _ _ _ _ c.any_needs_colon.ensures c.split_at.ensures.front c.as_slice-params.ensures
    c.count_plain.ensures c.if-any_needs_colon.false in
    subst (λ line. Reads line m) (sym c.in_ok-line.ensures) (written_reads m writable plain)

pub returns-clause-text : goal.returns-clause-text
returns-clause-text c = λ writable. ap (list_all is_text_octet) c.in_ok-line.ensures
    ∙ spelling_is_text c.args.message.now writable
