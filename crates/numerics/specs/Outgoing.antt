-- An outgoing line: RFC 2812, section 2.3 (with its CR LF a line has at most 512 octets).
use Rattle.std.specs.Prelude.{ℕ, ◌-◌, Bool, List, [], ◌∷◌, ◌++◌, length, take, Some, None, false}
use Rattle.line_grammar.specs.Spelling.{bare_line}
use Rattle.numerics.specs.declared.outgoing.Out.{Out}

-- a line of these parts, without a client's tags
abbrev pub line : List ℕ → List ℕ → List (List ℕ) → Bool → Out
line source command params colon = record {
  tags = [];
  source = Some source;
  command = command;
  params = params;
  colon = colon;
}

-- a line of a command and one word, which names nobody whom it comes from
abbrev pub nameless : List ℕ → List ℕ → Out
nameless command word = record { tags = []; source = None; command = command; params = word ∷ []; colon = false }

-- its spelling without tags
abbrev pub out_text : Out → List ℕ
out_text o = bare_line o.source o.command o.params o.colon

-- what goes out of a line without tags: its first 510 octets, then CR LF
unfoldable pub octets : Out → List ℕ
octets o = take 510 (out_text o) ++ 13 ∷ 10 ∷ []

-- how many octets more it may have
unfoldable pub room : Out → ℕ
room o = 510 - length (out_text o)
