-- How long the line is that tells what the server supports.
use Rattle.std.proofs.Common.{◌≡◌, ℕ, ◌+◌, ◌≤◌, List, [], ◌∷◌, length, refl, sym, subst, arith, length-append}
use Rattle.std.specs.List.{All}
use Rattle.std.proofs.lemmas.List.Elements.{All-cons}
use Rattle.line_grammar.specs.Spelling.{bare_line}
use Rattle.numerics.specs.declared.numeric.Numeric.{Numeric}
use Rattle.numerics.specs.declared.numeric.Numeric.TheVariants.{ISupport}
use Rattle.numerics.specs.Cut.{cut_lines}
use Rattle.numerics.specs.Numerics.{numeric, row_line}
use Rattle.numerics.specs.Outgoing.{out_text}
use Rattle.numerics.specs.Support.{tokens}
use Rattle.session_commands.specs.Welcome.{support_numerics}

-- all tokens stand in one line
one_line : support_numerics ≡ ISupport tokens ∷ []
unfolding cut_lines
one_line = refl

length-line : (server nick : List ℕ) → length (out_text (numeric server nick (ISupport tokens)))
    ≤ length server + length nick + 400
unfolding numeric row_line bare_line
length-line server nick = simp length-append (omega arith)

pub whole : (server nick : List ℕ) → length server ≤ 63 → length nick ≤ 30
    → All (λ n. length (out_text (numeric server nick n)) ≤ 510) support_numerics
whole server nick s n =
    let P : Numeric → Type 0 = λ n. length (out_text (numeric server nick n)) ≤ 510 in
    let here : P (ISupport tokens) = omega (arith, length-line server nick) in
    subst (All P) (sym one_line) (All-cons P (ISupport tokens) [] here (λ k d small. absurd (omega arith)))
