-- A numeric is a clean line, where whom it names, its words and its text have no NUL, CR or LF.
use Rattle.std.proofs.Common.{◌≡◌, ℕ, ◌≤◌, true, List, [], ◌∷◌, ◌++◌, length, length-append, map}
use Rattle.std.proofs.Common.{Option, Some, None, refl, ◌∙◌, arith}
use Rattle.std.specs.Prelude.{IfSome, is_some, option_to_list}
use Rattle.std.specs.List.{list_all}
use Rattle.std.proofs.lemmas.Bool.{and_from, and_parts, cond_both}
use Rattle.std.proofs.lemmas.List.Folds.{list_all-append}
use Rattle.line_grammar.specs.Reading.{is_command}
use Rattle.line_grammar.specs.Spelling.{is_text_octet, needs_colon}
use Rattle.numerics.specs.declared.numeric.Numeric.{Numeric}
use Rattle.numerics.specs.declared.numeric.Numeric.TheVariants.{Welcome}
use Rattle.numerics.specs.Numerics.{RowForm, numeric, row, row_line, middle_of}
use Rattle.answer_octets.specs.Clean.{IsClean, IsServer, IsTextRow}
use Rattle.answer_octets.specs.Laws.{LineIsClean, NumericIsClean}

shown-text : (word : List ℕ) → list_all is_text_octet word ≡ true → list_all is_text_octet (middle_of word) ≡ true
shown-text word text =
    cond_both (needs_colon word) _ _ (λ w. list_all is_text_octet w ≡ true) (λ _. refl) (λ _. text)

all-shown : (words : List (List ℕ)) → list_all (list_all is_text_octet) words ≡ true
    → list_all (list_all is_text_octet) (map middle_of words) ≡ true
all-shown [] text = refl
all-shown (w ∷ ws) text = let parts = and_parts _ _ text in and_from _ _ (shown-text w parts.0) (all-shown ws parts.1)

pub line-clean : LineIsClean
line-clean from command params colon word is text fits = record {
  source = word;
  command = is;
  params = text;
  tags = refl;
  clients = refl;
  fits = omega (arith, fits, length-append (from ++ 32 ∷ []) command, length-append from (32 ∷ []));
}

row-text : (to : List ℕ) (words : List (List ℕ)) (text : Option (List ℕ)) → list_all is_text_octet to ≡ true
    → list_all (list_all is_text_octet) words ≡ true → IfSome text (λ t. list_all is_text_octet t ≡ true)
    → list_all (list_all is_text_octet) (to ∷ (map middle_of words ++ option_to_list text)) ≡ true
row-text to words None to-is words-are text-is =
    and_from _ _ to-is (list_all-append (list_all is_text_octet) (map middle_of words) []
    ∙ and_from _ _ (all-shown words words-are) refl)
row-text to words (Some t) to-is words-are text-is =
    and_from _ _ to-is (list_all-append (list_all is_text_octet) (map middle_of words) (t ∷ [])
    ∙ and_from _ _ (all-shown words words-are) (and_from _ _ text-is refl))

-- each code is three digits
record IsCode (code : List ℕ) : Type 0 where
  command : is_command code ≡ true
  short : length code ≤ 3

code-is : (server : List ℕ) (n : Numeric) → IsCode (row server n).code
code-is server (Welcome source) = record { command = refl; short = omega arith }
code-is server _ = record { command = refl; short = omega arith }

clean-row : (server to : List ℕ) (r : RowForm) → IsServer server → list_all is_text_octet to ≡ true → IsTextRow r
    → IsCode r.code → IsClean (row_line server to r)
unfolding row_line
clean-row server to r is to-is text code =
    line-clean server r.code (to ∷ (map middle_of r.words
    ++ option_to_list r.text)) (is_some r.text) is.word code.command
    (row-text to r.words r.text to-is text.words text.text)
    (let short = is.short in let few = code.short in omega arith)

pub numeric-clean : NumericIsClean
unfolding numeric
numeric-clean server to n is to-is text = clean-row server to (row server n) is to-is text (code-is server n)
