-- What is read of a clean message: a command whose texts are clean, or a fault that names a text.
use Rattle.std.proofs.Common.{◌≡◌, ℕ, ◌==◌, ◌≤◌, Bool, true, not, ◌&&◌, nat_le, nat_lt, List, []}
use Rattle.std.proofs.Common.{◌∷◌, filter, length, IfSome, Result, Ok, Err, refl, inl, inr}
use Rattle.std.proofs.Common.{arith}
use Rattle.std.specs.List.{AllByRecursion, list_all, slice_split}
use Rattle.std.proofs.lemmas.Bool.{and_from, and_parts, leb-true, or_cases}
use Rattle.line_grammar.specs.Parts.{is_present}
use Rattle.line_grammar.specs.Reading.{is_command, is_digit, is_letter}
use Rattle.line_grammar.specs.Spelling.{is_text_octet}
use Rattle.casemapping.specs.Fold.{is_same}
use Rattle.command_params.specs.declared.fault.ReadFault.{ReadFault}
use Rattle.command_params.specs.declared.fault.ReadFault.TheVariants.{InvalidCapSubcommand, UnknownCommand}
use Rattle.command_params.specs.Lists.{distinct, is_comma, names_of}
use Rattle.command_params.specs.Params.{first_or_empty, first_or_none}
use Rattle.answer_octets.proofs.Kept.{filter-all, split-kept}
use Rattle.clean_records.specs.Clean.{IsText}
use Rattle.clean_records.proofs.Lists.{all-filter, all-texts}
use Rattle.clean_records.proofs.Texts.{AreTexts, high-text}

abbrev pub IsCleanFault : ReadFault → Type 0
IsCleanFault (UnknownCommand name) = IsText name
IsCleanFault (InvalidCapSubcommand subcommand) = IsText subcommand
IsCleanFault fault = Unit {0}

abbrev pub IsCleanRead : {K : Type 0} → (K → Type 0) → Result K ReadFault → Type 0
IsCleanRead P (Ok k) = P k
IsCleanRead P (Err fault) = IsCleanFault fault

-- ---- parameters

pub first-text : (ps : List (List ℕ)) → AreTexts ps → IsText (first_or_empty ps)
first-text [] are = refl
first-text (p ∷ ps) are = (and_parts _ _ are).0

pub first-if_any : (ps : List (List ℕ)) → AreTexts ps → IfSome (first_or_none ps) IsText
first-if_any [] are = tt
first-if_any (p ∷ ps) are = (and_parts _ _ are).0

pub present-parts : (p : ℕ → Bool) (list : List ℕ) → IsText list → AreTexts (filter is_present (slice_split p list))
present-parts p list is = filter-all (list_all is_text_octet) is_present (slice_split p list)
    (split-kept is_text_octet p list is)

pub distinct-all : {X : Type 0} (P : X → Type 0) (name : X → List ℕ) (xs : List X) → AllByRecursion P xs
    → AllByRecursion P (distinct name xs)
distinct-all P name [] are = tt
distinct-all P name (x ∷ xs) are =
    (are.0, all-filter P (λ y. not (is_same (name x) (name y))) (distinct name xs) (distinct-all P name xs are.1))

pub names-texts : (list : List ℕ) → IsText list → AllByRecursion IsText (names_of list)
names-texts list is = let parts = filter is_present (slice_split is_comma list) in
    distinct-all IsText (λ name. name) parts (all-texts parts (present-parts is_comma list is))

-- ---- a command's name

letter-text : (b : ℕ) → is_letter b ≡ true → is_text_octet b ≡ true
letter-text b is = elim (or_cases (nat_le 65 b && nat_le b 90) (nat_le 97 b && nat_le b 122) is) [
  | inl upper ↦ let low : 65 ≤ b = leb-true 65 b (and_parts (nat_le 65 b) (nat_le b 90) upper).0 in
      high-text b (omega (arith, low))
  | inr lower ↦ let low : 97 ≤ b = leb-true 97 b (and_parts (nat_le 97 b) (nat_le b 122) lower).0 in
      high-text b (omega (arith, low))
]

digit-text : (b : ℕ) → is_digit b ≡ true → is_text_octet b ≡ true
digit-text b is = high-text b (leb-true 48 b (and_parts _ _ is).0)

each-text : (p : ℕ → Bool) → ((b : ℕ) → p b ≡ true → is_text_octet b ≡ true) → (bs : List ℕ) → list_all p bs ≡ true
    → IsText bs
each-text p f [] are = refl
each-text p f (b ∷ bs) are = let parts = and_parts _ _ are in and_from _ _ (f b parts.0) (each-text p f bs parts.1)

pub command-text : (word : List ℕ) → is_command word ≡ true → IsText word
command-text word is =
    let some = nat_lt 0 (length word) in let three = length word == 3 in
    elim (or_cases (some && list_all is_letter word) (three && list_all is_digit word) is) [
      | inl letters ↦ each-text is_letter letter-text word (and_parts some (list_all is_letter word) letters).1
      | inr digits ↦ each-text is_digit digit-text word (and_parts three (list_all is_digit word) digits).1
    ]
