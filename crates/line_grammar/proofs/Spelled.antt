-- A line spells at most one message, which is the one that reading it part by part finds.
use Rattle.std.proofs.Common.{◌≡◌, ◌≢◌, ℕ, false, List, [], ◌∷◌, ◌++◌, drop, refl, ap, sym}
use Rattle.std.proofs.Common.{subst, ◌∙◌, ◌⊎◌, inl, inr, arith, eqb, append_assoc}
use Rattle.std.specs.Prelude.{Some, None, Option}
use Rattle.std.specs.List.{AllByRecursion, list_any}
use Rattle.std.proofs.lemmas.Bool.{cases_Bool, eqb-true, eqb-false, eq-eqb, ne_eqb, or_from, or_parts}
use Rattle.line_grammar.specs.declared.message.Message.{Message}
use Rattle.line_grammar.specs.Lines.{after_space, before_space}
use Rattle.line_grammar.specs.Reading.{begins_with, without_spaces, is_command, tags_of, after_tags}
use Rattle.line_grammar.specs.Reading.{source_of, after_source, parameters, with_command, reading}
use Rattle.line_grammar.specs.Grammar.{IsFreeOf, AreSpaces, IsGap, IsLetter, IsDigit, IsCommand, SpellsTags}
use Rattle.line_grammar.specs.Grammar.{SpellsSource, BeginsPlain, SpellsParameters, Reads}
use Rattle.line_grammar.proofs.Readings.{BeginsApart, BeginsWord, before_space-word, after_space-word}
use Rattle.line_grammar.proofs.Readings.{without_spaces-spaces, without_spaces-word, free_before_space, apart}
use Rattle.line_grammar.proofs.Readings.{apart-begins, split-apart, drop-apart, split-spaces, command_is, is_a_command}
use Rattle.line_grammar.proofs.Readings.{params-begin, params_read, drop_first, params_spelled, gap-begins}

-- ---- a command

not_apart : (b : ℕ) → IsLetter b ⊎ IsDigit b → (b ≢ 32) × (b ≢ 58) × (b ≢ 64)
not_apart b (inl (inl upper)) = (
  λ e. omega (arith, upper.0, upper.1),
  λ e. omega (arith, upper.0, upper.1),
  λ e. omega (arith, upper.0, upper.1),
)
not_apart b (inl (inr lower)) = (
  λ e. omega (arith, lower.0, lower.1),
  λ e. omega (arith, lower.0, lower.1),
  λ e. omega (arith, lower.0, lower.1),
)
not_apart b (inr digit) = (
  λ e. omega (arith, digit.0, digit.1),
  λ e. omega (arith, digit.0, digit.1),
  λ e. omega (arith, digit.0, digit.1),
)

command_first : (b : ℕ) (bs : List ℕ) → IsCommand (b ∷ bs) → IsLetter b ⊎ IsDigit b
command_first b bs (inl letters) = inl letters.1.0
command_first b bs (inr digits) = inr digits.1.0

no_empty_command : IsCommand [] → ⊥
no_empty_command (inl letters) = omega (arith, letters.0)
no_empty_command (inr digits) = omega (arith, digits.0)

command_plain : (word rest : List ℕ) → IsCommand word → BeginsPlain (word ++ rest)
    × (begins_with 64 (word ++ rest) ≡ false)
command_plain [] rest c = absurd (no_empty_command c)
command_plain (b ∷ bs) rest c = let first = not_apart b (command_first b bs c) in
    ((first.0, first.1), ne_eqb b 64 first.2)

letters_free : (bs : List ℕ) → AllByRecursion IsLetter bs → IsFreeOf 32 bs
letters_free [] a = tt
letters_free (b ∷ bs) a = ((not_apart b (inl a.0)).0, letters_free bs a.1)

digits_free : (bs : List ℕ) → AllByRecursion IsDigit bs → IsFreeOf 32 bs
digits_free [] a = tt
digits_free (b ∷ bs) a = ((not_apart b (inr a.0)).0, digits_free bs a.1)

pub command_free : (word : List ℕ) → IsCommand word → IsFreeOf 32 word
command_free word (inl letters) = letters_free word letters.1
command_free word (inr digits) = digits_free word digits.1

no_nul-any : (bs : List ℕ) → IsFreeOf 0 bs → list_any (λ b. eqb b 0) bs ≡ false
no_nul-any [] free = refl
no_nul-any (b ∷ bs) free = or_from _ _ (ne_eqb b 0 free.0) (no_nul-any bs free.1)

no_nul_in : (bs : List ℕ) → list_any (λ b. eqb b 0) bs ≡ false → IsFreeOf 0 bs
no_nul_in [] n = tt
no_nul_in (b ∷ bs) n = let parts = or_parts _ _ n in (eqb-false b 0 parts.0, no_nul_in bs parts.1)

-- ---- what is spelled is read

word_plain : (bs : List ℕ) → BeginsPlain bs → BeginsWord bs
word_plain [] p = p
word_plain (b ∷ bs) p = p.0

no_colon : (bs : List ℕ) → BeginsPlain bs → begins_with 58 bs ≡ false
no_colon [] p = refl
no_colon (b ∷ bs) p = ne_eqb b 58 p.1

drop_gap : (gap rest : List ℕ) → IsGap gap → BeginsWord rest → without_spaces (drop 1 (gap ++ rest)) ≡ rest
drop_gap [] rest g w = absurd (omega (arith, g.0))
drop_gap (b ∷ bs) rest g w = without_spaces-spaces bs rest g.1.1 ∙ without_spaces-word rest w

-- the source, what comes after it, and that neither a space nor a tag begins it
record SourceIs (bs : List ℕ) (source : Option (List ℕ)) (rest : List ℕ) : Type 0 where
  is : source_of bs ≡ source
  after : after_source bs ≡ rest
  word : BeginsWord bs
  untagged : begins_with 64 bs ≡ false

source_read : (part : List ℕ) (source : Option (List ℕ)) (rest : List ℕ) → SpellsSource part source
    → BeginsPlain rest → begins_with 64 rest ≡ false → SourceIs (part ++ rest) source rest
source_read part None rest e plain untagged =
    subst (λ x. SourceIs (x ++ rest) None rest) (sym e)
    (record {
      is = rw (no_colon rest plain) refl;
      after = rw (no_colon rest plain) refl;
      word = word_plain rest plain;
      untagged = untagged;
    })
source_read part (Some source) rest s plain untagged =
    let gap = s.1.0 in
    let joined : (source ++ gap) ++ rest ≡ source ++ (gap ++ rest) = append_assoc source gap rest in
    let next = gap-begins gap rest s.1.1 in
    subst (λ x. SourceIs (x ++ rest) (Some source) rest) (sym s.1.2)
    (record {
      is = ap Some (ap before_space joined ∙ before_space-word source (gap ++ rest) s.0 next);
      after = ap without_spaces (ap after_space joined ∙ after_space-word source (gap ++ rest) s.0 next)
          ∙ drop_gap gap rest s.1.1 (word_plain rest plain);
      word = (λ e. omega arith);
      untagged = refl;
    })

spaces-untagged : (spaces rest : List ℕ) → AreSpaces spaces → begins_with 64 rest ≡ false
    → begins_with 64 (spaces ++ rest) ≡ false
spaces-untagged [] rest all u = u
spaces-untagged (b ∷ bs) rest all u = ne_eqb b 64 (λ e. omega (arith, all.0, e))

tags_read : (part tags spaces rest : List ℕ) → SpellsTags part tags → AreSpaces spaces → BeginsWord rest
    → begins_with 64 rest ≡ false
    → (tags_of (part ++ (spaces ++ rest)) ≡ tags) × (after_tags (part ++ (spaces ++ rest)) ≡ rest)
tags_read [] tags spaces rest t all w u =
    let bare : without_spaces (spaces ++ rest) ≡ rest = without_spaces-spaces spaces rest all
    ∙ without_spaces-word rest w in
    let no_tag = spaces-untagged spaces rest all u in
    (rw no_tag (sym t), rw no_tag bare)
tags_read (b ∷ bs) tags spaces rest t all w u =
    let bare : without_spaces (spaces ++ rest) ≡ rest = without_spaces-spaces spaces rest all
    ∙ without_spaces-word rest w in
    let joined : bs ++ (spaces ++ rest) ≡ tags ++ 32 ∷ (spaces ++ rest) = ap
    (λ x. x ++ (spaces ++ rest)) t.2 ∙ append_assoc tags (32 ∷ []) (spaces ++ rest) in
    subst (λ c. (tags_of (c ∷ (bs ++ (spaces ++ rest))) ≡ tags)
    × (after_tags (c ∷ (bs ++ (spaces ++ rest))) ≡ rest)) (sym t.0) (
      ap before_space joined ∙ before_space-word tags (32 ∷ (spaces ++ rest)) t.1 refl,
      ap without_spaces (ap after_space joined ∙ after_space-word tags (32 ∷ (spaces ++ rest)) t.1 refl) ∙ bare,
    )

pub reads_is_reading : (line : List ℕ) (m : Message) → Reads line m → reading line ≡ Some m
unfolding reading with_command
reads_is_reading line m r =
    let after = m.command ++ r.params_part in let rest = r.source_part ++ after in
    let plain = command_plain m.command r.params_part r.command in
    let source = source_read r.source_part m.source after r.source plain.0 plain.1 in
    let tags = tags_read r.tags_part m.tags r.spaces rest r.tags r.are_spaces source.word source.untagged in
    let begins = params-begin 14 r.params_part m.params m.colon r.params in
    let free = command_free m.command r.command in
    let params : parameters 14 (after_space after) ≡ (m.params, m.colon) =
    ap (parameters 14) (after_space-word m.command r.params_part free begins) ∙ drop_first 14 r.params_part begins
    ∙ params_read 14 r.params_part m.params m.colon r.params in
    let line_tags : tags_of line ≡ m.tags = ap tags_of r.whole ∙ tags.0 in
    let line_rest : after_tags line ≡ rest = ap after_tags r.whole ∙ tags.1 in
    rw (
      no_nul-any line r.no_nul,
      line_tags,
      line_rest,
      source.is,
      source.after,
      before_space-word m.command r.params_part free begins,
      command_is m.command r.command,
      params,
    ) refl

-- ---- what is read is spelled so

drop_to_word : (bs : List ℕ) → BeginsWord (without_spaces (after_space bs)) → (rest : List ℕ)
    × (apart bs ≡ 32 ∷ rest) × (after_space bs ≡ rest)
drop_to_word bs w = dropped (apart bs) (after_space bs) (apart-begins bs) (drop-apart bs) w where
  dropped : (x y : List ℕ) → BeginsApart x → drop 1 x ≡ y → BeginsWord (without_spaces y) → (rest : List ℕ)
      × (x ≡ 32 ∷ rest) × (y ≡ rest)
  dropped [] y a e w = absurd (subst (λ z. BeginsWord (without_spaces z)) (sym e) w)
  dropped (b ∷ x) y a e w = (x, ap (λ c. c ∷ x) a, sym e)

record TagsSplit (line tags rest : List ℕ) : Type 0 where
  part : List ℕ
  spaces : List ℕ
  spells : SpellsTags part tags
  are_spaces : AreSpaces spaces
  whole : line ≡ part ++ (spaces ++ rest)

tags_split : (line : List ℕ) → BeginsWord (after_tags line) → TagsSplit line (tags_of line) (after_tags line)
tags_split [] w = absurd w
tags_split (b ∷ bs) w =
    elim (cases_Bool (eqb b 64)) [
      | inl tagged ↦ tagged_split b bs (eqb-true b 64 tagged) w
      | inr other ↦
          let split = split-spaces (b ∷ bs) in
          rw other (record { part = []; spaces = split.0; spells = refl; are_spaces = split.1; whole = split.2 })
    ]
  where
    tagged_split : (b : ℕ) (bs : List ℕ) → b ≡ 64 → BeginsWord (after_tags (b ∷ bs))
        → TagsSplit (b ∷ bs) (tags_of (b ∷ bs)) (after_tags (b ∷ bs))
    tagged_split b bs e w =
        subst (λ c. TagsSplit (c ∷ bs) (tags_of (c ∷ bs)) (after_tags (c ∷ bs))) (sym e) (
        let cut = drop_to_word bs (subst (λ c. BeginsWord (after_tags (c ∷ bs))) e w) in
        let split = split-spaces (after_space bs) in
        let tail : apart bs ≡ (32 ∷ []) ++ (split.0 ++ without_spaces (after_space bs)) = cut.1 ∙ ap
        (λ x. 32 ∷ x) (sym cut.2 ∙ split.2) in
        record {
          part = 64 ∷ (before_space bs ++ 32 ∷ []);
          spaces = split.0;
          spells = (refl, free_before_space bs, refl);
          are_spaces = split.1;
          whole = ap (λ x. 64 ∷ x) (split-apart bs ∙ ap (λ x. before_space bs ++ x) tail
              ∙ sym (append_assoc (before_space bs) (32 ∷ []) (split.0 ++ without_spaces (after_space bs))));
        }
        )

record SourceSplit (bs : List ℕ) (source : Option (List ℕ)) (rest : List ℕ) : Type 0 where
  part : List ℕ
  spells : SpellsSource part source
  whole : bs ≡ part ++ rest

source_split : (bs : List ℕ) → BeginsWord (after_source bs) → SourceSplit bs (source_of bs) (after_source bs)
source_split [] w = absurd w
source_split (b ∷ bs) w =
    elim (cases_Bool (eqb b 58)) [
      | inl named ↦ named_split b bs (eqb-true b 58 named) w
      | inr other ↦ rw other (record { part = []; spells = refl; whole = refl })
    ]
  where
    named_split : (b : ℕ) (bs : List ℕ) → b ≡ 58 → BeginsWord (after_source (b ∷ bs))
        → SourceSplit (b ∷ bs) (source_of (b ∷ bs)) (after_source (b ∷ bs))
    named_split b bs e w =
        subst (λ c. SourceSplit (c ∷ bs) (source_of (c ∷ bs)) (after_source (c ∷ bs))) (sym e) (
        let cut = drop_to_word bs (subst (λ c. BeginsWord (after_source (c ∷ bs))) e w) in
        let split = split-spaces (after_space bs) in
        let gap = 32 ∷ split.0 in
        let tail : apart bs ≡ gap ++ without_spaces (after_space bs) = cut.1 ∙ ap
        (λ x. 32 ∷ x) (sym cut.2 ∙ split.2) in
        record {
          part = 58 ∷ (before_space bs ++ gap);
          spells = (free_before_space bs, (gap, (omega arith, (refl, split.1)), refl));
          whole = ap (λ x. 58 ∷ x) (split-apart bs ∙ ap (λ x. before_space bs ++ x) tail
              ∙ sym (append_assoc (before_space bs) gap (without_spaces (after_space bs))));
        }
        )

word_from_command : (bs : List ℕ) → IsCommand (before_space bs) → BeginsWord bs
word_from_command [] c = absurd (no_empty_command c)
word_from_command (b ∷ bs) c = λ space. no_empty_command (let c' : IsCommand [] = rw (eq-eqb b 32 space) at c in c')

word_before_source : (bs : List ℕ) → BeginsWord (after_source bs) → BeginsWord bs
word_before_source [] w = w
word_before_source (b ∷ bs) w = λ space. subst (λ c. BeginsWord (after_source (c ∷ bs))) space w refl

some_same : (m n : Message) → Some m ≡ Some n → m ≡ n
some_same m n e = cc

spelled : (line : List ℕ) → list_any (λ b. eqb b 0) line ≡ false → let after = after_source (after_tags line) in
    let more = parameters 14 (after_space after) in
    IsCommand (before_space after) → Reads line (record {
      tags = tags_of line;
      source = source_of (after_tags line);
      command = before_space after;
      params = more.0;
      colon = more.1;
    })
spelled line no_nul command =
    let rest = after_tags line in let after = after_source rest in
    let word = word_from_command after command in
    let source = source_split rest word in
    let tags = tags_split line (word_before_source rest word) in
    let params = params_spelled 14 (apart after) (apart-begins after) in
    let same : parameters 14 (apart after) ≡ parameters 14 (after_space after) = sym
    (drop_first 14 (apart after) (apart-begins after)) ∙ ap (parameters 14) (drop-apart after) in
    record {
      tags_part = tags.part;
      spaces = tags.spaces;
      source_part = source.part;
      params_part = apart after;
      whole = tags.whole ∙ ap (λ x. tags.part ++ (tags.spaces ++ x))
          (source.whole ∙ ap (λ x. source.part ++ x) (split-apart after));
      tags = tags.spells;
      are_spaces = tags.are_spaces;
      source = source.spells;
      command = command;
      params = subst (λ r. SpellsParameters 14 (apart after) r.0 r.1) same params;
      no_nul = no_nul_in line no_nul;
    }

pub reading_is_reads : (line : List ℕ) (m : Message) → reading line ≡ Some m → Reads line m
unfolding reading with_command
reading_is_reads line m e =
    let rest = after_tags line in let after = after_source rest in
    elim (cases_Bool (list_any (λ b. eqb b 0) line)) [
      | inl nul ↦ let no : None ≡ Some m = rw nul at e in cc
      | inr no_nul ↦ elim (cases_Bool (is_command (before_space after))) [
        | inl is ↦
            let more = parameters 14 (after_space after) in
            let found : Message = record {
              tags = tags_of line;
              source = source_of rest;
              command = before_space after;
              params = more.0;
              colon = more.1;
            } in
            let same : Some found ≡ Some m = rw (no_nul, is) at e in
            subst (Reads line) (some_same found m same) (spelled line no_nul (is_a_command (before_space after) is))
        | inr other ↦ let no : None ≡ Some m = rw (no_nul, other) at e in cc
      ]
    ]

pub one_message : (line : List ℕ) (m n : Message) → Reads line m → Reads line n → m ≡ n
one_message line m n first second = some_same m n
    (sym (reads_is_reading line m first) ∙ reads_is_reading line n second)

pub none_spelled : (line : List ℕ) → reading line ≡ None → (m : Message) → Reads line m → ⊥
none_spelled line none m r = let no : None ≡ Some m = sym none ∙ reads_is_reading line m r in cc
