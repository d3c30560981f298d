-- The tags that are passed on are clients' alone, and end no line.
use Rattle.std.proofs.Common.{◌≡◌, ◌≢◌, ℕ, ◌+◌, ◌<◌, ◌≤◌, Bool, true, false, cond, eqb, List, [], ◌∷◌, ◌++◌}
use Rattle.std.proofs.Common.{length, map, filter, take, drop, get_or, Some, None, refl, sym, ap, subst, ◌∙◌}
use Rattle.std.proofs.Common.{arith, inl, inr, ◌⊎◌}
use Rattle.std.specs.Prelude.{nat_eq}
use Rattle.std.specs.List.{AllByRecursion, list_all, starts_with, join_with_byte, position_or_len}
use Rattle.std.proofs.lemmas.Bool.{and_from, and_parts, cases_Bool, cases_lt, cond_both, cond-true}
use Rattle.std.proofs.lemmas.Bool.{cond-false, lt-ltb, le-ltb}
use Rattle.std.proofs.lemmas.Bool.{leb-true, eq-eqb, eqb-true, ne_eqb, or_cases}
use Rattle.std.proofs.lemmas.List.Folds.{list_all-append}
use Rattle.std.proofs.lemmas.List.Sums.{passes_at_first, split_at_first}
use Rattle.line_grammar.specs.Spelling.{is_word_octet}
use Rattle.message_tags.specs.declared.tag.Tag.{Tag}
use Rattle.message_tags.specs.ClientOnly.{client_only_data, is_client_only, is_last, last_of_each}
use Rattle.message_tags.specs.ClientOnly.{spelling_of, spellings}
use Rattle.message_tags.specs.Tags.{counting_tags, counts, key_of, key_shape, lies_between, name_octet}
use Rattle.message_tags.specs.Tags.{parts_of, parts_shape, path_shape, raw_value_of}
use Rattle.message_tags.specs.Tags.{tag_of, vendor_octet}
use Rattle.message_tags.specs.Value.{escapes_of}
use Rattle.answer_octets.specs.Clean.{IsRelayed, is_client_part, is_no_nul}
use Rattle.answer_octets.specs.Laws.{RelayedIsClients}
use Rattle.answer_octets.proofs.Lines.{value-lone, value-word}
use Rattle.answer_octets.proofs.ReadBack.{parts-append, parts-lone}
use Rattle.answer_octets.proofs.ReadFrom.{drop-pass, parts-pass}
use Rattle.answer_octets.proofs.Texts.{escaped-value, is_value_octet, value-some}

abbrev AreValue : List ℕ → Type 0
AreValue bs = list_all is_value_octet bs ≡ true

-- ---- a key

high-value : (b : ℕ) → 45 ≤ b → b ≢ 59 → is_value_octet b ≡ true
high-value b high other =
    let s : b ≢ 32 = omega arith in let n : b ≢ 0 = omega arith in
    let r : b ≢ 13 = omega arith in let l : b ≢ 10 = omega arith in
    rw (ne_eqb b 59 other, ne_eqb b 32 s, ne_eqb b 0 n, ne_eqb b 13 r, ne_eqb b 10 l) refl

between-value : (low high b : ℕ) → 45 ≤ low → (high < 59) ⊎ (59 < low) → lies_between low high b ≡ true
    → is_value_octet b ≡ true
between-value low high b from apart is =
    let parts = and_parts _ _ is in
    let p = leb-true low b parts.0 in
    let q = leb-true b high parts.1 in
    high-value b (omega arith) (elim apart [
      | inl below ↦ (λ e. omega (arith, p, q, below, e))
      | inr above ↦ (λ e. omega (arith, p, q, above, e))
    ])

name-value : (b : ℕ) → name_octet b ≡ true → is_value_octet b ≡ true
name-value b is =
    elim (or_cases _ _ is) [
      | inl more ↦ elim (or_cases _ _ more) [
        | inl letters ↦ elim (or_cases _ _ letters) [
          | inl upper ↦ between-value 65 90 b (omega arith) (inr (omega arith)) upper
          | inr lower ↦ between-value 97 122 b (omega arith) (inr (omega arith)) lower
        ]
        | inr digit ↦ between-value 48 57 b (omega arith) (inl (omega arith)) digit
      ]
      | inr dash ↦ subst (λ x. is_value_octet x ≡ true) (sym (eqb-true b 45 dash)) refl
    ]

vendor-value : (b : ℕ) → vendor_octet b ≡ true → is_value_octet b ≡ true
vendor-value b is =
    elim (or_cases _ _ is) [
      | inl name ↦ name-value b name
      | inr dot ↦ subst (λ x. is_value_octet x ≡ true) (sym (eqb-true b 46 dot)) refl
    ]

all-value : (p : ℕ → Bool) → ((b : ℕ) → p b ≡ true → is_value_octet b ≡ true) → (bs : List ℕ)
    → list_all p bs ≡ true → AreValue bs
all-value p f [] are = refl
all-value p f (b ∷ bs) are =
    let parts = and_parts _ _ are in and_from _ _ (f b parts.0) (all-value p f bs parts.1)

abbrev is_slash : ℕ → Bool
is_slash b = eqb b 47

path-value : (path : List ℕ) → path_shape path ≡ true → AreValue path
path-value path is =
    let at = position_or_len is_slash path in
    elim (cases_lt at (length path)) [
      | inl inside ↦
          let shape : parts_shape path (Some at) ≡ true = sym (ap (parts_shape path)
          (cond-true _ (Some at) None (lt-ltb at (length path) inside))) ∙ is in
          let parts = and_parts _ _ shape in
          let slash = get_or path at 0 in
          let one : is_value_octet slash ≡ true = subst (λ x. is_value_octet x ≡ true)
          (sym (eqb-true slash 47 (passes_at_first is_slash path 0 inside))) refl in
          ap (list_all is_value_octet) (split_at_first is_slash path 0 inside)
          ∙ list_all-append is_value_octet (take at path) (slash ∷ drop (at + 1) path)
          ∙ and_from _ _ (all-value vendor_octet vendor-value (take at path) (and_parts _ _ parts.0).1)
          (and_from _ _ one (all-value name_octet name-value (drop (at + 1) path) (and_parts _ _ parts.1).1))
      | inr past ↦
          let shape : parts_shape path None ≡ true = sym (ap (parts_shape path)
          (cond-false _ (Some at) None (le-ltb at (length path) past))) ∙ is in
          all-value name_octet name-value path (and_parts _ _ shape).1
    ]

key-value : (key : List ℕ) → key_shape key ≡ true → AreValue key
unfolding key_shape
key-value [] is = refl
key-value (b ∷ bs) is =
    elim (cases_Bool (eqb b 43)) [
      | inl plus ↦
          let rest : AreValue bs = path-value bs (sym (ap path_shape (cond-true (eqb b 43) bs (b ∷ bs) plus)) ∙ is) in
          and_from _ _ (subst (λ x. is_value_octet x ≡ true) (sym (eqb-true b 43 plus)) refl) rest
      | inr other ↦ path-value (b ∷ bs) (sym (ap path_shape (cond-false (eqb b 43) bs (b ∷ bs) other)) ∙ is)
    ]

-- ---- the tags that count

record IsTag (t : Tag) : Type 0 where
  key : AreValue t.key
  no_nul : list_all is_no_nul t.value ≡ true

abbrev AreTags : List Tag → Type 0
AreTags ts = AllByRecursion IsTag ts

tag-is : (part : List ℕ) → list_all is_no_nul part ≡ true → counts part ≡ true → IsTag (tag_of part)
tag-is part some counted = record {
  key = key-value (key_of part) (and_parts _ _ counted).0;
  no_nul = value-some (raw_value_of part) (drop-pass is_no_nul _ part some);
}

counted-more : (b : Bool) (part : List ℕ) (rest : List (List ℕ)) → counts part ≡ b → list_all is_no_nul part ≡ true
    → AreTags (map tag_of rest) → AreTags (map tag_of (cond b (part ∷ rest) rest))
counted-more true part rest counted some are = (tag-is part some counted, are)
counted-more false part rest counted some are = are

counted-are : (parts : List (List ℕ)) → list_all (list_all is_no_nul) parts ≡ true
    → AreTags (map tag_of (filter counts parts))
counted-are [] some = tt
counted-are (p ∷ ps) some =
    let parts = and_parts _ _ some in
    counted-more (counts p) p (filter counts ps) refl parts.0 (counted-are ps parts.1)

last-are : (ts : List Tag) → AreTags ts → AreTags (last_of_each ts)
last-are [] are = tt
last-are (t ∷ ts) are =
    cond_both (is_last t ts) _ _ AreTags (λ _. (are.0, last-are ts are.1)) (λ _. last-are ts are.1)

-- ---- what is passed on

record IsPart (part : List ℕ) : Type 0 where
  value : AreValue part
  client : is_client_part part ≡ true

abbrev AreParts : List (List ℕ) → Type 0
AreParts ps = AllByRecursion IsPart ps

turned : (b : ℕ) → eqb 43 b ≡ true → eqb b 43 ≡ true
turned b e = eq-eqb b 43 (sym (eqb-true 43 b e))

client-front : (key rest : List ℕ) → starts_with nat_eq key (43 ∷ []) ≡ true → is_client_part (key ++ rest) ≡ true
client-front [] rest marked = absurd (let no : false ≡ true = marked in cc)
client-front (b ∷ bs) rest marked = turned b (and_parts (eqb 43 b) true marked).0

client-key : (key : List ℕ) → starts_with nat_eq key (43 ∷ []) ≡ true → is_client_part key ≡ true
client-key [] marked = refl
client-key (b ∷ bs) marked = turned b (and_parts (eqb 43 b) true marked).0

part-is : (t : Tag) → IsTag t → is_client_only t ≡ true → IsPart (spelling_of t)
part-is t is marked =
    cond_both (eqb (length t.value) 0) _ _ IsPart (λ _. record { value = is.key; client = client-key t.key marked })
    (λ _. record {
      value = list_all-append is_value_octet t.key (61 ∷ escapes_of t.value)
          ∙ and_from _ _ is.key (escaped-value t.value is.no_nul);
      client = client-front t.key (61 ∷ escapes_of t.value) marked;
    })

parts-more : (b : Bool) (t : Tag) (rest : List Tag) → is_client_only t ≡ b → IsTag t → AreParts (map spelling_of rest)
    → AreParts (map spelling_of (cond b (t ∷ rest) rest))
parts-more true t rest marked is are = (part-is t is marked, are)
parts-more false t rest marked is are = are

parts-are : (ts : List Tag) → AreTags ts → AreParts (map spelling_of (filter is_client_only ts))
parts-are [] are = tt
parts-are (t ∷ ts) are = parts-more (is_client_only t) t (filter is_client_only ts) refl are.0 (parts-are ts are.1)

joined-is : (ps : List (List ℕ)) → AreParts ps → IsRelayed (join_with_byte 59 ps)
joined-is [] are = record { words = refl; clients = refl }
joined-is (p ∷ []) are = record {
  words = value-word p are.0.value;
  clients = ap (list_all is_client_part) (parts-lone p (value-lone p are.0.value)) ∙ and_from _ _ are.0.client refl;
}
joined-is (p ∷ q ∷ ps) are =
    let rest = joined-is (q ∷ ps) are.1 in
    let later : List ℕ = join_with_byte 59 (q ∷ ps) in
    record {
      words = list_all-append is_word_octet p (59 ∷ later) ∙ and_from _ _ (value-word p are.0.value) rest.words;
      clients = ap (list_all is_client_part) (parts-append p later ∙ ap (λ xs. xs ++ parts_of later)
          (parts-lone p (value-lone p are.0.value))) ∙ and_from _ _ are.0.client rest.clients;
    }

pub relayed-clients : RelayedIsClients
unfolding client_only_data counting_tags
relayed-clients tags some =
    joined-is (spellings (map tag_of (filter counts (parts_of tags)))) (parts-are
    (last_of_each (map tag_of (filter counts (parts_of tags)))) (last-are (map tag_of (filter counts (parts_of tags)))
    (counted-are (parts_of tags) (parts-pass is_no_nul tags some))))
