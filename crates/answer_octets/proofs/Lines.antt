-- A clean line with its tags: what is read of its octets.
use Rattle.std.proofs.Common.{◌≡◌, ℕ, ◌^◌, ◌<◌, ℤ, Bool, true, false, not, ◌&&◌, cond, eqb, suc}
use Rattle.std.proofs.Common.{List, [], ◌∷◌, ◌++◌, length, take, map, filter, codes, Option, Some, None}
use Rattle.std.proofs.Common.{refl, sym, ap, ◌∙◌, append_assoc}
use Rattle.std.specs.Prelude.{is_some, decimal}
use Rattle.std.specs.List.{All, list_all}
use Rattle.std.specs.Str.{bytes_eq}
use Rattle.std.proofs.lemmas.Bool.{and_from, and_parts, cond_both, eqb-true, not_from_false}
use Rattle.std.proofs.lemmas.List.Elements.{All-head, All-tail}
use Rattle.std.proofs.lemmas.Str.{is_utf8-from_IsUtf8, IsUtf8-from_ascii}
use Rattle.std.proofs.lemmas.Fmt.{IsAscii-decimal}
use Rattle.line_grammar.specs.Lines.{before_space}
use Rattle.line_grammar.specs.Reading.{after_source, without_spaces}
use Rattle.line_grammar.specs.Spelling.{is_text_octet, is_word_octet}
use Rattle.message_tags.specs.Tags.{key_of, key_shape, parts_of, tag}
use Rattle.message_tags.specs.Value.{escapes_of}
use Rattle.message_tags.proofs.ValueLemmas.{value-escaped}
use Rattle.numerics.specs.CivilTime.{time_text}
use Rattle.numerics.specs.declared.outgoing.Out.{Out}
use Rattle.numerics.specs.Outgoing.{octets, out_text}
use Rattle.registration.specs.declared.caps.Cap.TheVariants.{MessageTags, ServerTime}
use Rattle.registration.specs.declared.caps.Caps.{Caps}
use Rattle.registration.specs.Caps.{is_on}
use Rattle.labels_batches.specs.declared.answers.AnswerTag.{AnswerTag}
use Rattle.labels_batches.specs.declared.answers.AnswerTag.TheVariants.{Label, Batch}
use Rattle.labels_batches.specs.declared.answers.Tagged.{Tagged}
use Rattle.labels_batches.specs.Rendered.{answered_tag, with_end, relayed_tags, text_as, spelled_line, tag_block}
use Rattle.labels_batches.specs.Rendered.{with_time}
use Rattle.labels_batches.specs.Whole.{is_label_tag, labels}
use Rattle.answer_octets.specs.TextLines.{command_of, has_label, label_lines, line_words, tag_in, text_lines}
use Rattle.answer_octets.specs.Clean.{IsClean, IsCleanTag, IsCleanTagged, IsTagText, is_client_part}
use Rattle.answer_octets.specs.Laws.{label_value, line_of}
use Rattle.answer_octets.proofs.Blocks.{IsBlock, block-more, block-read, block-said, block-text}
use Rattle.answer_octets.proofs.Cut.{cut-first}
use Rattle.answer_octets.proofs.Digits.{decimal-plain, plain-means, plain-value}
use Rattle.answer_octets.proofs.ReadBack.{have_others, is_lone, key-client, tag-none, tag-other, tag-same}
use Rattle.answer_octets.proofs.Spelled.{spelled-command, spelled-plain, spelled-text, text-take}
use Rattle.answer_octets.proofs.Texts.{escaped-utf8, escaped-value, is_value_octet}

abbrev pub label_key : List ℕ
label_key = codes "label"

abbrev pub batch_key : List ℕ
batch_key = codes "batch"

pub value-word : (bs : List ℕ) → list_all is_value_octet bs ≡ true → list_all is_word_octet bs ≡ true
value-word [] are = refl
value-word (b ∷ bs) are =
    let parts = and_parts _ _ are in and_from _ _ (and_parts _ _ parts.0).1 (value-word bs parts.1)

pub value-lone : (bs : List ℕ) → list_all is_value_octet bs ≡ true → is_lone bs ≡ true
value-lone [] are = refl
value-lone (b ∷ bs) are =
    let parts = and_parts _ _ are in and_from _ _ (and_parts _ _ parts.0).0 (value-lone bs parts.1)

-- ---- the tag of an answer

-- the batch that was put to a line
abbrev pub batch_value : Option AnswerTag → Option (List ℕ)
batch_value (Some (Batch n)) = Some (decimal n)
batch_value t = None

label-shape : key_shape (codes "label") ≡ true
unfolding key_shape
label-shape = refl

batch-shape : key_shape (codes "batch") ≡ true
unfolding key_shape
batch-shape = refl

label-tag : (label : List ℕ) → IsTagText label → tag (codes "label=" ++ escapes_of label) label_key ≡ Some label
label-tag label is =
    let plain = escaped-value label is.no_nul in
    tag-same label_key (codes "label=" ++ escapes_of label) (value-lone (escapes_of label) plain)
    (and_from _ _ label-shape (is_utf8-from_IsUtf8 (escapes_of label) (escaped-utf8 label is.is_text))) refl
    ∙ ap Some (value-escaped label)

batch-tag : (n : ℕ) → n < 2 ^ 64 → tag (codes "batch=" ++ decimal n) batch_key ≡ Some (decimal n)
batch-tag n small =
    let plain = decimal-plain n small in
    tag-same batch_key (codes "batch=" ++ decimal n) (value-lone (decimal n) (plain-value (decimal n) plain))
    (and_from _ _ batch-shape (is_utf8-from_IsUtf8 (decimal n)
    (IsUtf8-from_ascii (decimal n) (IsAscii-decimal n small))))
    refl ∙ ap Some (plain-means (decimal n) plain)

label-block : (t : Option AnswerTag) → IsCleanTag t → IsBlock label_key (label_value t) (answered_tag t)
label-block None is = refl
label-block (Some (Label label)) is = (
  refl,
  value-word (escapes_of label) (escaped-value label is.no_nul),
  label-tag label is,
)
label-block (Some (Batch n)) is =
    let plain = plain-value (decimal n) (decimal-plain n is) in (
      refl,
      value-word (decimal n) plain,
      tag-other label_key (codes "batch=" ++ decimal n) (value-lone (decimal n) plain) refl,
    )

batch-block : (t : Option AnswerTag) → IsCleanTag t → IsBlock batch_key (batch_value t) (answered_tag t)
batch-block None is = refl
batch-block (Some (Label label)) is =
    let plain = escaped-value label is.no_nul in (
      refl,
      value-word (escapes_of label) plain,
      tag-other batch_key (codes "label=" ++ escapes_of label) (value-lone (escapes_of label) plain) refl,
    )
batch-block (Some (Batch n)) is = (
  refl,
  value-word (decimal n) (plain-value (decimal n) (decimal-plain n is)),
  batch-tag n is,
)

-- ---- the moment, and the tags of another client

-- a key that is a server's, and not that of a moment
record IsServerKey (key : List ℕ) : Type 0 where
  some : bytes_eq [] key ≡ false
  no_client : (bs : List ℕ) → bytes_eq (43 ∷ bs) key ≡ false
  no_time : bytes_eq (codes "time") key ≡ false

label-server : IsServerKey label_key
label-server = record { some = refl; no_client = λ bs. refl; no_time = refl }

batch-server : IsServerKey batch_key
batch-server = record { some = refl; no_client = λ bs. refl; no_time = refl }

timed-block : (key block : List ℕ) (read : Option (List ℕ)) (caps : Caps) (m : ℤ) → IsServerKey key
    → list_all is_value_octet (time_text m) ≡ true → IsBlock key read block → IsBlock key read (with_time caps m block)
timed-block key block read caps m server time is =
    cond_both (is_on caps ServerTime) _ _ (IsBlock key read)
    (λ _. block-more key block (codes "time=" ++ time_text m) read None is (value-word (time_text m) time)
    (tag-other key (codes "time=" ++ time_text m) (value-lone (time_text m) time) server.no_time)) (λ _. is)

others-client : (key : List ℕ) (parts : List (List ℕ)) → IsServerKey key → list_all is_client_part parts ≡ true
    → have_others key parts ≡ true
others-client key [] server are = refl
others-client key ([] ∷ ps) server are =
    and_from _ _ (not_from_false _ server.some) (others-client key ps server are)
others-client key ((b ∷ bs) ∷ ps) server are =
    let parts = and_parts _ _ are in
    let same : key_of (b ∷ bs) ≡ 43 ∷ key_of bs = ap (λ x. key_of (x ∷ bs)) (eqb-true b 43 parts.0) ∙ key-client bs in
    and_from _ _ (not_from_false _ (ap (λ k. bytes_eq k key) same ∙ server.no_client (key_of bs)))
    (others-client key ps server parts.1)

relayed-block : (key block : List ℕ) (read : Option (List ℕ)) (caps : Caps) (o : Out) → IsServerKey key → IsClean o
    → IsBlock key read block → IsBlock key read (relayed_tags caps o.tags block)
relayed-block key block read caps o server c is =
    cond_both (is_on caps MessageTags && not (eqb (length o.tags) 0)) _ _ (IsBlock key read)
    (λ _. block-more key block o.tags read None is c.tags
    (tag-none key o.tags (others-client key (parts_of o.tags) server c.clients))) (λ _. is)

-- ---- the line

module _ (caps : Caps) (m : ℤ) (time : list_all is_value_octet (time_text m) ≡ true) (t : Tagged)
    (c : IsCleanTagged t) where
  whole-label : IsBlock label_key (label_value t.tag) (tag_block caps m t)
  whole-label = relayed-block label_key _ _ caps t.line label-server c.line
      (timed-block label_key _ _ caps m label-server time (label-block t.tag c.tag))

  whole-batch : IsBlock batch_key (batch_value t.tag) (tag_block caps m t)
  whole-batch = relayed-block batch_key _ _ caps t.line batch-server c.line
      (timed-block batch_key _ _ caps m batch-server time (batch-block t.tag c.tag))

  pub label-read : tag_in (line_of caps m t) label_key ≡ label_value t.tag
  label-read = block-read label_key (tag_block caps m t) (take 510 (out_text t.line)) (label_value t.tag) refl
      (spelled-plain t.line c.line) whole-label

  pub batch-read : tag_in (line_of caps m t) batch_key ≡ batch_value t.tag
  batch-read = block-read batch_key (tag_block caps m t) (take 510 (out_text t.line)) (batch_value t.tag) refl
      (spelled-plain t.line c.line) whole-batch

  pub line-text : list_all is_text_octet (line_of caps m t) ≡ true
  line-text = block-text label_key (tag_block caps m t) (take 510 (out_text t.line)) (label_value t.tag)
      (text-take 510 (out_text t.line) (spelled-text t.line c.line)) whole-label

  pub command-read : command_of (line_of caps m t) ≡ t.line.command
  command-read = ap before_space (block-said label_key (tag_block caps m t) (take 510 (out_text t.line))
      (label_value t.tag) (spelled-plain t.line c.line) whole-label) ∙ spelled-command t.line c.line

  pub said-read : line_words (line_of caps m t) ≡ after_source (without_spaces (take 510 (out_text t.line)))
  said-read = block-said label_key (tag_block caps m t) (take 510 (out_text t.line)) (label_value t.tag)
      (spelled-plain t.line c.line) whole-label

label-some : (t : Option AnswerTag) → is_some (label_value t) ≡ is_label_tag t
label-some None = refl
label-some (Some (Label label)) = refl
label-some (Some (Batch n)) = refl

spelled-as : (caps : Caps) (m : ℤ) (t : Tagged) → spelled_line caps m t ≡ line_of caps m t ++ 13 ∷ 10 ∷ []
unfolding spelled_line octets
spelled-as caps m t = sym (append_assoc (with_end (tag_block caps m t)) (take 510 (out_text t.line)) (13 ∷ 10 ∷ []))

-- ---- a text

pub cut-rendered : (caps : Caps) (m : ℤ) → list_all is_value_octet (time_text m) ≡ true → (ts : List Tagged)
    → All IsCleanTagged ts → text_lines (text_as caps m ts) ≡ map (line_of caps m) ts
cut-rendered caps m time [] are = refl
cut-rendered caps m time (t ∷ ts) are =
    let first = line_of caps m t in
    ap (λ s. text_lines (s ++ text_as caps m ts)) (spelled-as caps m t)
    ∙ ap text_lines (append_assoc first (13 ∷ 10 ∷ []) (text_as caps m ts))
    ∙ cut-first first (text_as caps m ts) (line-text caps m time t (All-head IsCleanTagged t ts are))
    ∙ ap (λ ls. first ∷ ls) (cut-rendered caps m time ts (All-tail IsCleanTagged t ts are))

pub all-text : (caps : Caps) (m : ℤ) → list_all is_value_octet (time_text m) ≡ true → (ts : List Tagged)
    → All IsCleanTagged ts → list_all (list_all is_text_octet) (map (line_of caps m) ts) ≡ true
all-text caps m time [] are = refl
all-text caps m time (t ∷ ts) are =
    and_from _ _ (line-text caps m time t (All-head IsCleanTagged t ts are))
    (all-text caps m time ts (All-tail IsCleanTagged t ts are))

count-more : (a b : Bool) (l : List ℕ) (t : Tagged) (ls : List (List ℕ)) (ts : List Tagged) → a ≡ b
    → length ls ≡ length ts → length (cond a (l ∷ ls) ls) ≡ length (cond b (t ∷ ts) ts)
count-more true true l t ls ts same rest = ap suc rest
count-more false false l t ls ts same rest = rest
count-more true false l t ls ts same rest = absurd (cc)
count-more false true l t ls ts same rest = absurd (cc)

count-lines : (caps : Caps) (m : ℤ) → list_all is_value_octet (time_text m) ≡ true → (ts : List Tagged)
    → All IsCleanTagged ts → length (filter has_label (map (line_of caps m) ts)) ≡ labels ts
count-lines caps m time [] are = refl
count-lines caps m time (t ∷ ts) are =
    let read : has_label (line_of caps m t) ≡ is_label_tag t.tag = ap is_some
    (label-read caps m time t (All-head IsCleanTagged t ts are)) ∙ label-some t.tag in
    count-more (has_label (line_of caps m t)) (is_label_tag t.tag) (line_of caps m t) t
    (filter has_label (map (line_of caps m) ts)) (filter (λ l. is_label_tag l.tag) ts) read
    (count-lines caps m time ts (All-tail IsCleanTagged t ts are))

-- as many lines have a label as one was put to
pub label-count : (caps : Caps) (m : ℤ) → list_all is_value_octet (time_text m) ≡ true → (ts : List Tagged)
    → All IsCleanTagged ts → label_lines (text_as caps m ts) ≡ labels ts
label-count caps m time ts are =
    ap (λ ls. length (filter has_label ls)) (cut-rendered caps m time ts are) ∙ count-lines caps m time ts are
