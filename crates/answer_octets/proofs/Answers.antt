-- The text of an answer under a label has one line with a label, and is whole.
use Rattle.std.proofs.Common.{◌≡◌, ◌≢◌, ℕ, ◌+◌, ◌^◌, ◌<◌, ◌≤◌, ℤ, true, false, suc, List, [], ◌∷◌, ◌++◌}
use Rattle.std.proofs.Common.{length, length-append, take, map, codes, Some, None, refl, sym, ap, ◌∙◌}
use Rattle.std.proofs.Common.{append_assoc, append-nil, arith, ne_eqb}
use Rattle.std.specs.Prelude.{decimal}
use Rattle.std.specs.List.{All, list_all}
use Rattle.std.proofs.lemmas.Bool.{and_from}
use Rattle.std.proofs.lemmas.List.{length-map, map-append, take_all}
use Rattle.std.proofs.lemmas.List.Elements.{All-append, All-cons, All-head, All-map, All-nil, All-same, All-weaker}
use Rattle.std.proofs.lemmas.Fmt.{length-decimal-le}
use Rattle.line_grammar.specs.Reading.{after_source, without_spaces}
use Rattle.line_grammar.specs.Grammar.{IsCommand}
use Rattle.line_grammar.specs.Spelling.{is_text_octet, spelled_params, spelled_source, bare_line}
use Rattle.numerics.specs.CivilTime.{LiesOutside}
use Rattle.numerics.specs.declared.outgoing.Out.{Out}
use Rattle.numerics.specs.Outgoing.{out_text}
use Rattle.registration.specs.declared.caps.Caps.{Caps}
use Rattle.labels_batches.specs.declared.answers.AnswerTag.{AnswerTag}
use Rattle.labels_batches.specs.declared.answers.AnswerTag.TheVariants.{Label, Batch}
use Rattle.labels_batches.specs.declared.answers.Tagged.{Tagged}
use Rattle.std.specs.Prelude.{Option}
use Rattle.labels_batches.specs.Answers.{ack, whole_answer, batch_ends, batch_opens, as_batch, tagged_as}
use Rattle.labels_batches.specs.Rendered.{text_as}
use Rattle.labels_batches.specs.Whole.{HasLabelFirst, IsClosed, IsLone, labels}
use Rattle.labels_batches.proofs.Once.{label-first, lone-opens-none, several-closed}
use Rattle.answer_octets.specs.TextLines.{tag_in}
use Rattle.answer_octets.specs.Clean.{IsClean, IsCleanAnswer, IsCleanTag, IsCleanTagged, IsServer, IsTagText}
use Rattle.answer_octets.specs.Laws.{IsBatchText, IsLoneText, LabelIsRead, LinesAreCut, LoneIsWhole, OneLabel}
use Rattle.answer_octets.specs.Laws.{SeveralAreWhole, line_of}
use Rattle.answer_octets.proofs.Blocks.{word-text}
use Rattle.answer_octets.proofs.Digits.{decimal-plain, plain-value}
use Rattle.answer_octets.proofs.Lines.{all-text, batch-read, command-read, cut-rendered, label-count}
use Rattle.answer_octets.proofs.Lines.{label-read, said-read, value-word}
use Rattle.answer_octets.proofs.Moments.{moment-value}
use Rattle.answer_octets.proofs.Spelled.{command-begins, said-source}
use Rattle.line_grammar.proofs.Readings.{is_a_command}

abbrev bare : List Out → List Tagged
bare ls = map (tagged_as None) ls

-- ---- the server's own lines

decimal-text : (n : ℕ) → n < 2 ^ 64 → list_all is_text_octet (decimal n) ≡ true
decimal-text n small = word-text (decimal n) (value-word (decimal n) (plain-value (decimal n) (decimal-plain n small)))

ack-clean : (server : List ℕ) → IsServer server → IsClean (ack server)
ack-clean server is = record {
  source = is.word;
  command = refl;
  params = refl;
  tags = refl;
  clients = refl;
  fits = omega (arith, is.short, length-append (server ++ 32 ∷ []) (codes "ACK"), length-append server (32 ∷ []));
}

opens-clean : (server : List ℕ) (n : ℕ) → IsServer server → n < 2 ^ 64 → IsClean (batch_opens server n)
opens-clean server n is small = record {
  source = is.word;
  command = refl;
  params = and_from _ _ (decimal-text n small) refl;
  tags = refl;
  clients = refl;
  fits = omega (arith, is.short, length-append (server ++ 32 ∷ []) (codes "BATCH"), length-append server (32 ∷ []));
}

ends-clean : (server : List ℕ) (n : ℕ) → IsServer server → n < 2 ^ 64 → IsClean (batch_ends server n)
ends-clean server n is small = record {
  source = is.word;
  command = refl;
  params = and_from _ _ (decimal-text n small) refl;
  tags = refl;
  clients = refl;
  fits = omega (arith, is.short, length-append (server ++ 32 ∷ []) (codes "BATCH"), length-append server (32 ∷ []));
}

-- ---- the lines of an answer

pub tagged-clean : (t : Option AnswerTag) → IsCleanTag t → (ls : List Out) → All IsClean ls
    → All IsCleanTagged (map (tagged_as t) ls)
tagged-clean t is ls are =
    All-map IsCleanTagged (tagged_as t) ls (All-weaker IsClean (λ l. IsCleanTagged (tagged_as t l))
    (λ l c. record { line = c; tag = is }) ls are)

first-clean : (label : List ℕ) (l : Out) (copies : List Out) → IsTagText label → IsClean l → All IsClean copies
    → All IsCleanTagged (tagged_as (Some (Label label)) l ∷ bare copies)
first-clean label l copies is c are =
    All-cons IsCleanTagged (tagged_as (Some (Label label)) l) (bare copies) (record { line = c; tag = is })
    (tagged-clean None tt copies are)

batched-clean : (server label : List ℕ) (n : ℕ) (ls copies : List Out) → IsServer server → IsTagText label → n < 2 ^ 64
    → All IsClean ls → All IsClean copies → All IsCleanTagged (as_batch server label n ls ++ bare copies)
batched-clean server label n ls copies own is small are after =
    let ending : All IsCleanTagged (tagged_as None (batch_ends server n) ∷ []) = All-cons IsCleanTagged
    (tagged_as None (batch_ends server n)) [] (record { line = ends-clean server n own small; tag = tt })
    (All-nil IsCleanTagged) in
    let inner : List Tagged = map (tagged_as (Some (Batch n))) ls ++ tagged_as None (batch_ends server n) ∷ [] in
    let inner-clean : All IsCleanTagged inner = All-append IsCleanTagged (map (tagged_as (Some (Batch n))) ls)
    (tagged_as None (batch_ends server n) ∷ []) (tagged-clean (Some (Batch n)) small ls are) ending in
    All-cons IsCleanTagged (tagged_as (Some (Label label)) (batch_opens server n)) (inner ++ bare copies)
    (record { line = opens-clean server n own small; tag = is })
    (All-append IsCleanTagged inner (bare copies) inner-clean (tagged-clean None tt copies after))

answered-clean : (server label : List ℕ) (n : ℕ) (reply copies : List Out) → IsServer server → IsTagText label
    → n < 2 ^ 64 → All IsClean reply → All IsClean copies
    → All IsCleanTagged (whole_answer server (Some label) n reply copies)
answered-clean server label n [] copies own is small are after =
    first-clean label (ack server) copies is (ack-clean server own) after
answered-clean server label n (l ∷ []) copies own is small are after =
    first-clean label l copies is (All-head IsClean l [] are) after
answered-clean server label n (l ∷ k ∷ ls) copies own is small are after =
    let xs : List Out = l ∷ k ∷ ls in
    let some : length xs ≢ 0 = omega arith in let more : length xs ≢ 1 = omega arith in
    rw (ne_eqb (length xs) 0 some) (rw (ne_eqb (length xs) 1 more)
    (batched-clean server label n xs copies own is small are after))

pub clean : (m : ℤ) (server label : List ℕ) (n : ℕ) (reply copies : List Out)
    → IsCleanAnswer m server label n reply copies → All IsCleanTagged (whole_answer server (Some label) n reply copies)
clean m server label n reply copies c =
    answered-clean server label n reply copies c.server_is c.label_is c.number c.reply_is c.copies_are

-- ---- laws of all texts

pub lines-cut : LinesAreCut
lines-cut caps m ts moment are =
    let time = moment-value m moment in
    let e = cut-rendered caps m time ts are in
    (e, ap (list_all (list_all is_text_octet)) e ∙ all-text caps m time ts are)

pub label-is_read : LabelIsRead
label-is_read caps m t moment is = label-read caps m (moment-value m moment) t is

-- ---- one label

labels-first : (label : List ℕ) (ls : List Tagged) → HasLabelFirst label ls → labels ls ≡ 1
labels-first label ls f = ap labels f.lines ∙ ap suc f.no_other

pub one-label : OneLabel
one-label caps m server label n reply copies c =
    let ts = whole_answer server (Some label) n reply copies in
    label-count caps m (moment-value m c.moment) ts (clean m server label n reply copies c)
    ∙ labels-first label ts (label-first server label n reply copies)

-- ---- a lone line

lone-text : (caps : Caps) (m : ℤ) (label : List ℕ) (copies : List Out) (ts : List Tagged)
    → (LiesOutside m → ⊥) → IsLone label copies ts → All IsCleanTagged ts → All IsClean copies
    → IsLoneText label (text_as caps m (bare copies)) (text_as caps m ts)
lone-text caps m label copies ts moment lone are after =
    let time = moment-value m moment in
    let t : Tagged = tagged_as (Some (Label label)) lone.line in
    let is : IsCleanTagged t = All-head IsCleanTagged t (bare copies)
    (All-same IsCleanTagged (t ∷ bare copies) ts (sym lone.lines) are) in
    record {
      line = line_of caps m t;
      lines = cut-rendered caps m time ts are ∙ ap (map (line_of caps m)) lone.lines
          ∙ ap (λ ls. line_of caps m t ∷ ls)
          (sym (cut-rendered caps m time (bare copies) (tagged-clean None tt copies after)));
      labelled = label-read caps m time t is;
      opens_none = λ e. lone.opens_none (sym (command-read caps m time t is) ∙ e);
    }

pub lone-whole : LoneIsWhole
lone-whole caps m server label n reply copies c few plain =
    lone-text caps m label copies (whole_answer server (Some label) n reply copies) c.moment
    (lone-opens-none server label n reply copies few plain) (clean m server label n reply copies c) c.copies_are

-- ---- a batch

opens-params : (n : ℕ) → spelled_params ((codes "+" ++ decimal n) ∷ codes "labeled-response" ∷ []) false
    ≡ codes " +" ++ decimal n ++ codes " labeled-response"
opens-params n = append-nil (codes " +" ++ decimal n ++ codes " labeled-response")

ends-params : (n : ℕ) → spelled_params ((codes "-" ++ decimal n) ∷ []) false ≡ codes " -" ++ decimal n
ends-params n = append-nil (codes " -" ++ (decimal n ++ [])) ∙ ap (λ ds. codes " -" ++ ds) (append-nil (decimal n))

twenty : (n : ℕ) → n < 2 ^ 64 → length (decimal n) ≤ 20
twenty n small = length-decimal-le 20 n (omega arith) (omega arith) small

-- what a line of the server says, which isn't cut off
server-said : (server word params : List ℕ) → IsServer server → length word + length params ≤ 100
    → IsCommand word
    → after_source (without_spaces (take 510 (spelled_source (Some server) ++ (word ++ params)))) ≡ word ++ params
server-said server word params is short command =
    let whole : length (spelled_source (Some server) ++ (word ++ params)) ≤ 510 = omega (
      arith,
      is.short,
      length-append (spelled_source (Some server)) (word ++ params),
      length-append server (32 ∷ []),
      length-append word params,
    ) in
    ap (λ t. after_source (without_spaces t)) (take_all 510 (spelled_source (Some server) ++ (word ++ params)) whole)
    ∙ said-source (Some server) word params is.word (command-begins word command)

opens-said : (server : List ℕ) (n : ℕ) → IsServer server → n < 2 ^ 64
    → after_source (without_spaces (take 510 (out_text (batch_opens server n))))
    ≡ codes "BATCH +" ++ decimal n ++ codes " labeled-response"
unfolding bare_line
opens-said server n is small =
    let params : List ℕ = codes " +" ++ decimal n ++ codes " labeled-response" in
    let short : length params ≤ 50 = omega (
      arith,
      twenty n small,
      length-append (decimal n)
          (codes " labeled-response"),
    ) in
    ap (λ ps. after_source (without_spaces (take 510 (spelled_source (Some server) ++ (codes "BATCH" ++ ps)))))
    (opens-params n) ∙ server-said server (codes "BATCH") params is (omega (arith, short))
    (is_a_command (codes "BATCH") refl)

ends-said : (server : List ℕ) (n : ℕ) → IsServer server → n < 2 ^ 64
    → after_source (without_spaces (take 510 (out_text (batch_ends server n)))) ≡ codes "BATCH -" ++ decimal n
unfolding bare_line
ends-said server n is small =
    let params : List ℕ = codes " -" ++ decimal n in
    let short : length params ≤ 50 = omega (arith, twenty n small) in
    ap (λ ps. after_source (without_spaces (take 510 (spelled_source (Some server) ++ (codes "BATCH" ++ ps)))))
    (ends-params n) ∙ server-said server (codes "BATCH") params is (omega (arith, short))
    (is_a_command (codes "BATCH") refl)

batch-text : (caps : Caps) (m : ℤ) (server label : List ℕ) (n : ℕ) (reply copies : List Out) (ts : List Tagged)
    → IsCleanAnswer m server label n reply copies → IsClosed server label n reply copies ts → All IsCleanTagged ts
    → IsBatchText label (decimal n) (text_as caps m (bare copies)) (text_as caps m ts)
batch-text caps m server label n reply copies ts c closed are =
    let time = moment-value m c.moment in
    let of : Tagged → List ℕ = line_of caps m in
    let first : Tagged = tagged_as (Some (Label label)) (batch_opens server n) in
    let last : Tagged = tagged_as None (batch_ends server n) in
    let inner : List Tagged = map (tagged_as (Some (Batch n))) reply in
    let first-is : IsCleanTagged first =
    record { line = opens-clean server n c.server_is c.number; tag = c.label_is } in
    let last-is : IsCleanTagged last = record { line = ends-clean server n c.server_is c.number; tag = tt } in
    record {
      opening = of first;
      between = map of inner;
      ending = of last;
      lines = cut-rendered caps m time ts are ∙ ap (map of) closed.lines
          ∙ ap (λ ls. of first ∷ ls) (map-append of (inner ++ last ∷ []) (bare copies)
          ∙ ap (λ ls. ls ++ map of (bare copies)) (map-append of inner (last ∷ []))
          ∙ append_assoc (map of inner) (of last ∷ []) (map of (bare copies))
          ∙ ap (λ ls. map of inner ++ of last ∷ ls)
          (sym (cut-rendered caps m time (bare copies) (tagged-clean None tt copies c.copies_are))));
      labelled = label-read caps m time first first-is;
      opens = said-read caps m time first first-is ∙ opens-said server n c.server_is c.number;
      several = omega (arith, closed.several, length-map {A = Tagged} {B = List ℕ}, length-map {A = Out} {B = Tagged});
      in_batch = All-map (λ l. tag_in l (codes "batch") ≡ Some (decimal n)) of inner
          (All-map (λ t. tag_in (of t) (codes "batch") ≡ Some (decimal n)) (tagged_as (Some (Batch n))) reply
          (All-weaker IsClean (λ l. tag_in (of (tagged_as (Some (Batch n)) l)) (codes "batch") ≡ Some (decimal n))
          (λ l is. batch-read caps m time (tagged_as (Some (Batch n)) l) (record { line = is; tag = c.number }))
          reply c.reply_is));
      ends = said-read caps m time last last-is ∙ ends-said server n c.server_is c.number;
    }

pub several-whole : SeveralAreWhole
several-whole caps m server label n reply copies c two =
    batch-text caps m server label n reply copies (whole_answer server (Some label) n reply copies) c
    (several-closed server label n reply copies two) (clean m server label n reply copies c)
