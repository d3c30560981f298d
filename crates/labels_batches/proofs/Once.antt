-- The answer to a labelled line has the label on its first line alone, and is whole.
use Rattle.std.proofs.Common.{◌≡◌, ◌≢◌, ℕ, ◌<◌, ◌≤◌, true, false, List, [], ◌∷◌, ◌++◌, codes}
use Rattle.std.proofs.Common.{map, length, Some, None, arith, refl, ne_eqb, lit<}
use Rattle.std.proofs.lemmas.Slice.Eq.{bytes_eq-Decides}
use Rattle.std.specs.Str.{bytes_eq}
use Rattle.numerics.specs.declared.outgoing.Out.{Out}
use Rattle.labels_batches.specs.declared.answers.AnswerTag.TheVariants.{Label, Batch}
use Rattle.labels_batches.specs.declared.answers.Tagged.{Tagged}
use Rattle.labels_batches.specs.Answers.{ack, batch_ends, batch_opens, as_batch, tagged_as}
use Rattle.labels_batches.specs.Whole.{HasLabelFirst, IsClosed, LabelFirst, LoneOpensNone, SeveralAreClosed, labels}

abbrev bare : List Out → List Tagged
bare ls = map (tagged_as None) ls

none-bare : (ls : List Out) → labels (bare ls) ≡ 0
none-bare [] = refl
none-bare (l ∷ ls) = none-bare ls

none-batched : (n : ℕ) (server : List ℕ) (ls copies : List Out)
    → labels ((map (tagged_as (Some (Batch n))) ls ++ tagged_as None (batch_ends server n) ∷ []) ++ bare copies) ≡ 0
none-batched n server [] copies = none-bare copies
none-batched n server (l ∷ ls) copies = none-batched n server ls copies

-- ---- the label stands first

first-line : (label : List ℕ) (l : Out) (copies : List Out)
    → HasLabelFirst label (tagged_as (Some (Label label)) l ∷ bare copies)
first-line label l copies = record { first = l; later = bare copies; lines = refl; no_other = none-bare copies }

first-batch : (server label : List ℕ) (n : ℕ) (ls copies : List Out)
    → HasLabelFirst label (as_batch server label n ls ++ bare copies)
first-batch server label n ls copies = record {
  first = batch_opens server n;
  later = (map (tagged_as (Some (Batch n))) ls ++ tagged_as None (batch_ends server n) ∷ []) ++ bare copies;
  lines = refl;
  no_other = none-batched n server ls copies;
}

pub label-first : LabelFirst
label-first server label n [] copies = first-line label (ack server) copies
label-first server label n (l ∷ []) copies = first-line label l copies
label-first server label n (l ∷ k ∷ ls) copies =
    let xs : List Out = l ∷ k ∷ ls in
    let some : length xs ≢ 0 = omega arith in let more : length xs ≢ 1 = omega arith in
    rw (ne_eqb (length xs) 0 some) (rw (ne_eqb (length xs) 1 more) (first-batch server label n xs copies))

-- ---- the answer is whole

ack-opens-none : (server : List ℕ) → (ack server).command ≢ codes "BATCH"
ack-opens-none server e = let yes : bytes_eq (codes "ACK") (codes "BATCH")
    ≡ true = (bytes_eq-Decides (codes "ACK") (codes "BATCH")).1 e in absurd (let no : false ≡ true = yes in cc)

pub lone-opens-none : LoneOpensNone
lone-opens-none server label n [] copies few plain = record {
  line = ack server;
  lines = refl;
  opens_none = ack-opens-none server;
}
lone-opens-none server label n (l ∷ []) copies few plain =
    record { line = l; lines = refl; opens_none = plain 0 l (lit< tt) }
lone-opens-none server label n (l ∷ k ∷ ls) copies few plain = absurd (omega arith)

closed : (server label : List ℕ) (n : ℕ) (ls copies : List Out) → 2 ≤ length ls
    → IsClosed server label n ls copies (as_batch server label n ls ++ bare copies)
closed server label n ls copies two = record { several = two; lines = refl; opens = refl; ends = refl }

pub several-closed : SeveralAreClosed
several-closed server label n ls copies two =
    let some : length ls ≢ 0 = omega arith in let more : length ls ≢ 1 = omega arith in
    rw (ne_eqb (length ls) 0 some) (rw (ne_eqb (length ls) 1 more) (closed server label n ls copies two))
