-- The text of an answer that is spelled line by line is that of its tagged lines.
use Rattle.std.proofs.Common.{◌≡◌, ◌∙◌, ℕ, ℤ, Bool, true, false, not, ◌&&◌, ◌==◌, List, [], ◌∷◌, ◌++◌, map}
use Rattle.std.proofs.Common.{length, Option, Some, None, ap, sym, refl, append_assoc, append-nil}
use Rattle.std.specs.List.{flat_map}
use Rattle.std.proofs.lemmas.Grind.{flat_map-append}
use Rattle.numerics.specs.declared.outgoing.Out.{Out}
use Rattle.numerics.specs.Outgoing.{octets}
use Rattle.registration.specs.declared.caps.Cap.TheVariants.{MessageTags, ServerTime}
use Rattle.registration.specs.declared.caps.Caps.{Caps}
use Rattle.registration.specs.Caps.{is_on}
use Rattle.labels_batches.specs.declared.answers.AnswerTag.{AnswerTag}
use Rattle.labels_batches.specs.declared.answers.Tagged.{Tagged}
use Rattle.labels_batches.specs.Answers.{whole_answer, tagged_as}
use Rattle.labels_batches.specs.Headed.{with_head, is_bare, label_mark}
use Rattle.labels_batches.specs.Rendered.{answered_tag, text_as, spelled_line, with_time}
use Rattle.labels_batches.specs.Spellings.{spelled_with}
use Rattle.labels_batches.proofs.Alike.{as_taken}

-- lines after the tags that all of them have
pub headed_rendered : (caps : Caps) (m : ℤ) (tag : Option AnswerTag) (ls : List Out)
    → flat_map (with_head caps (with_time caps m (answered_tag tag))) ls ≡ text_as caps m (map (tagged_as tag) ls)
unfolding spelled_line
headed_rendered caps m tag [] = refl
headed_rendered caps m tag (l ∷ ls) = ap (λ x. with_head caps (with_time caps m (answered_tag tag)) l ++ x)
    (headed_rendered caps m tag ls)

pub rendered_lines : (caps : Caps) (m : ℤ) (tag : Option AnswerTag) (ls : List Out) (head : List ℕ) → head
    ≡ with_time caps m (answered_tag tag) → flat_map (with_head caps head) ls ≡ text_as caps m (map (tagged_as tag) ls)
rendered_lines caps m tag ls head e = ap (λ h. flat_map (with_head caps h) ls) e ∙ headed_rendered caps m tag ls

-- some lines, and then others
pub rendered_both : (caps : Caps) (m : ℤ) (xs ys : List Tagged) → text_as caps m (xs ++ ys)
    ≡ text_as caps m xs ++ text_as caps m ys
rendered_both caps m xs ys = flat_map-append (spelled_line caps m) xs ys

-- a batch: what opens it, its lines, and what ends it
pub rendered_batch : (caps : Caps) (m : ℤ) (before : List ℕ) (x y : Tagged) (ls : List Tagged) →
    ((before ++ text_as caps m (x ∷ [])) ++ text_as caps m ls) ++ text_as caps m (y ∷ [])
    ≡ before ++ text_as caps m (x ∷ ls ++ y ∷ [])
rendered_batch caps m before x y ls =
    append_assoc (before ++ text_as caps m (x ∷ [])) (text_as caps m ls) (text_as caps m (y ∷ []))
    ∙ append_assoc before (text_as caps m (x ∷ [])) (text_as caps m ls ++ text_as caps m (y ∷ []))
    ∙ ap (λ t. before ++ (text_as caps m (x ∷ []) ++ t)) (sym (rendered_both caps m ls (y ∷ [])))
    ∙ ap (λ t. before ++ t) (sym (rendered_both caps m (x ∷ []) (ls ++ y ∷ [])))

-- a line without a label that goes out without tags
bare_with : (time tags : Bool) (m : ℤ) (l : Out) → not time && not tags ≡ true → octets l ≡ spelled_with time tags m l
bare_with false false m l e = refl
bare_with false true m l e = absurd (let f : false ≡ true = e in cc)
bare_with true tags m l e = absurd (let f : false ≡ true = e in cc)

pub bare_spelled : (caps : Caps) (m : ℤ) (l : Out) → is_bare caps l ≡ true
    → octets l ≡ spelled_line caps m (tagged_as None l)
bare_spelled caps m l e = bare_with (is_on caps ServerTime)
    (is_on caps MessageTags && not (length l.tags == 0)) m l e ∙ sym (as_taken caps m l)

-- an answer of one line
pub sole_rendered : (caps : Caps) (m : ℤ) (server : List ℕ) (label : Option (List ℕ)) (n : ℕ) (l : Out)
    → spelled_line caps m (tagged_as (label_mark label) l) ≡ text_as caps m (whole_answer server label n (l ∷ []) [])
sole_rendered caps m server None n l = sym (append-nil _)
sole_rendered caps m server (Some label) n l = sym (append-nil _)
