-- A line that was spelled word by word is spelled as its parts say.
use Rattle.std.proofs.Common.{◌≡◌, ◌∙◌, ℕ, ◌-◌, List, [], ◌∷◌, ◌++◌, map, length, take, drop, true, false, Option}
use Rattle.std.proofs.Common.{Some, None, option_to_list, ap, sym, append_assoc, append-nil, arith, length-append}
use Rattle.std.specs.List.{flat_map}
use Rattle.std.proofs.Math.Seq.{take-length, drop-length, take-append_seam, drop-append_seam}
use Rattle.std.proofs.lemmas.List.{length-take, map-append}
use Rattle.std.proofs.lemmas.Grind.{flat_map-append}
use Rattle.line_grammar.specs.Spelling.{bare_line, spelled_source, spelled_params}
use Rattle.numerics.specs.Numerics.{row_line, middle_of}
use Rattle.numerics.specs.Outgoing.{line, nameless, octets, room, out_text}
use Rattle.numerics.specs.declared.outgoing.Out.{Out}

-- words, each after a space
abbrev after_spaces : List (List ℕ) → List ℕ
after_spaces ws = flat_map (λ w. 32 ∷ w) ws

plain_params : (ps : List (List ℕ)) → spelled_params ps false ≡ after_spaces ps
plain_params ps = rw (take-length ps) (rw (drop-length ps) (append-nil (after_spaces ps)))

text_params : (ps : List (List ℕ)) (t : List ℕ) → spelled_params (ps ++ t ∷ []) true ≡ after_spaces ps ++ 32 ∷ 58 ∷ t
text_params ps t =
    let n : length (ps ++ t ∷ []) - 1 ≡ length ps = omega (arith, length-append ps (t ∷ [])) in
    rw n (rw (take-append_seam ps (t ∷ []))
    (rw (drop-append_seam ps (t ∷ [])) (ap (λ x. after_spaces ps ++ 32 ∷ 58 ∷ x) (append-nil t))))

pub built_words : (s c : List ℕ) (ps : List (List ℕ)) → (spelled_source (Some s) ++ c) ++ after_spaces ps
    ≡ out_text (line s c ps false)
unfolding bare_line
built_words s c ps = append_assoc (spelled_source (Some s)) c (after_spaces ps) ∙ ap
    (λ x. spelled_source (Some s) ++ (c ++ x)) (sym (plain_params ps))

pub built_text : (s c : List ℕ) (ps : List (List ℕ)) (t : List ℕ)
    → ((spelled_source (Some s) ++ c) ++ after_spaces ps) ++ 32 ∷ 58 ∷ t ≡ out_text (line s c (ps ++ t ∷ []) true)
unfolding bare_line
built_text s c ps t =
    append_assoc (spelled_source (Some s) ++ c) (after_spaces ps) (32 ∷ 58 ∷ t)
    ∙ append_assoc (spelled_source (Some s)) c (after_spaces ps ++ 32 ∷ 58 ∷ t)
    ∙ ap (λ x. spelled_source (Some s) ++ (c ++ x)) (sym (text_params ps t))

pub built_nameless : (c w : List ℕ) → c ++ 32 ∷ w ≡ out_text (nameless c w)
unfolding bare_line
built_nameless c w = ap (λ x. c ++ x) (sym (plain_params (w ∷ []) ∙ ap (λ x. 32 ∷ x) (append-nil w)))

-- a numeric's line: whom it goes to, words, and a text where there is one
pub shown_append : (xs ys : List (List ℕ)) → after_spaces (map middle_of (xs ++ ys))
    ≡ after_spaces (map middle_of xs) ++ after_spaces (map middle_of ys)
shown_append xs ys =
    ap after_spaces (map-append middle_of xs ys) ∙ flat_map-append (λ w. 32 ∷ w) (map middle_of xs) (map middle_of ys)

words_of_row : (front to : List ℕ) (ws : List (List ℕ)) → (front ++ 32 ∷ to) ++ after_spaces (map middle_of ws)
    ≡ front ++ after_spaces (to ∷ map middle_of ws)
words_of_row front to ws = append_assoc front (32 ∷ to) (after_spaces (map middle_of ws))

pub built_row : (server to code : List ℕ) (ws : List (List ℕ)) (text : Option (List ℕ)) →
    (((spelled_source (Some server) ++ code) ++ 32 ∷ to) ++ after_spaces (map middle_of ws))
    ++ flat_map (λ t. 32 ∷ 58 ∷ t) (option_to_list text)
    ≡ out_text (row_line server to (record { code = code; words = ws; text = text }))
unfolding row_line
built_row server to code ws None =
    append-nil _ ∙ words_of_row (spelled_source (Some server) ++ code) to ws
    ∙ ap (λ x. (spelled_source (Some server) ++ code) ++ after_spaces (to ∷ x)) (sym (append-nil (map middle_of ws)))
    ∙ built_words server code (to ∷ (map middle_of ws ++ []))
built_row server to code ws (Some t) =
    ap (λ x. x ++ 32 ∷ 58 ∷ (t ++ [])) (words_of_row (spelled_source (Some server) ++ code) to ws)
    ∙ ap (λ x. ((spelled_source (Some server) ++ code) ++ after_spaces (to ∷ map middle_of ws)) ++ 32 ∷ 58 ∷ x)
    (append-nil t)
    ∙ built_text server code (to ∷ map middle_of ws) t

-- what was added after a start, and the start
pub after_start : (xs ys : List ℕ) → drop (length xs) (xs ++ ys) ≡ ys
after_start = drop-append_seam

pub only_start : (xs ys : List ℕ) → take (length xs) (xs ++ ys) ≡ xs
only_start = take-append_seam

-- how many octets more a line may have, by what goes out of it
pub room_left : (o : Out) → 512 - length (octets o) ≡ room o
unfolding octets room
room_left o = omega (arith, length-append (take 510 (out_text o)) (13 ∷ 10 ∷ []), length-take 510 (out_text o))
