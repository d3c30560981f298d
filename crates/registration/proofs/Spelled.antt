-- What is read from a message of PLAIN is what the message tells, and the payload is its one spelling.
use Rattle.std.proofs.Common.{◌≡◌, ℕ, Bool, true, false, ◌&&◌, List, [], ◌∷◌, Option, Some, None}
use Rattle.std.proofs.Common.{Result, Ok, Err, refl, sym, inl, inr}
use Rattle.std.specs.List.{join_with_byte}
use Rattle.std.specs.Option.{IfSome}
use Rattle.std.proofs.lemmas.Bool.{cases_Bool}
use Rattle.std.proofs.lemmas.List.Splits.{join_with_byte-slice_split}
use Rattle.base64.specs.Engines.{standard}
use Rattle.base64.specs.GeneralPurpose.{IsBytes, decode_of, encode_of}
use Rattle.base64.specs.declared.decode.DecodeError.{DecodeError}
use Rattle.base64.proofs.EngineFacts.{decode_of_strict}
use Rattle.line_grammar.specs.Parts.{is_present, parts}
use Rattle.registration.specs.Parts.{three_of}
use Rattle.registration.specs.Plain.{Credentials, Spells, Tells, ToldIsSpelled}
use Rattle.registration.specs.Plain.{credentials_from, credentials_in, credentials_of, is_own}

second_true : (a b : Bool) → (a && b) ≡ true → b ≡ true
second_true true b e = e
second_true false b e = cc

-- what is in the parts of a message is told by the message
told_by_parts : (ps : List (List ℕ)) (message : List ℕ) → join_with_byte 0 ps ≡ message
    → IfSome (credentials_from (three_of ps)) (Tells message)
told_by_parts [] message e = tt
told_by_parts (i ∷ []) message e = tt
told_by_parts (i ∷ u ∷ []) message e = tt
told_by_parts (i ∷ u ∷ p ∷ []) message e =
    elim (cases_Bool (is_present u && is_present p && is_own i u)) [
      | inl is ↦ rw is
          (record { identity = i; own = second_true (is_present u && is_present p) (is_own i u) is; whole = sym e })
      | inr isnt ↦ rw isnt tt
    ]
told_by_parts (i ∷ u ∷ p ∷ q ∷ ps) message e = tt

told : (message : List ℕ) → IfSome (credentials_from (three_of (parts 0 message))) (Tells message)
told message = told_by_parts (parts 0 message) message (join_with_byte-slice_split 0 message)

spelled_if_told : (payload message : List ℕ) (found : Option Credentials) → payload ≡ encode_of standard message
    → IfSome found (Tells message) → IfSome found (Spells payload)
spelled_if_told payload message (Some c) e told = record { message = message; tells = told; spelled = e }
spelled_if_told payload message None e told = tt

spelled_by : (payload : List ℕ) (r : Result (List ℕ) DecodeError) → IsBytes payload → decode_of standard payload ≡ r
    → IfSome (credentials_in r) (Spells payload)
spelled_by payload (Ok message) bytes e =
    spelled_if_told payload message (credentials_from (three_of (parts 0 message)))
    (decode_of_strict standard payload message (refl, refl) bytes e) (told message)
spelled_by payload (Err fault) bytes e = tt

pub told-spelled : ToldIsSpelled
unfolding credentials_of
told-spelled payload bytes = spelled_by payload (decode_of standard payload) bytes refl
