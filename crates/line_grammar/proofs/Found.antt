-- What the first octet that passes a test says of all, as a search finds it.
use Rattle.std.proofs.Common.{◌≡◌, ℕ, ◌≤◌, Bool, true, false, List, length, refl, ap, sym, inl, inr, arith, eqb}
use Rattle.std.specs.Prelude.{◌↔◌, Contains, IsTrue, Option, Some, None}
use Rattle.std.specs.List.{list_any, position, position_or_len}
use Rattle.std.specs.Option.{is_some}
use Rattle.std.proofs.lemmas.Bool.{cases_Bool, eqb-true, lt-ltb, le-ltb}
use Rattle.std.proofs.lemmas.List.{take_all}
use Rattle.std.proofs.lemmas.List.Folds.{list_any_at}
use Rattle.std.proofs.lemmas.List.Sums.{position_or_len_is}
use Rattle.memchr.specs.Find.{IsFirstByte}
use Rattle.line_grammar.proofs.Streams.{none_before_first}

fails : (b : Bool) → ¬ (b ≡ true) → b ≡ false
fails b wrong = elim (cases_Bool b) [
  | inl is ↦ absurd (wrong is)
  | inr isnt ↦ isnt
]

past_all : (p : ℕ → Bool) (xs : List ℕ) → IsFirstByte p xs None → position_or_len p xs ≡ length xs
past_all p xs none =
    position_or_len_is p xs (length xs) 0 (omega arith) (λ k l. fails _ (none k (omega arith) l))
    (λ l. absurd (omega arith))

pub first_is_position : (p : ℕ → Bool) (xs : List ℕ) (r : Option ℕ) → IsFirstByte p xs r → r ≡ position p xs
first_is_position p xs None none = rw (past_all p xs none, le-ltb (length xs) (length xs) (omega arith)) refl
first_is_position p xs (Some i) first =
    let at_i : position_or_len p xs ≡ i =
    position_or_len_is p xs i 0 (omega (arith, first.0.high)) (λ k l. fails _ (first.0.before k (omega arith) l))
    (λ l. first.1) in
    rw (at_i, lt-ltb i (length xs) first.0.high) refl

pub found_is_any : (p : ℕ → Bool) (xs : List ℕ) (r : Option ℕ) → IsFirstByte p xs r → is_some r ≡ list_any p xs
found_is_any p xs None none =
    let past : length xs ≤ position_or_len p xs = omega (arith, past_all p xs none) in
    sym (rw (← take_all (position_or_len p xs) xs past) (none_before_first p xs))
found_is_any p xs (Some i) first = sym (list_any_at p xs i 0 first.0.high first.1)

pub zero_is_there : (xs : List ℕ) (r : Option ℕ) → IsFirstByte (λ b. eqb b 0) xs r → IsTrue (is_some r) ↔ Contains xs 0
zero_is_there xs None none =
    (λ is. cc, λ there. absurd (none there.0 (omega arith) there.1 (ap (λ b. eqb b 0) there.2)))
zero_is_there xs (Some i) first = (λ is. (i, first.0.high, eqb-true _ 0 first.1), λ there. refl)
