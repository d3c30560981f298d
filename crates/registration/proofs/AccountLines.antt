-- Lines of an accounts file that were read without a fault, and one more.
use Rattle.std.proofs.Common.{◌≡◌, ℕ, ◌+◌, ◌<◌, ◌≤◌, List, [], ◌∷◌, ◌++◌, length, take, Option, Some, Bor, Result}
use Rattle.std.proofs.Common.{Ok, Err, refl, ap, sym, subst, ◌∙◌, arith, append_assoc, length-append}
use Rattle.std.specs.Result.{IsOk}
use Rattle.std.proofs.lemmas.List.{take_at}
use Rattle.registration.specs.declared.accounts.Account.{Account}
use Rattle.registration.specs.declared.accounts.AccountFault.{AccountFault}
use Rattle.line_grammar.specs.Parts.{parts, parts_left}
use Rattle.registration.specs.Accounts.{accounts_from, unless_fault, with_line}

-- of all lines those before number n were read, and the others are left
pub record AreReadBefore (all left : List (List ℕ)) (n : ℕ) (accounts : List Account) : Type 0 where
  pub done : List (List ℕ)
  pub whole : all ≡ done ++ left
  pub number : n ≡ length done + 1
  pub read : accounts_from done 1 [] ≡ Ok accounts

pub none_before : (all : List (List ℕ)) → AreReadBefore all all 1 []
none_before all = record { done = []; whole = refl; number = refl; read = refl }

-- what follows a line that was read without a fault
after_line : (n : ℕ) (b c : List Account) (xs ys : List (List ℕ)) (r : Result (List Account) AccountFault) →
    ((d : List Account) → accounts_from xs (n + 1) d ≡ Ok b → accounts_from ys (n + 1) d ≡ Ok c) →
    unless_fault n (accounts_from xs (n + 1)) r ≡ Ok b → unless_fault n (accounts_from ys (n + 1)) r ≡ Ok c
after_line n b c xs ys (Ok d) later e = later d e
after_line n b c xs ys (Err fault) later e = cc

read-more : (xs : List (List ℕ)) (line : List ℕ) (n : ℕ) (a b c : List Account) → accounts_from xs n a ≡ Ok b
    → with_line b line ≡ Ok c → accounts_from (xs ++ line ∷ []) n a ≡ Ok c
read-more [] line n a b c e f =
    let same : a ≡ b = cc in
    let read : with_line a line ≡ Ok c = subst (λ x. with_line x line ≡ Ok c) (sym same) f in
    ap (unless_fault n (accounts_from [] (n + 1))) read
read-more (x ∷ xs) line n a b c e f = after_line n b c xs (xs ++ line ∷ []) (with_line a x)
    (λ d g. read-more xs line (n + 1) d b c g f) e

-- what is left is a line and the others
pub next_line : (all : List (List ℕ)) (rest : Option (Bor (List ℕ))) (left : Bor (List ℕ)) (line : List ℕ)
    (more : List (List ℕ)) (n : ℕ) (a : List Account) →
    rest ≡ Some left → parts 10 left.now ≡ line ∷ more → AreReadBefore all (parts_left 10 rest) n a
    → AreReadBefore all (line ∷ more) n a
next_line all rest left line more n a is cut h =
    let same : parts_left 10 rest ≡ line ∷ more = ap (parts_left 10) is ∙ cut in
    subst (λ lines. AreReadBefore all lines n a) same h

pub one_more : (all left : List (List ℕ)) (line : List ℕ) (n : ℕ) (a b : List Account)
    → AreReadBefore all (line ∷ left) n a → with_line a line ≡ Ok b → AreReadBefore all left (n + 1) b
one_more all left line n a b h f =
    record {
      done = h.done ++ line ∷ [];
      whole = h.whole ∙ sym (append_assoc h.done (line ∷ []) left);
      number = omega (arith, h.number, length-append h.done (line ∷ []));
      read = read-more h.done line 1 [] a b h.read f;
    }

known_ok : {X E : Type 0} (r : Result X E) → IsOk r → (x : X) × (r ≡ Ok x)
known_ok (Ok x) h = (x, refl)
known_ok (Err e) h = cc

-- where the next line has no fault, the lines up to it have none
pub up_to : (all left : List (List ℕ)) (line : List ℕ) (n : ℕ) (a : List Account)
    → AreReadBefore all (line ∷ left) n a → IsOk (with_line a line) → (0 < n) × (n ≤ length all)
    × IsOk (accounts_from (take n all) 1 [])
up_to all left line n a h ok =
    let found = known_ok (with_line a line) ok in
    let more = one_more all left line n a found.0 h found.1 in
    let long : length more.done ≡ n = omega (arith, more.number) in
    let cut : take n all ≡ more.done = ap (take n) more.whole ∙ take_at more.done left n long in
    let read : accounts_from (take n all) 1 [] ≡ Ok found.0 =
    ap (λ lines. accounts_from lines 1 []) cut ∙ more.read in (
      omega (arith, h.number),
      omega (arith, ap length more.whole, length-append more.done left, long),
      subst IsOk (sym read) refl,
    )
