-- A fault of a stream has a cause from wherever it is seen.
use Rattle.std.proofs.Common.{◌≡◌, inl, inr, ℕ, ◌+◌, ◌<◌, ◌≤◌, arith, Result, Ok, Err, sym, subst}
use Rattle.std.specs.Prelude.{IfErr, OnOk}
use Rattle.scripts.specs.declared.entry.PlayFault.{PlayFault}
use Rattle.scripts.specs.declared.entry.PlayFault.TheVariants.{BadLine, BadSettings, ReadFailed, WriteFailed, Memory}
use Rattle.scripts.specs.Streams.{Reading, Writing, IsWrites, HasCause}

-- one more read
pub read_once : (a b c n : ℕ) → c ≡ b + 1 → b ≡ a + n → c ≡ a + (n + 1)
read_once a b c n e f = omega arith

pub still_low : {a b c : ℕ} → a ≤ b → b ≤ c → a ≤ c
still_low l m = omega arith

-- what failed after nothing had
pub writes_from : (n m k : ℕ) (e : PlayFault) → m ≡ n → IsWrites m k e → IsWrites n k e
writes_from n m k e same is = subst (λ (x : ℕ). IsWrites x k e) same is

-- what fails whatever was written
pub unasked_writes : {T : Type 0} (r : Result T PlayFault) (n m : ℕ) → IfErr r (λ e. (i j : ℕ) → IsWrites i j e)
    → IfErr r (IsWrites n m)
unasked_writes (Ok v) n m is = tt
unasked_writes (Err e) n m is = is n m

module _ {R W : Type 0} where
  pub of_writes : (i j : Reading R) (o p : Writing W) (n : ℕ) (e : PlayFault) → n ≡ o.failures
      → IsWrites n p.failures e → HasCause i j o p e
  of_writes i j o p n (BadLine k) same is = tt
  of_writes i j o p n BadSettings same is = tt
  of_writes i j o p n ReadFailed same is = absurd is
  of_writes i j o p n WriteFailed same is = subst (λ (x : ℕ). x < p.failures) same is
  of_writes i j o p n Memory same is = tt

  pub writes_result : {T : Type 0} (i j : Reading R) (o p : Writing W) (n : ℕ) (r : Result T PlayFault)
      → n ≡ o.failures → IfErr r (IsWrites n p.failures) → IfErr r (HasCause i j o p)
  writes_result i j o p n (Ok v) same is = tt
  writes_result i j o p n (Err e) same is = of_writes i j o p n e same is

  later : (i j : Reading R) (o p q : Writing W) (e : PlayFault) → HasCause i j o p e → p.failures ≤ q.failures
      → HasCause i j o q e
  later i j o p q (BadLine k) is low = tt
  later i j o p q BadSettings is low = tt
  later i j o p q ReadFailed is low = is
  later i j o p q WriteFailed is low = omega arith
  later i j o p q Memory is low = tt

  -- a script was played, and its notes were given on
  pub given_on : {T U : Type 0} (i j : Reading R) (o p q : Writing W) (r : Result T PlayFault)
      (played : Result U PlayFault) → IfErr played (HasCause i j o p) → OnOk played (p.failures ≡ o.failures)
      → IfErr r (λ e. IfErr played (λ f. e ≡ f)) → IfErr r (λ e. OnOk played (e ≡ WriteFailed))
      → p.failures ≤ q.failures → IfErr r (λ e. OnOk played (p.failures < q.failures)) → IfErr r (HasCause i j o q)
  given_on i j o p q (Ok v) played cause same equal write low grew = tt
  given_on i j o p q (Err e) (Ok v) cause same equal write low grew =
      subst (HasCause i j o q) (sym write) (let goal : o.failures < q.failures = omega arith in goal)
  given_on i j o p q (Err e) (Err f) cause same equal write low grew =
      subst (HasCause i j o q) (sym equal) (later i j o p q f cause low)
