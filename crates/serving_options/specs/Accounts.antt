-- The line of an account (this project's own format): its digest is SHA-256 of the salt followed by the password.
use Rattle.std.specs.Prelude.{◌≡◌, ◌⊎◌, ℕ, IsSome, List, ◌∷◌, ◌++◌, Ok, Err}
use Rattle.hex.specs.Hex.{encode_lower}
use Rattle.sha2.specs.Sha256.{sha256}
use Rattle.registration.specs.declared.accounts.Account.{Account}
use Rattle.registration.specs.declared.accounts.AccountFault.{AccountFault}
use Rattle.registration.specs.declared.accounts.AccountFault.TheVariants.{BadDigest}
use Rattle.registration.specs.Accounts.{accounts_in, logged_in}

-- a name, a salt and a digest in hexadecimal, parted by spaces
abbrev pub account_line : List ℕ → List ℕ → List ℕ → List ℕ
account_line name salt password = name ++ 32 ∷ salt ++ 32 ∷ encode_lower (sha256 (salt ++ password))

-- a file of accounts has no fault, and lets a user of this name log in by this password
pub record LetsIn (name password file : List ℕ) : Type 0 where
  pub accounts : List Account
  pub reads : accounts_in file ≡ Ok accounts
  pub knows : IsSome (logged_in accounts name password)

-- a file of accounts has this fault; BadDigest, too, where it has none and doesn't let the user in
abbrev pub IsFaultOf : (name password file : List ℕ) → AccountFault → Type 0
IsFaultOf name password file fault = ((n : ℕ) × (accounts_in file ≡ Err (n, fault)))
    ⊎ ((fault ≡ BadDigest) × (LetsIn name password file → ⊥))
