-- The accounts of a server, as its file has them (this project's own format), and what a password is checked against
-- (FIPS 180-4, SHA-256).
use Rattle.std.specs.Prelude.{◌≡◌, true, ℕ, ◌<◌, ◌≤◌, length, take, IsOk, Bool, ◌+◌, ◌&&◌, cond, List, [], ◌∷◌}
use Rattle.std.specs.Prelude.{◌++◌, Option, Some, None, option_and_then, Result, Ok, Err}
use Rattle.std.specs.List.{All, find, list_any}
use Rattle.std.specs.Str.{bytes_eq}
use Rattle.casemapping.specs.Names.{nick_shape}
use Rattle.hex.specs.Hex.{decode_sized}
use Rattle.hex.specs.declared.error.FromHexError.{FromHexError}
use Rattle.sha2.specs.Sha256.{sha256}
use Rattle.registration.specs.declared.accounts.Account.{Account}
use Rattle.registration.specs.declared.accounts.AccountFault.{AccountFault}
use Rattle.registration.specs.declared.accounts.AccountFault.TheVariants.{Shape, BadName, BadDigest, Twice}
use Rattle.casemapping.specs.Fold.{is_same}
use Rattle.line_grammar.specs.Parts.{is_empty, is_present, parts}
use Rattle.registration.specs.Parts.{three_of}

-- a digest is 64 hexadecimal digits
abbrev pub with_digest : List ℕ → List ℕ → Result (List ℕ) FromHexError → Result Account AccountFault
with_digest name salt (Ok digest) = Ok (record { name = name; salt = salt; digest = digest })
with_digest name salt (Err fault) = Err BadDigest

-- each of three parts is a word: none is empty
abbrev pub words_of : Option (List ℕ × List ℕ × List ℕ) → Option (List ℕ × List ℕ × List ℕ)
words_of None = None
words_of (Some (name, salt, digest)) = cond (is_present name && is_present salt && is_present digest)
    (Some (name, salt, digest)) None

abbrev pub account_from : Option (List ℕ × List ℕ × List ℕ) → Result Account AccountFault
account_from None = Err Shape
account_from (Some (name, salt, digest)) = cond (nick_shape name) (with_digest name salt (decode_sized digest 32))
    (Err BadName)

-- a name, a salt and a digest, parted by single spaces
abbrev pub account_of : List ℕ → Result Account AccountFault
account_of line = account_from (words_of (three_of (parts 32 line)))

abbrev pub is_known : List Account → List ℕ → Bool
is_known accounts name = list_any (λ account. is_same account.name name) accounts

abbrev pub with_account : List Account → Result Account AccountFault → Result (List Account) AccountFault
with_account accounts (Err fault) = Err fault
with_account accounts (Ok account) = cond (is_known accounts account.name) (Err Twice) (Ok (accounts ++ account ∷ []))

-- the accounts after one more line, which counts for nothing where it is empty
abbrev pub with_line : List Account → List ℕ → Result (List Account) AccountFault
with_line accounts line = cond (is_empty line) (Ok accounts) (with_account accounts (account_of line))

-- the first fault ends the reading, with the number of its line
abbrev pub unless_fault : ℕ → (List Account → Result (List Account) (ℕ × AccountFault))
    → Result (List Account) AccountFault → Result (List Account) (ℕ × AccountFault)
unless_fault number next (Ok accounts) = next accounts
unless_fault number next (Err fault) = Err (number, fault)

abbrev pub accounts_from : List (List ℕ) → ℕ → List Account → Result (List Account) (ℕ × AccountFault)
accounts_from [] number accounts = Ok accounts
accounts_from (line ∷ lines) number accounts = unless_fault number (accounts_from lines (number + 1))
    (with_line accounts line)

-- the accounts of a file. Its lines are counted from 1, and each ends at a line feed
unfoldable pub accounts_in : List ℕ → Result (List Account) (ℕ × AccountFault)
accounts_in file = accounts_from (parts 10 file) 1 []

-- each account's name has the shape of a nickname
abbrev pub AreNamed : List Account → Type 0
AreNamed accounts = All (λ account. nick_shape account.name ≡ true) accounts

-- so have the names of a file's accounts
abbrev pub AccountsAreNamed : Type 0
AccountsAreNamed = (file : List ℕ) (accounts : List Account) → accounts_in file ≡ Ok accounts → AreNamed accounts

-- a file has a line of this number, and up to it no line has a fault
abbrev pub IsReadTo : List ℕ → ℕ → Type 0
IsReadTo file n = (0 < n) × (n ≤ length (parts 10 file)) × IsOk (accounts_from (take n (parts 10 file)) 1 [])

-- the account's name, as its line spells it, where the password is right
abbrev pub name_by : List ℕ → Account → Option (List ℕ)
name_by password account = cond (bytes_eq (sha256 (account.salt ++ password)) account.digest) (Some account.name) None

unfoldable pub logged_in : List Account → List ℕ → List ℕ → Option (List ℕ)
logged_in accounts user password = option_and_then (name_by password)
    (find (λ account. is_same account.name user) accounts)
