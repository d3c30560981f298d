-- Accounts that are read from a file have names of the shape of nicknames.
use Rattle.std.proofs.Common.{◌≡◌, true, ℕ, ◌+◌, List, [], ◌∷◌, ◌++◌, Option, Some, None, Result}
use Rattle.std.proofs.Common.{Ok, Err, subst}
use Rattle.std.specs.List.{AllByRecursion}
use Rattle.std.proofs.lemmas.Bool.{cond_both}
use Rattle.std.proofs.lemmas.List.Elements.{All-from_recursion}
use Rattle.casemapping.specs.Names.{nick_shape}
use Rattle.hex.specs.Hex.{decode_sized}
use Rattle.hex.specs.declared.error.FromHexError.{FromHexError}
use Rattle.line_grammar.specs.Parts.{is_empty, parts}
use Rattle.registration.specs.declared.accounts.Account.{Account}
use Rattle.registration.specs.declared.accounts.AccountFault.{AccountFault}
use Rattle.registration.specs.declared.accounts.AccountFault.TheVariants.{BadName, Twice}
use Rattle.registration.specs.Accounts.{AccountsAreNamed, account_from, account_of, accounts_from, accounts_in}
use Rattle.registration.specs.Accounts.{is_known, unless_fault, with_account, with_digest, with_line, words_of}
use Rattle.registration.specs.Parts.{three_of}

abbrev IsNamed : Account → Type 0
IsNamed account = nick_shape account.name ≡ true

both-named : (xs ys : List Account) → AllByRecursion IsNamed xs → AllByRecursion IsNamed ys
    → AllByRecursion IsNamed (xs ++ ys)
both-named [] ys a b = b
both-named (x ∷ xs) ys a b = (a.0, both-named xs ys a.1 b)

abbrev IfNamed : {E : Type 0} → Result Account E → Type 0
IfNamed (Ok account) = IsNamed account
IfNamed (Err fault) = Unit {0}

abbrev IfAllNamed : {E : Type 0} → Result (List Account) E → Type 0
IfAllNamed (Ok accounts) = AllByRecursion IsNamed accounts
IfAllNamed (Err fault) = Unit {0}

digest-named : (name salt : List ℕ) (digest : Result (List ℕ) FromHexError) → nick_shape name ≡ true
    → IfNamed (with_digest name salt digest)
digest-named name salt (Ok digest) is = is
digest-named name salt (Err fault) is = tt

from-named : (o : Option (List ℕ × List ℕ × List ℕ)) → IfNamed (account_from o)
from-named None = tt
from-named (Some (name, salt, digest)) =
    cond_both (nick_shape name) (with_digest name salt (decode_sized digest 32)) (Err BadName) IfNamed
    (λ is. digest-named name salt (decode_sized digest 32) is) (λ _. tt)

account-named : (accounts : List Account) (read : Result Account AccountFault) → AllByRecursion IsNamed accounts
    → IfNamed read → IfAllNamed (with_account accounts read)
account-named accounts (Err fault) are is = tt
account-named accounts (Ok account) are is =
    cond_both (is_known accounts account.name) (Err Twice) (Ok (accounts ++ account ∷ [])) IfAllNamed (λ _. tt)
    (λ _. both-named accounts (account ∷ []) are (is, tt))

line-named : (accounts : List Account) (line : List ℕ) → AllByRecursion IsNamed accounts
    → IfAllNamed (with_line accounts line)
line-named accounts line are =
    cond_both (is_empty line) (Ok accounts) (with_account accounts (account_of line)) IfAllNamed (λ _. are)
    (λ _. account-named accounts (account_of line) are (from-named (words_of (three_of (parts 32 line)))))

next-named : (number : ℕ) (next : List Account → Result (List Account) (ℕ × AccountFault))
    (read : Result (List Account) AccountFault)
    → ((accounts : List Account) → AllByRecursion IsNamed accounts → IfAllNamed (next accounts)) → IfAllNamed read
    → IfAllNamed (unless_fault number next read)
next-named number next (Ok accounts) f are = f accounts are
next-named number next (Err fault) f are = tt

lines-named : (lines : List (List ℕ)) (number : ℕ) (accounts : List Account) → AllByRecursion IsNamed accounts
    → IfAllNamed (accounts_from lines number accounts)
lines-named [] number accounts are = are
lines-named (line ∷ lines) number accounts are =
    next-named number (accounts_from lines (number + 1)) (with_line accounts line) (lines-named lines (number + 1))
    (line-named accounts line are)

file-named : (file : List ℕ) → IfAllNamed (accounts_in file)
unfolding accounts_in
file-named file = lines-named (parts 10 file) 1 [] tt

pub accounts-named : AccountsAreNamed
accounts-named file accounts read = All-from_recursion IsNamed accounts (subst IfAllNamed read (file-named file))
