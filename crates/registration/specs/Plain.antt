-- The PLAIN mechanism: RFC 4616, section 2, in the standard alphabet of RFC 4648, section 4, with padding. The
-- limits of an exchange are no part of it.
use Rattle.std.specs.Prelude.{◌≡◌, ℕ, true, ◌||◌, ◌&&◌, Bool, cond, List, ◌∷◌, ◌++◌}
use Rattle.std.specs.Prelude.{IfSome, Option, Some, None, Result, Ok, Err}
use Rattle.base64.specs.Engines.{standard}
use Rattle.base64.specs.GeneralPurpose.{IsBytes, decode_of, encode_of}
use Rattle.base64.specs.declared.decode.DecodeError.{DecodeError}
use Rattle.casemapping.specs.Fold.{is_same}
use Rattle.line_grammar.specs.Parts.{is_empty, is_present, parts}
use Rattle.registration.specs.Parts.{three_of}

-- an authorization identity that is given is the user's own name
abbrev pub is_own : List ℕ → List ℕ → Bool
is_own identity user = is_empty identity || is_same identity user

-- who logs in, and with which password
pub record Credentials : Type 0 where
  pub user : List ℕ
  pub password : List ℕ

abbrev pub credentials : List ℕ → List ℕ → Credentials
credentials user password = record { user = user; password = password }

abbrev pub credentials_from : Option (List ℕ × List ℕ × List ℕ) → Option Credentials
credentials_from None = None
credentials_from (Some (identity, user, password)) =
    cond (is_present user && is_present password && is_own identity user) (Some (credentials user password)) None

-- message = [authzid] NUL authcid NUL passwd
abbrev pub credentials_in : Result (List ℕ) DecodeError → Option Credentials
credentials_in (Ok message) = credentials_from (three_of (parts 0 message))
credentials_in (Err fault) = None

-- who logs in by a payload, and with which password
unfoldable pub credentials_of : List ℕ → Option Credentials
credentials_of payload = credentials_in (decode_of standard payload)

-- the octets that tell a user and a password, with the user's own name before them or none
pub record Tells (message : List ℕ) (c : Credentials) : Type 0 where
  pub identity : List ℕ
  pub own : is_own identity c.user ≡ true
  pub whole : message ≡ identity ++ (0 ∷ (c.user ++ (0 ∷ c.password)))

-- a payload is the one spelling of such octets
pub record Spells (payload : List ℕ) (c : Credentials) : Type 0 where
  pub message : List ℕ
  pub tells : Tells message c
  pub spelled : payload ≡ encode_of standard message

-- what a payload tells, it spells
abbrev pub ToldIsSpelled : Type 0
ToldIsSpelled = (payload : List ℕ) → IsBytes payload → IfSome (credentials_of payload) (Spells payload)
