-- The definitions at work, computed: capabilities, lines of an accounts file, payloads of PLAIN, texts of settings,
-- and what commands are answered by while a session registers.
use Rattle.std.proofs.Common.{◌≡◌, ℕ, Bool, true, false, List, [], ◌∷◌, ◌++◌, codes, map}
use Rattle.std.proofs.Common.{Some, None, Result, Ok, Err, refl, ◌&&◌}
use Rattle.std.specs.Prelude.{take, replicate}
use Rattle.std.specs.Cmp.Lexicographic.{slice_cmp}
use Rattle.std.specs.Ordering.{nat_cmp, is_lt}
use Rattle.hex.proofs.OnLiterals.{hex_on_literals}
use Rattle.base64.proofs.OnLiterals.{base64_on_literals}
use Rattle.sha2.specs.Sha256.{compress, digest_bytes, first_words, hash_after, rounds, schedule, sha256}
use Rattle.casemapping.specs.Fold.{fold_of}
use Rattle.casemapping.specs.Names.{nick_shape}
use Rattle.registration.specs.declared.accounts.Account.{Account}
use Rattle.registration.specs.declared.accounts.AccountFault.{AccountFault}
use Rattle.registration.specs.declared.accounts.AccountFault.TheVariants.{Shape, BadName, BadDigest, Twice}
use Rattle.registration.specs.declared.caps.Cap.TheVariants.{Batch, EchoMessage, Sasl}
use Rattle.registration.specs.declared.caps.Caps.{Caps}
use Rattle.registration.specs.declared.enrol.CapAnswer.TheVariants.{Acknowledged, Refused}
use Rattle.registration.specs.declared.enrol.NickAnswer.TheVariants.{Erroneous, InUse, Same, Taken}
use Rattle.registration.specs.declared.enrol.SaslAnswer.{SaslAnswer}
use Rattle.registration.specs.declared.enrol.SaslAnswer.TheVariants.{AlreadyLoggedIn, Failed, Opened, UnknownMechanism}
use Rattle.registration.specs.declared.enrol.SaslAnswer.TheVariants.{Aborted, TooLong, Waits, LoggedIn}
use Rattle.registration.specs.declared.enrol.UserAnswer.TheVariants.{Accepted, AlreadyTold}
use Rattle.registration.specs.Accounts.{accounts_in, logged_in}
use Rattle.registration.specs.Caps.{after_request, all_caps, cap_name, cap_named, list_of, none_on, caps_with}
use Rattle.registration.specs.Enrol.{Enrolment, cap_answer, holds, is_ready, nick_answer, sasl_answer, user_answer}
use Rattle.casemapping.specs.Fold.{is_same}
use Rattle.registration.specs.Plain.{Credentials, credentials_of}
use Rattle.registration.specs.Settings.{is_motd, is_text, is_version}

-- ---- capabilities

abbrev ascending : List (List ℕ) → Bool
ascending [] = true
ascending (a ∷ []) = true
ascending (a ∷ b ∷ more) = is_lt (slice_cmp nat_cmp a b) && ascending (b ∷ more)

names_are_sorted : ascending (map cap_name all_caps) ≡ true
names_are_sorted = refl

names_are_read : (cap_named (codes "echo-message") ≡ Some EchoMessage) × (cap_named (codes "SASL") ≡ None)
    × (cap_named (codes "sasl=PLAIN") ≡ None) × (cap_named [] ≡ None)
names_are_read = (refl, refl, refl, refl)

abbrev batch_and_sasl : Caps
batch_and_sasl = caps_with (caps_with none_on Batch true) Sasl true

requests : (after_request none_on (codes "sasl" ∷ codes "batch" ∷ []) ≡ Some batch_and_sasl)
    × (after_request batch_and_sasl (codes "-sasl" ∷ codes "sasl" ∷ []) ≡ Some batch_and_sasl)
    × (after_request batch_and_sasl (codes "-sasl" ∷ codes "-batch" ∷ []) ≡ Some none_on)
    × (after_request none_on (codes "sasl" ∷ codes "cap-notify" ∷ []) ≡ None)
    × (after_request none_on (codes "-" ∷ []) ≡ None) × (after_request none_on [] ≡ Some none_on)
unfolding after_request
requests = (refl, refl, refl, refl, refl, refl)

those_on : list_of batch_and_sasl ≡ Batch ∷ Sasl ∷ []
those_on = refl

-- ---- accounts

abbrev digest : List ℕ
digest = codes "ba7816bf8f01cfea414140de5dae2223b00361a396177a9cb410ff61f20015ad"

-- a line of an account with this digest
abbrev line_of : List ℕ → List ℕ → List ℕ
line_of name salt = name ++ 32 ∷ (salt ++ 32 ∷ digest)

abbrev faults : List ℕ → ℕ → AccountFault → Type 0
faults file number fault = accounts_in file ≡ Err (number, fault)

shapes : (faults (codes "al a") 1 Shape) × (faults (10 ∷ codes "al  x") 2 Shape)
    × (faults (line_of (codes "al") []) 1 Shape) × (faults (line_of (codes "al") (codes "a") ++ codes " x") 1 Shape)
    × (faults (32 ∷ 10 ∷ []) 1 Shape)
unfolding accounts_in hex_on_literals nick_shape
shapes = (refl, refl, refl, refl, refl)

faults_in_order : (faults (codes "1al a b") 1 BadName) × (faults (codes "al a b") 1 BadDigest)
    × (faults (line_of (codes "al") (codes "a") ++ codes "0") 1 BadDigest)
    × (faults (10 ∷ (line_of (codes "al") (codes "a") ++ 10 ∷ line_of (codes "AL") (codes "b"))) 3 Twice)
    × (faults (line_of (codes "al") (codes "a") ++ 10 ∷ codes "AL b c") 2 BadDigest)
unfolding accounts_in hex_on_literals nick_shape is_same fold_of
faults_in_order = (refl, refl, refl, refl, refl)

-- the first octets of an account's digest, with its name and salt
abbrev beginnings : List Account → List (List ℕ × List ℕ × List ℕ)
beginnings accounts = map (λ a. (a.name, a.salt, take 2 a.digest)) accounts

abbrev read_as : Result (List Account) (ℕ × AccountFault) → List (List ℕ × List ℕ × List ℕ) → Type 0
read_as (Ok accounts) wanted = beginnings accounts ≡ wanted
read_as (Err fault) wanted = ⊥

abbrev begins : List ℕ → List (List ℕ × List ℕ × List ℕ) → Type 0
begins file wanted = read_as (accounts_in file) wanted

files : (begins [] []) × (begins (10 ∷ 10 ∷ []) [])
    × (begins (line_of (codes "al") (codes "a") ++ 10 ∷ (line_of (codes "Bo") (codes "b") ++ 10 ∷ []))
    ((codes "al", codes "a", 186 ∷ 120 ∷ []) ∷ (codes "Bo", codes "b", 186 ∷ 120 ∷ []) ∷ []))
unfolding accounts_in hex_on_literals nick_shape is_same fold_of
files = (refl, refl, refl)

-- ---- PLAIN

abbrev al_and_bc : Credentials
al_and_bc = record { user = codes "al"; password = codes "bc" }

-- with no authorization identity, with `AL`, and with `bo`
identities : (credentials_of (codes "AGFsAGJj") ≡ Some al_and_bc)
    × (credentials_of (codes "QUwAYWwAYmM=") ≡ Some al_and_bc) × (credentials_of (codes "Ym8AYWwAYmM=") ≡ None)
unfolding credentials_of base64_on_literals is_same fold_of
identities = (refl, refl, refl)

-- no NUL, one, three; no user; no password
parts_of_messages : (credentials_of [] ≡ None) × (credentials_of (codes "YWwAYmM=") ≡ None)
    × (credentials_of (codes "AGFsAGJjAA==") ≡ None) × (credentials_of (codes "AABiYw==") ≡ None)
    × (credentials_of (codes "AGFsAA==") ≡ None)
unfolding credentials_of base64_on_literals is_same fold_of
parts_of_messages = (refl, refl, refl, refl, refl)

-- padding left out, bits left over that aren't zero, another alphabet, a space
spellings : (credentials_of (codes "QUwAYWwAYmM") ≡ None) × (credentials_of (codes "QUwAYWwAYmN=") ≡ None)
    × (credentials_of (codes "AGFsAGJ_") ≡ None) × (credentials_of (codes "AGFsAGJj ") ≡ None)
unfolding credentials_of base64_on_literals is_same fold_of
spellings = (refl, refl, refl, refl)

-- ---- settings

versions : (is_version (codes "halld-1") ≡ true) × (is_version [] ≡ false) × (is_version (codes "halld 1") ≡ false)
    × (is_version (codes ":1") ≡ false) × (is_version (codes "a:1") ≡ true)
    × (is_version (codes "0123456789012345678901234567890") ≡ false)
versions = (refl, refl, refl, refl, refl, refl)

texts : (is_text 100 [] ≡ true) × (is_text 5 (codes "halld") ≡ true) × (is_text 4 (codes "halld") ≡ false)
    × (is_text 100 (13 ∷ []) ≡ false) × (is_motd None ≡ true) × (is_motd (Some []) ≡ true)
    × (is_motd (Some (codes "hello" ∷ [] ∷ [])) ≡ true) × (is_motd (Some (codes "hello" ∷ (10 ∷ []) ∷ [])) ≡ false)
texts = (refl, refl, refl, refl, refl, refl, refl, refl)

-- ---- while a session registers

abbrev stranger : Enrolment
stranger = record {
  nick = None;
  user = None;
  hold = false;
  caps = none_on;
  exchange = None;
  account = None;
  registered = false;
}

abbrev al : Enrolment
al = record stranger { nick = Some (codes "al"); user = Some (codes "u") }

nicks : (nick_answer stranger (codes "al") false ≡ Taken) × (nick_answer stranger (codes "1al") true ≡ Erroneous)
    × (nick_answer al (codes "bo") true ≡ InUse) × (nick_answer al (codes "al") false ≡ Same)
    × (nick_answer al (codes "AL") false ≡ Taken)
unfolding nick_answer nick_shape
nicks = (refl, refl, refl, refl, refl)

users : (user_answer stranger ≡ Accepted) × (user_answer al ≡ AlreadyTold)
users = (refl, refl)

caps_asked : (cap_answer al (codes "sasl" ∷ codes "batch" ∷ []) ≡ Acknowledged batch_and_sasl)
    × (cap_answer al (codes "sasl" ∷ codes "cap-notify" ∷ []) ≡ Refused)
unfolding after_request
caps_asked = (refl, refl)

completed : (is_ready al ≡ true) × (is_ready stranger ≡ false) × (is_ready (record al { hold = true }) ≡ false)
    × (is_ready (record al { registered = true }) ≡ false) × (holds al ≡ true)
    × (holds (record al { registered = true }) ≡ false)
completed = (refl, refl, refl, refl, refl, refl)

-- what a piece is answered by where there is no account
abbrev answer_to : Enrolment → List ℕ → SaslAnswer
answer_to e piece = sasl_answer [] e piece

abbrev asks : Enrolment
asks = record al { caps = batch_and_sasl }

-- so much was sent of an exchange that is open
abbrev sent : ℕ → Enrolment
sent count = record asks { exchange = Some (replicate count 65) }

begun : (answer_to al (codes "PLAIN") ≡ Failed) × (answer_to asks (codes "PLAIN") ≡ Opened)
    × (answer_to asks (codes "plain") ≡ Opened) × (answer_to asks (codes "EXTERNAL") ≡ UnknownMechanism)
    × (answer_to asks (codes "*") ≡ UnknownMechanism)
    × (answer_to (record asks { account = Some (codes "al") }) (codes "PLAIN") ≡ AlreadyLoggedIn)
unfolding sasl_answer is_same fold_of
begun = (refl, refl, refl, refl, refl, refl)

pieces : (answer_to (sent 4) (codes "*") ≡ Aborted) × (answer_to (sent 0) (replicate 401 65) ≡ TooLong)
    × (answer_to (sent 400) (replicate 400 65) ≡ Waits (replicate 800 65))
    × (answer_to (sent 1200) (65 ∷ []) ≡ TooLong)
unfolding sasl_answer
pieces = (refl, refl, refl, refl)

-- `+` and no octet end an exchange
ends : (answer_to (sent 0) (codes "+") ≡ Failed) × (answer_to (sent 0) [] ≡ Failed)
    × (answer_to (sent 0) (codes "AGFsAGJj") ≡ Failed)
unfolding sasl_answer credentials_of base64_on_literals is_same fold_of logged_in
ends = (refl, refl, refl)

-- SHA-256 of `a` before `bc`
abbrev accounts : List Account
accounts = record { name = codes "Al"; salt = codes "a"; digest = sha256 (codes "abc") } ∷ []

logs_in : (sasl_answer accounts (sent 0) (codes "AGFsAGJj") ≡ LoggedIn (codes "Al"))
    × (sasl_answer accounts (sent 0) (codes "AGFsAGJk") ≡ Failed)
    × (sasl_answer accounts (sent 0) (codes "AGJvAGJj") ≡ Failed)
unfolding sasl_answer credentials_of base64_on_literals is_same fold_of logged_in first_words schedule rounds
    compress hash_after digest_bytes sha256
logs_in = (refl, refl, refl)
