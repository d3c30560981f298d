-- Names are words by their shapes.
use Rattle.std.proofs.Common.{◌≡◌, ◌≢◌, ℕ, ◌≤◌, Bool, true, ◌||◌, eqb, List, [], ◌∷◌, length, refl, sym}
use Rattle.std.proofs.Common.{subst, inl, inr, arith}
use Rattle.std.proofs.Common.{◌++◌, ◌∙◌, append_assoc, codes, length-append}
use Rattle.std.specs.List.{list_all}
use Rattle.std.proofs.lemmas.List.Folds.{list_all-append}
use Rattle.std.proofs.lemmas.Bool.{and_from, and_parts, eqb-true, leb-true, ne_eqb, not-true, not_from_false}
use Rattle.std.proofs.lemmas.Bool.{or_cases, or_parts}
use Rattle.casemapping.specs.Names.{channel_octet, channel_shape, host_octet, host_shape, is_digit, is_letter}
use Rattle.casemapping.specs.Names.{is_special}
use Rattle.casemapping.specs.Names.{lies_between, nick_octet, nick_shape, nick_start}
use Rattle.line_grammar.specs.Spelling.{is_word_octet}
use Rattle.answer_octets.specs.Clean.{IsWordOf}
use Rattle.answer_octets.specs.Laws.{ChannelsAreWords, HostsAreWords, NicksAreWords, PrefixIsWord, SettingsNameAServer}

high-word : (b : ℕ) → 45 ≤ b → is_word_octet b ≡ true
high-word b high =
    let s : b ≢ 32 = omega arith in let n : b ≢ 0 = omega arith in
    let r : b ≢ 13 = omega arith in let l : b ≢ 10 = omega arith in
    rw (ne_eqb b 32 s, ne_eqb b 0 n, ne_eqb b 13 r, ne_eqb b 10 l) refl

between-high : (low high b : ℕ) → 45 ≤ low → lies_between low high b ≡ true → 45 ≤ b
between-high low high b from is = let p = leb-true low b (and_parts _ _ is).0 in omega (arith, p, from)

equal-high : (b c : ℕ) → 45 ≤ c → eqb b c ≡ true → 45 ≤ b
equal-high b c from is = let e = eqb-true b c is in omega (arith, e, from)

either-high : (x y : Bool) (b : ℕ) → (x ≡ true → 45 ≤ b) → (y ≡ true → 45 ≤ b) → (x || y) ≡ true → 45 ≤ b
either-high x y b f g is = elim (or_cases x y is) [ inl a ↦ f a | inr c ↦ g c ]

letter-high : (b : ℕ) → is_letter b ≡ true → 45 ≤ b
letter-high b is =
    either-high (lies_between 65 90 b) (lies_between 97 122 b) b (between-high 65 90 b (omega arith))
    (between-high 97 122 b (omega arith)) is

special-high : (b : ℕ) → is_special b ≡ true → 45 ≤ b
special-high b is =
    either-high (lies_between 91 96 b) (lies_between 123 125 b) b (between-high 91 96 b (omega arith))
    (between-high 123 125 b (omega arith)) is

digit-high : (b : ℕ) → is_digit b ≡ true → 45 ≤ b
digit-high b is = between-high 48 57 b (omega arith) is

start-high : (b : ℕ) → nick_start b ≡ true → 45 ≤ b
start-high b is = either-high (is_letter b) (is_special b) b (letter-high b) (special-high b) is

nick-high : (b : ℕ) → nick_octet b ≡ true → 45 ≤ b
nick-high b is =
    either-high (nick_start b || is_digit b) (eqb b 45) b
    (λ more. either-high (nick_start b) (is_digit b) b (start-high b) (digit-high b) more)
    (equal-high b 45 (omega arith)) is

host-high : (b : ℕ) → host_octet b ≡ true → 45 ≤ b
host-high b is =
    either-high ((is_letter b || is_digit b || eqb b 46) || eqb b 45) (eqb b 58) b
    (λ more. either-high (is_letter b || is_digit b || eqb b 46) (eqb b 45) b
    (λ dots. either-high (is_letter b || is_digit b) (eqb b 46) b
    (λ words. either-high (is_letter b) (is_digit b) b (letter-high b) (digit-high b) words)
    (equal-high b 46 (omega arith)) dots) (equal-high b 45 (omega arith)) more) (equal-high b 58 (omega arith)) is

all-words : (p : ℕ → Bool) → ((b : ℕ) → p b ≡ true → is_word_octet b ≡ true) → (bs : List ℕ)
    → list_all p bs ≡ true → list_all is_word_octet bs ≡ true
all-words p f [] are = refl
all-words p f (b ∷ bs) are = let parts = and_parts _ _ are in and_from _ _ (f b parts.0) (all-words p f bs parts.1)

channel-word : (b : ℕ) → channel_octet b ≡ true → is_word_octet b ≡ true
channel-word b is =
    let nul = eqb b 0 in let bel = eqb b 7 in let cr = eqb b 13 in let lf = eqb b 10 in let space = eqb b 32 in
    let no_comma = or_parts (nul || bel || cr || lf || space) (eqb b 44) (not-true _ is) in
    let no_space = or_parts (nul || bel || cr || lf) space no_comma.0 in
    let no_lf = or_parts (nul || bel || cr) lf no_space.0 in
    let no_cr = or_parts (nul || bel) cr no_lf.0 in
    let no_nul = or_parts nul bel no_cr.0 in
    and_from _ _ (not_from_false _ no_space.1) (and_from _ _ (not_from_false _ no_nul.0)
    (and_from _ _ (not_from_false _ no_cr.1) (not_from_false _ no_lf.1)))

pub nicks-words : NicksAreWords
unfolding nick_shape
nicks-words [] is = absurd (cc)
nicks-words (b ∷ bs) is =
    let rest = and_parts _ _ is in let front = and_parts _ _ rest.0 in
    record {
      word = and_from _ _ (high-word b (start-high b front.1)) (all-words nick_octet
          (λ c o. high-word c (nick-high c o)) bs rest.1);
      short = leb-true (length (b ∷ bs)) 30 front.0;
    }

pub hosts-words : HostsAreWords
unfolding host_shape
hosts-words [] is = absurd (cc)
hosts-words (b ∷ bs) is =
    let rest = and_parts _ _ is in let front = and_parts _ _ rest.0 in
    record {
      word = all-words host_octet (λ c o. high-word c (host-high c o)) (b ∷ bs) rest.1;
      short = leb-true (length (b ∷ bs)) 63 front.0;
    }

first-word : (b : ℕ) → (eqb b 35 || eqb b 38) ≡ true → is_word_octet b ≡ true
first-word b is =
    elim (or_cases (eqb b 35) (eqb b 38) is) [
      | inl hash ↦ subst (λ x. is_word_octet x ≡ true) (sym (eqb-true b 35 hash)) refl
      | inr amp ↦ subst (λ x. is_word_octet x ≡ true) (sym (eqb-true b 38 amp)) refl
    ]

pub channels-words : ChannelsAreWords
unfolding channel_shape
channels-words [] is = absurd (cc)
channels-words (b ∷ bs) is =
    let rest = and_parts _ _ is in let front = and_parts _ _ rest.0 in
    record {
      word = and_from _ _ (first-word b front.1) (all-words channel_octet channel-word bs rest.1);
      short = leb-true (length (b ∷ bs)) 50 front.0;
    }

pub settings-server : SettingsNameAServer
settings-server g set =
    let host = hosts-words g.server set.server in
    record { word = host.word; short = let few = host.short in omega arith }

words-both : (xs ys : List ℕ) → list_all is_word_octet xs ≡ true → list_all is_word_octet ys ≡ true
    → list_all is_word_octet (xs ++ ys) ≡ true
words-both xs ys a b = list_all-append is_word_octet xs ys ∙ and_from _ _ a b

pub prefix-word : PrefixIsWord
prefix-word nick user host n u h =
    let tail : List ℕ = 64 ∷ host in
    let rest : List ℕ = 33 ∷ (user ++ tail) in
    let is : nick ++ codes "!" ++ user ++ codes "@" ++ host ≡ nick ++ rest = simp append_assoc in
    let words : list_all is_word_octet (nick ++ rest) ≡ true = words-both nick rest n.word
    (and_from _ _ refl (words-both user tail u.word (and_from _ _ refl h.word))) in
    subst (IsWordOf 111) (sym is) (record {
      word = words;
      short = omega (arith, n.short, u.short, h.short, length-append nick rest, length-append user tail);
    })
