-- Of each key the last tag, found from the end.
use Rattle.std.proofs.Common.{◌≡◌, ℕ, ◌<◌, nat_eq, Bool, true, false, cond, not, ◌&&◌, ◌||◌}
use Rattle.std.proofs.Common.{if◌then◌else◌, List, [], ◌∷◌, ◌++◌, map, filter, length, get_or, take}
use Rattle.std.proofs.Common.{reverse, Bor, BTreeSet, refl, arith, sym, ap, ◌∙◌}
use Rattle.std.specs.List.{list_any, starts_with}
use Rattle.std.specs.Str.{bytes_eq}
use Rattle.std.specs.declared.cmp.Ordering.{Ordering}
use Rattle.std.specs.Ordering.{nat_cmp, is_eq}
use Rattle.std.specs.Cmp.{unsigned_ties}
use Rattle.std.specs.Cmp.Lexicographic.{slice_cmp, lists_ties, bytes_decides}
use Rattle.std.specs.BTreeSet.{contains, Updates}
use Rattle.std.proofs.lemmas.List.{take_more, take_all, length_push, map-append, reverse-append, reverse-reverse}
use Rattle.std.proofs.lemmas.Bool.{false≢true}
use Rattle.message_tags.specs.declared.tag.Tag.{Tag}
use Rattle.message_tags.specs.Tags.{has_key}
use Rattle.message_tags.specs.ClientOnly.{is_client_only, is_last, last_of_each, spelling_of, spellings}

-- the client-only tags that count among tags that are given the last first, in this order
abbrev pub last_found : List Tag → List Tag
last_found done = reverse (filter is_client_only (last_of_each (reverse done)))

reversed-one : (counts : Bool) (tag : Tag) (tags : List Tag) → reverse (if counts then tag ∷ tags else tags)
    ≡ (if counts then reverse tags ++ tag ∷ [] else reverse tags)
reversed-one true tag tags = reverse-append (tag ∷ []) tags
reversed-one false tag tags = refl

never : {X : Type 0} (b : Bool) (x y : X) → y ≡ (if b && false then x else y)
never true x y = refl
never false x y = refl

always : {X : Type 0} (b : Bool) (x y : X) → (if b then x else y) ≡ (if b && true then x else y)
always true x y = refl
always false x y = refl

reversed-both : (last : Bool) (tag : Tag) (others : List Tag) →
    reverse (filter is_client_only (if last then tag ∷ others else others))
    ≡ (if is_client_only tag && last then reverse (filter is_client_only others) ++ tag ∷ []
    else reverse (filter is_client_only others))
reversed-both true tag others = reversed-one (is_client_only tag) tag (filter is_client_only others)
    ∙ always (is_client_only tag) _ _
reversed-both false tag others = never (is_client_only tag) _ _

-- one tag more
pub last_found-more : (done : List Tag) (tag : Tag) → last_found (done ++ tag ∷ [])
    ≡ (if is_client_only tag && is_last tag (reverse done) then last_found done ++ tag ∷ [] else last_found done)
last_found-more done tag =
    ap (λ tags. reverse (filter is_client_only (last_of_each tags))) (reverse-append done (tag ∷ []))
    ∙ reversed-both (is_last tag (reverse done)) tag (last_of_each (reverse done))

pub last_found-all : (tags : List Tag) (n : ℕ) → n ≡ length (reverse tags) → last_found (take n (reverse tags))
    ≡ reverse (filter is_client_only (last_of_each tags))
last_found-all tags n all =
    ap last_found (take_all n (reverse tags) (omega arith))
    ∙ ap (λ ts. reverse (filter is_client_only (last_of_each ts))) (reverse-reverse tags)

-- the order of keys
abbrev pub key_cmp : Bor (List ℕ) → Bor (List ℕ) → Ordering
key_cmp x y = slice_cmp nat_cmp x.now y.now

-- the set has the keys of the client-only tags among these
pub record HasKeys (keys : BTreeSet (Bor (List ℕ))) (done : List Tag) : Type 0 where
  pub at : (key : Bor (List ℕ)) → starts_with nat_eq key.now (43 ∷ []) ≡ true
      → contains key_cmp keys key ≡ list_any (has_key key.now) (reverse done)

pub HasKeys-none : (keys : BTreeSet (Bor (List ℕ))) → keys.keys ≡ [] → HasKeys keys []
HasKeys-none keys none = record { at = λ key marked. ap (list_any (λ k. is_eq (key_cmp key k))) none }

bytes_ties : (x y : List ℕ) → bytes_eq x y ≡ is_eq (slice_cmp nat_cmp x y)
bytes_ties x y = lists_ties nat_cmp unsigned_ties x y

-- a tag whose key isn't client-only has no key that is
apart : (b : Bool) (tag : Tag) (key : List ℕ) → bytes_eq tag.key key ≡ b → is_client_only tag ≡ false
    → starts_with nat_eq key (43 ∷ []) ≡ true → b ≡ false
apart true tag key same unmarked marked = absurd (false≢true
    (sym unmarked ∙ ap (λ k. starts_with nat_eq k (43 ∷ [])) ((bytes_decides tag.key key).0 same) ∙ marked))
apart false tag key same unmarked marked = refl

any-more : (key : List ℕ) (done : List Tag) (tag : Tag) → list_any (has_key key) (reverse (done ++ tag ∷ []))
    ≡ (bytes_eq tag.key key || list_any (has_key key) (reverse done))
any-more key done tag = ap (list_any (has_key key)) (reverse-append done (tag ∷ []))

pub HasKeys-unmarked : (keys : BTreeSet (Bor (List ℕ))) (done : List Tag) (tag : Tag) → is_client_only tag ≡ false
    → HasKeys keys done → HasKeys keys (done ++ tag ∷ [])
HasKeys-unmarked keys done tag unmarked has = record {
  at = λ key marked.
      has.at key marked
      ∙ ap (λ b. b || list_any (has_key key.now) (reverse done))
      (sym (apart (bytes_eq tag.key key.now) tag key.now refl unmarked marked))
      ∙ sym (any-more key.now done tag);
}

cond_or : (a b : Bool) → cond a true b ≡ (a || b)
cond_or true b = refl
cond_or false b = refl

pub HasKeys-more : (keys more : BTreeSet (Bor (List ℕ))) (done : List Tag) (tag : Tag) (own : Bor (List ℕ))
    → own.now ≡ tag.key → Updates key_cmp keys more own true → HasKeys keys done → HasKeys more (done ++ tag ∷ [])
HasKeys-more keys more done tag own is updates has = record {
  at = λ key marked.
      updates.0 key
      ∙ ap (λ b. cond (is_eq (slice_cmp nat_cmp own.now key.now)) true b) (has.at key marked)
      ∙ ap (λ k. cond (is_eq (slice_cmp nat_cmp k key.now)) true (list_any (has_key key.now) (reverse done))) is
      ∙ ap (λ b. cond b true (list_any (has_key key.now) (reverse done))) (sym (bytes_ties tag.key key.now))
      ∙ cond_or (bytes_eq tag.key key.now) (list_any (has_key key.now) (reverse done))
      ∙ sym (any-more key.now done tag);
}

-- an own key that the set hasn't is that of no later tag
last-by : (keys : BTreeSet (Bor (List ℕ))) (done : List Tag) (tag : Tag) (own : Bor (List ℕ)) → own.now ≡ tag.key
    → is_client_only tag ≡ true → HasKeys keys done → is_last tag (reverse done) ≡ not (contains key_cmp keys own)
last-by keys done tag own is marked has =
    ap (λ k. not (list_any (has_key k) (reverse done))) (sym is)
    ∙ ap not (sym (has.at own (ap (λ k. starts_with nat_eq k (43 ∷ [])) is ∙ marked)))

both-true : {X : Type 0} (a b : Bool) (x y : X) → a ≡ true → b ≡ true → (if a && b then x else y) ≡ x
both-true true true x y is_a is_b = refl
both-true true false x y is_a is_b = absurd (false≢true is_b)
both-true false b x y is_a is_b = absurd (false≢true is_a)

first-false : {X : Type 0} (a b : Bool) (x y : X) → a ≡ false → (if a && b then x else y) ≡ y
first-false true b x y is_a = absurd (false≢true (sym is_a))
first-false false b x y is_a = refl

second-false : {X : Type 0} (a b : Bool) (x y : X) → b ≡ false → (if a && b then x else y) ≡ y
second-false true true x y is_b = absurd (false≢true (sym is_b))
second-false true false x y is_b = refl
second-false false b x y is_b = refl

-- a tag whose key is new to the set counts
pub last_found-new : (keys : BTreeSet (Bor (List ℕ))) (done : List Tag) (tag : Tag) (own : Bor (List ℕ))
    → own.now ≡ tag.key → is_client_only tag ≡ true → HasKeys keys done → not (contains key_cmp keys own) ≡ true
    → last_found (done ++ tag ∷ []) ≡ last_found done ++ tag ∷ []
last_found-new keys done tag own is marked has new =
    last_found-more done tag ∙ both-true (is_client_only tag) (is_last tag (reverse done)) _ _ marked
    (last-by keys done tag own is marked has ∙ new)

-- another doesn't
pub last_found-old : (keys : BTreeSet (Bor (List ℕ))) (done : List Tag) (tag : Tag) (own : Bor (List ℕ))
    → own.now ≡ tag.key → is_client_only tag ≡ true → HasKeys keys done → not (contains key_cmp keys own) ≡ false
    → last_found (done ++ tag ∷ []) ≡ last_found done
last_found-old keys done tag own is marked has old =
    last_found-more done tag ∙ second-false (is_client_only tag) (is_last tag (reverse done)) _ _
    (last-by keys done tag own is marked has ∙ old)

pub last_found-unmarked : (done : List Tag) (tag : Tag) → is_client_only tag ≡ false
    → last_found (done ++ tag ∷ []) ≡ last_found done
last_found-unmarked done tag unmarked =
    last_found-more done tag ∙ first-false (is_client_only tag) (is_last tag (reverse done)) _ _ unmarked

pub taken-more : (tags : List Tag) (yielded : List (Bor Tag)) (tag : Bor Tag) → length yielded < length tags
    → tag.now ≡ get_or tags (length yielded) tag.now → take (length (yielded ++ tag ∷ [])) tags
    ≡ take (length yielded) tags ++ tag.now ∷ []
taken-more tags yielded tag inside is =
    ap (λ n. take n tags) (length_push yielded tag)
    ∙ take_more tags (length yielded) tag.now inside
    ∙ ap (λ t. take (length yielded) tags ++ t ∷ []) (sym is)

-- the spellings of tags that are left, of which the last comes first
abbrev pub left_spellings : List (Bor Tag) → List (List ℕ)
left_spellings left = map spelling_of (reverse (map (λ tag. tag.now) left))

pub left_spellings-pop : (left others : List (Bor Tag)) (tag : Bor Tag) → left ≡ others ++ tag ∷ []
    → left_spellings left ≡ spelling_of tag.now ∷ left_spellings others
left_spellings-pop left others tag is =
    ap left_spellings is
    ∙ ap (λ tags. map spelling_of (reverse tags)) (map-append (λ t. t.now) others (tag ∷ []))
    ∙ ap (map spelling_of) (reverse-append (map (λ t. t.now) others) (tag.now ∷ []))

pub left_spellings-all : (left : List (Bor Tag)) (tags : List Tag) → map (λ tag. tag.now) left
    ≡ reverse (filter is_client_only (last_of_each tags)) → left_spellings left ≡ spellings tags
left_spellings-all left tags is =
    ap (λ ts. map spelling_of (reverse ts)) is
    ∙ ap (map spelling_of) (reverse-reverse (filter is_client_only (last_of_each tags)))
