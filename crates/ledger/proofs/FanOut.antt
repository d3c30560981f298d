-- What hearers hear, by the numbers of their sessions, and the deliveries that are made of it.
use Rattle.std.proofs.lemmas.Bool.Decides.{eqb_tells, nat_tests}
use Rattle.std.proofs.Common.{◌≡◌, ◌≢◌, inl, inr, ℕ, ℤ, zero, suc, ◌+◌, ◌-◌, ◌<◌, ◌≤◌, Bool, true, false, not}
use Rattle.std.proofs.Common.{◌&&◌, ◌==◌, cond, List, [], ◌∷◌, ◌++◌, filter, map, length, take, drop, get_or}
use Rattle.std.proofs.Common.{slice_index_or, slice_get, Option, Some, None, nat_lt, nat_le}
use Rattle.std.proofs.Common.{lit<, arith, refl, sym, ap, ◌∙◌}
use Rattle.std.proofs.Common.{subst, append_assoc, append-nil, eq-eqb, ne_eqb}
use Rattle.std.specs.List.{flat_map}
use Rattle.std.specs.List.Sorted.{ties, IsSortedBy, IsStableBy}
use Rattle.std.specs.Ordering.{nat_cmp, is_lt}
use Rattle.std.specs.Option.{option_map, option_map_or}
use Rattle.std.proofs.lemmas.Option.{slice_get-get_or, slice_get-map}
use Rattle.std.proofs.lemmas.List.{take_more, drop_more, drop-drop, map-append, length-append, length-drop, get_or_at}
use Rattle.std.proofs.lemmas.List.{get_or-drop, get_or_default, flat_map_more}
use Rattle.std.proofs.Math.Bool.{beq}
use Rattle.std.specs.Cmp.Lexicographic.{pointwise}
use Rattle.registration.specs.declared.caps.Caps.{Caps}
use Rattle.std.proofs.lemmas.List.Elements.{filter_agree}
use Rattle.numerics.specs.declared.outgoing.Out.{Out}
use Rattle.deliveries.specs.declared.delivery.Delivery.{Delivery}
use Rattle.roster.specs.declared.deed.Deed.{Deed}
use Rattle.roster.specs.LookBack.{caps}
use Rattle.labels_batches.specs.Answers.{tagged_as}
use Rattle.labels_batches.specs.Rendered.{text_as}
use Rattle.labels_batches.specs.Spellings.{Spelled, spelled_for}
use Rattle.transactions.specs.Effects.{lines_heard}
use Rattle.transactions.specs.declared.verdict.ShownLine.{ShownLine}
use Rattle.ledger.specs.declared.fan_out.Heard.{Heard}
use Rattle.ledger.specs.declared.fan_out.Hearing.{Hearing}
use Rattle.ledger.specs.declared.plan.Planned.{Planned}
use Rattle.ledger.specs.declared.seat.Seat.{Seat}
use Rattle.ledger.specs.Ledger.{puts, others}
use Rattle.ledger.proofs.Begins.{others_same}
use Rattle.ledger.specs.Seats.{seat_at, hears, unless_shut, told_here, told_to, heard_text}
use Rattle.ledger.specs.FanOut.{heard_by, all_heard, hearing_of, hearings, spelled_at, text_of, heard_of, text_for}
use Rattle.ledger.specs.FanOut.{rises, joined_to, one_each, delivery_of, deliveries_of}

-- ---- the texts of one session

text_first : (x : Heard) (xs : List Heard) (t : ℕ) → text_for (x ∷ xs) t
    ≡ cond (x.session == t) x.text [] ++ text_for xs t
text_first x xs t = elim (x.session == t) as (λ b. flat_map (λ (y : Heard). y.text)
    (cond b (x ∷ filter (λ (y : Heard). y.session == t) xs) (filter (λ (y : Heard). y.session == t) xs))
    ≡ cond b x.text [] ++ text_for xs t) [ true ↦ refl | false ↦ refl ]

text_here : (x : Heard) (xs : List Heard) (t : ℕ) → x.session ≡ t → text_for (x ∷ xs) t ≡ x.text ++ text_for xs t
text_here x xs t e = text_first x xs t ∙ ap (λ b. cond b x.text [] ++ text_for xs t) (eq-eqb x.session t e)

text_there : (x : Heard) (xs : List Heard) (t : ℕ) → x.session ≢ t → text_for (x ∷ xs) t ≡ text_for xs t
text_there x xs t ne = text_first x xs t ∙ ap (λ b. cond b x.text [] ++ text_for xs t) (ne_eqb x.session t ne)

text_append : (xs ys : List Heard) (t : ℕ) → text_for (xs ++ ys) t ≡ text_for xs t ++ text_for ys t
text_append [] ys t = refl
text_append (x ∷ xs) ys t = text_first x (xs ++ ys) t ∙ ap (λ bs. cond (x.session == t) x.text [] ++ bs)
    (text_append xs ys t) ∙ sym (append_assoc (cond (x.session == t) x.text []) (text_for xs t) (text_for ys t))
    ∙ ap (λ bs. bs ++ text_for ys t) (sym (text_first x xs t))

-- ---- what is heard of lines

-- one hearer more
pub heard_more : {X : Type 0} (f : ℕ → X) (hs : List ℕ) (k h : ℕ) → k < length hs → h ≡ get_or hs k h
    → map f (take (k + 1) hs) ≡ map f (take k hs) ++ f h ∷ []
heard_more f hs k h l is = ap (map f) (take_more hs k h l ∙ ap (λ (y : ℕ). take k hs ++ y ∷ []) (sym is))
    ∙ map-append f (take k hs) (h ∷ [])

pub heard_each : (fs : List Deed) (moment : ℤ) (line : Out) (hs : List ℕ) (t : ℕ) → text_for
    (map (heard_by fs moment line) hs) t ≡ text_as (caps fs t) moment (map (tagged_as None) (lines_heard hs line t))
heard_each fs moment line [] t = refl
heard_each fs moment line (h ∷ hs) t =
    let rest = heard_each fs moment line hs t in
    elim (eqb_tells h t) [
      | inl same ↦ rw same.0 (ap (λ (u : ℕ). spelled_for (caps fs u) moment line ++ text_for
          (map (heard_by fs moment line) hs) t) same.1 ∙ ap (λ bs. spelled_for (caps fs t) moment line ++ bs) rest)
      | inr other ↦ rw other.0 rest
    ]

pub heard_all : (fs : List Deed) (moment : ℤ) (xs : List ShownLine) (t : ℕ) → text_for (all_heard fs moment xs) t
    ≡ heard_text fs moment xs t
heard_all fs moment [] t = refl
heard_all fs moment (x ∷ xs) t =
    text_append (map (heard_by fs moment x.line) x.hearers) (all_heard fs moment xs) t ∙ ap
    (λ bs. text_for (map (heard_by fs moment x.line) x.hearers) t ++ bs) (heard_all fs moment xs t)
    ∙ ap (λ bs. bs ++ heard_text fs moment xs t) (heard_each fs moment x.line x.hearers t)

-- each hears a line as it takes it
heard_line : (fs : List Deed) (ls : List Spelled) (n : ℕ) (moment : ℤ) (line : Out) (hs : List ℕ)
    → slice_get ls n ≡ Some (record { line = line; moment = moment })
    → map (heard_of ls) (map (hearing_of fs n) hs) ≡ map (heard_by fs moment line) hs
heard_line fs ls n moment line [] is = refl
heard_line fs ls n moment line (h ∷ hs) is =
    let one : heard_of ls (hearing_of fs n h) ≡ heard_by fs moment line h = ap (λ (o : Option Spelled). record {
      session = h;
      text = option_map_or (λ (l : Spelled). spelled_for (caps fs h) l.moment l.line) o [];
    }) is in
    ap (λ (x : Heard). x ∷ map (heard_of ls) (map (hearing_of fs n) hs)) one
    ∙ ap (λ (xs : List Heard). heard_by fs moment line h ∷ xs) (heard_line fs ls n moment line hs is)

-- and so all lines that stand behind some
heard_lines : (fs : List Deed) (moment : ℤ) (before xs : List ShownLine)
    → map (heard_of (map (spelled_at moment) (before ++ xs))) (hearings fs (length before) xs)
    ≡ all_heard fs moment xs
heard_lines fs moment before [] = refl
heard_lines fs moment before (x ∷ xs) =
    let n = length before in let all = before ++ x ∷ xs in let ls = map (spelled_at moment) all in
    let there : n < length all = omega (arith, length-append before (x ∷ xs)) in
    let here : slice_get ls n ≡ Some (spelled_at moment x) = slice_get-map (spelled_at moment) all n
    ∙ ap (option_map (spelled_at moment)) (slice_get-get_or all n x there
    ∙ ap (λ y. Some y) (get_or_at before x xs x n refl)) in
    let on : length (before ++ x ∷ []) ≡ n + 1 = length-append before (x ∷ []) in
    let rest : map (heard_of ls) (hearings fs (n + 1) xs) ≡ all_heard fs moment xs =
    ap (λ (k : ℕ). map (heard_of ls) (hearings fs k xs)) (sym on)
    ∙ ap (λ (ys : List ShownLine). map (heard_of (map (spelled_at moment) ys))
    (hearings fs (length (before ++ x ∷ [])) xs))
    (sym (append_assoc before (x ∷ []) xs))
    ∙ heard_lines fs moment (before ++ x ∷ []) xs in
    map-append (heard_of ls) (map (hearing_of fs n) x.hearers) (hearings fs (n + 1) xs)
    ∙ ap (λ (ys : List Heard). ys ++ map (heard_of ls) (hearings fs (n + 1) xs))
    (heard_line fs ls n moment x.line x.hearers here)
    ∙ ap (λ (ys : List Heard). map (heard_by fs moment x.line) x.hearers ++ ys) rest

pub heard_hearings : (fs : List Deed) (moment : ℤ) (xs : List ShownLine) (t : ℕ)
    → text_for (map (heard_of (map (spelled_at moment) xs)) (hearings fs 0 xs)) t ≡ heard_text fs moment xs t
heard_hearings fs moment xs t = ap (λ (ys : List Heard). text_for ys t) (heard_lines fs moment [] xs)
    ∙ heard_all fs moment xs t

-- who hears lines, one more
pub hearings_more : (fs : List Deed) (xs : List ShownLine) (k : ℕ) (x : ShownLine) → k < length xs → x ≡ get_or xs k x
    → hearings fs k (drop k xs) ≡ map (hearing_of fs k) x.hearers ++ hearings fs (k + 1) (drop (k + 1) xs)
hearings_more fs xs k x there is = ap (hearings fs k) (drop_more xs k x there
    ∙ ap (λ (y : ShownLine). y ∷ drop (k + 1) xs) (sym is))

-- capabilities that are alike are the same
same_flags : (xs ys : List Bool) → pointwise beq xs ys ≡ true → xs ≡ ys
same_flags [] [] e = refl
same_flags [] (y ∷ ys) e = absurd (let f : false ≡ true = e in cc)
same_flags (x ∷ xs) [] e = absurd (let f : false ≡ true = e in cc)
same_flags (true ∷ xs) (true ∷ ys) e = ap (λ (zs : List Bool). true ∷ zs) (same_flags xs ys e)
same_flags (false ∷ xs) (false ∷ ys) e = ap (λ (zs : List Bool). false ∷ zs) (same_flags xs ys e)
same_flags (true ∷ xs) (false ∷ ys) e = absurd (let f : false ≡ true = e in cc)
same_flags (false ∷ xs) (true ∷ ys) e = absurd (let f : false ≡ true = e in cc)

pub same_caps : (x y : Caps) → not (pointwise beq x.on y.on) ≡ false → x ≡ y
same_caps x y e = ap (λ (flags : List Bool). record { on = flags })
    (same_flags x.on y.on (true_from (pointwise beq x.on y.on) e))
  where
    true_from : (b : Bool) → not b ≡ false → b ≡ true
    true_from true e = refl
    true_from false e = absurd (let f : true ≡ false = e in cc)

-- who hears the same line by the same capabilities hears the same text
pub alike_more : (ls : List Spelled) (xs ys : List Hearing) (k : ℕ) (x y : Hearing) → k < length xs → k < length ys
    → x ≡ get_or xs k x → y ≡ get_or ys k y → x.line ≡ y.line → x.caps ≡ y.caps
    → flat_map (text_of ls) (take k xs) ≡ flat_map (text_of ls) (take k ys)
    → flat_map (text_of ls) (take (k + 1) xs) ≡ flat_map (text_of ls) (take (k + 1) ys)
alike_more ls xs ys k x y a b at_x at_y line caps same =
    one xs x a at_x ∙ ap (λ bs. bs ++ text_of ls x) same
    ∙ ap (λ bs. flat_map (text_of ls) (take k ys) ++ bs) text ∙ sym (one ys y b at_y)
  where
    one : (zs : List Hearing) (z : Hearing) → k < length zs → z ≡ get_or zs k z
        → flat_map (text_of ls) (take (k + 1) zs) ≡ flat_map (text_of ls) (take k zs) ++ text_of ls z
    one zs z l is = ap (flat_map (text_of ls))
        (take_more zs k z l ∙ ap (λ (h : Hearing). take k zs ++ h ∷ []) (sym is))
        ∙ sym (flat_map_more (text_of ls) [] (take k zs) z)

    text : text_of ls x ≡ text_of ls y
    text = ap (λ (i : ℕ). option_map_or (λ (l : Spelled). spelled_for x.caps l.moment l.line) (slice_get ls i) []) line
        ∙ ap (λ (cs : Caps). option_map_or (λ (l : Spelled). spelled_for cs l.moment l.line) (slice_get ls y.line) [])
        caps

-- ---- a stable sort by session

abbrev goes_before : Hearing → Hearing → Bool
goes_before x y = is_lt (nat_cmp x.session y.session)

pub session_ties : (a b : ℕ) → (not (is_lt (nat_cmp a b)) && not (is_lt (nat_cmp b a))) ≡ (b == a)
session_ties a b = grind (arith, nat_tests)

-- what one session hears
text_mapped : (ls : List Spelled) (xs : List Hearing) (t : ℕ) → text_for (map (heard_of ls) xs) t
    ≡ flat_map (text_of ls) (filter (λ (x : Hearing). x.session == t) xs)
text_mapped ls [] t = refl
text_mapped ls (x ∷ xs) t =
    let rest : List Hearing = filter (λ (y : Hearing). y.session == t) xs in
    text_first (heard_of ls x) (map (heard_of ls) xs) t
    ∙ ap (λ bs. cond (x.session == t) (text_of ls x) [] ++ bs) (text_mapped ls xs t)
    ∙ elim (x.session == t) as (λ b. cond b (text_of ls x) [] ++ flat_map (text_of ls) rest
    ≡ flat_map (text_of ls) (cond b (x ∷ rest) rest)) [ true ↦ refl | false ↦ refl ]

-- it leaves the texts of each session as they were
pub texts_stable : (ls : List Spelled) (xs ys : List Hearing) → IsStableBy goes_before xs ys → (t : ℕ)
    → text_for (map (heard_of ls) ys) t ≡ text_for (map (heard_of ls) xs) t
texts_stable ls xs ys stable t =
    text_mapped ls ys t
    ∙ ap (flat_map (text_of ls)) (test ys ∙ stable (hearing_of [] 0 t) ∙ sym (test xs))
    ∙ sym (text_mapped ls xs t)
  where
    test : (zs : List Hearing) → filter (λ (x : Hearing). x.session == t) zs
        ≡ filter (ties goes_before (hearing_of [] 0 t)) zs
    test zs = filter_agree _ _ (λ x. sym (session_ties t x.session)) zs

not_before : (a b : ℕ) → is_lt (nat_cmp b a) ≡ false → a ≤ b
not_before a b e = grind (arith, nat_tests)

rises_on : (ls : List Spelled) (x : Hearing) (xs : List Hearing) → IsSortedBy goes_before (x ∷ xs)
    → rises x.session (map (heard_of ls) xs)
rises_on ls x [] up = tt
rises_on ls x (y ∷ ys) up = (
  not_before x.session y.session (up 0 x (omega arith) (omega arith)),
  rises_on ls y ys (λ k d a b. let e : suc k + 1 ≡ suc (k + 1) = omega arith in subst
      (λ (j : ℕ). goes_before (slice_index_or (x ∷ y ∷ ys) j d) (slice_index_or (x ∷ y ∷ ys) (suc k) d) ≡ false) e
      (up (suc k) d (omega arith) (omega arith))),
)

-- and they stand by the numbers of their sessions
pub sorted_rises : (ls : List Spelled) (xs : List Hearing) → IsSortedBy goes_before xs
    → rises 0 (map (heard_of ls) xs)
sorted_rises ls [] up = tt
sorted_rises ls (x ∷ xs) up = ((omega arith), rises_on ls x xs up)

-- ---- texts that are made one

joined_text : (x : Heard) (xs : List Heard) (t : ℕ) → text_for (joined_to x xs) t ≡ text_for (x ∷ xs) t
joined_text x [] t = refl
joined_text x (y ∷ ys) t =
    let one : Heard = record { session = x.session; text = x.text ++ y.text } in
    elim (eqb_tells y.session x.session) [
      | inl same ↦ rw same.0 (joined_text one ys t ∙ text_first one ys t ∙ elim (eqb_tells x.session t) [
        | inl here ↦ let also : y.session ≡ t = same.1 ∙ here.1 in rw here.0
            (append_assoc x.text y.text (text_for ys t) ∙ sym (ap (λ bs. x.text ++ bs) (text_here y ys t also)))
        | inr other ↦ let also : y.session ≢ t = λ e. other.1 (sym same.1 ∙ e) in
            rw other.0 (sym (text_there y ys t also))
      ])
      | inr apart ↦ rw apart.0 (text_first x (joined_to y ys) t ∙ ap
          (λ bs. cond (x.session == t) x.text [] ++ bs) (joined_text y ys t) ∙ sym (text_first x (y ∷ ys) t))
    ]

-- what one session hears is made one
joined_run : (ls : List Spelled) (x : Heard) (n : ℕ) (ys : List Hearing) → n ≤ length ys
    → ((d : Hearing) (i : ℕ) → i < n → (slice_index_or ys i d).session ≡ x.session)
    → ((d : Hearing) → n < length ys → (slice_index_or ys n d).session ≢ x.session)
    → joined_to x (map (heard_of ls) ys)
    ≡ record { session = x.session; text = x.text ++ flat_map (text_of ls) (take n ys) }
    ∷ one_each (map (heard_of ls) (drop n ys))
joined_run ls x zero [] within same apart = ap (λ (bs : List ℕ). record { session = x.session; text = bs } ∷ [])
    (sym (append-nil x.text))
joined_run ls x zero (y ∷ ys) within same apart =
    rw (ne_eqb y.session x.session (apart y (omega arith)))
    (ap (λ (bs : List ℕ). record { session = x.session; text = bs } ∷ joined_to (heard_of ls y) (map (heard_of ls) ys))
    (sym (append-nil x.text)))
joined_run ls x (suc n) [] within same apart = absurd (omega arith)
joined_run ls x (suc n) (y ∷ ys) within same apart =
    rw (eq-eqb y.session x.session (same y 0 (omega arith)))
    (joined_run ls (record { session = x.session; text = x.text ++ text_of ls y }) n ys (omega arith)
    (λ d i l. same d (suc i) (omega arith)) (λ d l. apart d (omega arith))
    ∙ ap (λ (bs : List ℕ). record { session = x.session; text = bs } ∷ one_each (map (heard_of ls) (drop n ys)))
    (append_assoc x.text (text_of ls y) (flat_map (text_of ls) (take n ys))))

-- and so what the session at a place hears
pub joined_from : (ls : List Spelled) (xs : List Hearing) (from end : ℕ) (h : Hearing) → from < length xs
    → from < end → end ≤ length xs → h ≡ get_or xs from h
    → ((d : Hearing) (i : ℕ) → from ≤ i → i < end
    → (slice_index_or xs i d).session ≡ (slice_index_or xs from d).session)
    → ((d : Hearing) → end < length xs
    → (slice_index_or xs end d).session ≢ (slice_index_or xs from d).session)
    → one_each (map (heard_of ls) (drop from xs))
    ≡ record { session = h.session; text = flat_map (text_of ls) (take (end - from) (drop from xs)) }
    ∷ one_each (map (heard_of ls) (drop end xs))
joined_from ls xs from end h there after within is same apart =
    let n = end - (from + 1) in let ys = drop (from + 1) xs in
    let cut : drop from xs ≡ h ∷ ys = drop_more xs from h there ∙ ap (λ (y : Hearing). y ∷ ys) (sym is) in
    let size : end - from ≡ suc n = omega arith in
    let on : from + 1 + n ≡ end = omega arith in
    let long : length ys ≡ length xs - (from + 1) = length-drop (from + 1) xs in
    let mine : (d : Hearing) → (slice_index_or xs from d).session ≡ h.session = λ d. ap (λ (y : Hearing). y.session)
    (get_or_default xs from d h there ∙ sym is) in
    let at : (d : Hearing) (i : ℕ) → slice_index_or ys i d ≡ slice_index_or xs (from + 1 + i) d =
    λ d i. get_or-drop (from + 1) xs i d in
    let run = joined_run ls (heard_of ls h) n ys (omega (arith, long))
    (λ d i l. ap (λ (y : Hearing). y.session) (at d i) ∙ same d (from + 1 + i) (omega arith) (omega arith) ∙ mine d)
    (λ d l e. apart d (omega (arith, long)) (ap (λ (k : ℕ). (slice_index_or xs k d).session) (sym on)
    ∙ sym (ap (λ (y : Hearing). y.session) (at d n)) ∙ e ∙ sym (mine d))) in
    let rest : drop n ys ≡ drop end xs = drop-drop n (from + 1) xs ∙ ap (λ (k : ℕ). drop k xs) on in
    let whole : take (end - from) (drop from xs) ≡ h ∷ take n ys = ap (λ (k : ℕ). take k (drop from xs)) size
    ∙ ap (take (suc n)) cut in
    ap (λ (zs : List Hearing). one_each (map (heard_of ls) zs)) cut ∙ run
    ∙ ap (λ (zs : List Hearing). record {
      session = h.session;
      text = text_of ls h ++ flat_map (text_of ls) (take n ys);
    }
    ∷ one_each (map (heard_of ls) zs)) rest
    ∙ ap (λ (zs : List Hearing). record { session = h.session; text = flat_map (text_of ls) zs }
    ∷ one_each (map (heard_of ls) (drop end xs))) (sym whole)

-- each session stands once, from number k on
abbrev pub climbs : ℕ → List Heard → Type 0
climbs k [] = Unit {0}
climbs k (x ∷ xs) = (k ≤ x.session) × climbs (x.session + 1) xs

climbs_from : (j k : ℕ) (xs : List Heard) → j ≤ k → climbs k xs → climbs j xs
climbs_from j k [] l c = tt
climbs_from j k (x ∷ xs) l c = let a = c.0 in ((omega arith), c.1)

joined_climbs : (x : Heard) (xs : List Heard) → rises x.session xs → climbs x.session (joined_to x xs)
joined_climbs x [] r = ((omega arith), tt)
joined_climbs x (y ∷ ys) r =
    elim (eqb_tells y.session x.session) [
      | inl same ↦ rw same.0 (joined_climbs (record { session = x.session; text = x.text ++ y.text }) ys
          (subst (λ (k : ℕ). rises k ys) same.1 r.1))
      | inr apart ↦ rw apart.0 (
        (omega arith),
        climbs_from (x.session + 1) y.session (joined_to y ys)
            (let a = r.0 in let ne = apart.1 in omega arith) (joined_climbs y ys r.1),
      )
    ]

pub all_joined_text : (xs : List Heard) (t : ℕ) → text_for (one_each xs) t ≡ text_for xs t
all_joined_text [] t = refl
all_joined_text (x ∷ xs) t = joined_text x xs t

pub all_joined_climbs : (xs : List Heard) → rises 0 xs → climbs 0 (one_each xs)
all_joined_climbs [] r = tt
all_joined_climbs (x ∷ xs) r = climbs_from 0 x.session (joined_to x xs) r.0 (joined_climbs x xs r.1)

-- ---- the deliveries

-- who stands from a higher number on has no text
none_before : (k : ℕ) (xs : List Heard) (t : ℕ) → climbs k xs → t < k → text_for xs t ≡ []
none_before k [] t c l = refl
none_before k (x ∷ xs) t c l = let a = c.0 in
    text_there x xs t (omega arith) ∙ none_before (x.session + 1) xs t c.1 (omega arith)

nothing_told : (b : Bool) (number : ℕ) → unless_shut b number [] ≡ []
nothing_told true number = refl
nothing_told false number = refl

none_put : (t s : ℕ) (xs : List Delivery) → xs ≡ [] → cond (t == s) [] (puts t xs) ≡ []
none_put t s xs e = rw e
    (let E : List Planned = [] in elim (t == s) as (λ b. cond b E E ≡ E) [ true ↦ refl | false ↦ refl ])

-- to sessions past the last nothing is delivery_of
none_after : (seats : List Seat) (s number m : ℕ) (xs : List Heard) → climbs m xs
    → ((t : ℕ) → m ≤ t → hears seats t ≡ false) → deliveries_of seats s number xs ≡ []
none_after seats s number m [] c deaf = refl
none_after seats s number m (x ∷ xs) c deaf =
    let none = none_put x.session s (told_here seats number x.session x.text)
    (ap (λ b. unless_shut (not b) number x.text) (deaf x.session c.0)) in
    let rest = none_after seats s number m xs
    (climbs_from m (x.session + 1) xs (let a = c.0 in omega arith) c.1) deaf in
    ap (λ ps. ps ++ deliveries_of seats s number xs) none ∙ rest

-- each session in turn, from number k on
pub others_joined : (seats : List Seat) (s number k n : ℕ) (f : ℕ → List Delivery) (xs : List Heard)
    → climbs k xs → ((t : ℕ) → k ≤ t → f t ≡ told_here seats number t (text_for xs t))
    → ((t : ℕ) → k + n ≤ t → hears seats t ≡ false)
    → others f s k n ≡ deliveries_of seats s number xs
others_joined seats s number k zero f xs c is deaf = sym
    (none_after seats s number k xs c (λ t l. deaf t (omega arith)))
others_joined seats s number k (suc n) f [] c is deaf =
    let here = none_put k s (f k) (is k (omega arith) ∙ nothing_told (not (hears seats k)) number) in
    ap (λ ps. ps ++ others f s (k + 1) n) here ∙ others_joined seats s number (k + 1) n f [] tt
    (λ t l. is t (omega arith)) (λ t l. deaf t (omega arith))
others_joined seats s number k (suc n) f (x ∷ xs) c is deaf =
    elim (eqb_tells x.session k) [
      | inl same ↦
          let up : climbs (k + 1) xs = subst (λ (j : ℕ). climbs (j + 1) xs) same.1 c.1 in
          let text : text_for (x ∷ xs) k ≡ x.text = text_here x xs k same.1 ∙ ap
          (λ bs. x.text ++ bs) (none_before (k + 1) xs k up (omega arith)) ∙ append-nil x.text in
          let mine : f k ≡ told_here seats number k x.text = is k (omega arith) ∙ ap (told_here seats number k) text in
          let rest = others_joined seats s number (k + 1) n f xs up (λ t l. is t (omega arith) ∙ ap
          (told_here seats number t) (text_there x xs t (let e = same.1 in λ i. let j = i in omega arith)))
          (λ t l. deaf t (omega arith)) in
          ap (λ ys. cond (k == s) [] (puts k ys) ++ others f s (k + 1) n) mine
          ∙ ap (λ (j : ℕ). cond (j == s) [] (puts j (told_here seats number j x.text)) ++ others f s (k + 1) n)
          (sym same.1)
          ∙ ap (λ ps. delivery_of seats s number x ++ ps) rest
      | inr apart ↦
          let up : climbs (k + 1) (x ∷ xs) = let a = c.0 in let ne = apart.1 in ((omega arith), c.1) in
          let here = none_put k s (f k) (is k (omega arith) ∙ ap (told_here seats number k)
          (none_before (k + 1) (x ∷ xs) k up (omega arith)) ∙ nothing_told (not (hears seats k)) number) in
          ap (λ ps. ps ++ others f s (k + 1) n) here ∙ others_joined seats s number (k + 1) n f (x ∷ xs) up
          (λ t l. is t (omega arith)) (λ t l. deaf t (omega arith))
    ]

-- ---- the deliveries to others than the actor

pub deliveries_others : (seats : List Seat) (s number : ℕ) (text : ℕ → List ℕ) (xs : List Heard) → rises 0 xs
    → ((t : ℕ) → text_for xs t ≡ text t)
    → deliveries_of seats s number (one_each xs) ≡ others (told_to seats number text) s 1 (length seats)
deliveries_others seats s number text xs up is =
    let n = length seats in let f : ℕ → List Delivery = λ t. told_here seats number t (text_for (one_each xs) t) in
    let deaf : (t : ℕ) → 0 + suc n ≤ t → hears seats t ≡ false = λ t l. let past : nat_le t n
    ≡ false = grind (arith, nat_tests) in rw past (elim (nat_lt 0 t) as
    (λ b. (b && false && not (seat_at seats t).shut) ≡ false) [ true ↦ refl | false ↦ refl ]) in
    let all = others_joined seats s number 0 (suc n) f (one_each xs) (all_joined_climbs xs up) (λ t l. refl) deaf in
    let none = none_put 0 s (f 0) refl in
    let each : (u : ℕ) → 0 < u → u ≤ n → s ≢ u → f u ≡ told_to seats number text u = λ u from to ne. ap
    (told_here seats number u) (all_joined_text xs u ∙ is u) in
    sym all ∙ ap (λ ps. ps ++ others f s 1 n) none ∙ others_same f (told_to seats number text) s 1 n n (lit< tt)
    (omega arith) each
