-- The place of a channel in a table in which names are apart.
use Rattle.std.proofs.Common.{◌≡◌, inl, inr, ℕ, zero, suc, ◌+◌, ◌<◌, ◌≤◌, true, false, cond, List}
use Rattle.std.proofs.Common.{[], ◌∷◌, length, drop, slice_get, slice_set, get_or, Option, Some}
use Rattle.std.proofs.Common.{None, arith, refl, sym, ap, ◌∙◌, drop-cons}
use Rattle.std.specs.List.{list_any, remove}
use Rattle.std.specs.Map.{values_of}
use Rattle.casemapping.specs.Fold.{is_same}
use Rattle.casemapping.proofs.SameNames.{is_same-right}
use Rattle.channel_state.specs.Held.{ChannelView}
use Rattle.roster.specs.declared.tables.Channel.{Channel}
use Rattle.roster.specs.Tables.{channel_of, with_held, with_someone, AreKeyed}
use Rattle.roster.specs.Stands.{AreApart, AreHeldBut}
use Rattle.roster.proofs.Bools.{either, or-none}
use Rattle.roster.proofs.Keyed.{held_as, all_populated}

-- a channel that is found by a name has it
pub named_so : (ks : List Channel) (c : List ℕ) (x : Channel) → channel_of ks c ≡ Some x → is_same x.name c ≡ true
named_so [] c x e = absurd (let f : ◌≡◌ {A = Option Channel} None (Some x) = e in cc)
named_so (k ∷ ks) c x e = elim (either (is_same k.name c)) [
  | inl it ↦
      let f : Some k ≡ Some x = sym (ap (λ b. cond b (Some k) (channel_of ks c)) it) ∙ e in let g : k ≡ x = cc in
      ap (λ (y : Channel). is_same y.name c) (sym g) ∙ it
  | inr miss ↦ named_so ks c x (sym (ap (λ b. cond b (Some k) (channel_of ks c)) miss) ∙ e)
]

-- a name that none of these has isn't that of the one at a place
none_at : (a : List ℕ) (ks : List Channel) (i : ℕ) (x : Channel) → list_any (λ (l : Channel). is_same a l.name) ks
    ≡ false → slice_get ks i ≡ Some x → is_same a x.name ≡ false
none_at a [] i x n e = absurd (let f : ◌≡◌ {A = Option Channel} None (Some x) = e in cc)
none_at a (k ∷ ks) zero x n e =
    let f : Some k ≡ Some x = e in let g : k ≡ x = cc in
    ap (λ (y : Channel). is_same a y.name) (sym g)
    ∙ (or-none (is_same a k.name) (list_any (λ (l : Channel). is_same a l.name) ks) n).0
none_at a (k ∷ ks) (suc i) x n e = none_at a ks i x
    (or-none (is_same a k.name) (list_any (λ (l : Channel). is_same a l.name) ks) n).1 e

missed : (k c : List ℕ) (ks : List Channel) (i : ℕ) (x : Channel) → list_any (λ (l : Channel). is_same k l.name) ks
    ≡ false → slice_get ks i ≡ Some x → is_same x.name c ≡ true → is_same k c ≡ false
missed k c ks i x n e same = sym (is_same-right x.name c k same) ∙ none_at k ks i x n e

-- what is written at its place is written at its name
pub set_at_place : (ks : List Channel) (i : ℕ) (c : List ℕ) (x : Channel) (h : ChannelView) → AreApart ks
    → slice_get ks i ≡ Some x → is_same x.name c ≡ true → slice_set ks i (held_as x h) ≡ with_held ks c h
set_at_place [] i c x h a e same = absurd (let f : ◌≡◌ {A = Option Channel} None (Some x) = e in cc)
set_at_place (k ∷ ks) zero c x h a e same =
    let f : Some k ≡ Some x = e in let g : k ≡ x = cc in
    ap (λ (y : Channel). held_as y h ∷ ks) (sym g) ∙ sym (ap
    (λ b. cond b (held_as k h ∷ ks) (k ∷ with_held ks c h)) (ap (λ (y : Channel). is_same y.name c) g ∙ same))
set_at_place (k ∷ ks) (suc i) c x h a e same =
    ap (λ ls. k ∷ ls) (set_at_place ks i c x h a.1 e same)
    ∙ sym (ap (λ b. cond b (held_as k h ∷ ks) (k ∷ with_held ks c h)) (missed k.name c ks i x a.0 e same))

-- the one that nobody is on is taken out at its place
pub removed_at_place : (es : List (List ℕ × Channel)) (i : ℕ) (c : List ℕ) (x : Channel) → AreApart (values_of es)
    → slice_get (values_of es) i ≡ Some x → is_same x.name c ≡ true → AreHeldBut c (values_of es)
    → values_of (remove es i) ≡ with_someone (values_of es)
removed_at_place [] i c x a e same b = absurd (let f : ◌≡◌ {A = Option Channel} None (Some x) = e in cc)
removed_at_place (k ∷ es) zero c x a e same b =
    let f : Some k.1 ≡ Some x = e in let g : k.1 ≡ x = cc in
    let p = b.0 (ap (λ (y : Channel). is_same y.name c) g ∙ same) in
    sym (all_populated (values_of es) p.1)
    ∙ sym (ap (λ q. cond q (k.1 ∷ with_someone (values_of es)) (with_someone (values_of es))) p.0)
removed_at_place (k ∷ es) (suc i) c x a e same b =
    let p = b.1 (missed k.1.name c (values_of es) i x a.0 e same) in
    ap (λ ls. k.1 ∷ ls) (removed_at_place es i c x a.1 e same p.1)
    ∙ sym (ap (λ q. cond q (k.1 ∷ with_someone (values_of es)) (with_someone (values_of es))) p.0)

-- each other is still under its folded name
pub keyed_removed_at : (es : List (List ℕ × Channel)) (i : ℕ) → AreKeyed es → AreKeyed (remove es i)
keyed_removed_at [] zero a = tt
keyed_removed_at [] (suc i) a = tt
keyed_removed_at (e ∷ es) zero a = a.1
keyed_removed_at (e ∷ es) (suc i) a = (a.0, keyed_removed_at es i a.1)

get_set : (ks : List Channel) (i : ℕ) (x w : Channel) → slice_get ks i ≡ Some x
    → slice_get (slice_set ks i w) i ≡ Some w
get_set [] i x w e = absurd (let f : ◌≡◌ {A = Option Channel} None (Some x) = e in cc)
get_set (k ∷ ks) zero x w e = refl
get_set (k ∷ ks) (suc i) x w e = get_set ks i x w e

-- ---- a walk to the place

next_at : (ks : List Channel) (i : ℕ) (x : Channel) → i < length ks → x ≡ get_or ks i x
    → drop i ks ≡ x ∷ drop (i + 1) ks
next_at ks i x l e =
    let more : suc i ≡ i + 1 = omega arith in
    drop-cons ks i x l ∙ ap (λ (j : ℕ). get_or ks i x ∷ drop j ks) more ∙ ap
    (λ (y : Channel). y ∷ drop (i + 1) ks) (sym e)

-- a channel of another name is passed
pub passed_place : (ks : List Channel) (i : ℕ) (c : List ℕ) (x : Channel) → i < length ks → x ≡ get_or ks i x
    → is_same x.name c ≡ false → channel_of (drop (i + 1) ks) c ≡ channel_of (drop i ks) c
passed_place ks i c x l e miss =
    sym (ap (λ (ls : List Channel). channel_of ls c) (next_at ks i x l e) ∙ ap
    (λ b. cond b (Some x) (channel_of (drop (i + 1) ks) c)) miss)

-- the one of the name is the one that is found
pub hit_place : (ks : List Channel) (i : ℕ) (c : List ℕ) (x : Channel) → i < length ks → x ≡ get_or ks i x
    → is_same x.name c ≡ true → channel_of (drop i ks) c ≡ Some x
hit_place ks i c x l e it = ap (λ (ls : List Channel). channel_of ls c) (next_at ks i x l e) ∙ ap
    (λ b. cond b (Some x) (channel_of (drop (i + 1) ks) c)) it

-- where all were passed, none is found
pub end_place : (ks : List Channel) (i : ℕ) (c : List ℕ) → length ks ≤ i → channel_of (drop i ks) c ≡ None
end_place [] zero c l = refl
end_place [] (suc i) c l = refl
end_place (k ∷ ks) zero c l = absurd (omega arith)
end_place (k ∷ ks) (suc i) c l = end_place ks i c (omega arith)

pub at_place : (ks : List Channel) (i : ℕ) (x : Channel) → i < length ks → x ≡ get_or ks i x → slice_get ks i ≡ Some x
at_place [] i x l e = absurd (omega arith)
at_place (k ∷ ks) zero x l e = ap (λ (y : Channel). Some y) (sym e)
at_place (k ∷ ks) (suc i) x l e = at_place ks i x (omega arith) e

-- ---- the place, when it is written

-- what was written is at the place
pub at_place_with : (ks : List Channel) (i : ℕ) (c : List ℕ) (x : Channel) (h : ChannelView) → AreApart ks
    → slice_get ks i ≡ Some x → is_same x.name c ≡ true → slice_get (with_held ks c h) i ≡ Some (held_as x h)
at_place_with ks i c x h a e same = ap (λ (ls : List Channel). slice_get ls i)
    (sym (set_at_place ks i c x h a e same)) ∙ get_set ks i x (held_as x h) e

-- a look-up by key finds it at its place
pub found_place : (es : List (List ℕ × Channel)) (i : ℕ) (k : List ℕ) (x : Channel) → slice_get es i ≡ Some (k, x)
    → slice_get (values_of es) i ≡ Some x
found_place [] i k x e = absurd (let f : ◌≡◌ {A = Option (List ℕ × Channel)} None (Some (k, x)) = e in cc)
found_place (e ∷ es) zero k x at = let f : Some e ≡ Some (k, x) = at in let g : e ≡ (k, x) = cc in
    ap (λ (p : List ℕ × Channel). Some p.1) g
found_place (e ∷ es) (suc i) k x at = found_place es i k x at
