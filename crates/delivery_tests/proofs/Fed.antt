-- One delivery more of a history whose lines are all too long.
use Rattle.std.proofs.Common.{◌≡◌, ◌∙◌, ℕ, pos, ◌+◌, Bool, false, List, [], ◌∷◌, ◌++◌}
use Rattle.std.proofs.Common.{length, ap, sym, refl, subst, arith, cond, drop}
use Rattle.std.specs.Prelude.{All, codes, nat_le, None}
use Rattle.std.specs.List.{flat_map}
use Rattle.std.proofs.lemmas.List.{map-append}
use Rattle.std.proofs.lemmas.List.Elements.{All-push, All-weaker}
use Rattle.chronicle.specs.History.{Rec, shut, is_quit}
use Rattle.chronicle.specs.Journal.{fresh_record}
use Rattle.line_grammar.specs.Spelling.{bare_line}
use Rattle.numerics.specs.declared.numeric.Numeric.TheVariants.{InputTooLong}
use Rattle.numerics.specs.Numerics.{numeric, row_line}
use Rattle.numerics.specs.Outgoing.{octets}
use Rattle.registration.specs.declared.settings.Settings.{Settings}
use Rattle.registration.specs.Caps.{none_on}
use Rattle.labels_batches.specs.Answers.{tagged_as}
use Rattle.labels_batches.specs.Rendered.{spelled_line}
use Rattle.commands.specs.Asked.{asked_of}
use Rattle.roster.specs.declared.deed.Deed.{Deed}
use Rattle.roster.specs.declared.deed.Deed.TheVariants as deed
use Rattle.deeds.specs.Deeds.{facts, text}
use Rattle.deliveries.specs.declared.delivery.Delivery.{Delivery}
use Rattle.deliveries.specs.declared.delivery.Delivery.TheVariants.{Lines}
use Rattle.deliveries.specs.declared.item.Item.{Item}
use Rattle.deliveries.specs.Growth.{Grows}
use Rattle.deliveries.specs.Items.{Continues, deliveries, front, owed_by_front}
use Rattle.deliveries.specs.Owed.{number_of, owed, told_text, item}
use Rattle.deliveries.proofs.Growing.{grows_to_itself, grows_by_one, grows_on}
use Rattle.delivery_tests.specs.Fed.{says, next, server_name, line, IsFed, IsReady}

-- the line, as a server of this name spells it
abbrev spelled_by : List ℕ → List ℕ
spelled_by server = flat_map (spelled_line none_on (pos 0))
    (tagged_as None (numeric server (codes "*") InputTooLong) ∷ [])

spelled : spelled_by server_name ≡ line
unfolding spelled_line numeric row_line octets bare_line
spelled = refl

text_line : (g : Settings) (n : ℕ) → g.server ≡ server_name → text g (deed.Opened 1 [] ∷ []) says (pos 0) n 1 ≡ line
unfolding asked_of
text_line g n server = ap spelled_by server ∙ spelled

told_line : (sent : List Item) (g : Settings) (h : List Rec) (n : ℕ) → IsFed sent g h n
    → told_text g h says (pos 0) 1 ≡ line
told_line sent g h n fed =
    ap (λ (q : ℕ × List Deed). cond (nat_le 1 q.0) (text g q.1 says (pos 0) (length h + 1) 1) [])
    (λ i. (fed.sessions i, fed.facts i)) ∙ text_line g (length h + 1) fed.server

same_facts : (g : Settings) (h : List Rec) → facts g (next h) ≡ facts g h
unfolding asked_of
same_facts g h = refl

owed_next : (sent : List Item) (g : Settings) (h : List Rec) (n : ℕ) → IsFed sent g h n
    → owed g (next h) 1 ≡ owed g h 1 ++ Lines (n + 2) line ∷ []
unfolding is_quit
owed_next sent g h n fed =
    let text : told_text g h says (pos 0) 1 ≡ line = told_line sent g h n fed in
    let number : length h + 1 ≡ n + 2 = (let e = fed.number in omega arith) in
    ap (λ (q : Bool × ℕ × List ℕ). owed g h 1 ++ cond q.0 [] (item q.1 q.2))
    (λ i. (fed.still_here i, number i, text i))

still_open : (h : List Rec) → shut h 1 ≡ false → shut (next h) 1 ≡ false
unfolding is_quit
still_open h here = here

-- the next delivery may be put after those that were, and then one more was sent
feeds : (sent : List Item) (g : Settings) (h : List Rec) (n : ℕ) (x : Item) → IsFed sent g h n
    → x.delivery ≡ Lines (n + 2) line → x.session ≡ 1 → x.settings ≡ g → front x ≡ next h → Continues sent x
    × IsFed (sent ++ x ∷ []) g (next h) (n + 1)
feeds sent g h n x fed delivery session settings here =
    let all : deliveries (sent ++ x ∷ []) ≡ owed g (next h) 1 =
    map-append (λ (y : Item). y.delivery) sent (x ∷ []) ∙ ap (λ (q : List Delivery × Delivery). q.0 ++ q.1 ∷ [])
    (λ i. (fed.owed i, delivery i)) ∙ sym (owed_next sent g h n fed) in
    let mine : owed g (next h) 1 ≡ owed_by_front x = ap (λ (q : Settings × List Rec × ℕ). owed q.0 q.1 q.2)
    (λ i. (sym settings i, sym here i, sym session i)) in
    let grown : All (λ (y : Item). Grows (front y) (next h)) sent =
    All-weaker (λ (y : Item). Grows (front y) h) (λ (y : Item). Grows (front y) (next h))
    (λ y p. grows_on (front y) h (next h) p (grows_by_one h (fresh_record h (pos 0) says))) sent fed.grows in
    let longer : length (next h) ≡ n + 1 + 1 = (let e = fed.number in omega arith) in
    let second : n + 2 ≡ length (next h) = omega arith in (
      record {
        newest = ap number_of delivery ∙ second ∙ ap (λ (k : List Rec). length k) (sym here);
        owed = all ∙ mine;
        whose = subst (λ (s : ℕ). All (λ (y : Item). y.session ≡ s) sent) (sym session) fed.whose;
        settings = subst (λ (s : Settings). All (λ (y : Item). y.settings ≡ s) sent) (sym settings) fed.settings;
        grows = subst (λ (k : List Rec). All (λ (y : Item). Grows (front y) k) sent) (sym here) grown;
      },
      record {
        server = fed.server;
        facts = same_facts g h ∙ fed.facts;
        sessions = (let e = fed.sessions in omega arith);
        still_here = still_open h fed.still_here;
        number = longer;
        owed = all;
        whose = All-push (λ (y : Item). y.session ≡ 1) sent x fed.whose session;
        settings = All-push (λ (y : Item). y.settings ≡ g) sent x fed.settings settings;
        grows = All-push (λ (y : Item). Grows (front y) (next h)) sent x grown
            (subst (λ (k : List Rec). Grows k (next h)) (sym here) (grows_to_itself (next h)));
      },
    )

-- the delivery that comes next may be put, and with one record more the one after it comes next
pub ready_again : (sent : List Item) (g : Settings) (h : List Rec) (n : ℕ) (x : Item) → IsReady sent g h n
    → x.delivery ≡ Lines (n + 2) line → x.session ≡ 1 → x.settings ≡ g → front x ≡ h → Continues sent x
    × IsReady (sent ++ x ∷ []) g (next h) (n + 1)
ready_again sent g h n x ready delivery session settings here =
    let fed = feeds sent g (drop 1 h) n x ready.fed delivery session settings (here ∙ ready.newest) in (
      fed.0,
      record {
        newest = refl;
        fed = subst (λ (k : List Rec). IsFed (sent ++ x ∷ []) g k (n + 1))
            (sym ready.newest) fed.1;
      },
    )
