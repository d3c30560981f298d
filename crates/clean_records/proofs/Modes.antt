-- What MODE does.
use Rattle.std.proofs.Common.{◌≡◌, ℕ, Bool, true, false, not, ◌||◌, ◌==◌, nat_le, List, [], ◌∷◌, ◌++◌, codes}
use Rattle.std.proofs.Common.{decimal, is_some, length, map, option_to_list, take, IfSome, Option, Some, None}
use Rattle.std.proofs.Common.{refl, arith}
use Rattle.std.specs.List.{AllByRecursion, list_any}
use Rattle.std.proofs.lemmas.Bool.{and_from, and_parts, cond_both}
use Rattle.line_grammar.specs.Spelling.{is_text_octet, needs_colon}
use Rattle.channel_state.specs.declared.change.Change.TheVariants.{RankSet, FlagSet, KeySet, LimitSet, BanSet}
use Rattle.channel_state.specs.declared.change.Change.TheVariants.{BanLifted}
use Rattle.channel_state.specs.declared.change.Rank.{Rank}
use Rattle.channel_state.specs.declared.change.Rank.TheVariants.{Operator, Voice}
use Rattle.channel_state.specs.declared.modes.Flag.{Flag}
use Rattle.channel_state.specs.declared.modes.Modes.{Modes}
use Rattle.channel_state.specs.State.{State, among, is_set}
use Rattle.numerics.specs.declared.numeric.Numeric.TheVariants as numeric
use Rattle.registration.specs.declared.settings.Settings.{Settings}
use Rattle.roster.specs.declared.deed.Deed.{Deed}
use Rattle.roster.specs.declared.deed.Deed.TheVariants.{Changed, InvisibleSet}
use Rattle.roster.specs.LookBack.{after, user_named, invisible, nick}
use Rattle.transactions.specs.declared.effect.Effect.TheVariants.{Establish, Answer, Show}
use Rattle.transactions.specs.Effects.{deeds_of}
use Rattle.transactions.specs.Lines.{prefix, title}
use Rattle.transactions.specs.Replies.{tells, tells_all}
use Rattle.transactions.specs.Seen.{Seen, seen}
use Rattle.mode_commands.specs.declared.letters.ModeChange.{ModeChange}
use Rattle.mode_commands.specs.declared.modes.ModeCommand.{ModeCommand}
use Rattle.mode_commands.specs.declared.steps.Refusal.{Refusal}
use Rattle.mode_commands.specs.declared.steps.Refusal.TheVariants.{LacksParameter, Nobody, NotMember, Unknown}
use Rattle.mode_commands.specs.declared.steps.ModeStep.{ModeStep}
use Rattle.mode_commands.specs.declared.steps.ModeStep.TheVariants as step
use Rattle.mode_commands.specs.ChannelModes.{asks_bans, ban_numerics, channel_modes, does, does_changes}
use Rattle.mode_commands.specs.ChannelModes.{refusal_numeric, shows_changes, takes_changes, tells_modes}
use Rattle.mode_commands.specs.ChannelModes as modes_of
use Rattle.mode_commands.specs.Letters.{Reading, letters_ask, asked_changes, asks, past, past_next, takes_param}
use Rattle.mode_commands.specs.Letters.{with_next}
use Rattle.mode_commands.specs.Letters as letters_of
use Rattle.mode_commands.specs.Lines.{key_told, letter_where, letters_after, letters_set, limit_told, mode_line}
use Rattle.mode_commands.specs.Lines.{params_of}
use Rattle.mode_commands.specs.Lines.{params_set, sign, sign_after}
use Rattle.mode_commands.specs.Modes.{mode_command, names_channel, of_channel, of_user, serves_mode}
use Rattle.mode_commands.specs.Parameters.{after_bang, full_mask, completed_by, has_octet, is_key, limit_of}
use Rattle.mode_commands.specs.Steps.{agree, all_shown, ban_step, flag_of, flag_step, has_ban, has_key, has_limit}
use Rattle.mode_commands.specs.Steps.{has_rank, key_given, key_lifted, key_set, key_step, limit_given, limit_lifted}
use Rattle.mode_commands.specs.Steps.{limit_set, limit_step, mask_step, member_step, rank_step, shown_by, shown_with}
use Rattle.mode_commands.specs.Steps.{after_mode, steps, user_step}
use Rattle.mode_commands.specs.Steps as steps_of
use Rattle.mode_commands.specs.UserModes.{hides, invisible_after, is_known, modes_text, own_modes, tells_unknown}
use Rattle.answer_octets.specs.Clean.{IsClean}
use Rattle.answer_octets.proofs.Kept.{take-kept}
use Rattle.clean_records.specs.Clean.{IsChannel, IsCleanChange, IsServing, IsText}
use Rattle.clean_records.proofs.Asking.{IsCleanRead}
use Rattle.clean_records.proofs.Effects.{Clean, IsTextNumeric, either, from-session, joined}
use Rattle.clean_records.proofs.Effects.{later, more, none, only, told, told_all, told_only}
use Rattle.clean_records.proofs.Lists.{all-both, all-texts}
use Rattle.clean_records.proofs.Lookups.{Facts, IfSeen, IsCleanSeen, nick-shown, seen-is}
use Rattle.clean_records.proofs.Texts.{AreTexts, both, channel-text, decimal-text, one, texts-both, two}

-- ---- letters with their parameters

record IsCleanMode (a : ModeChange) : Type 0 where
  letter : is_text_octet a.letter ≡ true
  param : IfSome a.param IsText

abbrev AreCleanModes : List ModeChange → Type 0
AreCleanModes bs = AllByRecursion IsCleanMode bs

abbrev HasTexts : Reading → Type 0
HasTexts r = AllByRecursion IsText r.params

next-clean : (r : Reading) (letter : ℕ) (ps : List (List ℕ)) → is_text_octet letter ≡ true → AllByRecursion IsText ps
    → AreCleanModes (with_next r letter ps)
next-clean r letter [] is are = (record { letter = is; param = tt }, tt)
next-clean r letter (p ∷ ps) is are =
    cond_both (r.room == 0) [] (asks r.on letter (Some p)) AreCleanModes (λ _. tt)
    (λ _. (record { letter = is; param = are.0 }, tt))

told-modes : (r : Reading) (letter : ℕ) → is_text_octet letter ≡ true → HasTexts r
    → AreCleanModes (letters_of.letter_asks r letter)
told-modes r letter is are =
    cond_both (letter == 43) [] _ AreCleanModes (λ _. tt)
    (λ _. cond_both (letter == 45) [] _ AreCleanModes (λ _. tt)
    (λ _. cond_both (takes_param r.on letter) (with_next r letter r.params) (asks r.on letter None) AreCleanModes
    (λ _. next-clean r letter r.params is are) (λ _. (record { letter = is; param = tt }, tt))))

next-texts : (r : Reading) (ps : List (List ℕ)) → HasTexts r → AllByRecursion IsText ps → HasTexts (past_next r ps)
next-texts r [] old are = old
next-texts r (p ∷ ps) old are = are.1

past-texts : (r : Reading) (letter : ℕ) → HasTexts r → HasTexts (past r letter)
past-texts r letter are =
    cond_both (letter == 43) _ _ HasTexts (λ _. are)
    (λ _. cond_both (letter == 45) _ _ HasTexts (λ _. are)
    (λ _. cond_both (takes_param r.on letter) (past_next r r.params) r HasTexts (λ _. next-texts r r.params are are)
    (λ _. are)))

asked-clean : (r : Reading) (letters : List ℕ) → IsText letters → HasTexts r → AreCleanModes (letters_ask r letters)
asked-clean r [] is are = tt
asked-clean r (b ∷ bs) is are =
    let parts = and_parts _ _ is in
    all-both IsCleanMode (letters_of.letter_asks r b) (letters_ask (past r b) bs) (told-modes r b parts.0 are)
    (asked-clean (past r b) bs parts.1 (past-texts r b are))

-- ---- a letter of a channel

abbrev IsCleanRefusal : Refusal → Type 0
IsCleanRefusal LacksParameter = Unit {0}
IsCleanRefusal (Nobody n) = IsText n
IsCleanRefusal (NotMember n) = IsText n
IsCleanRefusal (Unknown letter) = is_text_octet letter ≡ true

abbrev IsCleanStep : ModeStep → Type 0
IsCleanStep step.Nothing = Unit {0}
IsCleanStep (step.Refused why) = IsCleanRefusal why
IsCleanStep (step.Changes x shown) = IsCleanChange x × IsCleanMode shown

flag-clean : (k : State) (a : ModeChange) (o : Option Flag) → IsCleanMode a → IsCleanStep (flag_step k a o)
flag-clean k a None is = is.letter
flag-clean k a (Some f) is =
    cond_both (agree a.on (is_set f k.modes)) step.Nothing (step.Changes (FlagSet f a.on) (shown_with a None))
    IsCleanStep (λ _. tt) (λ _. (tt, record { letter = is.letter; param = tt }))

member-clean : (k : State) (rank : Rank) (a : ModeChange) (n : List ℕ) (t : ℕ) → IsCleanMode a → IsText n
    → IsCleanStep (member_step k rank a n t)
member-clean k rank a n t is name =
    cond_both (not (among t k.members)) (step.Refused (NotMember n)) _ IsCleanStep (λ _. name)
    (λ _. cond_both (agree a.on (has_rank k rank t)) step.Nothing
    (step.Changes (RankSet t rank a.on) (shown_with a (Some n))) IsCleanStep (λ _. tt)
    (λ _. (tt, record { letter = is.letter; param = name })))

user-clean : (fs : List Deed) (k : State) (rank : Rank) (a : ModeChange) (n : List ℕ) (o : Option ℕ) → Facts fs
    → IsCleanMode a → IsText n → IsCleanStep (user_step fs k rank a n o)
user-clean fs k rank a n None facts is name = name
user-clean fs k rank a n (Some t) facts is name =
    member-clean k rank a (title (nick fs t)) t is (nick-shown fs t facts)

rank-clean : (fs : List Deed) (k : State) (rank : Rank) (a : ModeChange) (o : Option (List ℕ)) → Facts fs
    → IsCleanMode a → IfSome o IsText → IsCleanStep (rank_step fs k rank a o)
rank-clean fs k rank a None facts is name = tt
rank-clean fs k rank a (Some n) facts is name = user-clean fs k rank a n (user_named fs n) facts is name

completed-by : (mask : List ℕ) (o : Option (List ℕ)) → IsText mask → IsText (completed_by mask o)
completed-by mask None is =
    cond_both (has_octet 64 mask) (codes "*!" ++ mask) (mask ++ codes "!*@*") IsText (λ _. is)
    (λ _. both mask (codes "!*@*") is refl)
completed-by mask (Some rest) is =
    cond_both (has_octet 64 rest) mask (mask ++ codes "@*") IsText (λ _. is) (λ _. both mask (codes "@*") is refl)

completed-text : (mask : List ℕ) → IsText mask → IsText (full_mask mask)
unfolding full_mask
completed-text mask is = completed-by mask (after_bang mask) is

mask-clean : (k : State) (a : ModeChange) (mask : List ℕ) → IsCleanMode a → IsText mask
    → IsCleanStep (mask_step k a mask)
mask-clean k a mask is text =
    let shown : IsCleanMode (shown_with a (Some mask)) = record { letter = is.letter; param = text } in
    cond_both a.on _ _ IsCleanStep
    (λ _. cond_both (has_ban k mask || nat_le 60 (length k.bans)) step.Nothing
    (step.Changes (BanSet mask) (shown_with a (Some mask))) IsCleanStep (λ _. tt) (λ _. (text, shown)))
    (λ _. cond_both (has_ban k mask) (step.Changes (BanLifted mask) (shown_with a (Some mask))) step.Nothing
    IsCleanStep (λ _. (text, shown)) (λ _. tt))

ban-clean : (k : State) (a : ModeChange) (o : Option (List ℕ)) → IsCleanMode a → IfSome o IsText
    → IsCleanStep (ban_step k a o)
ban-clean k a None is text = tt
ban-clean k a (Some mask) is text =
    cond_both (needs_colon mask) step.Nothing (mask_step k a (full_mask mask)) IsCleanStep (λ _. tt)
    (λ _. mask-clean k a (full_mask mask) is (completed-text mask text))

key_set-clean : (k : State) (a : ModeChange) (key : List ℕ) → IsCleanMode a → IsText key
    → IsCleanStep (key_set k a key)
key_set-clean k a key is text =
    cond_both (has_key k.modes.key key) step.Nothing (step.Changes (KeySet (Some key)) (shown_with a (Some key)))
    IsCleanStep (λ _. tt) (λ _. (text, record { letter = is.letter; param = text }))

key_given-clean : (k : State) (a : ModeChange) (o : Option (List ℕ)) → IsCleanMode a → IfSome o IsText
    → IsCleanStep (key_given k a o)
key_given-clean k a None is text = tt
key_given-clean k a (Some key) is text =
    cond_both (is_key key) (key_set k a (take 23 key)) step.Nothing IsCleanStep
    (λ _. key_set-clean k a (take 23 key) is (take-kept is_text_octet 23 key text)) (λ _. tt)

key_lifted-clean : (k : State) (a : ModeChange) → IsCleanMode a → IsCleanStep (key_lifted k a)
key_lifted-clean k a is =
    cond_both (is_some k.modes.key) (step.Changes (KeySet None) (shown_with a (Some (codes "*")))) step.Nothing
    IsCleanStep (λ _. (tt, record { letter = is.letter; param = refl })) (λ _. tt)

key-clean : (k : State) (a : ModeChange) (o : Option (List ℕ)) → IsCleanMode a → IfSome o IsText
    → IsCleanStep (key_step k a o)
key-clean k a o is text = cond_both a.on (key_given k a o) (key_lifted k a) IsCleanStep
    (λ _. key_given-clean k a o is text) (λ _. key_lifted-clean k a is)

limit_set-clean : (k : State) (a : ModeChange) (o : Option ℕ) → IsCleanMode a → IsCleanStep (limit_set k a o)
limit_set-clean k a None is = tt
limit_set-clean k a (Some limit) is =
    cond_both (has_limit k.modes.limit limit) step.Nothing
    (step.Changes (LimitSet (Some limit)) (shown_with a (Some (decimal limit)))) IsCleanStep (λ _. tt)
    (λ _. (tt, record { letter = is.letter; param = decimal-text limit }))

limit_given-clean : (k : State) (a : ModeChange) (o : Option (List ℕ)) → IsCleanMode a
    → IsCleanStep (limit_given k a o)
limit_given-clean k a None is = tt
limit_given-clean k a (Some text) is = limit_set-clean k a (limit_of text) is

limit_lifted-clean : (k : State) (a : ModeChange) → IsCleanMode a → IsCleanStep (limit_lifted k a)
limit_lifted-clean k a is =
    cond_both (is_some k.modes.limit) (step.Changes (LimitSet None) (shown_with a None)) step.Nothing IsCleanStep
    (λ _. (tt, record { letter = is.letter; param = tt })) (λ _. tt)

limit-clean : (k : State) (a : ModeChange) (o : Option (List ℕ)) → IsCleanMode a → IsCleanStep (limit_step k a o)
limit-clean k a o is = cond_both a.on (limit_given k a o) (limit_lifted k a) IsCleanStep
    (λ _. limit_given-clean k a o is) (λ _. limit_lifted-clean k a is)

step-clean : (fs : List Deed) (k : State) (a : ModeChange) → Facts fs → IsCleanMode a
    → IsCleanStep (steps_of.step fs k a)
unfolding steps_of.step
step-clean fs k a facts is =
    cond_both (a.letter == 111) _ _ IsCleanStep (λ _. rank-clean fs k Operator a a.param facts is is.param)
    (λ _. cond_both (a.letter == 118) _ _ IsCleanStep (λ _. rank-clean fs k Voice a a.param facts is is.param)
    (λ _. cond_both (a.letter == 98) _ _ IsCleanStep (λ _. ban-clean k a a.param is is.param)
    (λ _. cond_both (a.letter == 107) _ _ IsCleanStep (λ _. key-clean k a a.param is is.param)
    (λ _. cond_both (a.letter == 108) _ _ IsCleanStep (λ _. limit-clean k a a.param is)
    (λ _. flag-clean k a (flag_of a.letter) is)))))

steps-clean : (fs : List Deed) (k : State) (bs : List ModeChange) → Facts fs → AreCleanModes bs
    → AllByRecursion IsCleanStep (steps fs k bs)
steps-clean fs k [] facts are = tt
steps-clean fs k (a ∷ bs) facts are =
    (step-clean fs k a facts are.0, steps-clean fs (after_mode (steps_of.step fs k a) k) bs facts are.1)

-- ---- what is shown

sign-text : (b : Bool) → IsText (sign b)
sign-text true = refl
sign-text false = refl

sign-after : (o : Option Bool) (b : Bool) → IsText (sign_after o b)
sign-after None b = sign-text b
sign-after (Some was) b = cond_both (agree was b) [] (sign b) IsText (λ _. refl) (λ _. sign-text b)

letters-text : (o : Option Bool) (bs : List ModeChange) → AreCleanModes bs → IsText (letters_after o bs)
letters-text o [] are = refl
letters-text o (a ∷ bs) are =
    both (sign_after o a.on ++ a.letter ∷ []) (letters_after (Some a.on) bs)
    (both (sign_after o a.on) (a.letter ∷ []) (sign-after o a.on) (and_from _ _ are.0.letter refl))
    (letters-text (Some a.on) bs are.1)

param-texts : (o : Option (List ℕ)) → IfSome o IsText → AreTexts (option_to_list o)
param-texts None is = refl
param-texts (Some p) is = one p is

params-texts : (bs : List ModeChange) → AreCleanModes bs → AreTexts (params_of bs)
params-texts [] are = refl
params-texts (a ∷ bs) are =
    texts-both (option_to_list a.param) (params_of bs) (param-texts a.param are.0.param) (params-texts bs are.1)

mode-clean : (fs : List Deed) (s : ℕ) (target : List ℕ) (bs : List ModeChange) → Facts fs → IsText target
    → AreCleanModes bs → IsClean (mode_line (prefix fs s) target bs)
mode-clean fs s target bs facts is are =
    from-session fs s (codes "MODE") (target ∷ letters_after None bs ∷ params_of bs) false facts refl (omega arith)
    (and_from _ _ is (and_from _ _ (letters-text None bs are) (params-texts bs are)))

one-shown : (x : ModeStep) → IsCleanStep x → AreCleanModes (shown_by x)
one-shown step.Nothing is = tt
one-shown (step.Refused why) is = tt
one-shown (step.Changes x shown) is = (is.1, tt)

shown-clean : (xs : List ModeStep) → AllByRecursion IsCleanStep xs → AreCleanModes (all_shown xs)
shown-clean [] are = tt
shown-clean (x ∷ xs) are =
    all-both IsCleanMode (shown_by x) (all_shown xs) (one-shown x are.0) (shown-clean xs are.1)

-- ---- modes as they are told

where-text : (is : Bool) (l : List ℕ) → IsText l → IsText (letter_where is l)
where-text true l text = text
where-text false l text = refl

set-text : (m : Modes) → IsText (letters_set m)
unfolding letters_set
set-text m =
    let i = letter_where m.invite_only (codes "i") in let k = letter_where (is_some m.key) (codes "k") in
    let l = letter_where (is_some m.limit) (codes "l") in let o = letter_where m.moderated (codes "m") in
    let n = letter_where m.no_outside (codes "n") in let s = letter_where m.secret (codes "s") in
    let t = letter_where m.topic_locked (codes "t") in
    both (i ++ k ++ l ++ o ++ n ++ s) t
    (both (i ++ k ++ l ++ o ++ n) s
    (both (i ++ k ++ l ++ o) n
    (both (i ++ k ++ l) o
    (both (i ++ k) l
    (both i k (where-text m.invite_only (codes "i") refl) (where-text (is_some m.key) (codes "k") refl))
    (where-text (is_some m.limit) (codes "l") refl))
    (where-text m.moderated (codes "m") refl))
    (where-text m.no_outside (codes "n") refl))
    (where-text m.secret (codes "s") refl))
    (where-text m.topic_locked (codes "t") refl)

key-texts : (is_member : Bool) (o : Option (List ℕ)) → IfSome o IsText → AreTexts (key_told is_member o)
key-texts is_member None is = refl
key-texts true (Some key) is = one key is
key-texts false (Some key) is = refl

limit-texts : (o : Option ℕ) → AreTexts (limit_told o)
limit-texts None = refl
limit-texts (Some limit) = one (decimal limit) (decimal-text limit)

modes-row : (g : Settings) (s : ℕ) (k : Seen) → IsCleanSeen k
    → IsTextNumeric g (numeric.ChannelModeIs k.name (letters_set k.state.modes)
    (params_set (among s k.state.members) k.state.modes))
modes-row g s k seen = record {
  words = and_from _ _ (channel-text k.name seen.name) (and_from _ _ (set-text k.state.modes)
      (texts-both (key_told (among s k.state.members) k.state.modes.key) (limit_told k.state.modes.limit)
      (key-texts (among s k.state.members) k.state.modes.key seen.state.key) (limit-texts k.state.modes.limit)));
  text = tt;
}

bans-clean : (g : Settings) (c : List ℕ) (masks : List (List ℕ)) → IsText c → AllByRecursion IsText masks
    → AllByRecursion (IsTextNumeric g) (map (numeric.BanList c) masks)
bans-clean g c [] is are = tt
bans-clean g c (m ∷ ms) is are = (record { words = two c m is are.0; text = tt }, bans-clean g c ms is are.1)

all-bans : (g : Settings) (k : Seen) → IsCleanSeen k → AllByRecursion (IsTextNumeric g) (ban_numerics k)
all-bans g k seen =
    let name = channel-text k.name seen.name in
    all-both (IsTextNumeric g) (map (numeric.BanList k.name) k.state.bans) (numeric.EndOfBanList k.name ∷ [])
    (bans-clean g k.name k.state.bans name (all-texts k.state.bans seen.state.bans))
    (record { words = one k.name name; text = refl }, tt)

-- ---- MODE of a channel

refusal-row : (g : Settings) (c : List ℕ) (why : Refusal) → IsText c → IsCleanRefusal why
    → IsTextNumeric g (refusal_numeric c why)
refusal-row g c LacksParameter name is = record { words = refl; text = refl }
refusal-row g c (Nobody n) name is = record { words = one n is; text = refl }
refusal-row g c (NotMember n) name is = record { words = two n c is name; text = refl }
refusal-row g c (Unknown letter) name is = record {
  words = one (letter ∷ []) (and_from _ _ is refl);
  text = name;
}

doing : (g : Settings) (s : ℕ) (c : List ℕ) (fs : List Deed) (x : ModeStep) → IsServing g → Facts fs → IsChannel c
    → IsCleanStep x → Clean (does g s c fs x)
doing g s c fs step.Nothing serves facts shaped is = none
doing g s c fs (step.Refused why) serves facts shaped is =
    told_only g fs s (refusal_numeric c why) serves facts (refusal-row g c why (channel-text c shaped) is)
doing g s c fs (step.Changes x shown) serves facts shaped is = only (Establish (Changed c x)) (shaped, is.0)

doing_each : (g : Settings) (s : ℕ) (c : List ℕ) (fs : List Deed) (xs : List ModeStep) → IsServing g → Facts fs
    → IsChannel c → AllByRecursion IsCleanStep xs → Clean (modes_of.in_turn g s c fs xs)
doing_each g s c fs [] serves facts shaped are = none
doing_each g s c fs (x ∷ xs) serves facts shaped are =
    let fs1 = after fs (deeds_of (does g s c fs x)) in let first = doing g s c fs x serves facts shaped are.0 in
    joined (does g s c fs x) (modes_of.in_turn g s c fs1 xs) first
    (doing_each g s c fs1 xs serves (later (does g s c fs x) fs first facts) shaped are.1)

showing_changes : (fs : List Deed) (s : ℕ) (c : List ℕ) (members : List ℕ) (bs : List ModeChange) → Facts fs
    → IsText c → AreCleanModes bs → Clean (shows_changes (prefix fs s) c members bs)
showing_changes fs s c members [] facts is are = none
showing_changes fs s c members (a ∷ bs) facts is are =
    only (Show members (mode_line (prefix fs s) c (a ∷ bs))) (mode-clean fs s c (a ∷ bs) facts is are)

changing : (g : Settings) (fs : List Deed) (s : ℕ) (k : Seen) (bs : List ModeChange) → IsServing g → Facts fs
    → IsCleanSeen k → AreCleanModes bs → Clean (takes_changes g fs s k bs)
changing g fs s k bs serves facts seen are =
    let xs = steps fs k.state bs in let clean = steps-clean fs k.state bs facts are in
    joined (modes_of.in_turn g s k.name fs xs) (shows_changes (prefix fs s) k.name k.state.members (all_shown xs))
    (doing_each g s k.name fs xs serves facts seen.name clean)
    (showing_changes fs s k.name k.state.members (all_shown xs) facts (channel-text k.name seen.name)
    (shown-clean xs clean))

changing_by : (g : Settings) (fs : List Deed) (s : ℕ) (k : Seen) (bs : List ModeChange) → IsServing g → Facts fs
    → IsCleanSeen k → AreCleanModes bs → Clean (does_changes g fs s k bs)
changing_by g fs s k bs serves facts seen are =
    either (asks_bans bs) (tells_all g fs s (ban_numerics k)) _
    (told_all g fs s (ban_numerics k) serves facts (all-bans g k seen))
    (either (among s k.state.operators) (takes_changes g fs s k bs)
    (tells g fs s (numeric.ChanOPrivsNeeded k.name) ∷ [])
    (changing g fs s k bs serves facts seen are)
    (told_only g fs s (numeric.ChanOPrivsNeeded k.name) serves facts
    (record { words = one k.name (channel-text k.name seen.name); text = refl })))

of_a_channel : (g : Settings) (fs : List Deed) (s : ℕ) (k : Seen) (changes : List (List ℕ)) → IsServing g → Facts fs
    → IsCleanSeen k → AllByRecursion IsText changes → Clean (channel_modes g fs s k changes)
of_a_channel g fs s k [] serves facts seen are = only (tells_modes g fs s k)
    (told g fs s _ serves facts (modes-row g s k seen))
of_a_channel g fs s k (letters ∷ params) serves facts seen are =
    changing_by g fs s k (asked_changes letters params) serves facts seen
    (asked-clean (record { on = true; room = 4; params = params }) letters are.0 are.1)

if_a_channel : (g : Settings) (fs : List Deed) (s : ℕ) (target : List ℕ) (changes : List (List ℕ)) (o : Option Seen)
    → IsServing g → Facts fs → IsText target → AllByRecursion IsText changes → IfSeen o
    → Clean (of_channel g fs s target changes o)
if_a_channel g fs s target changes None serves facts text are seen =
    told_only g fs s (numeric.NoSuchChannel target) serves facts (record { words = one target text; text = refl })
if_a_channel g fs s target changes (Some k) serves facts text are seen =
    of_a_channel g fs s k changes serves facts seen are

-- ---- MODE of oneself

hiding : (fs : List Deed) (s : ℕ) (is : Bool) → Facts fs → Clean (hides fs s is)
hiding fs s is facts =
    let d = Establish (InvisibleSet s is) in
    let l = Answer (mode_line (prefix fs s) (title (nick fs s)) (asks is 105 None)) in
    either (agree is (invisible fs s)) [] (d ∷ l ∷ []) none (more d (l ∷ []) tt (only l
    (mode-clean fs s (title (nick fs s)) (asks is 105 None) facts (nick-shown fs s facts)
    (record { letter = refl; param = tt }, tt))))

telling_unknown : (g : Settings) (fs : List Deed) (s : ℕ) (bs : List ModeChange) → IsServing g → Facts fs
    → Clean (tells_unknown g fs s bs)
telling_unknown g fs s bs serves facts =
    either (list_any (λ a. not (is_known a)) bs) (tells g fs s numeric.UModeUnknownFlag ∷ []) []
    (told_only g fs s numeric.UModeUnknownFlag serves facts (record { words = refl; text = refl })) none

own-row : (g : Settings) (is : Bool) → IsTextNumeric g (numeric.UModeIs (modes_text is))
own-row g true = record { words = refl; text = tt }
own-row g false = record { words = refl; text = tt }

own : (g : Settings) (fs : List Deed) (s : ℕ) (changes : List (List ℕ)) → IsServing g → Facts fs
    → Clean (own_modes g fs s changes)
own g fs s [] serves facts = told_only g fs s (numeric.UModeIs (modes_text (invisible fs s))) serves facts
    (own-row g (invisible fs s))
own g fs s (letters ∷ params) serves facts =
    let bs = asked_changes letters [] in let is = invisible_after (invisible fs s) bs in
    joined (tells_unknown g fs s bs) (hides fs s is) (telling_unknown g fs s bs serves facts) (hiding fs s is facts)

if_a_user : (g : Settings) (fs : List Deed) (s : ℕ) (target : List ℕ) (changes : List (List ℕ)) (o : Option ℕ)
    → IsServing g → Facts fs → IsText target → Clean (of_user g fs s target changes o)
if_a_user g fs s target changes None serves facts text =
    told_only g fs s (numeric.NoSuchNick target) serves facts (record { words = one target text; text = refl })
if_a_user g fs s target changes (Some t) serves facts text =
    either (t == s) (own_modes g fs s changes) (tells g fs s numeric.UsersDontMatch ∷ [])
    (own g fs s changes serves facts)
    (told_only g fs s numeric.UsersDontMatch serves facts (record { words = refl; text = refl }))

-- ---- the command

abbrev pub IsCleanModes : ModeCommand → Type 0
IsCleanModes k = IsText k.target × AllByRecursion IsText k.changes

pub reads_mode : (ps : List (List ℕ)) → AreTexts ps → IsCleanRead IsCleanModes (mode_command ps)
reads_mode [] are = tt
reads_mode (target ∷ ps) are = all-texts (target ∷ ps) are

pub of_mode : (g : Settings) (fs : List Deed) (s : ℕ) (k : ModeCommand) → IsServing g → Facts fs → IsCleanModes k
    → Clean (serves_mode g fs s k)
of_mode g fs s k serves facts is =
    either (names_channel k.target) (of_channel g fs s k.target k.changes (seen fs k.target))
    (of_user g fs s k.target k.changes (user_named fs k.target))
    (if_a_channel g fs s k.target k.changes (seen fs k.target) serves facts is.0 is.1 (seen-is fs k.target facts))
    (if_a_user g fs s k.target k.changes (user_named fs k.target) serves facts is.0)
