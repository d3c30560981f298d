-- What a letter of MODE does to a channel: RFC 2812, section 3.2.3; RFC 2811, sections 4.1 to 4.3.
use Rattle.std.specs.Prelude.{◌≡◌, ℕ, nat_le, Bool, false, not, ◌==◌, ◌||◌, cond, List, [], ◌∷◌, ◌++◌, length}
use Rattle.std.specs.Prelude.{take, codes, decimal, Option, Some, None, is_some, if◌then◌else◌}
use Rattle.std.specs.List.{list_any}
use Rattle.std.specs.Str.{bytes_eq}
use Rattle.line_grammar.specs.Spelling.{needs_colon}
use Rattle.casemapping.specs.Fold.{is_same}
use Rattle.channel_state.specs.declared.modes.Flag.{Flag}
use Rattle.channel_state.specs.declared.modes.Flag.TheVariants.{InviteOnly, Moderated, NoOutside, Secret, TopicLocked}
use Rattle.channel_state.specs.declared.change.Rank.{Rank}
use Rattle.channel_state.specs.declared.change.Rank.TheVariants.{Operator, Voice}
use Rattle.channel_state.specs.declared.change.Change.TheVariants.{RankSet, FlagSet, KeySet, LimitSet}
use Rattle.channel_state.specs.declared.change.Change.TheVariants.{BanSet, BanLifted}
use Rattle.channel_state.specs.State.{State, among, is_set, with_change}
use Rattle.roster.specs.declared.deed.Deed.{Deed}
use Rattle.roster.specs.LookBack.{nick, user_named}
use Rattle.roster.specs.Legal.{IsFit}
use Rattle.transactions.specs.Lines.{title}
use Rattle.mode_commands.specs.declared.letters.ModeChange.{ModeChange}
use Rattle.mode_commands.specs.declared.steps.ModeStep.{ModeStep}
use Rattle.mode_commands.specs.declared.steps.ModeStep.TheVariants.{Nothing, Refused, Changes}
use Rattle.mode_commands.specs.declared.steps.Refusal.TheVariants.{LacksParameter, Nobody, NotMember, Unknown}
use Rattle.mode_commands.specs.Parameters.{full_mask, is_key, limit_of}

-- whether two tests say the same
abbrev pub agree : Bool → Bool → Bool
agree a b = cond a b (not b)

-- a change with the parameter that is shown
abbrev pub shown_with : ModeChange → Option (List ℕ) → ModeChange
shown_with a param = record { on = a.on; letter = a.letter; param = param }

-- ---- flags: `i`, `m`, `n`, `s` and `t`

unfoldable pub flag_of : ℕ → Option Flag
flag_of letter =
    if letter == 105 then Some InviteOnly
    else if letter == 109 then Some Moderated
    else if letter == 110 then Some NoOutside
    else if letter == 115 then Some Secret
    else if letter == 116 then Some TopicLocked
    else None

abbrev pub flag_step : State → ModeChange → Option Flag → ModeStep
flag_step k a None = Refused (Unknown a.letter)
flag_step k a (Some flag) = if agree a.on (is_set flag k.modes) then Nothing
    else Changes (FlagSet flag a.on) (shown_with a None)

-- ---- ranks: `o` and `v`

abbrev pub has_rank : State → Rank → ℕ → Bool
has_rank k Operator t = among t k.operators
has_rank k Voice t = among t k.voices

-- a user, with its nickname as it is spelled
abbrev pub member_step : State → Rank → ModeChange → List ℕ → ℕ → ModeStep
member_step k rank a n t =
    if not (among t k.members) then Refused (NotMember n)
    else if agree a.on (has_rank k rank t) then Nothing
    else Changes (RankSet t rank a.on) (shown_with a (Some n))

abbrev pub user_step : List Deed → State → Rank → ModeChange → List ℕ → Option ℕ → ModeStep
user_step fs k rank a n None = Refused (Nobody n)
user_step fs k rank a n (Some t) = member_step k rank a (title (nick fs t)) t

abbrev pub rank_step : List Deed → State → Rank → ModeChange → Option (List ℕ) → ModeStep
rank_step fs k rank a None = Refused LacksParameter
rank_step fs k rank a (Some n) = user_step fs k rank a n (user_named fs n)

-- ---- `b`: masks are the same however they are spelled, and there are 60 at most

abbrev pub has_ban : State → List ℕ → Bool
has_ban k mask = list_any (λ m. is_same m mask) k.bans

abbrev pub mask_step : State → ModeChange → List ℕ → ModeStep
mask_step k a mask =
    if a.on then (if has_ban k mask || nat_le 60 (length k.bans) then Nothing
    else Changes (BanSet mask) (shown_with a (Some mask)))
    else (if has_ban k mask then Changes (BanLifted mask) (shown_with a (Some mask)) else Nothing)

abbrev pub ban_step : State → ModeChange → Option (List ℕ) → ModeStep
ban_step k a None = Nothing
ban_step k a (Some mask) = if needs_colon mask then Nothing else mask_step k a (full_mask mask)

-- ---- `k`: a key has 23 octets at most, and isn't shown where it is taken away

abbrev pub has_key : Option (List ℕ) → List ℕ → Bool
has_key None key = false
has_key (Some old) key = bytes_eq old key

abbrev pub key_set : State → ModeChange → List ℕ → ModeStep
key_set k a key = if has_key k.modes.key key then Nothing else Changes (KeySet (Some key)) (shown_with a (Some key))

abbrev pub key_given : State → ModeChange → Option (List ℕ) → ModeStep
key_given k a None = Refused LacksParameter
key_given k a (Some key) = if is_key key then key_set k a (take 23 key) else Nothing

abbrev pub key_lifted : State → ModeChange → ModeStep
key_lifted k a = if is_some k.modes.key then Changes (KeySet None) (shown_with a (Some (codes "*"))) else Nothing

abbrev pub key_step : State → ModeChange → Option (List ℕ) → ModeStep
key_step k a param = if a.on then key_given k a param else key_lifted k a

-- ---- `l`

abbrev pub has_limit : Option ℕ → ℕ → Bool
has_limit None limit = false
has_limit (Some old) limit = old == limit

abbrev pub limit_set : State → ModeChange → Option ℕ → ModeStep
limit_set k a None = Nothing
limit_set k a (Some limit) = if has_limit k.modes.limit limit then Nothing
    else Changes (LimitSet (Some limit)) (shown_with a (Some (decimal limit)))

abbrev pub limit_given : State → ModeChange → Option (List ℕ) → ModeStep
limit_given k a None = Refused LacksParameter
limit_given k a (Some text) = limit_set k a (limit_of text)

abbrev pub limit_lifted : State → ModeChange → ModeStep
limit_lifted k a = if is_some k.modes.limit then Changes (LimitSet None) (shown_with a None) else Nothing

abbrev pub limit_step : State → ModeChange → Option (List ℕ) → ModeStep
limit_step k a param = if a.on then limit_given k a param else limit_lifted k a

-- ---- any letter

-- users are looked up in the facts before the line
unfoldable pub step : List Deed → State → ModeChange → ModeStep
step fs k a =
    if a.letter == 111 then rank_step fs k Operator a a.param
    else if a.letter == 118 then rank_step fs k Voice a a.param
    else if a.letter == 98 then ban_step k a a.param
    else if a.letter == 107 then key_step k a a.param
    else if a.letter == 108 then limit_step k a a.param
    else flag_step k a (flag_of a.letter)

-- the channel after it
abbrev pub after_mode : ModeStep → State → State
after_mode (Changes x shown) k = with_change x k
after_mode other k = k

-- the letters in turn
abbrev pub steps : List Deed → State → List ModeChange → List ModeStep
steps fs k [] = []
steps fs k (a ∷ bs) = step fs k a ∷ steps fs (after_mode (step fs k a) k) bs

-- what changed, as it is shown
abbrev pub shown_by : ModeStep → List ModeChange
shown_by (Changes x shown) = shown ∷ []
shown_by other = []

abbrev pub all_shown : List ModeStep → List ModeChange
all_shown [] = []
all_shown (x ∷ xs) = shown_by x ++ all_shown xs

-- it may come next on the channel, and nobody joins or leaves by it
abbrev pub IsMild : State → ModeStep → Type 0
IsMild k (Changes x shown) = IsFit k x × ((with_change x k).members ≡ k.members)
IsMild k other = Unit {0}
