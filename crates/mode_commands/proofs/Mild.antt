-- Whatever comes of a letter, the channel may change so, and nobody joins or leaves by it.
use Rattle.std.proofs.Common.{◌≡◌, ℕ, Bool, true, false, not, ◌==◌, ◌||◌, nat_le, List, length}
use Rattle.std.proofs.Common.{is_some, Option, Some, None, if◌then◌else◌, refl}
use Rattle.line_grammar.specs.Spelling.{needs_colon}
use Rattle.channel_state.specs.declared.modes.Flag.{Flag}
use Rattle.channel_state.specs.declared.change.Rank.{Rank}
use Rattle.channel_state.specs.declared.change.Rank.TheVariants.{Operator, Voice}
use Rattle.channel_state.specs.declared.change.Change.TheVariants.{RankSet}
use Rattle.channel_state.specs.State.{State, among, is_set, with_change}
use Rattle.roster.specs.declared.deed.Deed.{Deed}
use Rattle.roster.specs.LookBack.{nick, user_named}
use Rattle.transactions.specs.Lines.{title}
use Rattle.mode_commands.specs.declared.letters.ModeChange.{ModeChange}
use Rattle.mode_commands.specs.declared.steps.ModeStep.{ModeStep}
use Rattle.mode_commands.specs.Parameters.{full_mask, is_key, limit_of}
use Rattle.mode_commands.specs.Steps.{IsMild, agree, has_ban, has_key, has_limit, has_rank, flag_of, flag_step}
use Rattle.mode_commands.specs.Steps.{member_step, user_step, rank_step, mask_step, ban_step, key_set, key_given}
use Rattle.mode_commands.specs.Steps.{key_step, limit_set, limit_given, limit_step, step}

-- of two steps, by a test
either : (k : State) (b : Bool) (x y : ModeStep) → IsMild k x → IsMild k y → IsMild k (if b then x else y)
either k true x y p q = p
either k false x y p q = q

either_known : (k : State) (b : Bool) (x y : ModeStep) → IsMild k x → (b ≡ false → IsMild k y)
    → IsMild k (if b then x else y)
either_known k true x y p q = p
either_known k false x y p q = q refl

is_so : (b : Bool) → not b ≡ false → b ≡ true
is_so true e = refl
is_so false e = absurd (let f : true ≡ false = e in cc)

same_members : (t : ℕ) (rank : Rank) (on : Bool) (k : State) → (with_change (RankSet t rank on) k).members ≡ k.members
same_members t Operator on k = refl
same_members t Voice on k = refl

flag_mild : (k : State) (a : ModeChange) (f : Option Flag) → IsMild k (flag_step k a f)
flag_mild k a None = tt
flag_mild k a (Some f) = either k (agree a.on (is_set f k.modes)) _ _ tt (tt, refl)

member_mild : (k : State) (rank : Rank) (a : ModeChange) (n : List ℕ) (t : ℕ) → IsMild k (member_step k rank a n t)
member_mild k rank a n t = either_known k (not (among t k.members)) _ _ tt (λ away. either k
    (agree a.on (has_rank k rank t)) _ _ tt (is_so (among t k.members) away, same_members t rank a.on k))

user_mild : (fs : List Deed) (k : State) (rank : Rank) (a : ModeChange) (n : List ℕ) (o : Option ℕ)
    → IsMild k (user_step fs k rank a n o)
user_mild fs k rank a n None = tt
user_mild fs k rank a n (Some t) = member_mild k rank a (title (nick fs t)) t

rank_mild : (fs : List Deed) (k : State) (rank : Rank) (a : ModeChange) (o : Option (List ℕ))
    → IsMild k (rank_step fs k rank a o)
rank_mild fs k rank a None = tt
rank_mild fs k rank a (Some n) = user_mild fs k rank a n (user_named fs n)

mask_mild : (k : State) (a : ModeChange) (mask : List ℕ) → IsMild k (mask_step k a mask)
mask_mild k a mask = either k a.on _ _ (either k (has_ban k mask || nat_le 60 (length k.bans)) _ _ tt (tt, refl))
    (either k (has_ban k mask) _ _ (tt, refl) tt)

ban_mild : (k : State) (a : ModeChange) (o : Option (List ℕ)) → IsMild k (ban_step k a o)
ban_mild k a None = tt
ban_mild k a (Some mask) = either k (needs_colon mask) _ _ tt (mask_mild k a (full_mask mask))

key_set_mild : (k : State) (a : ModeChange) (key : List ℕ) → IsMild k (key_set k a key)
key_set_mild k a key = either k (has_key k.modes.key key) _ _ tt (tt, refl)

key_given_mild : (k : State) (a : ModeChange) (o : Option (List ℕ)) → IsMild k (key_given k a o)
key_given_mild k a None = tt
key_given_mild k a (Some key) = either k (is_key key) _ _ (key_set_mild k a _) tt

key_mild : (k : State) (a : ModeChange) (o : Option (List ℕ)) → IsMild k (key_step k a o)
key_mild k a o = either k a.on _ _ (key_given_mild k a o) (either k (is_some k.modes.key) _ _ (tt, refl) tt)

limit_set_mild : (k : State) (a : ModeChange) (o : Option ℕ) → IsMild k (limit_set k a o)
limit_set_mild k a None = tt
limit_set_mild k a (Some limit) = either k (has_limit k.modes.limit limit) _ _ tt (tt, refl)

limit_given_mild : (k : State) (a : ModeChange) (o : Option (List ℕ)) → IsMild k (limit_given k a o)
limit_given_mild k a None = tt
limit_given_mild k a (Some text) = limit_set_mild k a (limit_of text)

limit_mild : (k : State) (a : ModeChange) (o : Option (List ℕ)) → IsMild k (limit_step k a o)
limit_mild k a o = either k a.on _ _ (limit_given_mild k a o) (either k (is_some k.modes.limit) _ _ (tt, refl) tt)

pub step_mild : (fs : List Deed) (k : State) (a : ModeChange) → IsMild k (step fs k a)
unfolding step
step_mild fs k a =
    either k (a.letter == 111) _ _ (rank_mild fs k Operator a a.param)
    (either k (a.letter == 118) _ _ (rank_mild fs k Voice a a.param)
    (either k (a.letter == 98) _ _ (ban_mild k a a.param)
    (either k (a.letter == 107) _ _ (key_mild k a a.param)
    (either k (a.letter == 108) _ _ (limit_mild k a a.param) (flag_mild k a (flag_of a.letter))))))
