-- Effects that establish no fact.
use Rattle.std.proofs.Common.{◌≡◌, ◌==◌, length, ℕ, Bool, true, false, cond, List, [], ◌∷◌, ◌++◌, refl, ap, ◌∙◌}
use Rattle.numerics.specs.declared.outgoing.Out.{Out}
use Rattle.transactions.specs.declared.effect.Effect.{Effect}
use Rattle.transactions.specs.declared.effect.Effect.TheVariants.{Show}
use Rattle.transactions.specs.Effects.{deeds_of}
use Rattle.transactions.specs.Hearers.{shows_to}
use Rattle.transactions.proofs.Replay.{deeds_of-append}

pub either-quiet : (b : Bool) (xs ys : List Effect) → deeds_of xs ≡ [] → deeds_of ys ≡ []
    → deeds_of (cond b xs ys) ≡ []
either-quiet true xs ys e f = e
either-quiet false xs ys e f = f

pub both-quiet : (xs ys : List Effect) → deeds_of xs ≡ [] → deeds_of ys ≡ [] → deeds_of (xs ++ ys) ≡ []
both-quiet xs ys e f = deeds_of-append xs ys ∙ ap (λ ds. ds ++ deeds_of ys) e ∙ f

pub shown-quiet : (hearers : List ℕ) (line : Out) → deeds_of (shows_to hearers line) ≡ []
unfolding shows_to
shown-quiet hearers line = either-quiet (length hearers == 0) [] (Show hearers line ∷ []) refl refl
