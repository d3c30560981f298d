-- What is told after what was told, and what is answered with it.
use Rattle.std.proofs.Common.{◌≡◌, ℕ, List, [], ◌∷◌, ◌++◌, map, refl, ap, append_assoc}
use Rattle.numerics.specs.declared.numeric.Numeric.{Numeric}
use Rattle.numerics.specs.Numerics.{numeric}
use Rattle.transactions.specs.declared.effect.Effect.{Effect}
use Rattle.transactions.specs.declared.effect.Effect.TheVariants.{Answer}
use Rattle.query_commands.specs.Telling.{Telling, telling_more}

pub more_more : (t : Telling) (xs ys : List Numeric) → telling_more (telling_more t xs) ys ≡ telling_more t (xs ++ ys)
more_more t xs ys = ap (λ (ns : List Numeric). record { server = t.server; to = t.to; items = ns })
    (append_assoc t.items xs ys)

-- lines that are spelled already
pub each_answered : (server to : List ℕ) (ns : List Numeric) → map Answer (map (numeric server to) ns)
    ≡ map (λ n. Answer (numeric server to n)) ns
each_answered server to [] = refl
each_answered server to (n ∷ ns) = ap (λ (es : List Effect). Answer (numeric server to n) ∷ es)
    (each_answered server to ns)
