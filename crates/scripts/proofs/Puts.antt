-- One put more.
use Rattle.std.proofs.Common.{◌≡◌, inl, ℕ, suc, ◌+◌, arith, true, false, Ok, Err, refl, subst}
use Rattle.std.specs.Prelude.{is_err}
use Rattle.interleave.specs.declared.event.Event.TheVariants as event
use Rattle.interleave.specs.declared.event.Note.{Note}
use Rattle.interleave.specs.State.{State}
use Rattle.interleave.specs.Steps.{IsStep}
use Rattle.scripts.specs.Steps.{ArePut, Answer, IsPutOut}

pub put_more : (n : ℕ) (m l k : State) (w : ℕ) (note : Note) (a : Answer) → ArePut n m l → w ≡ 1 → a ≡ Ok note
    → IsStep l (event.Put w) a k → ArePut (n + 1) m k
put_more n m l k w note a before one is step =
    let all : ArePut (suc n) m k = (
      l,
      note,
      before,
      subst (λ (v : ℕ). IsStep l (event.Put v) (Ok note) k) one
          (subst (λ (b : Answer). IsStep l (event.Put w) b k) is step),
    ) in
    let e : suc n ≡ n + 1 = omega arith in
    subst (λ (j : ℕ). ArePut j m k) e all

pub not_err : (a : Answer) → is_err a ≡ false → (note : Note) × (a ≡ Ok note)
not_err (Ok note) e = (note, refl)
not_err (Err refusal) e = absurd (let f : true ≡ false = e in cc)

-- a put that was refused is the last
pub put_last : (n : ℕ) (m l k : State) (w : ℕ) (a : Answer) → ArePut n m l → w ≡ 1 → is_err a ≡ true
    → IsStep l (event.Put w) a k → IsPutOut m k
put_last n m l k w (Ok note) before one e step = absurd (let f : false ≡ true = e in cc)
put_last n m l k w (Err refusal) before one e step =
    (n, inl (l, refusal, before, subst (λ (v : ℕ). IsStep l (event.Put v) (Err refusal) k) one step))
