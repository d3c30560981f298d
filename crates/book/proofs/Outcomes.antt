-- What follows from either outcome of a call.
use Rattle.std.proofs.Common.{◌≡◌, Result, Ok, Err, Option, Some, None, refl}
use Rattle.std.specs.Prelude.{OnOk, OnErr, IfOk, IfSome}

pub by_result : {A E : Type 0} (r : Result A E) (P R Q : Type 0) {G : Type 0} → OnOk r P → OnOk r R → OnErr r Q
    → (P → R → G) → (Q → G) → G
by_result (Ok x) P R Q p r q f g = f p r
by_result (Err e) P R Q p r q f g = g q

-- where a call that is done may answer nothing
pub by_answer : {A E : Type 0} (r : Result (Option A) E) (S : A → Type 0) (N M Q : Type 0) {G : Type 0}
    → IfOk r (λ (o : Option A). IfSome o S) → IfOk r (λ (o : Option A). o ≡ None → N) → OnOk r M → OnErr r Q
    → ((x : A) → S x → M → G) → (N → M → G) → (Q → G) → G
by_answer (Ok (Some x)) S N M Q s n m q f g h = f x s m
by_answer (Ok None) S N M Q s n m q f g h = g (n refl) m
by_answer (Err e) S N M Q s n m q f g h = h q

pub on_ok : {A E P Q : Type 0} (r : Result A E) → (P → Q) → OnOk r P → OnOk r Q
on_ok (Ok x) f p = f p
on_ok (Err e) f p = p
