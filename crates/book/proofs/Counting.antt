-- A session has no more pieces than there are records.
use Rattle.std.proofs.Common.{ℕ, ◌≤◌, Bool, true, false, ◌==◌, cond, List, []}
use Rattle.std.proofs.Common.{◌∷◌, length, length-append, arith}
use Rattle.line_grammar.specs.declared.splitter.Piece.{Piece}
use Rattle.chronicle.specs.declared.record.Kind.{Kind}
use Rattle.chronicle.specs.declared.record.Kind.TheVariants.{Opened, Said, Hung, Gone, Ticked}
use Rattle.chronicle.specs.History.{Rec, said_by, accepted}

one_at_most : (b : Bool) (p : Piece) → length (cond b (p ∷ []) []) ≤ 1
one_at_most true p = omega arith
one_at_most false p = omega arith

said_one : (k : Kind) (t : ℕ) → length (said_by k t) ≤ 1
said_one (Opened s host) t = omega arith
said_one (Said s i p) t = one_at_most (s == t) p
said_one (Hung s why) t = omega arith
said_one (Gone s) t = omega arith
said_one Ticked t = omega arith

pub accepted_few : (h : List Rec) (t : ℕ) → length (accepted h t) ≤ length h
accepted_few [] t = omega arith
accepted_few (r ∷ h) t = let a = accepted_few h t in let b = said_one r.kind t in
    omega (arith, length-append (accepted h t) (said_by r.kind t))
