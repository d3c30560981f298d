-- A baton after one more piece.
use Rattle.std.proofs.Common.{◌≡◌, ℕ, ◌+◌, List, [], ◌∷◌, ◌++◌, ap, ◌∙◌}
use Rattle.line_grammar.specs.declared.splitter.Piece.{Piece}
use Rattle.chronicle.specs.History.{Rec}
use Rattle.book.specs.Turn.{BatonView, next_turn}

turn : ℕ → ℕ → List Piece → List Rec → BatonView
turn s n ps h = record { session = s; next = n; pieces = ps; front = h }

pub turn_is : (a b : BatonView) (p : Piece) (h : List Rec) (said : List Piece) → a.session ≡ b.session
    → a.next ≡ b.next + 1 → a.pieces ≡ b.pieces ++ said → said ≡ p ∷ [] → a.front ≡ h → a ≡ next_turn b p h
unfolding turn
turn_is a b p h said session next grown is front =
    ap (λ (s : ℕ). turn s a.next a.pieces a.front) session ∙ ap (λ (n : ℕ). turn b.session n a.pieces a.front) next
    ∙ ap (λ (ps : List Piece). turn b.session (b.next + 1) ps a.front)
    (grown ∙ ap (λ (l : List Piece). b.pieces ++ l) is)
    ∙ ap (λ (k : List Rec). turn b.session (b.next + 1) (b.pieces ++ p ∷ []) k) front
