use Rattle.std.proofs.Common.{◌≡◌, arith, ap, ◌∙◌, Result, Ok, Err}
use Rattle.std.specs.Result.{IfOk}
use Rattle.std.proofs.lemmas.Grind.{common_steps}
use Rattle.line_grammar.specs.declared.splitter.Piece.{Piece}
use Rattle.chronicle.specs.History.{is_quit}
use Rattle.commands.specs.declared.asked.ReadPiece.{ReadPiece}
use Rattle.commands.specs.Asked.{asked_of, asks_for_quit}
use Rattle.commands.proofs.Quitting.{quit_is}
use Rattle.commands.proofs.asked.read_piece.Goals as goal

quits : {E : Type 0} (piece : Piece) (r : Result ReadPiece E) → IfOk r (λ read. read.asked ≡ asked_of piece)
    → IfOk r (λ read. asks_for_quit read.asked ≡ is_quit piece)
quits piece (Ok read) e = ap asks_for_quit e ∙ quit_is piece
quits piece (Err x) e = tt

pub returns-in-Line-clause-quit : goal.returns-in-Line-clause-quit
unfolding asked_of
returns-in-Line-clause-quit c = quits c.args.piece.now c.read_line.result (grind (arith, common_steps))
