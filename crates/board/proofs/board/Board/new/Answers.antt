use Rattle.model.proofs.Proved.{list_theorem, soundness}
use Rattle.board.proofs.board.Board.new.Goals as goal

pub returns-clause-lists : goal.returns-clause-lists
returns-clause-lists g c = list_theorem _ (g.met.B.Book.lawful c.args.book)

pub returns-clause-sound : goal.returns-clause-sound
returns-clause-sound g c = soundness _ (g.met.B.Book.lawful c.args.book)
