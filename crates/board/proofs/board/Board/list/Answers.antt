use Rattle.std.proofs.Common.{◌∙◌}
use Rattle.std.proofs.lemmas.List.{length-map}
use Rattle.board.proofs.board.Board.list.Goals as goal

-- the model has a point for each place of the table
pub returns-clause-places : goal.returns-clause-places
returns-clause-places g c = rw (← c.self.view_is) (length-map _ _ ∙ c.lines.ensures.places)
