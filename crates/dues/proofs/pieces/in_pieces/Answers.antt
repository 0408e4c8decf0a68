-- `dues::in_pieces` meets its contract.
use Rattle.dues.proofs.PiecesLaws.{in_pieces}
use Rattle.dues.proofs.pieces.in_pieces.Goals as goal

pub returns : goal.returns
returns c = in_pieces
