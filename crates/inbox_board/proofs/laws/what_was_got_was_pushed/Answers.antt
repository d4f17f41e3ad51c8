use Rattle.inbox_board.proofs.PushedWords.{fold_tells}
use Rattle.inbox_board.proofs.laws.what_was_got_was_pushed.Goals as goal

pub returns : goal.returns
returns c = fold_tells
