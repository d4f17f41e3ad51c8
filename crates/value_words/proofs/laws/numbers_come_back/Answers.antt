use Rattle.value_words.proofs.Turns.{turned_twice}
use Rattle.value_words.proofs.laws.numbers_come_back.Goals as goal

pub returns : goal.returns
returns c = turned_twice
