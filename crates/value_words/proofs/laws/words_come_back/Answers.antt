use Rattle.value_words.proofs.Turns.{turned_twice}
use Rattle.value_words.proofs.laws.words_come_back.Goals as goal

pub returns : goal.returns
returns c lanes width word i = turned_twice width lanes word i
