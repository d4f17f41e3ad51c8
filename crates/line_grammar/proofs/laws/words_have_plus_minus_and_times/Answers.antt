use Rattle.line_grammar.proofs.WordOperators.{word_operators}
use Rattle.line_grammar.proofs.laws.words_have_plus_minus_and_times.Goals as goal

pub returns : goal.returns
returns c = word_operators
