use Rattle.group_formula.proofs.OneAnswer.{one_answer}
use Rattle.group_formula.proofs.read.each_text_has_one_answer.Goals as goal

pub returns : goal.returns
returns c = one_answer
