use Rattle.view_check.proofs.OneAnswer.{one_answer}
use Rattle.view_check.proofs.laws.each_text_has_one_answer.Goals as goal

pub returns : goal.returns
returns c = one_answer
