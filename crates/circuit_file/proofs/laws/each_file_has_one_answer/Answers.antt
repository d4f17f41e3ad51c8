use Rattle.circuit_file.proofs.FileLaws.{file_related, file_grounded}
use Rattle.circuit_file.proofs.laws.each_file_has_one_answer.Goals as goal

pub returns : goal.returns
returns c = λ layout bits bytes some few circuit. (file_related layout bits bytes circuit, file_grounded layout bits bytes circuit some few)
