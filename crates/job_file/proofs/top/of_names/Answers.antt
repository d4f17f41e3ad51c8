use Rattle.std.proofs.Common.{refl}
use Rattle.job_file.proofs.top.of_names.Goals as goal

pub returns-in-Memory-clause-names : goal.returns-in-Memory-clause-names
returns-in-Memory-clause-names c = λ not. absurd (not refl)

pub returns-in-Memory-clause-memory : goal.returns-in-Memory-clause-memory
returns-in-Memory-clause-memory c = λ _. refl

pub returns-in_default : goal.returns-in_default
returns-in_default c = record { names = λ _. refl; memory = λ is. absurd (c.in_default.not-Memory is) }
