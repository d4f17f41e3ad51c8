use Rattle.share_world.proofs.Solutions.{only_solution, is_solution, carried_are_plain}
use Rattle.share_world.proofs.equations_have_one_solution.Goals as goal

pub returns-clause-solves : goal.returns-clause-solves
returns-clause-solves c = is_solution

pub returns-clause-alone : goal.returns-clause-alone
returns-clause-alone c = only_solution

pub returns-clause-carried : goal.returns-clause-carried
returns-clause-carried c = carried_are_plain
