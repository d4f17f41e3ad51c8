use Rattle.std.proofs.Common.{Some}
use Rattle.mpc_top.proofs.SomeVerdict.{some_due}
use Rattle.walk_laws.proofs.Jobs.{due_once}
use Rattle.walk_laws.proofs.laws.each_call_is_due_one_verdict.Goals as goal

pub returns : goal.returns
returns c = λ command files. (some_due command (Some files), due_once command files)
