use Rattle.walk_laws.proofs.CallsInARow.{both_given}
use Rattle.walk_laws.proofs.laws.two_calls_give_what_both_are_due.Goals as goal

pub returns : goal.returns
returns c = both_given
