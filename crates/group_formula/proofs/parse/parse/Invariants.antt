use Rattle.std.proofs.Common.{◌-◌, ◌≤◌, length}
use Rattle.group_formula.proofs.FaultlessTokens.{Going}
use Rattle.group_formula.proofs.parse.parse.Given as goal

abbrev pub invariant-loop-cut : goal.invariant-loop-cut
invariant-loop-cut l = record {
  within : l.from ≤ length l.text;
  going : Going l.text l.from l.elements l.parser;
}

abbrev pub decreases-loop-cut : goal.decreases-loop-cut
decreases-loop-cut l = length l.text - l.from
