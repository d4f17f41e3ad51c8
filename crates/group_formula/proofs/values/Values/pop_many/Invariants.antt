use Rattle.std.proofs.Common.{◌≡◌, ◌+◌, ◌≤◌, take, drop}
use Rattle.group_formula.specs.Values.{how_many}
use Rattle.group_formula.proofs.values.Values.pop_many.Given as goal

abbrev pub invariant-loop-left : goal.invariant-loop-left
invariant-loop-left l = record {
  value : l.found + how_many (take l.left l.self) ≡ how_many (take l.count l.fn.self);
  rest : drop l.left l.self ≡ drop l.count l.fn.self;
  room : l.found + l.left ≤ l.count;
}

abbrev pub decreases-loop-left : goal.decreases-loop-left
decreases-loop-left l = l.left
