use Rattle.std.proofs.Common.{◌≡◌, ◌++◌}
use Rattle.list_laws.specs.Lists.{joined}
use Rattle.tape_map.specs.Changes.{mask_growths}
use Rattle.tape_map.proofs.change.row_growths.Given as goal

-- the growths of the wires, and of the gates' masks so far
abbrev pub invariant-loop-gate : goal.invariant-loop-gate
invariant-loop-gate l = l.more.items ≡ l.growths ++ joined l.gate-index (mask_growths l.part l.growths)
