use Rattle.std.proofs.Common.{◌≡◌, ◌++◌, map}
use Rattle.desk_workers.proofs.ready.in_boxes.Given as goal

-- the desks in boxes, and then those that are left
abbrev pub invariant-loop-desk : goal.invariant-loop-desk
invariant-loop-desk l = map (λ b. b.value) l.boxes.items ++ l.desk-iterator.rest.items ≡ l.fn.desks.items
