use Rattle.std.proofs.Common.{◌≡◌, take}
use Rattle.product_duty.proofs.duty.masks_of.Given as goal

abbrev pub invariant-loop-i : goal.invariant-loop-i
invariant-loop-i l = l.masks.items ≡ take l.i l.groups.groups
