use Rattle.std.proofs.Common.{◌≡◌, ◌+◌, ◌*◌, ◌++◌}
use Rattle.std.specs.Prelude.{slice_index}
use Rattle.list_laws.specs.Lists.{joined}
use Rattle.product_duty.specs.Duties.{pairs_in_row}
use Rattle.product_duty.proofs.duty.list_of.Given as goal

abbrev pub invariant-loop-j : goal.invariant-loop-j
invariant-loop-j l =
    l.list.items
    ≡ joined l.i (λ i. pairs_in_row (λ i j. slice_index l.duties (i * l.shares + j)) l.p i l.shares)
    ++ pairs_in_row (λ i j. slice_index l.duties (i * l.shares + j)) l.p l.i l.j

abbrev pub invariant-loop-i : goal.invariant-loop-i
invariant-loop-i l = l.list.items ≡ joined l.i (λ i. pairs_in_row (λ i j. slice_index l.duties (i * l.shares + j)) l.p i l.shares)
