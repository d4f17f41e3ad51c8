use Rattle.std.proofs.Common.{◌+◌, ◌*◌}
use Rattle.std.specs.Prelude.{slice_index}
use Rattle.product_duty.proofs.PairDuties.{row_more, row_same}
use Rattle.product_duty.proofs.duty.list_of.Goals as goal
use Rattle.product_duty.proofs.duty.list_of.Goals.{then-duties-i+in_ok-push, else-duties-i}

pub loop-j-preserved : goal.loop-j-preserved
loop-j-preserved c =
    elim c.if-duties-i.branch [
      | then-duties-i+in_ok-push w ↦ rw w.list-is (rw w.in_ok-push.ensures.items
          (row_more (λ i j. slice_index c.args.duties.now (i * c.args.shares + j)) c.args.p c.loop-i.i c.loop-j.j c.loop-j.list.items _ c.loop-j.invariant w.if-duties-i.true))
      | else-duties-i w ↦ rw w.list-is (row_same (λ i j. slice_index c.args.duties.now (i * c.args.shares + j)) c.args.p c.loop-i.i c.loop-j.j c.loop-j.list.items _ c.loop-j.invariant w.if-duties-i.false)
    ]
