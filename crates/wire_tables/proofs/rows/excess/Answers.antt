use Rattle.std.proofs.Common.{ℕ, ◌^◌, ◌∙◌}
use Rattle.std.specs.Prelude.{slice_index}
use Rattle.mpc_ring.specs.Differences.{difference}
use Rattle.secret_sharing.proofs.RingTotals.{total_step}
use Rattle.wire_tables.proofs.rows.excess.Goals as goal

pub loop-i-preserved : goal.loop-i-preserved
loop-i-preserved c =
    let q : ℕ = 2 ^ c.args.ring in record {
      sum = c.add-sum.ensures.is ∙ total_step q c.loop-i.i (λ i. difference q (slice_index c.args.x.now i) (slice_index c.args.mask.now i)) c.loop-i.sum c.sub.result c.loop-i.invariant.sum c.sub.ensures.is;
      small = c.add-sum.ensures.below;
    }
