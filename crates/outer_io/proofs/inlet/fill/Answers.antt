use Rattle.std.proofs.Common.{arith, length, ◌-◌, ◌∙◌}
use borrow.Rule.Slice.PartMut.{same_len_mid, mid_len}
use Rattle.outer_io.proofs.FilledPlaces.{came_more}
use Rattle.outer_io.proofs.inlet.fill.Goals as goal

pub loop-count-preserved : goal.loop-count-preserved
loop-count-preserved g c = let v = c.loop-count.invariant in let e = c.in-Bytes.ensures in record {
  within = (let a = same_len_mid c.loop-count.count (length c.loop-count.into - c.loop-count.count) c.loop-count.into c.read.new.into c.read.auto.into in let b = c.read.auto.into ∙ mid_len c.loop-count.count (length c.loop-count.into) c.loop-count.into (omega arith) in omega (arith, a, b, e.answers.within, c.loop-count-test.true));
  came = came_more c.loop-count.count _ c.in-Bytes.more c.loop-count.into c.read.new.into _ _ _ v.within e.answers.within v.came e.answers.bytes;
  faults = e.quiet (λ x. cc) ∙ v.faults;
  ended = e.goes_on (λ x. cc) ∙ v.ended;
  steady = λ s. c.in-Bytes.ensures.keeps_steady (v.steady s);
  closed = c.in-Bytes.ensures.same_closed ∙ v.closed;
}
